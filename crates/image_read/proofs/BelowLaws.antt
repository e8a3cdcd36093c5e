-- A test of every number below a bound, as a chain over a range answers it, where the test's own contract holds below the bound only.
use Prim.Native.Nat.{ℕ, ◌<◌}
use mathlib.Core.Path.{◌≡◌, sym, subst}
use mathlib.Core.Bool.{Bool, true, false}
use mathlib.Core.List.{List}
use native.Mathlib.Omega.{arith}
use lib.ListN.{length, get_or}
use denote.Param.Members.{Mut}
use Rattle.std.proofs.lemmas.Iterator.{YieldsList-from_range, cases_from_all}
use Rattle.std.proofs.iter.Yields.{nat_range_steps}
use Rattle.std.specs.List.{range_with_len, FoldsTo, AllWithin, HoldsAt}
use Rattle.std.specs.Fn.{Called}
use Rattle.std.specs.Iterator.{YieldsThen}
use Rattle.std.specs.Option.{MatchOption}
use Rattle.std.specs.Bool.{MatchBool}
use Rattle.std.specs.Prelude.{Option}
use Rattle.words.specs.Count.{all_below}
use Rattle.words.proofs.CountLaws.{all_of, all-fails}
use Rattle.std.proofs.lemmas.List.FromFn.{length-range_with_len, get_or-range_with_len}

pub all_below-under : {F : Type 0} {g : Mut F (ℕ × Unit {0}) Bool} {s : _} (test : ℕ → Bool) (u : _) (f : F) (n : ℕ) (r : Bool)
    → (xs : List ℕ) × (o : Option ℕ) × (j : F) × YieldsThen nat_range_steps s xs o u × FoldsTo (λ p x q. Called g p (x, tt) true q) f xs j × MatchOption o (r ≡ true) (λ x. (r ≡ false) × ((h : F) × Called g j (x, tt) false h))
    → s ≡ record { start = 0; end = n } → ((x : ℕ) (b : Bool) (q : F) → Called g f (x, tt) b q → (q ≡ f) × (x < n → b ≡ test x)) → r ≡ all_below n test
all_below-under test u f n r d e k =
    by r
    (cases_from_all u f r (λ y. y < n → true ≡ test y) (λ y. y < n → false ≡ test y) d (YieldsList-from_range 0 n n e (omega arith))
    (λ x q c. k x true q c) (λ x q c. (k x false q c).1))
  where
    all : List ℕ
    all = range_with_len 0 n

    at : (j : ℕ) → j < n → get_or all j 0 ≡ j
    at j h = omega (arith, get_or-range_with_len 0 n j 0 h)

    by : (r : Bool)
        → MatchBool r (AllWithin (λ y. y < n → true ≡ test y) all 0 (length all)) ((j : ℕ) × (j < length all) × HoldsAt (λ y. y < n → false ≡ test y) all j)
        → r ≡ all_below n test
    by true h =
        sym (all_of test n (λ j b.
        sym (subst (λ y. y < n → true ≡ test y) (at j b) (h j 0 (omega arith) (omega (arith, length-range_with_len 0 n, b))) b)))
    by false h =
        let b : h.0 < n = omega (arith, h.1, length-range_with_len 0 n) in
        sym (all-fails test n h.0 b (sym (subst (λ y. y < n → false ≡ test y) (at h.0 b) (h.2 0) b)))
