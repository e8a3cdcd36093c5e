-- A test of every number below a bound, as a chain over a range answers it.
use Prim.Native.Nat.{ℕ, zero, suc, ◌+◌}
use mathlib.Core.Path.{◌≡◌, refl, sym, ap, ◌∙◌}
use mathlib.Core.Bool.{Bool, true, false, ◌&&◌}
use native.Mathlib.Omega.{arith}
use Rattle.std.proofs.lemmas.Iterator.{YieldsList-from_range}
use Rattle.std.proofs.lemmas.Iterator.Search.{all_from_yields_List}
use Rattle.std.proofs.iter.Yields.{nat_range_steps}
use Rattle.std.specs.List.{range_with_len, list_all, FoldsTo}
use Rattle.std.specs.Fn.{Called}
use Rattle.std.specs.Iterator.{YieldsThen}
use Rattle.std.specs.Option.{MatchOption}
use Rattle.std.proofs.Math.Bool.{and_assoc}
use denote.Param.Members.{Mut}
use Rattle.std.specs.Prelude.{Option}
use mathlib.Core.List.{List, [], ◌∷◌}
use lib.ListN.{length, get_or}
use Rattle.words.specs.Count.{all_below}
use Rattle.words.proofs.CountLaws.{all_none, all-suc, all_same}

and-last : (a : Bool) → (true && a) ≡ (a && true)
and-last true = refl
and-last false = refl

-- a test of a run of numbers, the first told apart
pub all-first : (f : ℕ → Bool) (n : ℕ) → all_below (suc n) f ≡ (f 0 && all_below n (λ k. f (suc k)))
all-first f zero =
    all-suc f 0 ∙ ap (λ b. b && f 0) (all_none f) ∙ and-last (f 0) ∙ ap (λ b. f 0 && b) (sym (all_none (λ k. f (suc k))))
all-first f (suc n) =
    all-suc f (suc n) ∙ ap (λ b. b && f (suc n)) (all-first f n) ∙ and_assoc (f 0) (all_below n (λ k. f (suc k))) (f (suc n))
    ∙ ap (λ b. f 0 && b) (sym (all-suc (λ k. f (suc k)) n))

-- the numbers of a range in order
pub list_all-range : (f : ℕ → Bool) (a n : ℕ) → list_all f (range_with_len a n) ≡ all_below n (λ k. f (a + k))
list_all-range f a zero = sym (all_none _)
list_all-range f a (suc n) =
    let same : all_below n (λ k. f (a + 1 + k)) ≡ all_below n (λ k. f (a + suc k)) = all_same (λ k. f (a + 1 + k)) (λ k. f (a + suc k)) n (λ k l. ap f (omega arith)) in
    let first : f a ≡ f (a + 0) = ap f (omega arith) in
    ap (λ b. f a && b) (list_all-range f (a + 1) n ∙ same) ∙ ap (λ b. b && all_below n (λ k. f (a + suc k))) first ∙ sym (all-first (λ k. f (a + k)) n)

-- the answer of a chain `(0..n).all(..)`, whose closure answers by a test
pub all_below-range : {F : Type 0} {g : Mut F (ℕ × Unit {0}) Bool} {s : _} (test : ℕ → Bool) (u : _) (f : F) (n : ℕ) (r : Bool)
    → (xs : List ℕ) × (o : Option ℕ) × (j : F) × YieldsThen nat_range_steps s xs o u × FoldsTo (λ p x q. Called g p (x, tt) true q) f xs j × MatchOption o (r ≡ true) (λ x. (r ≡ false) × ((h : F) × Called g j (x, tt) false h))
    → s ≡ record { start = 0; end = n } → ((x : ℕ) (b : Bool) (q : F) → Called g f (x, tt) b q → (q ≡ f) × (b ≡ test x)) → r ≡ all_below n test
all_below-range test u f n r d e k = all_from_yields_List test u f r d (YieldsList-from_range 0 n n e (omega arith)) k ∙ list_all-range test 0 n
    ∙ all_same (λ k. test (0 + k)) test n (λ k l. ap test (omega arith))

-- a test of a list's items, by their places
pub list_all-index : {X : Type 0} (p : X → Bool) (d : X) (xs : List X) → list_all p xs ≡ all_below (length xs) (λ i. p (get_or xs i d))
list_all-index p d [] = sym (all_none _)
list_all-index p d (x ∷ xs) = ap (λ b. p x && b) (list_all-index p d xs) ∙ sym (all-first (λ i. p (get_or (x ∷ xs) i d)) (length xs))
