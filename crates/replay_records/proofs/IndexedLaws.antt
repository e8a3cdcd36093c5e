-- A test of every element with its index, as a chain over an enumerated slice answers it.
use Prim.Native.Nat.{ℕ, suc, ◌+◌}
use mathlib.Core.Path.{◌≡◌, sym, ap, ap₂, ◌∙◌}
use mathlib.Core.Bool.{Bool, true, false, ◌&&◌}
use mathlib.Core.List.{List, [], ◌∷◌}
use native.Mathlib.Omega.{arith}
use lib.ListN.{length, get_or}
use denote.Param.Members.{Mut}
use denote.Ref.{Bor}
use Rattle.std.proofs.iter.Yields.{fronts}
use Rattle.std.proofs.lemmas.Iterator.{YieldsList-from_slice}
use Rattle.std.proofs.lemmas.Iterator.Consumers.{YieldsList-from_enumerate}
use Rattle.std.proofs.lemmas.Iterator.Search.{all_from_yields_List}
use Rattle.std.specs.Iterator.{YieldsThen}
use Rattle.std.specs.Iterator.Adapters.{enumerate_source, enumerate_count, enumerate_steps}
use Rattle.std.specs.List.{list_all, enumerate_from, FoldsTo}
use Rattle.std.specs.Fn.{Called}
use Rattle.std.specs.Option.{MatchOption}
use Rattle.std.specs.Slice.Iter.{iter_rest}
use Rattle.std.specs.Prelude.{Option}
use Rattle.words.specs.Count.{all_below}
use Rattle.words.proofs.CountLaws.{all_none, all_same}
use Rattle.words.proofs.RangeLaws.{list_all-range}

-- the elements numbered from n on
list_all-enumerate :
    (test : ℕ → ℕ → Bool) (n : ℕ) (xs : List ℕ)
    → list_all (λ p. test p.0 p.1) (enumerate_from n xs) ≡ all_below (length xs) (λ i. test (n + i) (get_or xs i 0))
list_all-enumerate test n [] = sym (all_none _)
list_all-enumerate test n (x ∷ xs) =
    let here : ℕ → Bool = λ i. test (n + i) (get_or (x ∷ xs) i 0) in
    let m = length xs in
    let behind : all_below m (λ i. test (n + 1 + i) (get_or xs i 0)) ≡ all_below m (λ i. here (0 + 1 + i)) =
    all_same _ _ m (λ i l. ap₂ test (omega arith) (ap (λ k. get_or (x ∷ xs) k 0) {x = suc i} (omega arith))) in
    ap₂ ◌&&◌ (ap (λ k. test k x) (omega arith)) (list_all-enumerate test (n + 1) xs ∙ behind ∙ sym (list_all-range here (0 + 1) m))
    ∙ list_all-range here 0 (suc m)
    ∙ all_same _ _ (suc m) (λ i l. ap here (omega arith))

-- the answer of a chain `xs.iter().enumerate().all(..)`, whose closure answers by a test
pub all_below-enumerate :
    {F : Type 0} {g : Mut F ((ℕ × Bor ℕ) × Unit {0}) Bool} {s : _} (xs : List ℕ) (test : ℕ → ℕ → Bool) (u : _) (f : F)
    (r : Bool)
    → (ys : List (ℕ × Bor ℕ)) × (o : Option (ℕ × Bor ℕ)) × (j : F) × YieldsThen (enumerate_steps fronts) s ys o u
    × FoldsTo (λ p x q. Called g p (x, tt) true q) f ys j
    × MatchOption o (r ≡ true) (λ x. (r ≡ false) × ((h : F) × Called g j (x, tt) false h))
    → iter_rest (enumerate_source s) ≡ xs → enumerate_count s ≡ 0
    → ((x : ℕ × Bor ℕ) (b : Bool) (q : F) → Called g f (x, tt) b q → (q ≡ f) × (b ≡ test x.0 x.1.now))
    → r ≡ all_below (length xs) (λ i. test i (get_or xs i 0))
all_below-enumerate xs test u f r d e z k =
    all_from_yields_List (λ p. test p.0 p.1) u f r d (YieldsList-from_enumerate (YieldsList-from_slice xs e) z) k
    ∙ list_all-enumerate test 0 xs
    ∙ all_same _ _ (length xs) (λ i l. ap (λ j. test j (get_or xs i 0)) (omega arith))
