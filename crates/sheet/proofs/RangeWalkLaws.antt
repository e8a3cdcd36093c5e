-- A walk over siblings as a chain over a range goes it.
use Prim.Native.Nat.{ℕ, zero, suc, ◌+◌}
use mathlib.Core.Path.{◌≡◌, refl, ◌∙◌}
use mathlib.Core.List.{List}
use native.Mathlib.Omega.{arith}
use Rattle.std.proofs.lemmas.Iterator.{YieldsList-from_range}
use Rattle.std.proofs.lemmas.Iterator.Consumers.{fold_from_yields_List}
use Rattle.std.proofs.iter.Yields.{nat_range_steps}
use Rattle.std.specs.List.{range_with_len, fold, FoldsTo}
use Rattle.std.specs.Fn.{Called}
use Rattle.std.specs.Iterator.{Drains}
use denote.Param.Members.{Mut}
use Rattle.sheet.specs.Node.{next}
use Rattle.sheet.specs.Walk.{skip}

-- m steps from j on
fold-range : (s : List ℕ) (a m j : ℕ) → fold (λ k x. next s k) j (range_with_len a m) ≡ skip s m j
unfolding skip
fold-range s a zero j = refl
fold-range s a (suc m) j = fold-range s (a + 1) m (next s j)

-- the answer of a chain `(0..m).fold(j, ..)`, whose closure goes on to the next sibling
pub fold_skip : {F : Type 0} {g : Mut F (ℕ × (ℕ × Unit {0})) ℕ} {t : _} {f : F} (s : List ℕ) (m j r : ℕ)
    → (xs : List ℕ) × (q : F) × Drains nat_range_steps t xs × FoldsTo {P = F × ℕ} (λ a x b. Called g a.0 (a.1, (x, tt)) b.1 b.0) (f, j) xs (q, r)
    → t ≡ record { start = 0; end = m } → ((a x b : ℕ) (q : F) → Called g f (a, (x, tt)) b q → (q ≡ f) × (b ≡ next s a)) → r ≡ skip s m j
fold_skip {g = g} s m j r d e k =
    fold_from_yields_List g (λ a x. next s a) j r d (YieldsList-from_range 0 m m e (omega arith)) k ∙ fold-range s 0 m j
