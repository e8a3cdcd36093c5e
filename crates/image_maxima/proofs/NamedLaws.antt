-- docs/PORT.md names these laws of a tree that is built from its last node to its first; the check finds the goals of the loop alone.
use Prim.Native.Nat.{ℕ, ◌+◌, ◌*◌, ◌-◌, ◌≤◌, ◌<◌, max}
use mathlib.Core.Path.{◌≡◌, refl, sym, ap, ap₂, ◌∙◌}
use mathlib.Core.Bool.{Bool, true, false}
use mathlib.Core.List.{List}
use native.Mathlib.Omega.{arith}
use borrow.Author.Tests.{eqb-true, eqb-false}
use lib.Dec.{eqb}
use lib.ListN.{length, get_or, set, length-set}
use lib.Seq.{get_or-set_same, get_or-set_other}
use Rattle.image_maxima.specs.Tree.{Built}
use Rattle.image_maxima.proofs.BuildLaws.{children, From}

-- one node more is built
pub from_next :
    {t₀ t : List ℕ} {size k : ℕ} (v : ℕ)
    → 2 * size ≤ length t₀
    → 1 < k
    → v ≡ children t (k - 1)
    → From t₀ t size k
    → From t₀ (set t (k - 1) v) size (k - 1)
from_next {t₀} {t} {size} {k} v room h e f = record {
  same_length = length-set t (k - 1) v ∙ f.same_length;
  below = omega (arith, f.below);
  nodes = λ m p l b. by m p l b (eqb m (k - 1)) refl;
  leaves = λ j. kept (size + j) (omega (arith, f.below)) ∙ f.leaves j;
}
  where
    kept : (i : ℕ) → k ≤ i → get_or (set t (k - 1) v) i 0 ≡ get_or t i 0
    kept i l = get_or-set_other t (k - 1) i v 0 (λ q. omega arith)

    here : get_or (set t (k - 1) v) (k - 1) 0 ≡ v
    here = get_or-set_same t (k - 1) v 0 (omega (arith, f.below, f.same_length))

    both : (m : ℕ) → 0 < m → k - 1 ≤ m → children (set t (k - 1) v) m ≡ children t m
    both m p l = ap₂ max (kept (2 * m) (omega arith)) (kept (2 * m + 1) (omega arith))

    by :
        (m : ℕ) → 0 < m → k - 1 ≤ m → m < size → (b : Bool) → eqb m (k - 1) ≡ b
        → get_or (set t (k - 1) v) m 0 ≡ children (set t (k - 1) v) m
    by m p l b true q =
        let at = eqb-true m (k - 1) q in
        ap (λ (i : ℕ). get_or (set t (k - 1) v) i 0) at
        ∙ here
        ∙ e
        ∙ ap (children t) (sym at)
        ∙ sym (both m p l)
    by m p l b false q =
        let other = eqb-false m (k - 1) q in
        kept m (omega arith) ∙ f.nodes m p (omega arith) b ∙ sym (both m p l)

-- the first node is built
pub from_end : {t₀ t : List ℕ} {size k : ℕ} → 2 * size ≤ length t₀ → k ≤ 1 → From t₀ t size k → Built t₀ t size
from_end room h f = record {
  tree = record { room = omega (arith, f.same_length); greater = λ m p b. f.nodes m p (omega arith) b };
  leaves = f.leaves;
}
