-- The targets of rows become leaves one after another.
use Prim.Native.Nat.{ℕ, ◌+◌, ◌*◌, ◌/◌, ◌≤◌, ◌<◌}
use mathlib.Core.Path.{◌≡◌, refl, sym, ap, ◌∙◌, subst}
use mathlib.Core.Bool.{Bool, true, false}
use mathlib.Core.List.{List}
use native.Mathlib.Omega.{arith}
use borrow.Author.Tests.{eqb-true, eqb-false}
use lib.Dec.{eqb}
use lib.ListN.{length, get_or, set}
use lib.Seq.{get_or-set_same, get_or-set_other}
use Rattle.lowering.specs.Words.{ranges_at}
use Rattle.image_rule.specs.Rules.{cases, ranges, end_at}
use Rattle.image_read.specs.Targets.{target_of}
use Rattle.image_maxima.specs.Tree.{Built}
use Rattle.image_spans.specs.Premises.{Sized, RowsLie}
use Rattle.image_spans.specs.Leaves.{turned, row_count, Put, TargetTree}

-- no row is put
pub put-none : (w l : List ℕ) (kind at : ℕ) → Put w kind at 0 l l
put-none w l kind at = record { put = λ j h. absurd (omega arith); before = λ k h. refl }

-- one more row is put
pub put-more :
    {w l₀ l : List ℕ} {kind at j v : ℕ} → at + j < length l → v ≡ target_of w kind j → Put w kind at j l₀ l
    → Put w kind at (j + 1) l₀ (set l (at + j) (turned v))
put-more {w} {l₀} {l} {kind} {at} {j} {v} room e p = record {
  put = λ k h. by k h (eqb k j) refl;
  before = λ k h. get_or-set_other l (at + j) k (turned v) 0 (λ s. omega arith) ∙ p.before k h;
}
  where
    by : (k : ℕ) → k < j + 1 → (b : Bool) → eqb k j ≡ b → get_or (set l (at + j) (turned v)) (at + k) 0 ≡ turned (target_of w kind k)
    by k h true i =
        let same = eqb-true k j i in
        ap (λ (m : ℕ). get_or (set l (at + j) (turned v)) (at + m) 0) same
        ∙ get_or-set_same l (at + j) (turned v) 0 room
        ∙ ap turned (e ∙ ap (target_of w kind) (sym same))
    by k h false i =
        let other = eqb-false k j i in
        get_or-set_other l (at + j) (at + k) (turned v) 0 (λ s. other (omega arith)) ∙ p.put k (omega arith)

-- the scratch has room for the tree
pub rows-fit : {w l : List ℕ} → Sized w l → 2 * row_count w ≤ length l
unfolding end_at ranges_at
rows-fit s = omega (arith, s.ends, s.room)

-- cases put into l, which gives l₁, ranges behind them, which gives l₂, and the tree built over both, which gives t
pub rows-built :
    {w l l₁ l₂ t : List ℕ} (n m : ℕ)
    → n ≡ cases w
    → m ≡ ranges w
    → length l ≡ 2 * (n + m)
    → length l₁ ≡ length l
    → length l₂ ≡ length l₁
    → length t ≡ length l₂
    → Put w 0 (n + m) n l l₁
    → Put w 1 (n + m + n) m l₁ l₂
    → Built l₂ t (length l₂ / 2)
    → RowsLie w
    → TargetTree w t
rows-built {w} {l} {l₁} {l₂} {t} n m en em long e₁ e₂ e₃ first second b lie = record {
  half = omega arith;
  tree = built.tree;
  first = λ j h.
      built.leaves j
      ∙ subst (λ (k : ℕ). get_or l₂ (k + j) 0 ≡ get_or l₁ (k + j) 0) size (second.before (n + m + j) (omega arith))
      ∙ subst (λ (k : ℕ). get_or l₁ (k + j) 0 ≡ turned (target_of w 0 j)) size (first.put j (omega arith));
  second = λ j h.
      let at : n + m + n + j ≡ row_count w + (cases w + j) = omega arith in
      built.leaves (cases w + j) ∙ subst (λ (k : ℕ). get_or l₂ k 0 ≡ turned (target_of w 1 j)) at (second.put j (omega arith));
  lie = lie;
}
  where
    size : n + m ≡ row_count w
    size = omega arith

    built : Built l₂ t (row_count w)
    built = let half : length l₂ / 2 ≡ row_count w = omega arith in subst (Built l₂ t) half b
