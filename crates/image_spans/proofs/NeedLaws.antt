-- The needs of steps become leaves one after another.
use Prim.Native.Nat.{ℕ, ◌+◌, ◌*◌, ◌/◌, ◌≤◌, ◌<◌}
use mathlib.Core.Path.{◌≡◌, refl, sym, ap, ◌∙◌, subst}
use mathlib.Core.Bool.{Bool, true, false}
use mathlib.Core.List.{List}
use native.Mathlib.Omega.{arith}
use borrow.Author.Tests.{eqb-true, eqb-false}
use lib.Dec.{eqb}
use lib.ListN.{length, get_or, set}
use lib.Seq.{get_or-set_same, get_or-set_other}
use Rattle.lowering.specs.Words.{switches_at, cases_at, ranges_at}
use Rattle.image_rule.specs.Rules.{steps, step_word, end_at}
use Rattle.std.specs.Prelude.{Option}
use Rattle.image_read.specs.Kinds.{step_of}
use Rattle.image_read.specs.declared.StepKind.{StepKind}
use Rattle.image_maxima.specs.Tree.{leaf, Built}
use Rattle.image_spans.specs.Premises.{Sized, ChainsLie}
use Rattle.image_spans.specs.Needs.{need_of, step_need, NeedsIn, NeedTree}

-- the need of step j by the words that were read
pub step-need :
    (w : List ℕ) (j r a b c d : ℕ) (k : Option StepKind)
    → r ≡ need_of k b c d
    → k ≡ step_of a
    → a ≡ step_word w j 0
    → b ≡ step_word w j 1
    → c ≡ step_word w j 2
    → d ≡ step_word w j 3
    → r ≡ step_need w j
unfolding step_need
step-need w j r a b c d k e o ha hb hc hd = e ∙ rw (o, ha, hb, hc, hd) refl

-- one more
pub needs-more :
    {w l : List ℕ} {j : ℕ} (n v : ℕ)
    → n ≡ steps w
    → j < n
    → 2 * n ≤ length l
    → v ≡ step_need w j
    → NeedsIn w l j
    → NeedsIn w (set l (n + j) v) (j + 1)
needs-more {w} {l} {j} n v e h room q p = record { need = λ k b. by k b (eqb k j) refl }
  where
    by : (k : ℕ) → k < j + 1 → (b : Bool) → eqb k j ≡ b → leaf (set l (n + j) v) (steps w) k ≡ step_need w k
    by k b true i =
        let same = eqb-true k j i in
        let at : steps w + k ≡ n + j = omega arith in
        ap (λ (m : ℕ). get_or (set l (n + j) v) m 0) at
        ∙ get_or-set_same l (n + j) v 0 (omega arith)
        ∙ q
        ∙ ap (step_need w) (sym same)
    by k b false i =
        let other = eqb-false k j i in
        get_or-set_other l (n + j) (steps w + k) v 0 (λ s. other (omega arith)) ∙ p.need k (omega arith)

-- the scratch has room for the tree
pub needs-fit : {w l : List ℕ} → Sized w l → 2 * steps w ≤ length l
unfolding end_at ranges_at cases_at switches_at
needs-fit s = omega (arith, s.ends, s.room)

-- the needs put into l, which gives l₁, and the tree built over them, which gives t
pub needs-built :
    {w l₁ t : List ℕ} (size n : ℕ)
    → size ≡ steps w
    → n ≡ 2 * size
    → length l₁ ≡ n
    → length t ≡ length l₁
    → NeedsIn w l₁ (steps w)
    → Built l₁ t (length l₁ / 2)
    → ChainsLie w
    → NeedTree w t
needs-built {w} {l₁} {t} size n e long same kept p built lie =
    let half : length l₁ / 2 ≡ steps w = omega arith in
    let b = subst (Built l₁ t) half built in
    record { half = omega arith; tree = b.tree; needs = record { need = λ j h. b.leaves j ∙ p.need j h }; lie = lie }
