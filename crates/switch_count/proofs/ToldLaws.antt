-- The total of a Switch is that with the tally of one node told beforehand.
use Prim.Native.Nat.{ℕ}
use mathlib.Core.Path.{◌≡◌, refl, ap, ◌∙◌}
use mathlib.Core.Bool.{Bool, true, false}
use mathlib.Core.List.{List}
use lib.Dec.{eqb}
use borrow.Author.Tests.{eqb-true}
use Rattle.sheet.specs.Limits.{max_depth}
use Rattle.sheet.specs.Node.{kind}
use Rattle.switch_split.specs.Split.{split}
use Rattle.lowering.specs.Kinds.{switch_kind}
use Rattle.lowering.specs.SwitchSheet.{ranges_of}
use Rattle.expr_count.specs.declared.tallies.Tally.{Tally}
use Rattle.expr_count.specs.Count.{Rec, tally}
use Rattle.switch_count.specs.Total.{switch_tally, switch_total, total}
use Rattle.switch_count.specs.Told.{told}

-- a tally that is told right changes nothing
pub told_same : (g : ℕ) (a : Tally) (t : Rec) → t g ≡ a → (j : ℕ) → t j ≡ told g a t j
unfolding told
told_same g a t e j = by (eqb j g) refl
  where
    by : (x : Bool) → eqb j g ≡ x → t j ≡ told g a t j
    by true h = rw (h, told) (ap t (eqb-true j g h) ∙ e)
    by false h = rw (h, told)

pub total-told : (s : List ℕ) (g : ℕ) (a : Tally) → eqb (kind s 0) switch_kind ≡ true → tally max_depth s g ≡ a
    → total s ≡ switch_tally s (told g a (tally max_depth s)) (split (ranges_of s))
unfolding total switch_total
total-told s g a h e =
    rw (h, total) (λ i. switch_tally s (λ j. told_same g a (tally max_depth s) e j i) (split (ranges_of s)))
