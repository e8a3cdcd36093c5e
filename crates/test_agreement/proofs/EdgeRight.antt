-- The total of a Switch is that with the tallies of two guards told beforehand.
use Prim.Native.Nat.{ℕ}
use mathlib.Core.Path.{◌≡◌, sym, ◌∙◌}
use mathlib.Core.Bool.{true}
use mathlib.Core.List.{List}
use lib.Dec.{eqb}
use Rattle.sheet.specs.Limits.{max_depth}
use Rattle.sheet.specs.Node.{kind}
use Rattle.switch_split.specs.Range.{Range}
use Rattle.switch_split.specs.Split.{split}
use Rattle.lowering.specs.Kinds.{switch_kind}
use Rattle.lowering.specs.SwitchSheet.{ranges_of}
use Rattle.expr_count.specs.declared.tallies.Tally.{Tally}
use Rattle.expr_count.specs.Count.{tally}
use Rattle.switch_count.specs.Total.{switch_tally, total}
use Rattle.switch_count.specs.Told.{told}
use Rattle.switch_count.proofs.ToldLaws.{told_same, total-told}
use Rattle.test_agreement.specs.Edge.{both_told}

pub total-both : (s : List ℕ) (g h : ℕ) (a b : Tally) → eqb (kind s 0) switch_kind ≡ true → tally max_depth s g ≡ a → tally max_depth s h ≡ b
    → (rs : List Range) → ranges_of s ≡ rs → total s ≡ switch_tally s (both_told s g h a b) (split rs)
unfolding both_told
total-both s g h a b k d e rs r =
    let one = told g a (tally max_depth s) in
    let second = sym (told_same g a (tally max_depth s) d h) ∙ e in
    total-told s g a k d ∙ (λ i. switch_tally s (λ j. told_same h b one second j i) (split (r i)))
