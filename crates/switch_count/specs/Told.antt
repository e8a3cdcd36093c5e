-- The total of a Switch with the tally of one node told beforehand, for computing: a guard that stands in many lists is counted once.
use Rattle.std.specs.Prelude.{ℕ, true, false, eqb}
use Rattle.expr_count.specs.declared.tallies.Tally.{Tally}
use Rattle.expr_count.specs.Count.{Rec}

unfoldable pub told : ℕ → Tally → Rec → Rec
told g a t j = elim (eqb j g) [ true ↦ a | false ↦ t j ]
