-- What the tests before this one tell of an image: its sizes agree, targets go forward, and Switches and tables name what is there.
use Rattle.std.specs.Prelude.{ℕ, ◌≤◌, ◌<◌, ◌≡◌, List, length}
use Rattle.lowering.specs.Limits.{sizes_words}
use Rattle.image_rule.specs.Rules.{tables, end_at}
use Rattle.image_rule.proofs.Told.{Aims}
use Rattle.image_rule.proofs.Right.{TablesNamed}
use Rattle.image_rows.specs.AllRows.{Pooled}

abbrev pub RowsPooled : List ℕ → Type 0
RowsPooled w = (i : ℕ) → i < tables w → Pooled w i

pub record Checked (w : List ℕ) : Type 0 where
  pub enough : sizes_words ≤ length w
  pub sizes : length w ≡ end_at w
  pub aims : Aims w
  pub named : TablesNamed w
  pub pooled : RowsPooled w
