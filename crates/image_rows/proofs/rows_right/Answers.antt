-- `image_rows::rows_right` meets its contract: the words of the `Image` are those that were lent.
use mathlib.Core.Path.{sym}
use Rattle.image_rows.proofs.rows_right.Goals as goal

pub returns : goal.returns
returns c = rw (sym c.of-image.ensures) c.table_rows_right.ensures
