-- `image_rows::come_rows` meets its contract: the words of the `Image` are those that were lent.
use mathlib.Core.Path.{sym}
use Rattle.image_rows.proofs.come_rows.Goals as goal

pub returns : goal.returns
returns c = rw (sym c.of-image.ensures) c.come_table_rows.ensures
