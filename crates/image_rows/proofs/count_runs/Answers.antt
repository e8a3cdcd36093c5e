-- `image_rows::count_runs` meets its contract: the words of the `Image` are those that were lent.
use mathlib.Core.Path.{sym}
use Rattle.image_rows.proofs.count_runs.Goals as goal

pub returns : goal.returns
returns c = rw (sym c.of-image.ensures) c.count_image_runs.ensures
