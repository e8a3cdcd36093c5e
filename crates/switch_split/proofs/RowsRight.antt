-- The rows of document 01 on ranges are right: the split of each list of ranges is the row's list of entries.
use mathlib.Core.Path.{◌≡◌, refl}
use mathlib.Core.List.{map}
use Rattle.text.specs.Same.{same}
use Rattle.switch_split.specs.Excess.{shifted, excess}
use Rattle.switch_split.specs.Range.{inside, blocks_where}
use Rattle.switch_split.specs.Points.{points, insert, sort_onto, sort, dedup_after, dedup, cuts}
use Rattle.switch_split.specs.Split.{atoms_from, atoms, covers, piece, opened, join, pieces, split}
use Rattle.switch_split.specs.Rows.{small, least, greatest, entry, Row, rows}

pub rows_right : map (λ (r : Row). split r.ranges) rows ≡ map (λ (r : Row). r.entries) rows
unfolding small least greatest entry rows shifted excess inside blocks_where points insert sort_onto sort dedup_after dedup cuts same atoms_from
    atoms covers piece opened join pieces split
rows_right = refl
