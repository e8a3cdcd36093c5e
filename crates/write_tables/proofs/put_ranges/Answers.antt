-- `write_tables::put_ranges` meets its contract: a part of the image becomes the section.
use Rattle.std.proofs.Common.{rules}
use native.Mathlib.Omega.{arith}
use Rattle.write_rows.proofs.RowLaws.{ranges-length}
use Rattle.write_tables.proofs.put_ranges.Goals as goal

pub returns-then-n-gt-MOST_BANDS : goal.returns-then-n-gt-MOST_BANDS
returns-then-n-gt-MOST_BANDS c = λ h. absurd (omega arith)

pub returns : goal.returns
returns c = λ h. c.put_section.ensures _ (ranges-length c.args.flat.now c.args.n) (λ b a l w. search rules)
