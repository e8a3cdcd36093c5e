-- `write_tables::put_cases` meets its contract: a part of the image becomes the section.
use Rattle.std.proofs.Common.{rules}
use native.Mathlib.Omega.{arith}
use Rattle.write_rows.proofs.RowLaws.{cases-length}
use Rattle.write_tables.proofs.put_cases.Goals as goal

pub returns-then-n-gt-ENTRIES : goal.returns-then-n-gt-ENTRIES
returns-then-n-gt-ENTRIES c = λ h. absurd (omega arith)

pub returns : goal.returns
returns c = λ h. c.put_section.ensures _ (cases-length c.args.flat.now c.args.n) (λ b a l w. search rules)
