-- `write_tables::put_switches` meets its contract: a part of the image becomes the section.
use Rattle.std.proofs.Common.{rules}
use native.Mathlib.Omega.{arith}
use Rattle.write_tables.proofs.Tail.{switch-words}
use Rattle.write_tables.proofs.put_switches.Goals as goal

pub returns : goal.returns
returns c =
    let a = c.args in
    let words = switch-words a.cases a.fallback a.ranges a.default in
    c.put_section.ensures _ (omega (arith, words, c.table_count.ensures)) (λ b a l w. search rules)
