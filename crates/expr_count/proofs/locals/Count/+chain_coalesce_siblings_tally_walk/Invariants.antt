-- The cycle of calls of the count. The measure: four for each level left, and a step for each member between a node and its operands.
-- Invariant of both loops: what is passed and what is left make the whole, cut off.
use Prim.Native.Nat.{◌+◌, ◌*◌}
use Rattle.sheet.specs.Rest.{rest}
use Rattle.expr_count.specs.Locals.{answer}
use Rattle.expr_count.proofs.AnswerLaws.{SumLeft}
use Rattle.expr_count.proofs.AnswerLaws.{WalkLeft}
use Rattle.expr_count.proofs.AnswerLaws.{ReachLeft}
use Rattle.expr_count.specs.Count as counts
use Rattle.expr_count.proofs.locals.Count.+chain_coalesce_siblings_tally_walk.Given as goal

abbrev pub decreases-chain : goal.decreases-chain
decreases-chain l = 4 * l.levels + 3

abbrev pub decreases-coalesce : goal.decreases-coalesce
decreases-coalesce l = 4 * l.levels + 2

abbrev pub decreases-siblings : goal.decreases-siblings
decreases-siblings l = 4 * l.levels + 1

abbrev pub decreases-tally : goal.decreases-tally
decreases-tally l = 4 * l.levels

abbrev pub decreases-walk : goal.decreases-walk
decreases-walk l = 4 * l.levels + 2

abbrev pub invariant-siblings-loop-j : goal.invariant-siblings-loop-j
invariant-siblings-loop-j l = SumLeft l.self.sheet.now
    (counts.tally_by (answer l.self.told l.self.sheet.now) l.levels l.self.sheet.now) l.gap l.of.n l.of.from l.sum l.leaves
    (rest l.j-iterator)

abbrev pub invariant-walk-loop-p : goal.invariant-walk-loop-p
invariant-walk-loop-p l =
    WalkLeft l.self.sheet.now (counts.tally_by (answer l.self.told l.self.sheet.now) l.levels l.self.sheet.now) l.j l.sum l.p-iterator
    × ReachLeft l.self.sheet.now l.j l.p-iterator
