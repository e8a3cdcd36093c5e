-- `switch_intervals::CutList::put` meets its contract. The invariant is `Cutting`: the words of the cuts passed stand in the table.
use Rattle.switch_intervals.proofs.CutsLaws.{cutting-start, cutting-on, cutting-end}
use borrow.Author.Rules.{rules}
use Rattle.switch_intervals.proofs.CutList.put.Goals as goal

pub loop-i-init : goal.loop-i-init
loop-i-init c = cutting-start _ _ c.args.table.now.whole

pub loop-i-preserved : goal.loop-i-preserved
loop-i-preserved c =
    cutting-on _ _ _ _ _ _ _ _ c.loop-i.invariant c.loop-i-test.true c.args.self.now.few (search rules)
    c.low_word.ensures c.high_word.ensures c.put.ensures c.put-in-loop-i.ensures

pub returns : goal.returns
returns c = cutting-end _ _ _ _ c.loop-i.invariant c.loop-i-test.false
