-- `switch_intervals::RangeNodes::cuts` meets its contract. The end points, sorted and made distinct, by the definition.
use borrow.Author.Rules.{rules}
use Rattle.switch_split.proofs.HeldLaws.{lists-most}
use Rattle.switch_intervals.proofs.FirstLaws.{cuts-by}
use Rattle.switch_intervals.proofs.RangeNodes.cuts.Goals as goal

pub returns-clause-upper_bound : goal.returns-clause-upper_bound
returns-clause-upper_bound c = search (rules, lists-most)

pub returns-clause-cuts : goal.returns-clause-cuts
returns-clause-cuts c = λ read. cuts-by _ _ _ _ _ _ _ (c.points.ensures read) c.sorted.ensures c.distinct.ensures
