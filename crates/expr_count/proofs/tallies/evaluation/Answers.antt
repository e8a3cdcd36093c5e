-- `expr_count::tallies::evaluation` meets its contract: the parts are those of the definition.
use borrow.Author.Rules.{rules}
use Rattle.expr_count.specs.Tally.{evaluation}
use Rattle.expr_count.proofs.tallies.evaluation.Goals as goal

pub returns : goal.returns
unfolding evaluation
returns c = search rules
