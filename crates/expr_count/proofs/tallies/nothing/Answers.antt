-- `expr_count::tallies::nothing` meets its contract: no instruction.
use Rattle.expr_count.specs.Tally.{nothing}
use borrow.Author.Rules.{rules}
use Rattle.expr_count.proofs.tallies.nothing.Goals as goal

pub returns : goal.returns
unfolding nothing
returns c = search rules
