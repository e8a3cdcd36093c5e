-- `expr_count::tallies::emitted` meets its contract: the parts are those of the definition.
use Rattle.expr_count.specs.Tally.{instructions}
use borrow.Author.Rules.{rules}
use Rattle.expr_count.proofs.tallies.emitted.Goals as goal

pub returns : goal.returns
unfolding instructions
returns c = search rules
