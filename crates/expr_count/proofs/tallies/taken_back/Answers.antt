-- `expr_count::tallies::taken_back` meets its contract: the parts are those of the definition.
use borrow.Author.Rules.{rules}
use Rattle.expr_count.specs.Tally.{taken_back}
use Rattle.expr_count.proofs.tallies.taken_back.Goals as goal

pub returns : goal.returns
unfolding taken_back
returns c = search rules
