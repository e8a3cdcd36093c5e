-- `text::is_curry` meets its contract: the byte string that it compares with is the keyword `curry`. Assumes nothing.
use Rattle.text.specs.Keyword.{is_curry}
use Rattle.text.proofs.is_curry.Goals as goal

pub returns : goal.returns
unfolding is_curry
returns c = c.same_bytes.ensures
