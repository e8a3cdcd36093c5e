-- `text::is_call` meets its contract: the byte string that it compares with is the keyword `call`. Assumes nothing.
use Rattle.text.specs.Keyword.{is_call}
use Rattle.text.proofs.is_call.Goals as goal

pub returns : goal.returns
unfolding is_call
returns c = c.same_bytes.ensures
