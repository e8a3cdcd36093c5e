-- `text::is_fn` meets its contract: the byte string that it compares with is the keyword `Fn`. Assumes nothing.
use Rattle.text.specs.Keyword.{is_fn}
use Rattle.text.proofs.is_fn.Goals as goal

pub returns : goal.returns
unfolding is_fn
returns c = c.same_bytes.ensures
