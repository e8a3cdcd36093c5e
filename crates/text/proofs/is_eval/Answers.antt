-- `text::is_eval` meets its contract: the byte string that it compares with is the keyword `eval`. Assumes nothing.
use Rattle.text.specs.Keyword.{is_eval}
use Rattle.text.proofs.is_eval.Goals as goal

pub returns : goal.returns
unfolding is_eval
returns c = c.same_bytes.ensures
