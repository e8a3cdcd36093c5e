-- `text::same_short` meets its contract: std's equality of two slices is the definition's.
use Rattle.std.proofs.Common.{◌∙◌}
use Rattle.text.proofs.SameLaws.{pointwise-same}
use Rattle.text.proofs.same_short.Goals as goal

pub returns : goal.returns
returns c = c.eq.ensures ∙ pointwise-same c.args.a.now c.args.b.now
