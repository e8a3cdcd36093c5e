-- `sheet::next` meets its contract: the sum modulo 2 ^ 32 is the definition.
use Rattle.sheet.specs.Node.{next_by}
use Rattle.std.proofs.Common.{rules}
use Rattle.sheet.proofs.next.Goals as goal

pub returns : goal.returns
unfolding next_by
returns c = search rules
