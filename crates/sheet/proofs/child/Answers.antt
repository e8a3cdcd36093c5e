-- `sheet::child` meets its contract: the sum modulo 2 ^ 32 is the definition.
use Rattle.sheet.specs.Node.{child}
use Rattle.std.proofs.Common.{rules}
use Rattle.sheet.proofs.child.Goals as goal

pub returns : goal.returns
unfolding child
returns c = search rules
