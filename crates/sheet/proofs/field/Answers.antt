-- `sheet::field` meets its contract: the word read is the one that the definition names.
use Rattle.sheet.specs.Node.{field}
use Rattle.std.proofs.Common.{rules}
use Rattle.sheet.proofs.field.Goals as goal

pub returns : goal.returns
unfolding field
returns c = search rules
