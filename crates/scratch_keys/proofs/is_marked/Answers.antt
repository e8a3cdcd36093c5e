-- `scratch_keys::is_marked` meets its contract: the tests are the definition's, and a node that is no call is asked nothing more.
use mathlib.Core.Path.{◌∙◌}
use Rattle.scratch_keys.proofs.KeyLaws.{marked-call, marked-none}
use Rattle.scratch_keys.proofs.is_marked.Goals as goal

pub returns-then-call : goal.returns-then-call
returns-then-call c = marked-call _ _ c.kind.ensures c.stores_token.ensures c.field_b.ensures c.if-call.true

pub returns-else-call : goal.returns-else-call
returns-else-call c = c.if-call.false ∙ marked-none _ _ c.kind.ensures c.if-call.false
