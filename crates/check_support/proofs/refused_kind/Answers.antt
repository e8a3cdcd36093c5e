-- `check_support::refused_kind` meets its contract: the tests are the definition's.
use mathlib.Core.Path.{refl}
use Rattle.check_support.specs.Support.{refused_kind}
use Rattle.check_support.proofs.refused_kind.Goals as goal

pub returns : goal.returns
unfolding refused_kind
returns c = refl
