-- `switch_lists::same_list` meets its contract: the list is made in a room of its own, and compared.
use mathlib.Core.Path.{ap, ◌∙◌}
use native.Mathlib.Omega.{arith}
use Rattle.text.specs.Same.{same}
use Rattle.switch_lists.proofs.EqualLaws.{pointwise-same}
use Rattle.switch_lists.proofs.same_list.Goals as goal

pub returns : goal.returns
returns g c = λ told. c.eq.ensures ∙ pointwise-same _ _ ∙ ap (same c.args.list.now) (c.list-other.ensures.list told (omega arith))
