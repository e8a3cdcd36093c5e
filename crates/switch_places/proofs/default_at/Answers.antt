-- `switch_places::default_at` meets its contract.
use mathlib.Core.Path.{refl, ◌∙◌}
use Rattle.switch_places.proofs.SmallLaws.{none, default-some}
use Rattle.switch_places.proofs.default_at.Goals as goal

pub returns-in-None : goal.returns-in-None
returns-in-None c l = rw c.in-None.is (c.word.ensures l ∙ none 0 _ _ refl)

pub returns-in-Some : goal.returns-in-Some
returns-in-Some c l = rw c.in-Some.is (c.at.ensures ∙ default-some _ _ _)
