-- `switch_intervals::int_at` meets its contract. The two words at the node are the integer.
use mathlib.Core.Path.{◌∙◌, ap, ap₂}
use mir.Syntax.{w64}
use mir.ValLaws.{to_z-of_z}
use Rattle.switch_split.specs.Excess.{excess, excess_of}
use borrow.Author.Rules.{sfits_of}
use Rattle.switch_intervals.proofs.int_at.Goals as goal

pub returns : goal.returns
returns c =
    ap excess_of (to_z-of_z w64 c.from_words.result (sfits_of c.from_words.type_inv))
    ∙ c.from_words.ensures
    ∙ ap₂ excess c.field_a.ensures c.field_b.ensures
