-- Sizes agree: the twelve are there, and the length is what they say.
use Rattle.std.specs.Prelude.{ℕ, Bool, ◌&&◌, List, leb, eqb, length}
use Rattle.lowering.specs.Limits.{sizes_words}
use Rattle.image_rule.specs.Rules.{end_at}

unfoldable pub sizes_agree : List ℕ → Bool
sizes_agree w = leb sizes_words (length w) && eqb (length w) (end_at w)
