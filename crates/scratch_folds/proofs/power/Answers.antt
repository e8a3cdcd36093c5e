-- `scratch_folds::power` meets its contract: the library's power, as a word.
use mathlib.Core.Path.{◌∙◌}
use Rattle.scratch_folds.specs.Sums.{factor}
use Rattle.scratch_folds.proofs.PowerLaws.{power-wrapped}
use Rattle.scratch_folds.proofs.power.Goals as goal

pub returns : goal.returns
returns c = c.wrapping_pow.ensures ∙ power-wrapped factor c.args.n
