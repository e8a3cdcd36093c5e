-- `image_read::Image::end` meets its contract.
use native.Mathlib.Omega.{arith}
use Rattle.image_rule.specs.Rules.{end_at}
use Rattle.image_read.proofs.Image.end.Goals as goal

pub returns-clause-at : goal.returns-clause-at
unfolding end_at
returns-clause-at c = let image = c.args.self.now in omega (arith, image.placed.ranges, image.sized.ranges)
