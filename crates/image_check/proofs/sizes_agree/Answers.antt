-- `image_check::sizes_agree` meets its contract.
use mathlib.Core.Path.{ap, ◌∙◌}
use Rattle.image_rule.specs.Rules.{end_at}
use mathlib.Core.Bool.{◌&&◌}
use Prim.Native.Nat.{ℕ}
use lib.Dec.{leb, eqb}
use lib.ListN.{length}
use Rattle.lowering.specs.Limits.{sizes_words}
use Rattle.image_check.specs.Sizes.{sizes_agree}
use Rattle.image_check.proofs.sizes_agree.Goals as goal

pub returns : goal.returns
unfolding sizes_agree
returns c =
    let w = c.args.image.now in
    ap (λ (n : ℕ). leb sizes_words (length w) && eqb (length w) n) (c.end.ensures.at ∙ ap end_at c.of.ensures)
