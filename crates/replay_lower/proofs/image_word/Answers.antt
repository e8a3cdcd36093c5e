-- `replay_lower::image_word` meets its contract: one law for each way.
use Rattle.replay_lower.proofs.LeftLaws.{image-wanted, image-kept}
use mathlib.Core.Path.{sym, ◌∙◌}
use native.Mathlib.Omega.{arith}
use Rattle.replay_lower.proofs.image_word.Goals as goal

pub returns-then-i-count : goal.returns-then-i-count
returns-then-i-count c =
    c.word_at.ensures
    ∙ sym (image-wanted c.args.wanted.now _ c.args.i c.if-i-count.true)

pub returns : goal.returns
returns c =
    c.noise.ensures
    ∙ sym (image-kept c.args.wanted.now _ c.args.i (omega (arith, c.if-i-count.false)))
