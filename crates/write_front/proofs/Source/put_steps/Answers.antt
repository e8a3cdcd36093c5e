-- `write_front::Source::put_steps` meets its contract: a part of the image becomes the section.
use native.Mathlib.Omega.{arith}
use mathlib.Core.Path.{refl}
use Rattle.write_front.proofs.RoomLaws.{part_length}
use Rattle.write_front.proofs.PutsLaws.{puts-part, puts_none}
use Rattle.write_front.proofs.FrontLaws.{step-rows, steps-written}
use Rattle.write_front.proofs.Source.put_steps.Goals as goal

pub returns-then-beyond : goal.returns-then-beyond
returns-then-beyond c = λ m h. puts_none _ _ _ (omega (arith, c.beyond.ensures.beyond c.if-beyond.true, step-rows h))

pub overflow_add-e : goal.overflow_add-e
overflow_add-e c = omega (arith, c.beyond.ensures.within c.if-beyond.false)

pub returns : goal.returns
returns c =
    λ m h. puts-part _ _ _ _ _
    (steps-written h c.names.ensures.sheet (c.names.ensures.held m h) (c.chain_keys.ensures m h) refl refl c.steps.ensures
    (part_length _ _ _ (c.beyond.ensures.within c.if-beyond.false)))
    (step-rows h)
