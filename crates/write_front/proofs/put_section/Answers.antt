-- `write_front::put_section` meets its contract: a part of the image becomes the section.
use Rattle.std.proofs.Common.{rules}
use mathlib.Core.Path.{refl}
use Rattle.write_front.proofs.PutsLaws.{puts-part, puts_none}
use native.Mathlib.Omega.{arith}
use Rattle.write_front.proofs.put_section.Goals as goal

pub returns-then-beyond : goal.returns-then-beyond
returns-then-beyond g c = λ s long is. puts_none _ _ _ (omega (arith, c.beyond.ensures.beyond c.if-beyond.true))

pub overflow_add-e : goal.overflow_add-e
overflow_add-e g c = omega (arith, c.beyond.ensures.within c.if-beyond.false)

pub returns : goal.returns
returns g c =
    λ s long is. puts-part _ _ c.args.words _ s
    (is _ _ (search rules) (record { shown = _; shows = refl; left = _; met = c.write.ensures; leaves = refl }))
    long
