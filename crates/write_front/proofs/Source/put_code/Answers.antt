-- `write_front::Source::put_code` meets its contract: one part behind the other.
use Rattle.std.proofs.Common.{rules}
use Rattle.write_front.proofs.FrontLaws.{code-are, positions-are}
use Rattle.write_front.proofs.PutsLaws.{puts-as, puts-next}
use Rattle.write_front.specs.Front.{code_part}
use mathlib.Core.Path.{refl}
use Rattle.write_front.proofs.Source.put_code.Goals as goal

pub returns : goal.returns
unfolding code_part
returns c =
    let it = c.args.self.now in
    λ m h.
    puts-next _ _
    (puts-as _ _ (code-are h c.keys-code.ensures) (c.put_section-e.ensures _ refl (λ b a l w. search rules)))
    (puts-as _ _ (positions-are h c.positions_at.ensures c.keys-positions.ensures)
    (c.put_section.ensures _ refl (λ b a l w. search rules)))
