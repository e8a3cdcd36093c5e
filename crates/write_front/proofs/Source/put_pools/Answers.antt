-- `write_front::Source::put_pools` meets its contract: one section behind the other.
use Rattle.std.proofs.Common.{rules}
use lib.ListN.{length-map}
use Rattle.sheet.specs.Node.{field_c}
use Rattle.write_front.proofs.FrontLaws.{consts-are, names-are, tokens-are, residuals-are}
use Rattle.write_front.proofs.RowLengths.{consts-long, names-long}
use Rattle.write_front.proofs.PutsLaws.{puts-as, puts-next}
use Rattle.write_front.specs.Front.{pools_part}
use mathlib.Core.Path.{refl}
use Rattle.write_front.proofs.Source.put_pools.Goals as goal

pub returns : goal.returns
unfolding pools_part
returns c =
    let it = c.args.self.now in
    let s = it.sheet.now in
    λ m h.
    let one = puts-as _ _ (consts-are h c.consts_at.ensures c.keys-consts.ensures)
    (c.put_section-e.ensures _ (consts-long s _) (λ b a l w. search rules)) in
    let two = puts-next _ _ one (puts-as _ _ (names-are h c.names_at.ensures c.keys-names.ensures)
    (c.put_section-f.ensures _ (names-long s _) (λ b a l w. search rules))) in
    let three = puts-next _ _ two (puts-as _ _ (tokens-are h c.tokens_at.ensures c.keys-tokens.ensures)
    (c.put_section-g.ensures _ (length-map _ (field_c s)) (λ b a l w. search rules))) in
    puts-next _ _ three (puts-as _ _ (residuals-are h c.residuals_at.ensures c.keys-residuals.ensures)
    (c.put_section.ensures _ refl (λ b a l w. search rules)))
