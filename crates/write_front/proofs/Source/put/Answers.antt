-- `write_front::Source::put` meets its contract: one part behind the other, by the layout beside the counts.
use Rattle.std.proofs.Common.{rules}
use Rattle.scratch_store.proofs.DoesLaws.{laid-is}
use Rattle.scratch_store.specs.Holds.{Holds}
use Rattle.write_front.proofs.PutsLaws.{puts-as, puts-next}
use Rattle.write_front.specs.Front.{front_sizes, chains_part}
use Rattle.write_front.proofs.FrontFacts.{sizes-length, front-parts}
use Rattle.scratch.specs.declared.Layout.{Layout}
use lib.ListN.{length}
use mathlib.Core.Path.{sym, ap, subst, ◌∙◌}
use Rattle.write_front.proofs.Source.put.Goals as goal

pub returns : goal.returns
unfolding chains_part
returns c =
    let it = c.args.self.now in
    let t = c.args.tables in
    λ l m g.
    let h = subst (λ (k : Layout). Holds it.sheet.now k it.scratch.now it.state m) (sym (laid-is g)) g in
    let z = c.sizes-n.ensures m h in
    let one = puts-as _ (front_sizes m t.switches t.cases t.ranges) z
    (c.put_section-e.ensures _ (ap length z ∙ sizes-length m t.switches t.cases t.ranges) (λ b a l w. search rules)) in
    let two = puts-next _ _ one (c.put_code-f.ensures m h) in
    let three = puts-next _ _ two (c.put_pools-g.ensures m h) in
    puts-as _ _ (front-parts m t.switches t.cases t.ranges)
    (puts-next _ _ three (puts-next _ _ (c.put_chains-h.ensures m h) (c.put_steps.ensures m h)))
