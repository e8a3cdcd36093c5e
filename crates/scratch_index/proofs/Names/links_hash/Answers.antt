-- `scratch_index::Names::links_hash` meets its contract. Invariant: the links left, from the hash of those passed on, give the hash of all.
use Rattle.std.proofs.Common.{ap, ◌∙◌}
use Rattle.expr_rules.specs.Links.{links_left}
use Rattle.expr_rules.proofs.LinksLaws.{links-begin, links-turn, links-over}
use Rattle.scratch_index.proofs.ChainWalkLaws.{walk-starts, walk-goes, walk_ends}
use Rattle.scratch_index.proofs.Names.links_hash.Goals as goal

pub loop-p-init : goal.loop-p-init
loop-p-init c =
    let it = c.args.self.now in
    walk-starts it.sheet.now it.layout it.count it.scratch.now
    (links-begin (ap links_left c.into_iter-p-iterator.ensures.into_iter_gives ∙ c.links_of-p-items.ensures))

pub loop-p-preserved : goal.loop-p-preserved
loop-p-preserved c =
    let it = c.args.self.now in
    let k = c.loop-p.invariant in
    let u = links-turn c.next.new.self k.left c.in-Some.ensures.steps in
    walk-goes it.sheet.now it.layout it.count it.scratch.now k u (c.link_hash-h.ensures u.says)

pub returns : goal.returns
returns c =
    let it = c.args.self.now in
    walk_ends it.sheet.now it.layout it.count it.scratch.now c.loop-p.invariant (links-over c.loop-p.p-iterator c.in-None.ensures.steps.0)
