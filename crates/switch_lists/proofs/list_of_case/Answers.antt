-- `switch_lists::list_of_case` meets its contract. The invariant is `Reading`: the blocks of the Refs passed are there.
use Prim.Native.Nat.{◌-◌}
use mathlib.Core.Path.{ap, sym, ◌∙◌}
use native.Mathlib.Omega.{arith}
use lib.ListN.{length}
use lib.Seq.{length-take-le}
use Rattle.sheet.specs.Node.{count}
use Rattle.lowering.specs.SwitchSheet.{case_blocks}
use Rattle.switch_tables.proofs.NodesLaws.{blocks_from}
use Rattle.switch_lists.proofs.ReadLaws.{rest-is, reading-start, reading-on, reading-end}
use Rattle.switch_lists.proofs.list_of_case.Goals as goal

pub loop-i-init : goal.loop-i-init
loop-i-init c =
    let gives = c.into_iter-i-iterator.ensures.into_iter_gives in
    let made = c.enumerate-i-items.ensures in
    let refs = c.new-refs.ensures in
    reading-start _ _ _ _ _ _ _ (rest-is (ap (λ e. e.iter) gives ∙ made.source) refs.sheet refs.left refs.at)
    (omega (arith, c.ref_count-n.ensures)) (ap (λ e. e.count) gives ∙ made.count)

pub loop-i-preserved : goal.loop-i-preserved
loop-i-preserved c =
    let steps = c.in-Some.ensures.steps in
    reading-on _ _ _ _ _ _ c.loop-i.invariant _ _ _ _ _ _ steps.0 steps.1 steps.2 c.field_a.ensures c.put.ensures

pub returns-clause-listed : goal.returns-clause-listed
returns-clause-listed c = λ wide.
    let a = c.args in
    let refs = c.new-refs.ensures in
    let read = c.loop-i.invariant in
    let rest = rest-is (ap (λ e. e.iter) c.into_iter-i-iterator.ensures.into_iter_gives ∙ c.enumerate-i-items.ensures.source) refs.sheet refs.left refs.at in
    let items = reading-end _ _ _ _ _ _ read a.sheet.now _ _ (count a.sheet.now a.c - 1) (case_blocks a.sheet.now a.c)
    c.in-None.ensures.steps.0.0 rest c.ref_count-n.ensures (blocks_from a.sheet.now a.c c.child.ensures c.next.ensures) _
    (omega (arith, read.same, c.ref_count-n.ensures)) wide in
    record {
      items = items;
      count = sym (length-take-le _ _ (omega (arith, read.same, c.ref_count-n.ensures))) ∙ ap length items;
    }
