-- `switch_places::guards::guards` meets its contract. The invariant is `Filled`: the guards of the blocks passed are there.
use mathlib.Core.Path.{subst}
use native.Mathlib.Omega.{arith}
use Rattle.switch_places.proofs.GuardLaws.{Filled, filled_none, filled_on, first-guard, next-guard, behind-guards}
use Rattle.switch_places.proofs.guards.guards.Goals as goal

pub loop-k-init : goal.loop-k-init
loop-k-init c = (first-guard _ c.child.ensures c.next-j.ensures, filled_none _ _ _)

pub put_guard-requires : goal.put_guard-requires
put_guard-requires c = omega (arith, c.loop-k-test.true, c.min-n.ensures)

pub loop-k-preserved : goal.loop-k-preserved
loop-k-preserved c =
    let v = c.loop-k.invariant in (
      next-guard _ _ v.0 c.next.ensures c.next-j-in-loop-k.ensures,
      filled_on _ _ _ _ _ _ _ v.1 c.loop-k.table.whole (omega (arith, c.loop-k-test.true, c.min-n.ensures)) v.0 c.put_guard.ensures,
    )

pub returns : goal.returns
returns c =
    let v = c.loop-k.invariant in
    let n = c.min-n.ensures in
    let m = c.field_a.ensures in
    let l = c.loop-k-test.false in
    let all = subst (Filled _ _ _ _) (omega (arith, l, n, m)) v.1 in
    record { behind = λ few. behind-guards _ v.0 (omega (arith, l, n, m, few)); guards = all.0; within = all.1 }
