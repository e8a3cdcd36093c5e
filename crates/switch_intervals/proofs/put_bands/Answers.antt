-- `switch_intervals::put_bands` meets its contract. The invariant is `OpenJoins`: the bands that end before the
-- piece are there, with their hashes.
use mathlib.Core.Path.{refl}
use native.Mathlib.Omega.{arith}
use Rattle.switch_intervals.proofs.JoiningLaws.{closed-most, open-start, open-step, open-still, open-before, open-end}
use Rattle.switch_intervals.proofs.put_bands.Goals as goal
use Rattle.switch_intervals.proofs.put_bands.Goals.{then-mark-eq1, else-mark-eq1}

pub loop-i-init : goal.loop-i-init
loop-i-init c = open-start _ _ _ c.requires

pub changed-o-requires : goal.changed-o-requires
changed-o-requires c =
    let a = c.loop-i.invariant in
    record {
      behind = a.joins.few;
      before = a.before;
      i_lt_max_bands = omega (arith, a.joins.most, c.loop-i-test.true);
    }

pub loop-i-preserved : goal.loop-i-preserved
loop-i-preserved c =
    elim c.if-mark-eq1.branch [
      | then-mark-eq1 w ↦
          let put = w.changed-o.ensures in
          rw (w.table-is, w.o-is)
          (open-step _ _ _ _ _ _ _ c.loop-i.invariant _ _ _ c.loop-i-test.true put.bands_bound put.after put.fact)
      | else-mark-eq1 w ↦
          rw (w.table-is, w.o-is) (open-still _ _ _ _ _ _ _ c.loop-i.invariant _ c.loop-i-test.true refl w.if-mark-eq1.false)
    ]

pub closed-k-requires : goal.closed-k-requires
closed-k-requires c =
    let a = c.loop-i.invariant in
    record {
      i_le_max_bands = c.requires;
      before = open-before _ _ _ _ _ _ _ a c.loop-i-test.false;
    }

pub overflow_cast-k : goal.overflow_cast-k
overflow_cast-k c =
    let a = c.loop-i.invariant.joins in
    omega (arith, closed-most _ _ _ _ c.closed-k.ensures.value, a.few, a.within, a.most)

pub returns : goal.returns
returns c =
    let closed = c.closed-k.ensures in
    open-end _ _ _ _ _ _ _ c.loop-i.invariant _ _ _ c.loop-i-test.false closed.value closed.table_after c.put.ensures c.args.table.now.whole refl
