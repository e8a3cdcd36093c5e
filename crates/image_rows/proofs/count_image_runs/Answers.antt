-- `image_rows::count_image_runs` meets its contract. Invariant: the runs that end at the first q rows are counted (`Counting`).
use Rattle.std.proofs.Common.{rules}
use mathlib.Core.Path.{refl}
use native.Mathlib.Omega.{arith}
use Rattle.image_rows.proofs.RunLaws.{counting-start, counting-on, counting-done}
use Rattle.image_rows.proofs.count_image_runs.Goals as goal

pub loop-q-init : goal.loop-q-init
loop-q-init c = let a = c.args in (refl, counting-start a.image.now.words.now a.found.now a.rows.now)

pub loop-q-preserved : goal.loop-q-preserved
loop-q-preserved c =
    let a = c.args in
    let v = c.loop-q.invariant in
    let sized = a.image.now.sized in
    let test = c.loop-q-test.true in (
      search rules,
      counting-on a.image.now.words.now a.found.now _ _ _ _ _ _ _ _ _ v.1 (omega (arith, test, sized.cases, sized.ranges)) v.0
          c.row_target.ensures c.word_of-m.ensures c.run_on-run.ensures.same c.run_on-run.ensures.other refl,
    )

pub returns : goal.returns
returns c =
    let a = c.args in
    let v = c.loop-q.invariant in
    let sized = a.image.now.sized in
    λ room. counting-done a.image.now.words.now a.found.now _ _ _ _ _
    (omega (arith, room, v.0, c.loop-q.auto.q-end, c.loop-q-test.false, sized.cases, sized.ranges)) v.1 room
