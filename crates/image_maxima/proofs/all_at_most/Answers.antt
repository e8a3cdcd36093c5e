-- `image_maxima::all_at_most` meets its contract. Invariant: words l to r - 1 are at most x just where the leaves asked for are.
use Prim.Native.Nat.{◌-◌}
use native.Mathlib.Omega.{arith}
use Rattle.image_maxima.proofs.LevelLaws.{level-first, level-above, level-fails, level-empty, no-leaves}
use Rattle.image_maxima.proofs.all_at_most.Goals as goal

pub returns-then-size-b : goal.returns-then-size-b
returns-then-size-b c = λ T h. absurd (omega arith)

pub returns-then-b-a : goal.returns-then-b-a
returns-then-b-a c = λ T h. no-leaves _ _ _ _ _ c.if-b-a.true

pub loop-l-init : goal.loop-l-init
loop-l-init c = (omega arith, λ T. level-first _ _ _ _ _ (omega arith) (omega arith))

pub returns-then-x-t : goal.returns-then-x-t
returns-then-x-t c =
    let loop = c.loop-l in
    λ T h. level-fails _ _ (loop.invariant.1 T) loop.l (omega arith) (omega arith) c.if-x-t.true

pub returns-then-x-t-2 : goal.returns-then-x-t-2
returns-then-x-t-2 c =
    let loop = c.loop-l in
    λ T h. level-fails _ _ (loop.invariant.1 T) (loop.r - 1) (omega arith) (omega arith) c.if-x-t-2.true

pub loop-l-preserved : goal.loop-l-preserved
loop-l-preserved c =
    let loop = c.loop-l in
    (omega arith, λ T. level-above T (loop.invariant.1 T) (omega (arith, c.if-x-t.false)) (omega (arith, c.if-x-t-2.false)))

pub returns : goal.returns
returns c = λ T h. level-empty _ _ (c.loop-l.invariant.1 T) (omega (arith, c.loop-l-test.false))
