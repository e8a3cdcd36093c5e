-- `image_depths::mark_all` meets its contract. Invariant: the places below p have handed on their marks (`Held`).
use Prim.Native.Nat.{◌<◌}
use mathlib.Core.Path.{refl, ◌∙◌}
use native.Mathlib.Omega.{arith}
use Rattle.lowering.specs.Words.{instructions}
use Rattle.image_depths.proofs.MarkLaws.{held_start, held_on, held-deep, held-done, pooled-at}
use Rattle.image_depths.proofs.mark_all.Goals as goal

pub loop-p-init : goal.loop-p-init
loop-p-init c =
    let same = c.come.auto.found ∙ c.zero.auto.out in (
      refl,
      refl,
      λ N R room.
          held_start c.args.image.now.words.now _ _ _ _ _ c.zero.ensures.is c.zero-2.ensures.is c.come.ensures (omega (arith, room, same)),
    )

pub loop-p-preserved : goal.loop-p-preserved
loop-p-preserved c =
    let image = c.args.image.now in
    let v = c.loop-p.invariant in (
      c.pass.auto.found ∙ v.0,
      c.pass.auto.rows ∙ v.1,
      λ N R room.
          held_on image.words.now _ _ _ _ _ _ (v.2 N R room)
          (c.pass.ensures (pooled-at image.words.now _ N R (omega (arith, c.loop-p-test.true, image.sized.places)))) c.if-not-pass.false,
    )

pub returns-then-not-pass : goal.returns-then-not-pass
returns-then-not-pass c =
    let image = c.args.image.now in
    let same = c.come.auto.found ∙ c.zero.auto.out in
    λ N R room.
    let inside : c.loop-p.p < instructions image.words.now = omega (arith, c.loop-p-test.true, image.sized.places) in
    held-deep image.words.now _ _ _ _ _ _ _ inside (c.loop-p.invariant.2 N R (omega (arith, room, same)))
    (c.pass.ensures (pooled-at image.words.now _ N R inside)) c.if-not-pass.true

pub returns : goal.returns
returns c =
    let image = c.args.image.now in
    let same = c.come.auto.found ∙ c.zero.auto.out in
    λ N R room.
    held-done image.words.now _ _ _ (omega (arith, c.loop-p.auto.p-end, c.loop-p-test.false, image.sized.places))
    (c.loop-p.invariant.2 N R (omega (arith, room, same)))
