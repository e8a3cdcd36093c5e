-- Lowered from nothing, counted, and written where it fits.
use native.Mathlib.Omega.{arith}
use mathlib.Core.Path.{refl}
use Rattle.to_image.proofs.BuiltLaws.{left_out, put_in}
use Rattle.to_image.proofs.PlainLaws.{begins-in, holds-in, plain-counted, plain-wrote}
use Rattle.to_image.proofs.build_plain.Goals as goal

pub returns-then-image-n : goal.returns-then-image-n
returns-then-image-n c =
    λ R h. left_out
    (plain-counted h _ _ _ _ c.args.image.now _ _ _ R c.node_count.ensures c.start-store.result.state c.start-store.ensures.state
    (begins-in c.start-store.ensures.words c.begin.ensures) (c.expression.ensures.does _) refl
    (λ a g. c.image_len-n.ensures _ _ _ a g)) (omega arith)

pub returns : goal.returns
returns c =
    λ R h.
    let store = c.start-store in
    let begun = begins-in store.ensures.words c.begin.ensures in
    put_in (plain-counted h _ _ _ _ c.args.image.now _ _ _ R c.node_count.ensures store.result.state store.ensures.state begun
    (c.expression.ensures.does _) refl (λ a g. c.image_len-n.ensures _ _ _ a g)) (omega (arith, c.if-image-n.false))
    (plain-wrote h _ _ _ _ _ _ _ _ R c.node_count.ensures store.result.state store.ensures.state begun (c.expression.ensures.does _) refl
    (λ a g. c.image_len-n.ensures _ _ _ a g) (λ a g k. c.write.ensures _ a (holds-in c.words.ensures g) k))
