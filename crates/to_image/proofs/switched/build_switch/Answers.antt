-- `switched::build_switch` meets its contract: the scratch, the count of words, and the words where they fit.
use Rattle.to_image.proofs.BuiltLaws.{left_out, put_in}
use Rattle.to_image.proofs.WriteLaws.{words-counted}
use native.Mathlib.Omega.{arith}
use Rattle.to_image.proofs.switched.build_switch.Goals as goal

pub returns-then-image-n : goal.returns-then-image-n
returns-then-image-n c =
    λ R k T P.
    let S = c.held-store.ensures (record { ready = R; switch = k; nodes = c.node_count.ensures; tables = T; placed = P }) in
    left_out (words-counted S _ _ c.field_b.ensures c.at.ensures _ _ c.tables_len.ensures
    (λ a h. c.image_len-n.ensures _ _ _ a h)) (omega (arith, c.if-image-n.true))

pub returns : goal.returns
returns c =
    λ R k T P.
    let S = c.held-store.ensures (record { ready = R; switch = k; nodes = c.node_count.ensures; tables = T; placed = P }) in
    put_in (words-counted S _ _ c.field_b.ensures c.at.ensures _ _ c.tables_len.ensures
    (λ a h. c.image_len-n.ensures _ _ _ a h)) (omega (arith, c.if-image-n.false)) (c.write.ensures _ S)
