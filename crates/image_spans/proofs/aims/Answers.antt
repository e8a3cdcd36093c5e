-- `image_spans::aims` meets its contract.
use native.Mathlib.Omega.{arith}
use Rattle.image_spans.proofs.FlowLaws.{aims-on, aims-at, aims-by}
use Rattle.image_spans.proofs.aims.Goals as goal

pub returns-in-On : goal.returns-in-On
returns-in-On c =
    let a = c.args in
    λ T h. aims-on a.image.now.words.now a.p _ _ c.kind_at.ensures c.effect_of.ensures.flow c.in-On.is

pub returns-in-Jump : goal.returns-in-Jump
returns-in-Jump c =
    let a = c.args in
    λ T h. aims-at a.image.now.words.now a.p _ _ c.kind_at.ensures c.effect_of.ensures.flow _ _ c.in-Jump.is c.a_at-a.ensures
    a.image.now.sized.places

pub returns-in-Table : goal.returns-in-Table
returns-in-Table c =
    let a = c.args in
    λ T h. aims-by a.image.now.words.now a.p _ _ c.kind_at.ensures c.effect_of.ensures.flow _ _ c.in-Table.is c.a_at-a.ensures
    (omega (arith, h, a.image.now.sized.places)) h c.table_aims.ensures T
