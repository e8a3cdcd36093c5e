-- `scratch_locals::Pass::settle_all` meets its contract: each turn is a law.
use Rattle.std.proofs.Common.{◌≡◌, ℕ, refl, ◌∙◌, subst, arith}
use Rattle.scratch_locals.specs.Pass.{Settling}
use Rattle.scratch_locals.proofs.Pass.settle_all.Goals as goal

pub loop-j-init : goal.loop-j-init
loop-j-init c = (refl, λ h. h)

pub loop-j-preserved : goal.loop-j-preserved
loop-j-preserved c =
    let w = c.loop-j in (
      c.settle.auto.scratch ∙ w.invariant.0,
      λ h. c.settle.ensures.settled (omega arith) (w.invariant.1 h),
    )

pub shape_of-scratch : goal.shape_of-scratch
shape_of-scratch c = c.loop-j.invariant.0

pub returns : goal.returns
returns c =
    let a = c.args in
    let w = c.loop-j in
    let e : w.j ≡ a.self.layout.nodes = omega arith in
    λ h. subst (λ (i : ℕ). Settling a.self.sheet.now a.self.layout i w.scratch) e (w.invariant.1 h)
