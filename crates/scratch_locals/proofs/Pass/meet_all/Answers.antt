-- `scratch_locals::Pass::meet_all` meets its contract: each turn is a law.
use Rattle.std.proofs.Common.{◌≡◌, ℕ, refl, ◌∙◌, subst, arith}
use Rattle.scratch_locals.specs.Pass.{Met}
use Rattle.scratch_locals.proofs.Pass.meet_all.Goals as goal

pub loop-j-init : goal.loop-j-init
loop-j-init c = (refl, λ h. h)

pub loop-j-preserved : goal.loop-j-preserved
loop-j-preserved c =
    let w = c.loop-j in (
      c.meet-n.auto.scratch ∙ w.invariant.0,
      λ h. c.meet-n.ensures.met (omega arith) (w.invariant.1 h),
    )

pub shape_of-scratch : goal.shape_of-scratch
shape_of-scratch c = c.loop-j.invariant.0

pub returns : goal.returns
returns c =
    let a = c.args in
    let w = c.loop-j in
    let e : w.j ≡ a.self.layout.nodes = omega arith in
    λ h. subst (λ (i : ℕ). Met a.self.sheet.now a.self.layout i w.n w.scratch) e (w.invariant.1 h)
