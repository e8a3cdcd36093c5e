-- `scratch_locals::Pass::tell_all` meets its contract: each turn is a law.
use Rattle.std.proofs.Common.{◌≡◌, ℕ, refl, ◌∙◌, subst, arith}
use Rattle.sheet.specs.Sections.{local_count}
use Rattle.scratch_locals.specs.Pass.{Telling}
use Rattle.scratch_locals.proofs.Pass.tell_all.Goals as goal

pub loop-k-init : goal.loop-k-init
loop-k-init c = (refl, λ h. h)

pub loop-k-preserved : goal.loop-k-preserved
loop-k-preserved c =
    let w = c.loop-k in (
      c.tell.auto.scratch ∙ w.invariant.0,
      λ h. (c.tell.ensures c.args.n).told (omega arith) (w.invariant.1 h),
    )

pub shape_of-scratch : goal.shape_of-scratch
shape_of-scratch c = c.loop-k.invariant.0

pub returns : goal.returns
returns c =
    let a = c.args in
    let w = c.loop-k in
    let n = c.local_count-m.ensures in
    let e : w.k ≡ local_count a.self.sheet.now = omega arith in
    λ h. subst (λ (i : ℕ). Telling a.self.sheet.now a.self.layout a.n i w.scratch) e (w.invariant.1 h)
