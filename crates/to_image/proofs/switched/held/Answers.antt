-- `switched::held` meets its contract: the Switch, then the constants of its Cases.
use mathlib.Core.Path.{refl}
use native.Mathlib.Omega.{arith}
use Rattle.to_image.proofs.PlainLaws.{begins-in}
use Rattle.to_image.proofs.HeldLaws.{settled}
use Rattle.to_image.proofs.switched.held.Goals as goal

pub returns : goal.returns
returns c =
    λ P. settled _ _ _ _ _ _ c.start-store.result.state _ _ _ _ _ P c.start-store.ensures.state
    (begins-in c.start-store.ensures.words c.begin.ensures) (c.switch.ensures.does _) (c.case_consts.ensures.does _)
    (λ a C h. c.case_consts.ensures.consts _ a C (omega arith) h) c.case_consts.ensures.within refl
