-- `write_front::Source::keys` meets its contract.
use native.Mathlib.Omega.{arith}
use mathlib.Core.Path.{ap, ◌∙◌}
use Rattle.write_front.proofs.RoomLaws.{got}
use Rattle.write_front.proofs.Source.keys.Goals as goal

pub returns : goal.returns
returns c =
    let a = c.args in
    λ room. ap (λ r. r.now) c.unwrap_or.ensures
    ∙ got _ a.b a.n _ _ _ room (omega (arith, room, c.saturating_add.ensures, c.well_formed)) c.get.ensures.lookup
