-- `write_front::image_len` meets its contract.
use Prim.Native.Nat.{◌+◌}
use mathlib.Core.Path.{ap}
use Rattle.write_front.proofs.FrontLaws.{front_length}
use Rattle.write_front.proofs.image_len.Goals as goal

pub returns : goal.returns
returns c =
    let a = c.args in
    λ s l xs m h sw ca ra. ap (λ n. n + a.tables) (front_length h sw ca ra)
