-- `write_sections::put` meets its contract: a part is copied.
use Prim.Native.Nat.{ℕ, ◌+◌, ◌-◌}
use mathlib.Core.Path.{◌≡◌, ap₂}
use mathlib.Core.List.{List}
use Rattle.write_sections.specs.Put.{put_part}
use native.Mathlib.Omega.{arith}
use Rattle.write_sections.proofs.put.Goals as goal

pub returns : goal.returns
returns g c =
    let a = c.args in
    let n = g.row.N in
    let wide : a.at + n - a.at ≡ n = omega arith in
    ap₂ (λ (k : ℕ) (ys : List ℕ). put_part a.out.now a.at k ys) wide c.copy.ensures
