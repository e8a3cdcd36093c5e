-- A name with `!` behind its bytes.
use Rattle.std.specs.Prelude.{ℕ, List, [], ◌∷◌, ◌++◌}
use Rattle.lowering.specs.Pools.{bang}

abbrev pub with_bang : List ℕ → List ℕ
with_bang x = x ++ (bang ∷ [])
