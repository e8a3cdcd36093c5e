-- A node whose own name is pooled without a mark.
use Rattle.std.specs.Prelude.{◌≡◌, ℕ, List}
use Rattle.sheet.specs.Node.{field_a}
use Rattle.lowering.specs.Pools.{name, own_name}
use Rattle.scratch_keys.specs.Keys.{key_of, name_of}

-- in its namespace, if it has one
abbrev pub Unmarked : List ℕ → ℕ → Type 0
Unmarked s j = name_of s (key_of j 0) ≡ own_name s j 0

-- without one
abbrev pub Plain : List ℕ → ℕ → Type 0
Plain s j = name_of s (key_of j 0) ≡ name (field_a s j) 0
