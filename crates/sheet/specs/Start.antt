-- The start position of a node: for Dot, Index, And, Or and Coalesce that of the first child, for a Variable with a namespace the
-- namespace's, for any other node its own.
use Rattle.std.specs.Prelude.{ℕ, zero, suc, Bool, true, false, ◌&&◌, List, nat_le}
use Rattle.sheet.specs.Kinds.{dot_kind, coalesce_kind}
use Rattle.sheet.specs.Sections.{node_count}
use Rattle.sheet.specs.Node.{kind, position, child, namespace_pos}
use Rattle.sheet.specs.Namespace.{qualified_variable}

-- kinds Dot to Coalesce start where their first child does
abbrev pub starts_inside : ℕ → Bool
starts_inside k = nat_le dot_kind k && nat_le k coalesce_kind

-- where a node starts that starts with itself
unfoldable pub own_start : List ℕ → ℕ → ℕ
own_start s n = elim (qualified_variable s n) [ true ↦ namespace_pos s n | false ↦ position s n ]

-- the start position of n, going down through at most `left` first children
unfoldable pub start_within : ℕ → List ℕ → ℕ → ℕ
start_within zero s n = own_start s n
start_within (suc left) s n = elim (starts_inside (kind s n)) [ true ↦ start_within left s (child n) | false ↦ own_start s n ]

-- the start position of n
unfoldable pub start_of : List ℕ → ℕ → ℕ
start_of s n = start_within (node_count s) s n
