-- The keys in use, by the kind of their node. No two of them have the same slot.
use Rattle.std.specs.Prelude.{ℕ, ◌*◌, ◌<◌, ◌≤◌, ◌≡◌, List}
use Rattle.sheet.specs.Sections.{node_count}
use Rattle.sheet.specs.Node.{kind}
use Rattle.lowering.specs.Limits.{names_per_node}
use Rattle.lowering.specs.Kinds.{string_kind, dot_kind, index_kind, property_kind}
use Rattle.scratch_keys.specs.Keys.{key_node, key_field, call_kind}

pub record ConstKey (s : List ℕ) (j : ℕ) : Type 0 where
  pub below : j < node_count s
  pub value : kind s j ≤ string_kind

pub record TokenKey (s : List ℕ) (j : ℕ) : Type 0 where
  pub below : j < node_count s
  pub call : kind s j ≡ call_kind

pub record ChainKey (s : List ℕ) (j : ℕ) : Type 0 where
  pub below : j < node_count s
  pub from : dot_kind ≤ kind s j
  pub to : kind s j ≤ index_kind

-- field a of a node that is no link; the getter of a Property; the setter that a Dot is taken with
pub record NameKey (s : List ℕ) (k : ℕ) : Type 0 where
  pub below : k < names_per_node * node_count s
  pub own : key_field k ≡ 0 → kind s (key_node k) < dot_kind
  pub getter : key_field k ≡ 1 → kind s (key_node k) ≡ property_kind
  pub setter : key_field k ≡ 2 → kind s (key_node k) ≡ dot_kind
