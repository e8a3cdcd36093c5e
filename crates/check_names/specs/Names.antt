-- Refusal 14: an own name without bytes. Said of what reads the fields of nodes and the words, and then of a sheet.
use Rattle.std.specs.Prelude.{ℕ, Bool, true, false, ◌&&◌, ◌||◌, List, ltb, eqb}
use Rattle.words.specs.Word.{word}
use Rattle.words.specs.Count.{all_below}
use Rattle.sheet.specs.Kinds.{variable_kind, property_kind, method_call_kind, fn_call_kind}
use Rattle.sheet.specs.Sections.{Words, node_count_by, local_count_by}
use Rattle.sheet.specs.Node.{Fields, kind_at, a_at, field, local_text_by}
use Rattle.sheet.specs.Text.{text_length_by}

-- the kinds with an own name, which is a: Variable, Property, MethodCall, FnCall
unfoldable pub has_name : ℕ → Bool
has_name k = eqb k variable_kind || eqb k property_kind || eqb k method_call_kind || eqb k fn_call_kind

-- text t has bytes
unfoldable pub has_bytes_by : Words → ℕ → Bool
has_bytes_by w t = ltb 0 (text_length_by w t)

-- the own name of node n has bytes, if it has one
unfoldable pub node_name_by : Fields → Words → ℕ → Bool
node_name_by g w n = let v = g n in elim (has_name (v kind_at)) [ true ↦ has_bytes_by w (v a_at) | false ↦ true ]

-- the name of local l has bytes
unfoldable pub local_name_by : Words → ℕ → Bool
local_name_by w l = has_bytes_by w (local_text_by w l)

-- those of all nodes
unfoldable pub node_names_by : Fields → Words → Bool
node_names_by g w = all_below (node_count_by w) (node_name_by g w)

-- those of all locals
unfoldable pub local_names_by : Words → Bool
local_names_by w = all_below (local_count_by w) (local_name_by w)

-- nothing of refusal 14
unfoldable pub names_by : Fields → Words → Bool
names_by g w = node_names_by g w && local_names_by w

-- ---- of a sheet

-- text t has bytes
abbrev pub has_bytes : List ℕ → ℕ → Bool
has_bytes s = has_bytes_by (word s)

-- the own name of node n has bytes, if it has one
abbrev pub node_name_ok : List ℕ → ℕ → Bool
node_name_ok s = node_name_by (field s) (word s)

-- the name of local l has bytes
abbrev pub local_name_ok : List ℕ → ℕ → Bool
local_name_ok s = local_name_by (word s)

-- the own names of all nodes have bytes
abbrev pub node_names_ok : List ℕ → Bool
node_names_ok s = node_names_by (field s) (word s)

-- the names of all locals have bytes
abbrev pub local_names_ok : List ℕ → Bool
local_names_ok s = local_names_by (word s)

-- nothing of refusal 14
abbrev pub names_ok : List ℕ → Bool
names_ok s = names_by (field s) (word s)
