-- Pool entries by keys. The key of a constant, of a token and of a chain is the node that it was first met at. The key of a name is
-- 3 · j for field a of node j, 3 · v + 1 for the getter (field b) of Property v, and 3 · c + 2 for the setter (field c) of the
-- Property that link c is taken with.
use Rattle.std.specs.Prelude.{ℕ, ◌+◌, ◌*◌, ◌/◌, ◌%◌, Bool, true, false, ◌&&◌, not, List, ◌++◌, eqb, replicate}
use Rattle.sheet.specs.Node.{kind, field_a, field_b, field_c}
use Rattle.sheet.specs.Namespace.{namespace}
use Rattle.lowering.specs.Limits.{names_per_node}
use Rattle.lowering.specs.Pools.{Name, bang}
use Rattle.lowering.specs.Call.{stores_token}
use Rattle.lowering.specs.Flatten.{operand_of}

abbrev pub call_kind : ℕ
call_kind = 13

-- the key of field f of node j
abbrev pub key_of : ℕ → ℕ → ℕ
key_of j f = names_per_node * j + f

-- and what a key is of
abbrev pub key_node : ℕ → ℕ
key_node k = k / names_per_node

abbrev pub key_field : ℕ → ℕ
key_field k = k % names_per_node

-- the text of a name by field and node
unfoldable pub field_of : List ℕ → ℕ → ℕ → ℕ
field_of s f j =
    elim (eqb f 0) [
      | true ↦ field_a s j
      | false ↦ elim (eqb f 1) [ true ↦ field_b s j | false ↦ field_c s (operand_of s j) ]
    ]

-- `!` is added to a call that captures and stores no token
unfoldable pub is_marked : List ℕ → ℕ → ℕ → Bool
is_marked s j f = eqb f 0 && eqb (kind s j) call_kind && not (stores_token s j) && eqb (field_b s j) 1

unfoldable pub mark_by : Bool → ℕ
mark_by true = 1
mark_by false = 0

unfoldable pub mark_of : List ℕ → ℕ → ℕ → ℕ
mark_of s j f = mark_by (is_marked s j f)

-- only a node's own name has a namespace
unfoldable pub namespace_of : List ℕ → ℕ → ℕ → ℕ
namespace_of s j f = elim (eqb f 0) [ true ↦ namespace s j | false ↦ 0 ]

-- the name with key k
unfoldable pub name_of : List ℕ → ℕ → Name
name_of s k =
    record {
      text = field_of s (key_field k) (key_node k);
      mark = mark_of s (key_node k) (key_field k);
      namespace = namespace_of s (key_node k) (key_field k);
    }

-- bytes with `!` added or not
unfoldable pub marked : List ℕ → Bool → List ℕ
marked x m = x ++ replicate (mark_by m) bang
