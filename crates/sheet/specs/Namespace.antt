-- Namespaces: a Variable or a FnCall may be qualified, as `m::x` and `m::f(x)` are.
use Rattle.std.specs.Prelude.{ℕ, ◌-◌, Bool, true, false, ◌&&◌, ◌||◌, not, List, eqb}
use Rattle.sheet.specs.Kinds.{variable_kind, fn_call_kind}
use Rattle.sheet.specs.Node.{kind, namespace_word}
use Rattle.sheet.specs.Text.{text_length}

-- the kinds that may have a namespace
abbrev pub may_have : ℕ → Bool
may_have k = eqb k variable_kind || eqb k fn_call_kind

-- a namespace by its word: a text without bytes is none
unfoldable pub namespace_by : List ℕ → ℕ → ℕ
namespace_by s w =
    elim (eqb w 0) [
      | true ↦ 0
      | false ↦ elim (eqb (text_length s (w - 1)) 0) [ true ↦ 0 | false ↦ w ]
    ]

-- the namespace of node n: its text plus 1, or 0 for none
unfoldable pub namespace : List ℕ → ℕ → ℕ
namespace s n = elim (may_have (kind s n)) [ true ↦ namespace_by s (namespace_word s n) | false ↦ 0 ]

-- node n has a namespace
abbrev pub qualified : List ℕ → ℕ → Bool
qualified s n = not (eqb (namespace s n) 0)

-- node n is a Variable with a namespace
unfoldable pub qualified_variable : List ℕ → ℕ → Bool
qualified_variable s n = eqb (kind s n) variable_kind && qualified s n

-- the kind of node n as a call's receiver or a chain's root: a Variable with a namespace is a value there, as what has kind 0
unfoldable pub role : List ℕ → ℕ → ℕ
role s n = elim (qualified_variable s n) [ true ↦ 0 | false ↦ kind s n ]
