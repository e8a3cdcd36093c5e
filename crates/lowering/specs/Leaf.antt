-- Nodes that become one instruction.
use Rattle.std.specs.Prelude.{ℕ, true, false, List}
use Rattle.std.proofs.Math.Option.{none, some}
use Rattle.sheet.specs.Node.{field_a, position, namespace_pos}
use Rattle.sheet.specs.Namespace.{qualified}
use Rattle.sheet.specs.Text.{text}
use Rattle.bytecode.specs.declared.Op.TheVariants.{Const, Unit, Bool, LoadLocal, LoadNamed, LoadThis}
use Rattle.lowering.specs.Code.{no_pos}
use Rattle.lowering.specs.Pools.{Pools, const_of, const_at, push_const, name, own_name, name_at, push_name}
use Rattle.lowering.specs.Out.{Out, emit_at}
use Rattle.lowering.specs.Slots.{resolve}

unfoldable pub boolean : List ℕ → ℕ → ℕ → Pools → Out
boolean s j d p = emit_at (Bool (field_a s j)) no_pos d p

unfoldable pub unit : ℕ → Pools → Out
unit d p = emit_at Unit no_pos d p

unfoldable pub constant : List ℕ → ℕ → ℕ → Pools → Out
constant s j d p = emit_at (Const (const_at s (const_of s j) p)) no_pos d (push_const s (const_of s j) p)

unfoldable pub load_named : List ℕ → ℕ → ℕ → Pools → Out
load_named s j d p = emit_at (LoadNamed (name_at s (name (field_a s j) 0) p)) (position s j) d (push_name s (name (field_a s j) 0) p)

-- a name in a namespace is no local, and is loaded at the namespace's position
unfoldable pub load_qualified : List ℕ → ℕ → ℕ → Pools → Out
load_qualified s j d p = emit_at (LoadNamed (name_at s (own_name s j 0) p)) (namespace_pos s j) d (push_name s (own_name s j 0) p)

unfoldable pub load_plain : List ℕ → ℕ → ℕ → Pools → Out
load_plain s j d p =
    elim (resolve s (text s (field_a s j))) [ some slot ↦ emit_at (LoadLocal slot) no_pos d p | none ↦ load_named s j d p ]

unfoldable pub variable : List ℕ → ℕ → ℕ → Pools → Out
variable s j d p = elim (qualified s j) [ true ↦ load_qualified s j d p | false ↦ load_plain s j d p ]

unfoldable pub this : List ℕ → ℕ → ℕ → Pools → Out
this s j d p = emit_at LoadThis (position s j) d p
