-- Dot and Index: a chain, read. A failed chain becomes a residual; its code is taken back, its pools stay.
use Rattle.std.specs.Prelude.{ℕ, ◌+◌, true, false, List, [], ◌∷◌, ◌++◌, eqb, length}
use Rattle.std.proofs.Math.Option.{none, some}
use Rattle.sheet.specs.Node.{field_a, position, child}
use Rattle.sheet.specs.Text.{text}
use Rattle.sheet.specs.Namespace.{role}
use Rattle.bytecode.specs.declared.Root.{Root}
use Rattle.bytecode.specs.declared.Root.TheVariants.{Local, Named, This, Temporary}
use Rattle.bytecode.specs.declared.Op.TheVariants.{Chain}
use Rattle.lowering.specs.Limits.{max_levels}
use Rattle.lowering.specs.Kinds.{variable_kind, this_kind}
use Rattle.lowering.specs.Code.{ins}
use Rattle.lowering.specs.Pools.{Pools, emits, name, name_at, push_name, chain_at, push_chain}
use Rattle.lowering.specs.Out.{Out, out, Rec, residual_expr}
use Rattle.lowering.specs.Slots.{resolve}
use Rattle.lowering.specs.Flatten.{links, flattens}
use Rattle.lowering.specs.Steps.{steps, Walked, walked, stopped}

unfoldable pub variable_root : List ℕ → ℕ → Pools → Root
variable_root s v p =
    let i = name_at s (name (field_a s v) 0) p in
    elim (resolve s (text s (field_a s v))) [ some slot ↦ Local slot i | none ↦ Named i (position s v) ]

-- node v as a chain's root; a variable with a namespace is a value
unfoldable pub root_of : List ℕ → ℕ → Pools → Root
root_of s v p =
    elim (eqb (role s v) variable_kind) [
      | true ↦ variable_root s v p
      | false ↦ elim (eqb (role s v) this_kind) [ true ↦ This (position s v) | false ↦ Temporary ]
    ]

-- a variable's name is pooled before the steps
unfoldable pub root_pools : List ℕ → ℕ → Pools → Pools
root_pools s v p = elim (eqb (role s v) variable_kind) [ true ↦ push_name s (name (field_a s v) 0) p | false ↦ p ]

-- 1 for a root that is taken off the stack
unfoldable pub on_stack : Root → ℕ
on_stack (Local slot i) = 0
on_stack (Named i pos) = 0
on_stack (This pos) = 0
on_stack Temporary = 1

-- such a root is lowered after the steps' operands
unfoldable pub root_code : Rec → Root → ℕ → ℕ → ℕ → Pools → Out
root_code rec (Local slot i) v b d p = out [] p
root_code rec (Named i pos) v b d p = out [] p
root_code rec (This pos) v b d p = out [] p
root_code rec Temporary v b d p = rec v b d p

-- the root behind the steps' code, and the chain instruction; a residual where the walk stopped
unfoldable pub chain_of : List ℕ → Rec → Root → ℕ → ℕ → ℕ → Walked → Out
chain_of s rec root j b d (walked code xs n p) =
    let o = root_code rec root (child j) (b + length code) (d + n) p in
    let i = chain_at root xs n o.pools in
    let last = ins (Chain i) (d + n + on_stack root) (position s j) in
    out (code ++ o.code ++ (last ∷ [])) (emits 1 (push_chain root xs n o.pools))
chain_of s rec root j b d (stopped p) = residual_expr j d p

unfoldable pub chain : List ℕ → Rec → ℕ → ℕ → ℕ → Pools → Out
chain s rec j b d p =
    let ls = links max_levels s j in
    elim (flattens s ls) [
      | true ↦ chain_of s rec (root_of s (child j) p) j b d (steps s rec ls 0 b d (root_pools s (child j) p))
      | false ↦ residual_expr j d p
    ]
