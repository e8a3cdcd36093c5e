-- Nodes that become one instruction: each pushes one value.
use Prim.Native.Nat.{ℕ, suc}
use mathlib.Core.Path.{◌≡◌, refl}
use mathlib.Core.Option.{Option, none, some}
use mathlib.Core.Bool.{Bool as Truth, true, false}
use mathlib.Core.List.{List}
use lib.ListN.{length}
use native.Mathlib.Omega.{arith}
use Rattle.sheet.specs.Node.{field_a, position}
use Rattle.sheet.specs.Text.{text}
use Rattle.sheet.specs.Namespace.{qualified}
use Rattle.bytecode.specs.declared.Op.TheVariants.{Const, Unit, Bool, LoadLocal, LoadNamed, LoadThis, EvalAst}
use Rattle.lowering.specs.Code.{ins, no_pos}
use Rattle.lowering.specs.Pools.{Pools, emits, const_of, const_at, push_const, name, own_name, name_at, push_name, push_residual}
use Rattle.lowering.specs.Out.{Out, emit_at, residual_expr}
use Rattle.lowering.specs.Slots.{resolve}
use Rattle.lowering.specs.Leaf.{boolean, unit, constant, load_named, load_qualified, load_plain, variable, this}
use Rattle.lowering.proofs.Lowers.{Done, lowers-one}

-- a node kept as it is
pub residual-done : (j b d : ℕ) (p : Pools) → Done p b d (suc d) (residual_expr j d p)
unfolding residual_expr emit_at emits push_residual
residual-done j b d p = lowers-one (ins (EvalAst (length p.residuals)) d no_pos) refl (λ X A N q g end le. omega arith)

pub unit-done : (b d : ℕ) (p : Pools) → Done p b d (suc d) (unit d p)
unfolding unit emit_at emits
unit-done b d p = lowers-one (ins Unit d no_pos) refl (λ X A N q g end le. omega arith)

module _ (s : List ℕ) (j b d : ℕ) (p : Pools) where
  pub boolean-done : Done p b d (suc d) (boolean s j d p)
  unfolding boolean emit_at emits
  boolean-done = lowers-one (ins (Bool (field_a s j)) d no_pos) refl (λ X A N q g end le. omega arith)

  pub constant-done : Done p b d (suc d) (constant s j d p)
  unfolding constant emit_at emits push_const
  constant-done = lowers-one (ins (Const (const_at s (const_of s j) p)) d no_pos) refl (λ X A N q g end le. omega arith)

  pub this-done : Done p b d (suc d) (this s j d p)
  unfolding this emit_at emits
  this-done = lowers-one (ins LoadThis d (position s j)) refl (λ X A N q g end le. omega arith)

  load_named-done : Done p b d (suc d) (load_named s j d p)
  unfolding load_named emit_at emits push_name
  load_named-done =
      lowers-one (ins (LoadNamed (name_at s (name (field_a s j) 0) p)) d (position s j)) refl (λ X A N q g end le. omega arith)

  load_local-done : (slot : ℕ) → Done p b d (suc d) (emit_at (LoadLocal slot) no_pos d p)
  unfolding emit_at emits
  load_local-done slot = lowers-one (ins (LoadLocal slot) d no_pos) refl (λ X A N q g end le. omega arith)

  load_qualified-done : Done p b d (suc d) (load_qualified s j d p)
  unfolding load_qualified emit_at emits push_name
  load_qualified-done =
      lowers-one (ins (LoadNamed (name_at s (own_name s j 0) p)) d _) refl (λ X A N q g end le. omega arith)

  load_plain-done : Done p b d (suc d) (load_plain s j d p)
  unfolding load_plain
  load_plain-done = by (resolve s (text s (field_a s j))) refl
    where
      by : (r : Option ℕ) → resolve s (text s (field_a s j)) ≡ r → Done p b d (suc d) (load_plain s j d p)
      by none h = rw (h, load_plain) load_named-done
      by (some slot) h = rw (h, load_plain) (load_local-done slot)

  pub variable-done : Done p b d (suc d) (variable s j d p)
  unfolding variable
  variable-done =
      let loaded : Truth → Out = λ t. elim t [ true ↦ load_qualified s j d p | false ↦ load_plain s j d p ] in
      elim (qualified s j) as (λ t. Done p b d (suc d) (loaded t)) [
        | true ↦ load_qualified-done
        | false ↦ load_plain-done
      ]
