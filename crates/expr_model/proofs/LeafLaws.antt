-- Nodes that become one instruction: the change is what the definition gives.
use Prim.Native.Nat.{ℕ, suc}
use mathlib.Core.Path.{◌≡◌, refl}
use mathlib.Core.Bool.{Bool, true, false}
use mathlib.Core.Option.{Option, none, some}
use mathlib.Core.List.{List}
use lib.ListN.{length}
use Rattle.sheet.specs.Node.{field_a, position, namespace_pos}
use Rattle.sheet.specs.Text.{text}
use Rattle.sheet.specs.Namespace.{qualified}
use Rattle.bytecode.specs.declared.Op.{Op}
use Rattle.bytecode.specs.declared.Op.TheVariants.{LoadLocal}
use Rattle.lowering.specs.Code.{no_pos}
use Rattle.lowering.specs.Pools.{name, own_name, name_at, const_of, const_at}
use Rattle.lowering.specs.Out.{emit_at, residual_expr}
use Rattle.lowering.specs.Slots.{resolve}
use Rattle.lowering.specs.Leaf as Leaf
use Rattle.expr_model.specs.Made.{Made, after, emit, add_const, add_name, add_residual, residual}
use Rattle.expr_model.specs.Construct.{boolean, unit, constant, load_named, load_qualified, load_plain, variable, this_of}
use Rattle.expr_model.proofs.Put.{behind, made-path}
use Rattle.expr_model.proofs.AfterLaws.{after-const, after-unit, after-bool, after-local, after-named, after-this, after-eval}

-- one instruction that pushes a value
emit-is : (op : Op) (pos : ℕ) (a : Made) → after op 0 a.depth ≡ suc a.depth → emit op pos 0 a ≡ behind (λ b. emit_at op pos) a
unfolding emit emit_at
emit-is op pos a h = made-path refl refl h

pub residual-is : (j : ℕ) (a : Made) → residual j a ≡ behind (λ b. residual_expr j) a
unfolding residual residual_expr add_residual
residual-is j a = emit-is _ no_pos (add_residual j a) (after-eval 0 a.depth (length a.pools.residuals))

pub unit-is : (a : Made) → unit a ≡ behind (λ b. Leaf.unit) a
unfolding unit Leaf.unit
unit-is a = emit-is _ no_pos a (after-unit 0 a.depth)

module _ (s : List ℕ) (j : ℕ) (a : Made) where
  pub boolean-is : boolean s j a ≡ behind (λ b. Leaf.boolean s j) a
  unfolding boolean Leaf.boolean
  boolean-is = emit-is _ no_pos a (after-bool 0 a.depth (field_a s j))

  pub constant-is : constant s j a ≡ behind (λ b. Leaf.constant s j) a
  unfolding constant Leaf.constant add_const
  constant-is = emit-is _ no_pos (add_const s (const_of s j) a) (after-const 0 a.depth (const_at s (const_of s j) a.pools))

  named-is : load_named s j a ≡ behind (λ b. Leaf.load_named s j) a
  unfolding load_named Leaf.load_named add_name
  named-is =
      emit-is _ (position s j) (add_name s (name (field_a s j) 0) a) (after-named 0 a.depth (name_at s (name (field_a s j) 0) a.pools))

  qualified-is : load_qualified s j a ≡ behind (λ b. Leaf.load_qualified s j) a
  unfolding load_qualified Leaf.load_qualified add_name
  qualified-is =
      let n = own_name s j 0 in
      emit-is _ (namespace_pos s j) (add_name s n a) (after-named 0 a.depth (name_at s n a.pools))

  plain-is : load_plain s j a ≡ behind (λ b. Leaf.load_plain s j) a
  unfolding load_plain Leaf.load_plain
  plain-is = by (resolve s (text s (field_a s j))) refl
    where
      by : (o : Option ℕ) → resolve s (text s (field_a s j)) ≡ o → load_plain s j a ≡ behind (λ b. Leaf.load_plain s j) a
      by (some slot) h = rw (h, load_plain, Leaf.load_plain) (emit-is (LoadLocal slot) no_pos a (after-local 0 a.depth slot))
      by none h = rw (h, load_plain, Leaf.load_plain) named-is

  pub variable-is : variable s j a ≡ behind (λ b. Leaf.variable s j) a
  unfolding variable Leaf.variable
  variable-is = by (qualified s j) refl
    where
      by : (q : Bool) → qualified s j ≡ q → variable s j a ≡ behind (λ b. Leaf.variable s j) a
      by true h = rw (h, variable, Leaf.variable) qualified-is
      by false h = rw (h, variable, Leaf.variable) plain-is

  pub this-is : this_of s j a ≡ behind (λ b. Leaf.this s j) a
  unfolding this_of Leaf.this
  this-is = emit-is _ (position s j) a (after-this 0 a.depth)
