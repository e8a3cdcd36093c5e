-- Nodes that become one instruction, and residuals: each gives good pools and an instruction that names what is there. What a node has to
-- be is taken as a hypothesis; it follows from the check of the sheet.
use Prim.Native.Nat.{ℕ, zero, suc, ◌≤◌, ◌<◌}
use mathlib.Core.Path.{◌≡◌, refl}
use mathlib.Core.Bool as Truth
use mathlib.Core.Bool.{true, false}
use mathlib.Core.Option.{Option, none, some}
use mathlib.Core.List.{List, [], ◌∷◌}
use native.Mathlib.Omega.{arith}
use lib.ListN.{length, length-append}
use Rattle.text.specs.Same.{same}
use Rattle.sheet.specs.Sections.{text_count, local_count}
use Rattle.sheet.specs.Node.{field_a, position, namespace_pos, local_text}
use Rattle.sheet.specs.Text.{text}
use Rattle.sheet.specs.Namespace.{namespace, qualified}
use Rattle.bytecode.specs.declared.Op.TheVariants as Ops
use Rattle.lowering.specs.Code.{no_pos}
use Rattle.lowering.specs.Pools.{Pools, const_of, const_at, name, own_name, name_at, push_residual}
use Rattle.lowering.specs.Out.{Out, residual_expr}
use Rattle.lowering.specs.Slots.{resolve_below, resolve}
use Rattle.lowering.specs.Leaf.{boolean, unit, constant, load_named, load_qualified, load_plain, variable, this}
use Rattle.lowering.specs.Nodes.{Valid}
use Rattle.lowering.proofs.LinkedLeaf.{plain-local, plain-named}
use Rattle.image_made.proofs.Listed.{ConstOk, NameOk, PoolsOk}
use Rattle.image_made.proofs.Gives.{GivesOut, gives_none, gives_at}
use Rattle.image_made.proofs.GivesPools.{bare-name, const-pushed, const-there, name-pushed, name-there, residual-pushed}

-- a slot is one of the locals
some_same : (a b : ℕ) → ◌≡◌ {A = Option ℕ} (some a) (some b) → a ≡ b
some_same a b e = cc

not_some : (k : ℕ) → ◌≡◌ {A = Option ℕ} none (some k) → ⊥
not_some k e = let z : ◌≡◌ {A = ℕ} 0 1 = cc in omega arith

-- a name that is found has a slot below n
below-slot : (n : ℕ) (s bytes : List ℕ) (k : ℕ) → resolve_below n s bytes ≡ some k → k < n
unfolding resolve_below
below-slot zero s bytes k e = absurd (not_some k e)
below-slot (suc n) s bytes k e = by (below-slot n s bytes k) (same (text s (local_text s n)) bytes) refl
  where
    by : (resolve_below n s bytes ≡ some k → k < n) → (t : Truth.Bool) → same (text s (local_text s n)) bytes ≡ t → k < suc n
    by less true h = let q : ◌≡◌ {A = Option ℕ} (some n) (some k) = rw (h, resolve_below) at e in omega (arith, some_same n k q)
    by less false h = let q : resolve_below n s bytes ≡ some k = rw (h, resolve_below) at e in omega (arith, less q)

pub slot-there : (s bytes : List ℕ) (k : ℕ) → resolve s bytes ≡ some k → k < local_count s
unfolding resolve
slot-there s bytes k e = below-slot (local_count s) s bytes k e

module _ (s : List ℕ) (T : ℕ) (p : Pools) (G : PoolsOk s p) where
  pub residual-gives : (j d : ℕ) → Valid s j → GivesOut s T p (residual_expr j d p)
  unfolding residual_expr push_residual
  residual-gives j d h =
      let more = length-append p.residuals (j ∷ []) in
      gives_at (Ops.EvalAst (length p.residuals)) no_pos d (residual-pushed s T p G j h) (omega arith)

  pub boolean-gives : (j d : ℕ) → field_a s j ≤ 1 → GivesOut s T p (boolean s j d p)
  unfolding boolean
  boolean-gives j d h = gives_at (Ops.Bool (field_a s j)) no_pos d (gives_none G) h

  pub unit-gives : (d : ℕ) → GivesOut s T p (unit d p)
  unfolding unit
  unit-gives d = gives_at Ops.Unit no_pos d (gives_none G) tt

  pub this-gives : (j d : ℕ) → GivesOut s T p (this s j d p)
  unfolding this
  this-gives j d = gives_at Ops.LoadThis (position s j) d (gives_none G) tt

  pub constant-gives : (j d : ℕ) → ConstOk s (const_of s j) → GivesOut s T p (constant s j d p)
  unfolding constant
  constant-gives j d h =
      let c = const_of s j in
      gives_at (Ops.Const (const_at s c p)) no_pos d (const-pushed s T p G c h) (const-there s T p G c h)

  named-gives : (j d : ℕ) → field_a s j < text_count s → GivesOut s T p (load_named s j d p)
  unfolding load_named
  named-gives j d h =
      let n = name (field_a s j) 0 in
      let ok : NameOk s n = bare-name s h in
      gives_at (Ops.LoadNamed (name_at s n p)) (position s j) d (name-pushed s T p G n ok) (name-there s T p G n ok)

  qualified-gives : (j d : ℕ) → field_a s j < text_count s → namespace s j ≤ text_count s → GivesOut s T p (load_qualified s j d p)
  unfolding load_qualified
  qualified-gives j d h k =
      let n = own_name s j 0 in
      let ok : NameOk s n = (h, omega arith, omega arith) in
      gives_at (Ops.LoadNamed (name_at s n p)) (namespace_pos s j) d (name-pushed s T p G n ok) (name-there s T p G n ok)

  plain-gives : (j d : ℕ) → field_a s j < text_count s → GivesOut s T p (load_plain s j d p)
  plain-gives j d h = by (resolve s (text s (field_a s j))) refl
    where
      by : (r : Option ℕ) → resolve s (text s (field_a s j)) ≡ r → GivesOut s T p (load_plain s j d p)
      by (some slot) e =
          let there = slot-there s (text s (field_a s j)) slot e in
          rw (plain-local s j d p slot e) (gives_at (Ops.LoadLocal slot) no_pos d (gives_none G) there)
      by none e = rw (plain-named s j d p e) (named-gives j d h)

  pub variable-gives : (j d : ℕ) → field_a s j < text_count s → namespace s j ≤ text_count s → GivesOut s T p (variable s j d p)
  unfolding variable
  variable-gives j d h k =
      let loaded : Truth.Bool → Out = λ t. elim t [ true ↦ load_qualified s j d p | false ↦ load_plain s j d p ] in
      elim (qualified s j) as (λ t. GivesOut s T p (loaded t)) [
        | true ↦ qualified-gives j d h k
        | false ↦ plain-gives j d h
      ]
