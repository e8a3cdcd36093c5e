-- Nodes that become one instruction: it is reached, and goes on to the next place.
use Prim.Native.Nat.{ℕ}
use mathlib.Core.Path.{◌≡◌, refl}
use mathlib.Core.Option.{Option, none, some}
use mathlib.Core.Bool.{Bool as Truth, true, false}
use mathlib.Core.List.{List}
use Rattle.sheet.specs.Node.{field_a, position}
use Rattle.sheet.specs.Text.{text}
use Rattle.sheet.specs.Namespace.{qualified}
use Rattle.bytecode.specs.declared.Op.TheVariants.{Const, Unit, Bool, LoadLocal, LoadNamed, LoadThis}
use Rattle.lowering.specs.Code.{no_pos}
use Rattle.lowering.specs.Pools.{Pools, const_of, const_at, push_const, name, own_name, name_at, push_name}
use Rattle.lowering.specs.Out.{Out, emit_at}
use Rattle.lowering.specs.Slots.{resolve}
use Rattle.lowering.specs.Leaf.{boolean, unit, constant, load_named, load_qualified, load_plain, variable, this}
use Rattle.lowering.proofs.Effect.{Context}
use Rattle.lowering.proofs.Linked.{Linked}
use Rattle.lowering.proofs.LinksAll.{link-emit}

pub plain-local : (s : List ℕ) (j d : ℕ) (p : Pools) (slot : ℕ) → resolve s (text s (field_a s j)) ≡ some slot
    → load_plain s j d p ≡ emit_at (LoadLocal slot) no_pos d p
unfolding load_plain
plain-local s j d p slot h = rw (h, load_plain)

pub plain-named : (s : List ℕ) (j d : ℕ) (p : Pools) → resolve s (text s (field_a s j)) ≡ none → load_plain s j d p ≡ load_named s j d p
unfolding load_plain
plain-named s j d p h = rw (h, load_plain)

module _ (s : List ℕ) (X : Context) (j b d : ℕ) (p : Pools) where
  pub boolean-links : Linked X b (boolean s j d p).code
  unfolding boolean
  boolean-links = link-emit (Bool (field_a s j)) no_pos d p refl

  pub unit-links : Linked X b (unit d p).code
  unfolding unit
  unit-links = link-emit Unit no_pos d p refl

  pub constant-links : Linked X b (constant s j d p).code
  unfolding constant
  constant-links = link-emit (Const (const_at s (const_of s j) p)) no_pos d (push_const s (const_of s j) p) refl

  named-links : Linked X b (load_named s j d p).code
  unfolding load_named
  named-links = link-emit (LoadNamed (name_at s (name (field_a s j) 0) p)) (position s j) d (push_name s (name (field_a s j) 0) p) refl

  qualified-links : Linked X b (load_qualified s j d p).code
  unfolding load_qualified
  qualified-links =
      let n = own_name s j 0 in
      link-emit (LoadNamed (name_at s n p)) _ d (push_name s n p) refl

  plain-links : Linked X b (load_plain s j d p).code
  plain-links = by (resolve s (text s (field_a s j))) refl
    where
      by : (r : Option ℕ) → resolve s (text s (field_a s j)) ≡ r → Linked X b (load_plain s j d p).code
      by (some slot) h = rw (plain-local s j d p slot h) (link-emit (LoadLocal slot) no_pos d p refl)
      by none h = rw (plain-named s j d p h) named-links

  pub variable-links : Linked X b (variable s j d p).code
  unfolding variable
  variable-links =
      let loaded : Truth → Out = λ t. elim t [ true ↦ load_qualified s j d p | false ↦ load_plain s j d p ] in
      elim (qualified s j) as (λ t. Linked X b (loaded t).code) [
        | true ↦ qualified-links
        | false ↦ plain-links
      ]

  pub this-links : Linked X b (this s j d p).code
  unfolding this
  this-links = link-emit LoadThis (position s j) d p refl
