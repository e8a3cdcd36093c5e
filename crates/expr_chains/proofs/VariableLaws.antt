-- The root that the code makes of a variable is the definition's.
use Prim.Native.Nat.{ℕ}
use mathlib.Core.Path.{◌≡◌, refl, sym}
use mathlib.Core.List.{List}
use borrow.Author.Tests.{eq-eqb}
use Rattle.sheet.specs.Node.{field_a, position}
use Rattle.sheet.specs.Text.{text}
use Rattle.sheet.specs.Namespace.{role}
use Rattle.lowering.specs.Kinds.{variable_kind}
use Rattle.lowering.specs.Slots.{resolve}
use Rattle.expr_chains.specs.Steps.{root_with}
use mathlib.Core.Option.{Option, none, some}
use Rattle.bytecode.specs.declared.Root.TheVariants.{Local, Named}
use Rattle.expr_slots.specs.Found.{found}
use Rattle.expr_chains.specs.Variable.{variable_by}

pub variable-by : (o : Option ℕ) (name pos : ℕ)
    → variable_by (found o) name pos ≡ elim o [ some slot ↦ Local slot name | none ↦ Named name pos ]
unfolding variable_by found
variable-by none name pos = refl
variable-by (some slot) name pos = refl

pub root-variable : (s : List ℕ) (v i : ℕ) → role s v ≡ variable_kind
    → root_with s v i ≡ variable_by (found (resolve s (text s (field_a s v)))) i (position s v)
unfolding root_with
root-variable s v i h =
    rw (eq-eqb (role s v) variable_kind h, root_with) (sym (variable-by (resolve s (text s (field_a s v))) i (position s v)))
