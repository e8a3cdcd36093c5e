-- The kinds that the first words of chains and of steps name.
use Rattle.std.specs.Prelude.{ℕ, true, false, eqb, Option, Some, None}
use Rattle.image_read.specs.declared.RootKind.{RootKind}
use Rattle.image_read.specs.declared.RootKind.TheVariants.{Local, Named, This, Temporary}
use Rattle.image_read.specs.declared.StepKind.{StepKind}
use Rattle.image_read.specs.declared.StepKind.TheVariants.{Index, Property, Method}

unfoldable pub root_of : ℕ → Option RootKind
root_of kind =
    elim (eqb kind 0) [
      | true ↦ Some Local
      | false ↦
          elim (eqb kind 1) [
            | true ↦ Some Named
            | false ↦ elim (eqb kind 2) [ true ↦ Some This | false ↦ elim (eqb kind 3) [ true ↦ Some Temporary | false ↦ None ] ]
          ]
    ]

unfoldable pub step_of : ℕ → Option StepKind
step_of kind =
    elim (eqb kind 0) [
      | true ↦ Some Index
      | false ↦ elim (eqb kind 1) [ true ↦ Some Property | false ↦ elim (eqb kind 2) [ true ↦ Some Method | false ↦ None ] ]
    ]
