-- A variable as a chain's root, by the local that the code found.
use Rattle.std.specs.Prelude.{ℕ, Option, Some, None}
use Rattle.bytecode.specs.declared.Root.{Root}
use Rattle.bytecode.specs.declared.Root.TheVariants.{Local, Named}

unfoldable pub variable_by : Option ℕ → ℕ → ℕ → Root
variable_by (Some slot) name pos = Local slot name
variable_by None name pos = Named name pos
