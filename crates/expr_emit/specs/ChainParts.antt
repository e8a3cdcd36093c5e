-- The names that a chain's step pools behind its operands.
use Rattle.std.specs.Prelude.{ℕ, List}
use Rattle.sheet.specs.Node.{field_a}
use Rattle.lowering.specs.Pools.{name}
use Rattle.lowering.specs.Flatten.{StepRule}
use Rattle.lowering.specs.Flatten as Flatten
use Rattle.expr_model.specs.Made.{Made, add_name}
use Rattle.expr_model.specs.Construct.{property}

-- of a step by this rule that is taken with node v
unfoldable pub step_names : StepRule → List ℕ → ℕ → Made → Made
step_names Flatten.index s v a = a
step_names Flatten.property s v a = property s v a
step_names Flatten.method s v a = add_name s (name (field_a s v) 0) a
step_names Flatten.none s v a = a
