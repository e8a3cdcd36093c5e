-- The code's names of the counts that come on top, of the flows, and of what a kind does.
use Rattle.bytecode.specs.Effect.{Count, fixed, argc, argc_ref, pops_a, needs_a, operands, row}
use Rattle.bytecode.specs.Effect as effects
use Rattle.bytecode.specs.declared.table.Effect.{Effect}
use Rattle.bytecode.specs.declared.table.Top.{Top}
use Rattle.bytecode.specs.declared.table.Top.TheVariants.{Nothing, Argc, RefArgc, PopsA, NeedsA, Operands}
use Rattle.bytecode.specs.declared.table.Flow.{Flow}
use Rattle.bytecode.specs.declared.table.Flow.TheVariants.{On, Jump, Branch, Table}

unfoldable pub count_of : Top → Count
count_of Nothing = fixed
count_of Argc = argc
count_of RefArgc = argc_ref
count_of PopsA = pops_a
count_of NeedsA = needs_a
count_of Operands = operands

unfoldable pub flow_of : Flow → effects.Flow
flow_of On = effects.on
flow_of Jump = effects.jump
flow_of Branch = effects.branch
flow_of Table = effects.table

-- what the code says that a kind does
unfoldable pub effect_from : Effect → effects.Effect
effect_from e = row e.pops e.pushes e.keeps (count_of e.top) (flow_of e.flow)
