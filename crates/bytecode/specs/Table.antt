-- The effects as one table of numbers, five for each kind.
use Rattle.std.specs.Prelude.{ℕ, List, [], ◌∷◌, ◌++◌, get_or}
use Rattle.bytecode.specs.Effect.{Effect, effects, effect}
use Rattle.bytecode.specs.Effect.{Count, fixed, argc, argc_ref, pops_a, needs_a, operands, Flow, on, jump, branch, table}

unfoldable pub count_number : Count → ℕ
count_number fixed = 0
count_number argc = 1
count_number argc_ref = 2
count_number pops_a = 3
count_number needs_a = 4
count_number operands = 5

unfoldable pub flow_number : Flow → ℕ
flow_number on = 0
flow_number jump = 1
flow_number branch = 2
flow_number table = 3

-- pops, pushes, what is kept, which count comes on top, and the flow
unfoldable pub numbers_of : Effect → List ℕ
numbers_of e = e.pops ∷ e.pushes ∷ e.keeps ∷ count_number e.count ∷ flow_number e.flow ∷ []

unfoldable pub numbers : List Effect → List ℕ
numbers [] = []
numbers (e ∷ es) = numbers_of e ++ numbers es

-- the whole table: 125 numbers for the kinds 0 to 24
abbrev pub effect_table : List ℕ
effect_table = numbers effects

-- number f of a kind
unfoldable pub entry : ℕ → ℕ → ℕ
entry kind f = get_or (numbers_of (effect kind)) f 0
