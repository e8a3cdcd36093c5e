-- The rows of the code's table are the definition's, in the code's names.
use Prim.Native.Nat.{ℕ, zero, suc}
use mathlib.Core.Path.{◌≡◌, refl}
use mathlib.Core.List.{List, [], ◌∷◌, map}
use lib.ListN.{get_or}
use Rattle.bytecode.specs.Effect.{Effect, row, effects, effect, Count, fixed, argc, argc_ref, pops_a, needs_a, operands}
use Rattle.bytecode.specs.Effect as flows
use Rattle.bytecode.specs.Coded.{count_of, flow_of, effect_from}
use Rattle.bytecode.specs.declared.table.Effect as coded
use Rattle.bytecode.specs.declared.table.Top.{Top}
use Rattle.bytecode.specs.declared.table.Top.TheVariants.{Nothing, Argc, RefArgc, PopsA, NeedsA, Operands}
use Rattle.bytecode.specs.declared.table.Flow.{Flow}
use Rattle.bytecode.specs.declared.table.Flow.TheVariants.{On, Jump, Branch, Table}

unfoldable pub top_of : Count → Top
top_of fixed = Nothing
top_of argc = Argc
top_of argc_ref = RefArgc
top_of pops_a = PopsA
top_of needs_a = NeedsA
top_of operands = Operands

unfoldable pub coded_flow : flows.Flow → Flow
coded_flow flows.on = On
coded_flow flows.jump = Jump
coded_flow flows.branch = Branch
coded_flow flows.table = Table

-- an effect in the code's names
abbrev pub coded_of : Effect → coded.Effect
coded_of e = record { pops = e.pops; pushes = e.pushes; keeps = e.keeps; top = top_of e.count; flow = coded_flow e.flow }

-- row k in the code's names
pub row_at : (es : List Effect) (d : Effect) (k : ℕ) → get_or (map coded_of es) k (coded_of d) ≡ coded_of (get_or es k d)
row_at [] d k = refl
row_at (e ∷ es) d zero = refl
row_at (e ∷ es) d (suc k) = row_at es d k

pub counted_back : (c : Count) → count_of (top_of c) ≡ c
unfolding count_of top_of
counted_back fixed = refl
counted_back argc = refl
counted_back argc_ref = refl
counted_back pops_a = refl
counted_back needs_a = refl
counted_back operands = refl

pub flows_back : (f : flows.Flow) → flow_of (coded_flow f) ≡ f
unfolding flow_of coded_flow
flows_back flows.on = refl
flows_back flows.jump = refl
flows_back flows.branch = refl
flows_back flows.table = refl

pub is_effect : (k : ℕ) → get_or (map coded_of effects) k (coded_of (row 0 0 0 fixed flows.on)) ≡ coded_of (effect k)
unfolding effect
is_effect k = row_at effects (row 0 0 0 fixed flows.on) k

-- in the code's names and back
pub effect_back : (e : Effect) → effect_from (coded_of e) ≡ e
unfolding effect_from
effect_back e = rw (counted_back e.count, flows_back e.flow)
