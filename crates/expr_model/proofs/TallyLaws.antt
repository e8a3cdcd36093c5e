-- The lowering of a node emits at least one instruction, and no fewer than it gives.
use Prim.Native.Nat.{ℕ, zero, suc, ◌-◌, ◌≤◌}
use mathlib.Core.Path.{◌≡◌, refl}
use mathlib.Core.Bool.{Bool, true, false}
use mathlib.Core.List.{List, [], ◌∷◌}
use native.Mathlib.Omega.{arith}
use lib.Dec.{leb}
use Rattle.sheet.specs.Limits.{max_depth}
use Rattle.sheet.specs.Node.{count, child, next}
use Rattle.sheet.specs.Walk.{skip}
use Rattle.lowering.specs.Limits.{max_elements}
use Rattle.lowering.specs.Call.{CallRule, First, call_rule}
use Rattle.lowering.specs.Call as Call
use Rattle.lowering.specs.Flatten.{links}
use Rattle.lowering.specs.Expression.{Rule, rule}
use Rattle.lowering.specs.Expression as Expression
use Rattle.expr_count.specs.declared.tallies.Tally.{Tally}
use Rattle.expr_count.specs.declared.plans.Plan.{Plan}
use Rattle.expr_count.specs.declared.plans.Plan.TheVariants.{Parts, Coalesce, Chain}
use Rattle.expr_count.specs.declared.links.Link as Links
use Rattle.expr_count.specs.Tally.{instructions, nothing, evaluation, plus, taken_back}
use Rattle.expr_count.specs.Locals.{is_local, receiver_by}
use Rattle.expr_count.specs.Plan as Plan
use Rattle.expr_count.specs.Plan.{plan_by, plan}
use Rattle.expr_count.specs.Link.{link, least, temporary}
use Rattle.expr_count.specs.Count.{Rec, siblings, coalesce, walk_on, walk, chain_by, chain, follow, tally_by, tally}

-- the tally of code that is not taken back, and the instructions besides the operands
abbrev Within : Tally → Type 0
Within t = t.len ≤ t.emitted

abbrev Some : Plan → Type 0
Some (Parts gap o rest) = (1 ≤ rest.emitted) × Within rest
Some Coalesce = Prim.Unit {0}
Some Chain = Prim.Unit {0}

array-some : (s : List ℕ) (j : ℕ) → Some (Plan.array s j)
unfolding Plan.array instructions
array-some s j = by (leb (count s j) max_elements) refl
  where
    by : (t : Bool) → leb (count s j) max_elements ≡ t → Some (Plan.array s j)
    by true h = rw (h, Plan.array) (omega arith)
    by false h = rw (h, Plan.array) (omega arith)

first_some : (s : List ℕ) (j : ℕ) (f : First) → Some (Plan.call_by f s j)
unfolding Plan.call_by Plan.other_args Plan.all_args instructions
first_some s j (Call.local slot) = omega arith
first_some s j Call.named = omega arith
first_some s j Call.this = omega arith
first_some s j Call.value = omega arith

call-some : (here : ℕ → Bool) (s : List ℕ) (j : ℕ) (r : CallRule) → Some (Plan.fn_call_by here r s j)
unfolding Plan.fn_call_by Plan.make_fn_ptr Plan.all_args instructions evaluation
call-some here s j Call.fn_ptr = omega arith
call-some here s j Call.fn_ptr_call = omega arith
call-some here s j Call.lowerable = first_some s j (receiver_by here s j)
call-some here s j Call.eval = omega arith
call-some here s j Call.residual = omega arith

plan-some : (here : ℕ → Bool) (s : List ℕ) (j : ℕ) (r : Rule) → Some (plan_by here r s j)
unfolding plan_by Plan.interpolated Plan.short_circuit Plan.fn_call instructions
plan-some here s j Expression.boolean = omega arith
plan-some here s j Expression.unit = omega arith
plan-some here s j Expression.constant = omega arith
plan-some here s j Expression.interpolated = omega arith
plan-some here s j Expression.array = array-some s j
plan-some here s j Expression.variable = omega arith
plan-some here s j Expression.this = omega arith
plan-some here s j Expression.fn_call = call-some here s j (call_rule s j)
plan-some here s j Expression.chain = tt
plan-some here s j Expression.and = omega arith
plan-some here s j Expression.or = omega arith
plan-some here s j Expression.coalesce = tt
plan-some here s j Expression.residual = omega arith

-- sums
plus-within : (t u : Tally) → Within t → Within u → Within (plus t u)
unfolding plus
plus-within t u g h = omega arith

nothing-within : Within nothing
unfolding nothing instructions
nothing-within = omega arith

instructions-within : (n : ℕ) → Within (instructions n)
unfolding instructions
instructions-within n = omega arith

siblings-within : (s : List ℕ) (t : Rec) → ((i : ℕ) → Within (t i)) → (gap n j : ℕ) → Within (siblings s t gap n j)
unfolding siblings
siblings-within s t h gap zero j = nothing-within
siblings-within s t h gap (suc n) j =
    plus-within (plus (t j) (instructions gap)) (siblings s t gap n (next s j))
    (plus-within (t j) (instructions gap) (h j) (instructions-within gap)) (siblings-within s t h gap n (next s j))

on-within : (l : Links.Link) (s : List ℕ) (t : Rec) (rest : Tally) → ((i : ℕ) → Within (t i)) → Within rest → Within (walk_on l s t rest)
unfolding walk_on
on-within (Links.TheVariants.Lowers o) s t rest h g = plus-within (siblings s t 0 o.n o.from) rest (siblings-within s t h 0 o.n o.from) g
on-within Links.TheVariants.Fails s t rest h g = nothing-within
on-within Links.TheVariants.Nowhere s t rest h g = nothing-within

walk-within : (s : List ℕ) (t : Rec) → ((i : ℕ) → Within (t i)) → (cs : List ℕ) → Within (walk s t cs)
unfolding walk
walk-within s t h [] = nothing-within
walk-within s t h (c ∷ cs) = on-within (link s c) s t (walk s t cs) h (walk-within s t h cs)

chain-some : (far : ℕ) (u v : Tally) → Within u → Within v → (1 ≤ (chain_by far u v).emitted) × Within (chain_by far u v)
unfolding chain_by instructions plus taken_back
chain-some zero u v g h = omega arith
chain-some (suc zero) u v g h = omega arith
chain-some (suc (suc far)) u v g h = omega arith

follow-some : (p : Plan) (s : List ℕ) (t : Rec) (j : ℕ) → Some p → ((i : ℕ) → 1 ≤ (t i).emitted) → ((i : ℕ) → Within (t i))
    → (1 ≤ (follow p s t j).emitted) × Within (follow p s t j)
unfolding follow plus coalesce chain
follow-some (Parts gap o rest) s t j h more fits = let g = siblings-within s t fits gap o.n o.from in omega arith
follow-some Coalesce s t j h more fits =
    let v = skip s (count s j - 1) (child j) in
    let l = more v in
    let k = fits v in
    let g = siblings-within s t fits 2 (count s j - 1) (child j) in
    omega arith
follow-some Chain s t j h more fits =
    let ls = links max_depth s j in
    chain-some (least s ls) (walk s t ls) (siblings s t 0 (temporary s (child j)) (child j))
    (walk-within s t fits ls) (siblings-within s t fits 0 (temporary s (child j)) (child j))

tally-both : (here : ℕ → Bool) (levels : ℕ) (s : List ℕ) (j : ℕ) → (1 ≤ (tally_by here levels s j).emitted) × Within (tally_by here levels s j)
unfolding tally_by instructions plan
tally-both here zero s j = omega arith
tally-both here (suc levels) s j =
    follow-some (plan_by here (rule s j) s j) s (tally_by here levels s) j (plan-some here s j (rule s j))
    (λ i. (tally-both here levels s i).0) (λ i. (tally-both here levels s i).1)

pub tally-some : (levels : ℕ) (s : List ℕ) (j : ℕ) → 1 ≤ (tally levels s j).emitted
tally-some levels s j = (tally-both (is_local s) levels s j).0

pub tally-within : (levels : ℕ) (s : List ℕ) (j : ℕ) → (tally levels s j).len ≤ (tally levels s j).emitted
tally-within levels s j = (tally-both (is_local s) levels s j).1
