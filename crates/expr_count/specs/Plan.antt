-- What of a node is counted, construct by construct: siblings with a gap behind each of them, and instructions besides. Each plan stands
-- beside the lowering's definition of the same construct. A plan goes by the node alone, and not down into its operands. `here` says of a
-- Variable whether it is a local.
use Rattle.std.specs.Prelude.{ℕ, ◌+◌, ◌-◌, Bool, true, false, ◌&&◌, ◌||◌, List, leb, eqb}
use Rattle.sheet.specs.Node.{count, child}
use Rattle.sheet.specs.Namespace.{qualified}
use Rattle.lowering.specs.Limits.{max_elements}
use Rattle.lowering.specs.Call.{CallRule, fn_ptr, fn_ptr_call, lowerable, eval, call_rule, First, local, named}
use Rattle.lowering.specs.Call as Call
use Rattle.lowering.specs.Expression as Expression
use Rattle.lowering.specs.Expression.{Rule, rule}
use Rattle.expr_count.specs.declared.operands.Operands.{Operands}
use Rattle.expr_count.specs.declared.tallies.Tally.{Tally}
use Rattle.expr_count.specs.declared.plans.Plan.{Plan}
use Rattle.expr_count.specs.declared.plans.Plan.TheVariants.{Parts, Coalesce, Chain}
use Rattle.expr_count.specs.Operands.{some_from, all, others}
use Rattle.expr_count.specs.Tally.{instructions, evaluation}
use Rattle.expr_count.specs.Locals.{receiver_by}

-- a node without operands: its value is one instruction, and so is a residual
abbrev pub alone : Tally → Plan
alone t = Parts 0 (some_from 0 0) t

abbrev pub one : Plan
one = alone (instructions 1)

-- these operands, each with `gap` instructions behind it, and `more` instructions
abbrev pub parts : ℕ → Operands → ℕ → Plan
parts gap o more = Parts gap o (instructions more)

-- all operands of node j, each with `gap` instructions behind it, and `more` instructions
abbrev pub operands : List ℕ → ℕ → ℕ → ℕ → Plan
operands s j gap more = parts gap (all s j) more

-- a kind whose nodes are one instruction without operands: Bool, Unit, the constants, Variable, This
unfoldable pub is_leaf : ℕ → Bool
is_leaf k = (leb 1 k && leb k 6) || eqb k 9 || eqb k 10

-- CheckSize behind each element; MakeArray
unfoldable pub array : List ℕ → ℕ → Plan
array s j =
    elim (leb (count s j) max_elements) [ true ↦ operands s j 1 1 | false ↦ one ]

-- InterpolateAppend behind each segment; InterpolateStart and InterpolateEnd
unfoldable pub interpolated : List ℕ → ℕ → Plan
interpolated s j = operands s j 1 2

-- a jump behind each operand; the decision's three
unfoldable pub short_circuit : List ℕ → ℕ → Plan
short_circuit s j = operands s j 1 3

-- the argument; MakeFnPtr
unfoldable pub make_fn_ptr : ℕ → Plan
make_fn_ptr j = parts 0 (some_from 1 (child j)) 1

-- all arguments; CallFnPtr or Call
unfoldable pub all_args : List ℕ → ℕ → Plan
all_args s j = operands s j 0 1

-- the arguments after the first, and n instructions
unfoldable pub other_args : List ℕ → ℕ → ℕ → Plan
other_args s j n = parts 0 (others s j) n

-- 1 where the receiver's value is moved under others
unfoldable pub rotates : ℕ → ℕ
rotates others = elim (eqb others 0) [ true ↦ 0 | false ↦ 1 ]

-- in call j: with a namespace it is loaded before them, and not moved
unfoldable pub moves : List ℕ → ℕ → ℕ
moves s j = elim (qualified s j) [ true ↦ 0 | false ↦ rotates (count s j - 1) ]

-- CallRef; LoadNamed, Rotate, CallRef; LoadThis, CallRef; Call
unfoldable pub call_by : First → List ℕ → ℕ → Plan
call_by (local slot) s j = other_args s j 1
call_by named s j = other_args s j (2 + moves s j)
call_by Call.this s j = other_args s j 2
call_by Call.value s j = all_args s j

unfoldable pub fn_call_by : (ℕ → Bool) → CallRule → List ℕ → ℕ → Plan
fn_call_by here fn_ptr s j = make_fn_ptr j
fn_call_by here fn_ptr_call s j = all_args s j
fn_call_by here lowerable s j = call_by (receiver_by here s j) s j
fn_call_by here eval s j = alone evaluation
fn_call_by here Call.residual s j = one

unfoldable pub fn_call : (ℕ → Bool) → List ℕ → ℕ → Plan
fn_call here s j = fn_call_by here (call_rule s j) s j

unfoldable pub plan_by : (ℕ → Bool) → Rule → List ℕ → ℕ → Plan
plan_by here Expression.boolean s j = one
plan_by here Expression.unit s j = one
plan_by here Expression.constant s j = one
plan_by here Expression.interpolated s j = interpolated s j
plan_by here Expression.array s j = array s j
plan_by here Expression.variable s j = one
plan_by here Expression.this s j = one
plan_by here Expression.fn_call s j = fn_call here s j
plan_by here Expression.chain s j = Chain
plan_by here Expression.and s j = short_circuit s j
plan_by here Expression.or s j = short_circuit s j
plan_by here Expression.coalesce s j = Coalesce
plan_by here Expression.residual s j = one

unfoldable pub plan : (ℕ → Bool) → List ℕ → ℕ → Plan
plan here s j = plan_by here (rule s j) s j
