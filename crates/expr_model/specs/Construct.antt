-- Each construct as a change of what has been made so far. `low` lowers a node. Siblings are taken one by one from the first.
use Rattle.std.specs.Prelude.{ℕ, zero, suc, ◌+◌, ◌-◌, true, false, List, [], ◌∷◌, eqb, leb}
use Rattle.std.proofs.Math.Option.{none, some}
use Rattle.sheet.specs.Limits.{max_depth}
use Rattle.sheet.specs.Node.{count, field_a, field_b, field_c, position, child, next, namespace_pos}
use Rattle.sheet.specs.Text.{text}
use Rattle.sheet.specs.Namespace.{qualified, role}
use Rattle.sheet.specs.Walk.{skip}
use Rattle.bytecode.specs.declared.Op.{Op}
use Rattle.bytecode.specs.declared.Op.TheVariants.{Const, Unit, Bool, LoadLocal, LoadNamed, LoadThis, Pop, Jump}
use Rattle.bytecode.specs.declared.Op.TheVariants.{SkipIfNotUnit, Call, CallRef, Rotate, MakeFnPtr, CallFnPtr, InterpolateStart}
use Rattle.bytecode.specs.declared.Op.TheVariants.{InterpolateAppend, InterpolateEnd, MakeArray, CheckSize, Chain}
use Rattle.bytecode.specs.declared.Receiver.{Receiver}
use Rattle.bytecode.specs.declared.Receiver.TheVariants.{Local, Named, This}
use Rattle.lowering.specs.Limits.{max_elements}
use Rattle.lowering.specs.Kinds.{variable_kind}
use Rattle.lowering.specs.Code.{no_pos}
use Rattle.lowering.specs.Pools.{name, own_name, name_at, const_of, const_at, token_at, chain_at, push_chain}
use Rattle.lowering.specs.Slots.{resolve}
use Rattle.lowering.specs.ShortCircuit.{jump_on}
use Rattle.lowering.specs.Call.{First, local, named, this, value, receiver, stores_token, CallRule, fn_ptr, fn_ptr_call, lowerable, eval}
use Rattle.lowering.specs.Call.{residual, call_rule}
use Rattle.lowering.specs.Flatten.{StepRule, step_rule, operand_of, links, flattens}
use Rattle.lowering.specs.Flatten as Flatten
use Rattle.lowering.specs.Expression.{Rule}
use Rattle.lowering.specs.Expression as Expression
use Rattle.expr_chains.specs.Steps.{chain_root, chain_steps, chain_operands}
use Rattle.expr_chains.specs.Lowers.{step_lowers, lowers}
use Rattle.expr_count.specs.Link.{temporary}
use Rattle.expr_model.specs.Made.{Made, with, emit, add_const, add_name, add_token, defeated, at_depth, take_back}
use Rattle.expr_model.specs.Made as Made

-- the lowering of a node
abbrev pub Low : Type 0
Low = ℕ → Made → Made

-- leaves

unfoldable pub boolean : List ℕ → ℕ → Made → Made
boolean s j a = emit (Bool (field_a s j)) no_pos 0 a

unfoldable pub unit : Made → Made
unit a = emit Unit no_pos 0 a

unfoldable pub constant : List ℕ → ℕ → Made → Made
constant s j a = emit (Const (const_at s (const_of s j) a.pools)) no_pos 0 (add_const s (const_of s j) a)

unfoldable pub load_named : List ℕ → ℕ → Made → Made
load_named s j a =
    let n = name (field_a s j) 0 in
    emit (LoadNamed (name_at s n a.pools)) (position s j) 0 (add_name s n a)

-- a name in its namespace
unfoldable pub load_qualified : List ℕ → ℕ → Made → Made
load_qualified s j a =
    let n = own_name s j 0 in
    emit (LoadNamed (name_at s n a.pools)) (namespace_pos s j) 0 (add_name s n a)

unfoldable pub load_plain : List ℕ → ℕ → Made → Made
load_plain s j a =
    elim (resolve s (text s (field_a s j))) [ some slot ↦ emit (LoadLocal slot) no_pos 0 a | none ↦ load_named s j a ]

unfoldable pub variable : List ℕ → ℕ → Made → Made
variable s j a = elim (qualified s j) [ true ↦ load_qualified s j a | false ↦ load_plain s j a ]

unfoldable pub this_of : List ℕ → ℕ → Made → Made
this_of s j a = emit LoadThis (position s j) 0 a

-- the first i siblings from node j on
unfoldable pub operands : List ℕ → Low → ℕ → ℕ → Made → Made
operands s low zero j a = a
operands s low (suc i) j a = low (skip s i j) (operands s low i j a)

-- the same, each with CheckSize behind it
unfoldable pub elements : List ℕ → Low → ℕ → ℕ → Made → Made
elements s low zero j a = a
elements s low (suc i) j a = emit (CheckSize i) (position s (skip s i j)) 0 (low (skip s i j) (elements s low i j a))

unfoldable pub array : List ℕ → Low → ℕ → Made → Made
array s low j a =
    elim (leb (count s j) max_elements) [
      | true ↦ emit (MakeArray (count s j)) (position s j) 0 (elements s low (count s j) (child j) a)
      | false ↦ Made.residual j a
    ]

-- with InterpolateAppend
unfoldable pub segments : List ℕ → Low → ℕ → ℕ → Made → Made
segments s low zero j a = a
segments s low (suc i) j a = emit InterpolateAppend (position s (skip s i j)) 0 (low (skip s i j) (segments s low i j a))

unfoldable pub interpolated : List ℕ → Low → ℕ → Made → Made
interpolated s low j a =
    emit InterpolateEnd no_pos 0 (segments s low (count s j) (child j) (emit InterpolateStart no_pos 0 a))

-- with a jump
unfoldable pub decided : List ℕ → Low → Op → ℕ → ℕ → Made → Made
decided s low jump zero j a = a
decided s low jump (suc i) j a = emit jump (position s (skip s i j)) 0 (low (skip s i j) (decided s low jump i j a))

-- stop is 1 for Or, 0 for And; `end` is the place behind the node's code
unfoldable pub short_circuit : ℕ → List ℕ → Low → ℕ → ℕ → Made → Made
short_circuit stop s low end j a =
    let x = decided s low (jump_on stop (end - 1)) (count s j) (child j) a in
    emit (Bool stop) no_pos 0 (at_depth a.depth (emit (Jump end) no_pos 0 (emit (Bool (1 - stop)) no_pos 0 x)))

-- with SkipIfNotUnit and Pop
unfoldable pub skipped : List ℕ → Low → ℕ → ℕ → ℕ → Made → Made
skipped s low end zero j a = a
skipped s low end (suc i) j a =
    let v = skip s i j in
    emit Pop (position s v) 0 (emit (SkipIfNotUnit end) (position s v) 0 (low v (skipped s low end i j a)))

unfoldable pub coalesce : List ℕ → Low → ℕ → ℕ → Made → Made
coalesce s low end j a =
    low (skip s (count s j - 1) (child j)) (skipped s low end (count s j - 1) (child j) a)

-- FnCall

unfoldable pub make_fn_ptr : List ℕ → Low → ℕ → Made → Made
make_fn_ptr s low j a = emit MakeFnPtr (position s (child j)) 0 (low (child j) a)

unfoldable pub call_fn_ptr : List ℕ → Low → ℕ → Made → Made
call_fn_ptr s low j a =
    emit (CallFnPtr (count s j - 1) (field_b s j)) (position s j) 0 (operands s low (count s j) (child j) a)

-- the arguments after the first
unfoldable pub other_args : List ℕ → Low → ℕ → Made → Made
other_args s low j a = operands s low (count s j - 1) (next s (child j)) a

-- the call's name and CallRef
unfoldable pub call_ref : List ℕ → ℕ → Receiver → Made → Made
call_ref s j r a =
    let n = name (field_a s j) 0 in
    emit (CallRef (name_at s n a.pools) (count s j) r) (position s j) 0 (add_name s n a)

unfoldable pub call_local : List ℕ → Low → ℕ → ℕ → Made → Made
call_local s low slot j a = call_ref s j (Local slot) (other_args s low j a)

unfoldable pub call_this : List ℕ → Low → ℕ → Made → Made
call_this s low j a = call_ref s j This (other_args s low j (emit LoadThis (position s (child j)) 0 a))

unfoldable pub rotate : ℕ → Made → Made
rotate others a = elim (eqb others 0) [ true ↦ a | false ↦ emit (Rotate others) no_pos 0 a ]

-- the variable v, loaded from place i of the names after the other arguments, and moved under them
unfoldable pub call_named : List ℕ → Low → ℕ → Made → Made
call_named s low j a =
    let v = name (field_a s (child j)) 0 in
    let i = name_at s v a.pools in
    let x = other_args s low j (add_name s v a) in
    call_ref s j (Named i) (rotate (count s j - 1) (emit (LoadNamed i) (position s (child j)) 0 x))

-- the call's name and Call
unfoldable pub call_as : List ℕ → ℕ → ℕ → ℕ → Made → Made
call_as s j op capture a =
    let n = name (field_a s j) capture in
    emit (Call (name_at s n a.pools) (count s j) op capture) (position s j) 0 (add_name s n a)

unfoldable pub call_token : List ℕ → ℕ → Made → Made
call_token s j a = call_as s j (suc (token_at (field_c s j) a.pools)) 0 (add_token (field_c s j) a)

unfoldable pub call_end : List ℕ → ℕ → Made → Made
call_end s j a = elim (stores_token s j) [ true ↦ call_token s j a | false ↦ call_as s j 0 (field_b s j) a ]

unfoldable pub call_values : List ℕ → Low → ℕ → Made → Made
call_values s low j a = call_end s j (operands s low (count s j) (child j) a)

unfoldable pub call_by : First → List ℕ → Low → ℕ → Made → Made
call_by (local slot) s low j a = call_local s low slot j a
call_by named s low j a = call_named s low j a
call_by this s low j a = call_this s low j a
call_by value s low j a = call_values s low j a

-- a call with a namespace, whose name, with `!` where it captures, is pooled before all else
unfoldable pub add_own : List ℕ → ℕ → Made → Made
add_own s j a = add_name s (own_name s j (field_b s j)) a

-- CallRef, with the call's name at place i
unfoldable pub ref_at : ℕ → List ℕ → ℕ → Receiver → Made → Made
ref_at i s j r a = emit (CallRef i (count s j) r) (position s j) 0 a

unfoldable pub qualified_local : ℕ → List ℕ → Low → ℕ → ℕ → Made → Made
qualified_local i s low slot j a = ref_at i s j (Local slot) (other_args s low j a)

unfoldable pub qualified_this : ℕ → List ℕ → Low → ℕ → Made → Made
qualified_this i s low j a = ref_at i s j This (other_args s low j (emit LoadThis (position s (child j)) 0 a))

-- a receiver's name, loaded before the other arguments
unfoldable pub load_first : List ℕ → ℕ → Made → Made
load_first s j a =
    let v = name (field_a s (child j)) 0 in
    emit (LoadNamed (name_at s v a.pools)) (position s (child j)) 0 (add_name s v a)

unfoldable pub qualified_named : ℕ → List ℕ → Low → ℕ → Made → Made
qualified_named i s low j a =
    ref_at i s j (Named (name_at s (name (field_a s (child j)) 0) a.pools)) (other_args s low j (load_first s j a))

-- Call, without a token
unfoldable pub values_at : ℕ → List ℕ → ℕ → Made → Made
values_at i s j a = emit (Call i (count s j) 0 (field_b s j)) (position s j) 0 a

unfoldable pub qualified_values : ℕ → List ℕ → Low → ℕ → Made → Made
qualified_values i s low j a = values_at i s j (operands s low (count s j) (child j) a)

unfoldable pub qualified_by : First → ℕ → List ℕ → Low → ℕ → Made → Made
qualified_by (local slot) i s low j a = qualified_local i s low slot j a
qualified_by named i s low j a = qualified_named i s low j a
qualified_by this i s low j a = qualified_this i s low j a
qualified_by value i s low j a = qualified_values i s low j a

unfoldable pub call_qualified : List ℕ → Low → ℕ → Made → Made
call_qualified s low j a =
    qualified_by (receiver s j) (name_at s (own_name s j (field_b s j)) a.pools) s low j (add_own s j a)

unfoldable pub call : List ℕ → Low → ℕ → Made → Made
call s low j a = elim (qualified s j) [ true ↦ call_qualified s low j a | false ↦ call_by (receiver s j) s low j a ]

unfoldable pub fn_call_by : CallRule → List ℕ → Low → ℕ → Made → Made
fn_call_by fn_ptr s low j a = make_fn_ptr s low j a
fn_call_by fn_ptr_call s low j a = call_fn_ptr s low j a
fn_call_by lowerable s low j a = call s low j a
fn_call_by eval s low j a = Made.residual j (defeated a)
fn_call_by residual s low j a = Made.residual j a

unfoldable pub fn_call : List ℕ → Low → ℕ → Made → Made
fn_call s low j a = fn_call_by (call_rule s j) s low j a

-- Dot, Index

unfoldable pub property : List ℕ → ℕ → Made → Made
property s x a = add_name s (name (field_c s x) 0) (add_name s (name (field_b s x) 0) (add_name s (name (field_a s x) 0) a))

-- a method's arguments and name; one that does not lower ends the steps
unfoldable pub method : List ℕ → Low → ℕ → Made → Made
method s low x a = add_name s (name (field_a s x) 0) (operands s low (count s x) (child x) a)

unfoldable pub step_by : StepRule → List ℕ → Low → ℕ → Made → Made
step_by Flatten.index s low c a = low (operand_of s c) a
step_by Flatten.property s low c a = property s (operand_of s c) a
step_by Flatten.method s low c a = method s low (operand_of s c) a
step_by Flatten.none s low c a = a

-- the steps of these links, up to the first that does not lower
unfoldable pub steps : List ℕ → Low → List ℕ → Made → Made
steps s low [] a = a
steps s low (c ∷ cs) a =
    elim (step_lowers s c) [ true ↦ steps s low cs (step_by (step_rule s c) s low c a) | false ↦ a ]

-- a variable's name is pooled before the steps
unfoldable pub root_name : List ℕ → ℕ → Made → Made
root_name s v a = elim (eqb (role s v) variable_kind) [ true ↦ add_name s (name (field_a s v) 0) a | false ↦ a ]

-- a root that is taken off the stack
unfoldable pub root_value : List ℕ → Low → ℕ → Made → Made
root_value s low v a = operands s low (temporary s v) v a

unfoldable pub add_chain : List ℕ → ℕ → Made → Made
add_chain s j a =
    let ns = a.pools.names in
    with (push_chain (chain_root s ns j) (chain_steps s ns j) (chain_operands s j)) a

-- the chain's place in the pool
unfoldable pub chain_place : List ℕ → ℕ → Made → ℕ
chain_place s j a =
    let ns = a.pools.names in
    chain_at (chain_root s ns j) (chain_steps s ns j) (chain_operands s j) a.pools

unfoldable pub close_chain : List ℕ → ℕ → Made → Made
close_chain s j a =
    emit (Chain (chain_place s j a)) (position s j) (chain_operands s j + temporary s (child j)) (add_chain s j a)

unfoldable pub chain : List ℕ → Low → ℕ → Made → Made
chain s low j a =
    let ls = links max_depth s j in
    elim (flattens s ls) [
      | true ↦
          let x = steps s low ls (root_name s (child j) a) in
          elim (lowers s j) [
            | true ↦ close_chain s j (root_value s low (child j) x)
            | false ↦ Made.residual j (take_back a x)
          ]
      | false ↦ Made.residual j a
    ]

-- a node by its rule; `end` is the place behind its code
unfoldable pub by_rule : Rule → List ℕ → Low → ℕ → ℕ → Made → Made
by_rule Expression.boolean s low end j a = boolean s j a
by_rule Expression.unit s low end j a = unit a
by_rule Expression.constant s low end j a = constant s j a
by_rule Expression.interpolated s low end j a = interpolated s low j a
by_rule Expression.array s low end j a = array s low j a
by_rule Expression.variable s low end j a = variable s j a
by_rule Expression.this s low end j a = this_of s j a
by_rule Expression.fn_call s low end j a = fn_call s low j a
by_rule Expression.chain s low end j a = chain s low j a
by_rule Expression.and s low end j a = short_circuit 0 s low end j a
by_rule Expression.or s low end j a = short_circuit 1 s low end j a
by_rule Expression.coalesce s low end j a = coalesce s low end j a
by_rule Expression.residual s low end j a = Made.residual j a
