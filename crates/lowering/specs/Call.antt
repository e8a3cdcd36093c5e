-- FnCall: `Fn`, `call` and `eval` by their own rules, any other name as a call, through a receiver where the first argument is one. With a
-- namespace only `eval` has a rule of its own.
use Rattle.std.specs.Prelude.{ℕ, suc, ◌+◌, ◌-◌, Bool, true, false, ◌&&◌, ◌||◌, not, List, [], ◌∷◌, leb, eqb}
use Rattle.std.proofs.Math.Option.{none, some}
use Rattle.text.specs.Keyword.{is_eval, is_fn, is_call, is_curry}
use Rattle.sheet.specs.Node.{count, field_a, field_b, field_c, position, child, next}
use Rattle.sheet.specs.Text.{text}
use Rattle.sheet.specs.Namespace.{qualified, role}
use Rattle.bytecode.specs.declared.Receiver.{Receiver}
use Rattle.bytecode.specs.declared.Receiver.TheVariants.{Local, Named, This}
use Rattle.bytecode.specs.declared.Op.{Op}
use Rattle.bytecode.specs.declared.Op.TheVariants.{LoadNamed, LoadThis, Call, CallRef, Rotate, MakeFnPtr, CallFnPtr}
use Rattle.lowering.specs.Limits.{max_args}
use Rattle.lowering.specs.Kinds.{variable_kind, this_kind}
use Rattle.lowering.specs.Code.{Code, ins, no_pos}
use Rattle.lowering.specs.Pools.{Pools, emits, defeat, name, own_name, name_at, push_name, token_at, push_token}
use Rattle.lowering.specs.Out.{Out, out, Rec, and_then, residual_expr}
use Rattle.lowering.specs.Slots.{resolve}
use Rattle.lowering.specs.Operands.{operands}

abbrev pub callee : List ℕ → ℕ → List ℕ
callee s j = text s (field_a s j)

unfoldable pub syntactic : List ℕ → Bool
syntactic name = is_eval name || is_fn name || is_call name || is_curry name

-- generic dispatch takes the call
unfoldable pub is_lowerable_call : List ℕ → ℕ → Bool
is_lowerable_call s j = leb (count s j) max_args && not (syntactic (callee s j))

-- which rule lowers a call
pub data CallRule : Type 0 where
  fn_ptr : CallRule
  fn_ptr_call : CallRule
  lowerable : CallRule
  eval : CallRule
  residual : CallRule

unfoldable pub is_fn_ptr : List ℕ → ℕ → Bool
is_fn_ptr s j = is_fn (callee s j) && eqb (count s j) 1

unfoldable pub is_fn_ptr_call : List ℕ → ℕ → Bool
is_fn_ptr_call s j = is_call (callee s j) && leb 1 (count s j) && leb (count s j) (max_args + 1)

-- a call that is no `Fn` and no `call`
unfoldable pub general_rule : List ℕ → ℕ → CallRule
general_rule s j =
    elim (is_lowerable_call s j) [
      | true ↦ lowerable
      | false ↦ elim (is_eval (callee s j)) [ true ↦ eval | false ↦ residual ]
    ]

-- a call without a namespace
unfoldable pub plain_rule : List ℕ → ℕ → CallRule
plain_rule s j =
    elim (is_fn_ptr s j) [
      | true ↦ fn_ptr
      | false ↦ elim (is_fn_ptr_call s j) [ true ↦ fn_ptr_call | false ↦ general_rule s j ]
    ]

unfoldable pub call_rule : List ℕ → ℕ → CallRule
call_rule s j = elim (qualified s j) [ true ↦ general_rule s j | false ↦ plain_rule s j ]

-- `Fn(name)`
unfoldable pub make_fn_ptr : List ℕ → Rec → ℕ → ℕ → ℕ → Pools → Out
make_fn_ptr s rec j b d p = and_then (rec (child j) b d p) (ins MakeFnPtr (suc d) (position s (child j)) ∷ [])

-- `call(f, ..)`
unfoldable pub call_fn_ptr : List ℕ → Rec → ℕ → ℕ → ℕ → Pools → Out
call_fn_ptr s rec j b d p =
    let o = operands s rec (count s j) (child j) b d p in
    and_then o (ins (CallFnPtr (count s j - 1) (field_b s j)) (d + count s j) (position s j) ∷ [])

-- what the first argument is: a variable without a namespace by slot or by name, `this`, or a value (or there is none)
pub data First : Type 0 where
  local : ℕ → First
  named : First
  this : First
  value : First

unfoldable pub variable_first : List ℕ → ℕ → First
variable_first s v = elim (resolve s (text s (field_a s v))) [ some slot ↦ local slot | none ↦ named ]

unfoldable pub first_of : List ℕ → ℕ → First
first_of s v =
    elim (eqb (role s v) this_kind) [
      | true ↦ this
      | false ↦ elim (eqb (role s v) variable_kind) [ true ↦ variable_first s v | false ↦ value ]
    ]

-- a call with an operator, with capture or with no argument has no receiver
unfoldable pub receiver : List ℕ → ℕ → First
receiver s j =
    elim (eqb (field_c s j) 0 && eqb (field_b s j) 0 && leb 1 (count s j)) [ true ↦ first_of s (child j) | false ↦ value ]

-- the arguments after the first
unfoldable pub other_args : List ℕ → Rec → ℕ → ℕ → ℕ → Pools → Out
other_args s rec j b d p = operands s rec (count s j - 1) (next s (child j)) b d p

-- o, the call's name, and CallRef at depth d
unfoldable pub call_ref : List ℕ → ℕ → Receiver → ℕ → Out → Out
call_ref s j r d o =
    let n = name (field_a s j) 0 in
    let i = name_at s n o.pools in
    and_then (out o.code (push_name s n o.pools)) (ins (CallRef i (count s j) r) d (position s j) ∷ [])

unfoldable pub call_local : List ℕ → Rec → ℕ → ℕ → ℕ → ℕ → Pools → Out
call_local s rec slot j b d p = call_ref s j (Local slot) (d + (count s j - 1)) (other_args s rec j b d p)

-- `this` is loaded before the other arguments
unfoldable pub call_this : List ℕ → Rec → ℕ → ℕ → ℕ → Pools → Out
call_this s rec j b d p =
    let r = other_args s rec j (b + 1) (suc d) (emits 1 p) in
    call_ref s j This (d + count s j) (out (ins LoadThis d (position s (child j)) ∷ r.code) r.pools)

-- the receiver's value under the other arguments, if there are any
unfoldable pub rotate : ℕ → ℕ → Code
rotate others d = elim (eqb others 0) [ true ↦ [] | false ↦ ins (Rotate others) d no_pos ∷ [] ]

-- a name is loaded after the other arguments and then moved under them
unfoldable pub call_named : List ℕ → Rec → ℕ → ℕ → ℕ → Pools → Out
call_named s rec j b d p =
    let v = name (field_a s (child j)) 0 in
    let i = name_at s v p in
    let others = count s j - 1 in
    let o = other_args s rec j b d (push_name s v p) in
    let load = ins (LoadNamed i) (d + others) (position s (child j)) in
    call_ref s j (Named i) (d + count s j) (and_then o (load ∷ rotate others (d + count s j)))

-- an operator is stored with 1 or 2 arguments and no namespace, and then nothing is captured
unfoldable pub stores_token : List ℕ → ℕ → Bool
stores_token s j = not (qualified s j) && not (eqb (field_c s j) 0) && (eqb (count s j) 1 || eqb (count s j) 2)

-- o, the call's name, and Call with this token and this capture mark, after all arguments
unfoldable pub call_as : List ℕ → ℕ → ℕ → ℕ → ℕ → Out → Out
call_as s j op capture d o =
    let n = name (field_a s j) capture in
    let i = name_at s n o.pools in
    let call = ins (Call i (count s j) op capture) (d + count s j) (position s j) in
    and_then (out o.code (push_name s n o.pools)) (call ∷ [])

unfoldable pub call_token : List ℕ → ℕ → ℕ → Out → Out
call_token s j d o =
    let t = field_c s j in
    call_as s j (suc (token_at t o.pools)) 0 d (out o.code (push_token t o.pools))

unfoldable pub call_values : List ℕ → Rec → ℕ → ℕ → ℕ → Pools → Out
call_values s rec j b d p =
    let o = operands s rec (count s j) (child j) b d p in
    elim (stores_token s j) [
      | true ↦ call_token s j d o
      | false ↦ call_as s j 0 (field_b s j) d o
    ]

unfoldable pub lower_call_by : First → List ℕ → Rec → ℕ → ℕ → ℕ → Pools → Out
lower_call_by (local slot) s rec j b d p = call_local s rec slot j b d p
lower_call_by named s rec j b d p = call_named s rec j b d p
lower_call_by this s rec j b d p = call_this s rec j b d p
lower_call_by value s rec j b d p = call_values s rec j b d p

-- a call with a namespace: its name is pooled before all else, at place i

-- o, and CallRef at depth d
unfoldable pub ref_at : ℕ → List ℕ → ℕ → Receiver → ℕ → Out → Out
ref_at i s j r d o = and_then o (ins (CallRef i (count s j) r) d (position s j) ∷ [])

-- the receiver, loaded by this instruction, before the other arguments
unfoldable pub loaded_args : Op → List ℕ → Rec → ℕ → ℕ → ℕ → Pools → Out
loaded_args load s rec j b d p =
    let r = other_args s rec j (b + 1) (suc d) (emits 1 p) in
    out (ins load d (position s (child j)) ∷ r.code) r.pools

unfoldable pub qualified_local : ℕ → List ℕ → Rec → ℕ → ℕ → ℕ → ℕ → Pools → Out
qualified_local i s rec slot j b d p = ref_at i s j (Local slot) (d + (count s j - 1)) (other_args s rec j b d p)

unfoldable pub qualified_this : ℕ → List ℕ → Rec → ℕ → ℕ → ℕ → Pools → Out
qualified_this i s rec j b d p = ref_at i s j This (d + count s j) (loaded_args LoadThis s rec j b d p)

unfoldable pub qualified_named : ℕ → List ℕ → Rec → ℕ → ℕ → ℕ → Pools → Out
qualified_named i s rec j b d p =
    let v = name (field_a s (child j)) 0 in
    let k = name_at s v p in
    ref_at i s j (Named k) (d + count s j) (loaded_args (LoadNamed k) s rec j b d (push_name s v p))

-- no operator is stored
unfoldable pub qualified_values : ℕ → List ℕ → Rec → ℕ → ℕ → ℕ → Pools → Out
qualified_values i s rec j b d p =
    let call = ins (Call i (count s j) 0 (field_b s j)) (d + count s j) (position s j) in
    and_then (operands s rec (count s j) (child j) b d p) (call ∷ [])

unfoldable pub lower_qualified_by : First → ℕ → List ℕ → Rec → ℕ → ℕ → ℕ → Pools → Out
lower_qualified_by (local slot) i s rec j b d p = qualified_local i s rec slot j b d p
lower_qualified_by named i s rec j b d p = qualified_named i s rec j b d p
lower_qualified_by this i s rec j b d p = qualified_this i s rec j b d p
lower_qualified_by value i s rec j b d p = qualified_values i s rec j b d p

-- its name is marked where it captures; through a receiver it never does
unfoldable pub lower_qualified : List ℕ → Rec → ℕ → ℕ → ℕ → Pools → Out
lower_qualified s rec j b d p =
    let n = own_name s j (field_b s j) in
    lower_qualified_by (receiver s j) (name_at s n p) s rec j b d (push_name s n p)

unfoldable pub lower_call : List ℕ → Rec → ℕ → ℕ → ℕ → Pools → Out
lower_call s rec j b d p =
    elim (qualified s j) [
      | true ↦ lower_qualified s rec j b d p
      | false ↦ lower_call_by (receiver s j) s rec j b d p
    ]

unfoldable pub fn_call_by : CallRule → List ℕ → Rec → ℕ → ℕ → ℕ → Pools → Out
fn_call_by fn_ptr s rec j b d p = make_fn_ptr s rec j b d p
fn_call_by fn_ptr_call s rec j b d p = call_fn_ptr s rec j b d p
fn_call_by lowerable s rec j b d p = lower_call s rec j b d p
fn_call_by eval s rec j b d p = residual_expr j d (defeat p)
fn_call_by residual s rec j b d p = residual_expr j d p

unfoldable pub fn_call : List ℕ → Rec → ℕ → ℕ → ℕ → Pools → Out
fn_call s rec j b d p = fn_call_by (call_rule s j) s rec j b d p
