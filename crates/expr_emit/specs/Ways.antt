-- A call in three parts: what comes before its arguments, the arguments, and what comes behind them. Which parts, its way says.
use Rattle.std.specs.Prelude.{ℕ, ◌-◌, Bool, true, false, List, Option, Some, None}
use Rattle.sheet.specs.Node.{count, field_a, field_b, position, child, next}
use Rattle.sheet.specs.Namespace.{qualified}
use Rattle.bytecode.specs.declared.Receiver.TheVariants as Receivers
use Rattle.bytecode.specs.declared.Op.TheVariants.{LoadNamed, LoadThis, MakeFnPtr, CallFnPtr}
use Rattle.lowering.specs.Pools.{name, own_name, name_at}
use Rattle.lowering.specs.Call.{CallRule, First, call_rule, receiver}
use Rattle.lowering.specs.Call as Call
use Rattle.expr_count.specs.declared.operands.Operands.{Operands}
use Rattle.expr_count.specs.Operands.{some_from}
use Rattle.expr_model.specs.Made.{Made, emit, add_name, defeated, residual}
use Rattle.expr_model.specs.Construct.{call_ref, rotate, call_end, add_own, load_first, ref_at, values_at}
use Rattle.expr_emit.specs.declared.calls.Way.{Way}
use Rattle.expr_emit.specs.declared.calls.Way.TheVariants.{FnPtr, FnPtrCall, Local, Named, This, Value, Eval, Kept, InLocal, InNamed, InThis}
use Rattle.expr_emit.specs.declared.calls.Way.TheVariants.{InValue}
use Rattle.expr_emit.specs.declared.calls.Opened.{Opened}

unfoldable pub way_first : First → Way
way_first (Call.local slot) = Local slot
way_first Call.named = Named
way_first Call.this = This
way_first Call.value = Value

-- a variable as a receiver, by the code's answer
unfoldable pub way_found : Option ℕ → Way
way_found (Some slot) = Local slot
way_found None = Named

-- the same call with a namespace
unfoldable pub within : Way → Way
within FnPtr = FnPtr
within FnPtrCall = FnPtrCall
within (Local slot) = InLocal slot
within Named = InNamed
within This = InThis
within Value = InValue
within Eval = Eval
within Kept = Kept
within (InLocal slot) = InLocal slot
within InNamed = InNamed
within InThis = InThis
within InValue = InValue

-- a call that generic dispatch takes, where q says whether it has a namespace
unfoldable pub way_lowered : Bool → First → Way
way_lowered q f = elim q [ true ↦ within (way_first f) | false ↦ way_first f ]

unfoldable pub way_by : Bool → CallRule → First → Way
way_by q Call.fn_ptr f = FnPtr
way_by q Call.fn_ptr_call f = FnPtrCall
way_by q Call.lowerable f = way_lowered q f
way_by q Call.eval f = Eval
way_by q Call.residual f = Kept

unfoldable pub way_of : List ℕ → ℕ → Way
way_of s j = way_by (qualified s j) (call_rule s j) (receiver s j)

-- how many arguments are lowered
unfoldable pub arg_count : Way → List ℕ → ℕ → ℕ
arg_count FnPtr s j = 1
arg_count FnPtrCall s j = count s j
arg_count (Local slot) s j = count s j - 1
arg_count Named s j = count s j - 1
arg_count This s j = count s j - 1
arg_count Value s j = count s j
arg_count Eval s j = 0
arg_count Kept s j = 0
arg_count (InLocal slot) s j = count s j - 1
arg_count InNamed s j = count s j - 1
arg_count InThis s j = count s j - 1
arg_count InValue s j = count s j

-- the first of them
unfoldable pub first_arg : Way → List ℕ → ℕ → ℕ
first_arg FnPtr s j = child j
first_arg FnPtrCall s j = child j
first_arg (Local slot) s j = next s (child j)
first_arg Named s j = next s (child j)
first_arg This s j = next s (child j)
first_arg Value s j = child j
first_arg Eval s j = child j
first_arg Kept s j = child j
first_arg (InLocal slot) s j = next s (child j)
first_arg InNamed s j = next s (child j)
first_arg InThis s j = next s (child j)
first_arg InValue s j = child j

-- both
abbrev pub arguments : Way → List ℕ → ℕ → Operands
arguments w s j = some_from (arg_count w s j) (first_arg w s j)

unfoldable pub opened : Way → List ℕ → ℕ → Made → Made
opened FnPtr s j a = a
opened FnPtrCall s j a = a
opened (Local slot) s j a = a
opened Named s j a = add_name s (name (field_a s (child j)) 0) a
opened This s j a = emit LoadThis (position s (child j)) 0 a
opened Value s j a = a
opened Eval s j a = a
opened Kept s j a = a
opened (InLocal slot) s j a = add_own s j a
opened InNamed s j a = load_first s j (add_own s j a)
opened InThis s j a = emit LoadThis (position s (child j)) 0 (add_own s j a)
opened InValue s j a = add_own s j a

-- where the call's name stands, if it is pooled by then, and the receiver's
abbrev pub at_places : ℕ → ℕ → Opened
at_places name first = record { name = name; first = first }

abbrev pub nowhere : Opened
nowhere = at_places 0 0

abbrev pub own_at : List ℕ → ℕ → Made → ℕ
own_at s j a = name_at s (own_name s j (field_b s j)) a.pools

abbrev pub first_at : List ℕ → ℕ → Made → ℕ
first_at s j a = name_at s (name (field_a s (child j)) 0) a.pools

unfoldable pub opened_at : Way → List ℕ → ℕ → Made → Opened
opened_at FnPtr s j a = nowhere
opened_at FnPtrCall s j a = nowhere
opened_at (Local slot) s j a = nowhere
opened_at Named s j a = at_places 0 (first_at s j a)
opened_at This s j a = nowhere
opened_at Value s j a = nowhere
opened_at Eval s j a = nowhere
opened_at Kept s j a = nowhere
opened_at (InLocal slot) s j a = at_places (own_at s j a) 0
opened_at InNamed s j a = at_places (own_at s j a) (first_at s j (add_own s j a))
opened_at InThis s j a = at_places (own_at s j a) 0
opened_at InValue s j a = at_places (own_at s j a) 0

-- a name is loaded after the other arguments and moved under them
unfoldable pub close_named : List ℕ → ℕ → ℕ → Made → Made
close_named s j i a =
    call_ref s j (Receivers.Named i) (rotate (count s j - 1) (emit (LoadNamed i) (position s (child j)) 0 a))

unfoldable pub closed : Way → List ℕ → ℕ → Opened → Made → Made
closed FnPtr s j at a = emit MakeFnPtr (position s (child j)) 0 a
closed FnPtrCall s j at a = emit (CallFnPtr (count s j - 1) (field_b s j)) (position s j) 0 a
closed (Local slot) s j at a = call_ref s j (Receivers.Local slot) a
closed Named s j at a = close_named s j at.first a
closed This s j at a = call_ref s j Receivers.This a
closed Value s j at a = call_end s j a
closed Eval s j at a = residual j (defeated a)
closed Kept s j at a = residual j a
closed (InLocal slot) s j at a = ref_at at.name s j (Receivers.Local slot) a
closed InNamed s j at a = ref_at at.name s j (Receivers.Named at.first) a
closed InThis s j at a = ref_at at.name s j Receivers.This a
closed InValue s j at a = values_at at.name s j a
