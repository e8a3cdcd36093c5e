-- The depth after each instruction.
use Prim.Native.Nat.{ℕ, zero, suc, ◌+◌, ◌-◌, ◌*◌, ◌/◌, ◌%◌, ◌≤◌}
use mathlib.Core.Path.{◌≡◌, ap}
use native.Mathlib.Omega.{arith}
use borrow.Author.Tests.{eq-eqb, ne_eqb}
use Rattle.bytecode.specs.declared.Receiver.TheVariants.{Local, Named, This}
use Rattle.bytecode.specs.declared.Op.{Op}
use Rattle.bytecode.specs.declared.Op.TheVariants.{Const, Unit, Bool, LoadLocal, LoadNamed, LoadThis, Pop, Jump, JumpIfTrue, JumpIfFalse}
use Rattle.bytecode.specs.declared.Op.TheVariants.{SkipIfNotUnit, Call, CallRef, Rotate, Switch, MakeFnPtr, CallFnPtr, InterpolateStart}
use Rattle.bytecode.specs.declared.Op.TheVariants.{InterpolateAppend, InterpolateEnd, MakeArray, CheckSize, Chain, EvalAst}
use Rattle.bytecode.specs.Op.{op_words, receiver_kind}
use Rattle.bytecode.specs.Effect.{effect, popped, ref_argc}
use Rattle.lowering.specs.ShortCircuit.{jump_on}
use Rattle.expr_model.specs.Made.{after}

module _ (n d : ℕ) where
  -- one value more
  pub after-const : (i : ℕ) → after (Const i) n d ≡ suc d
  unfolding after op_words effect popped
  after-const i = omega arith

  pub after-unit : after Unit n d ≡ suc d
  unfolding after op_words effect popped
  after-unit = omega arith

  pub after-bool : (t : ℕ) → after (Bool t) n d ≡ suc d
  unfolding after op_words effect popped
  after-bool t = omega arith

  pub after-local : (slot : ℕ) → after (LoadLocal slot) n d ≡ suc d
  unfolding after op_words effect popped
  after-local slot = omega arith

  pub after-named : (i : ℕ) → after (LoadNamed i) n d ≡ suc d
  unfolding after op_words effect popped
  after-named i = omega arith

  pub after-this : after LoadThis n d ≡ suc d
  unfolding after op_words effect popped
  after-this = omega arith

  pub after-start : after InterpolateStart n d ≡ suc d
  unfolding after op_words effect popped
  after-start = omega arith

  pub after-eval : (i : ℕ) → after (EvalAst i) n d ≡ suc d
  unfolding after op_words effect popped
  after-eval i = omega arith

  -- the same depth
  pub after-jump : (t : ℕ) → after (Jump t) n d ≡ d
  unfolding after op_words effect popped
  after-jump t = omega arith

  pub after-skip : (t : ℕ) → after (SkipIfNotUnit t) n d ≡ d
  unfolding after op_words effect popped
  after-skip t = omega arith

  pub after-rotate : (k : ℕ) → after (Rotate k) n d ≡ d
  unfolding after op_words effect popped
  after-rotate k = omega arith

  pub after_check : (i : ℕ) → after (CheckSize i) n d ≡ d
  unfolding after op_words effect popped
  after_check i = omega arith

  pub after-make : after MakeFnPtr n (suc d) ≡ suc d
  unfolding after op_words effect popped
  after-make = omega arith

  pub after-end : after InterpolateEnd n (suc d) ≡ suc d
  unfolding after op_words effect popped
  after-end = omega arith

  -- values taken off
  pub after-pop : after Pop n (suc d) ≡ d
  unfolding after op_words effect popped
  after-pop = omega arith

  pub after-append : after InterpolateAppend n (suc (suc d)) ≡ suc d
  unfolding after op_words effect popped
  after-append = omega arith

  pub after-decides : (stop t : ℕ) → after (jump_on stop t) n (suc d) ≡ d
  unfolding after op_words effect popped jump_on
  after-decides zero t = omega arith
  after-decides (suc k) t = omega arith

  pub after-array : (m : ℕ) → after (MakeArray m) n (d + m) ≡ suc d
  unfolding after op_words effect popped
  after-array m = omega arith

  pub after-pointer : (m capture : ℕ) → 1 ≤ m → after (CallFnPtr (m - 1) capture) n (d + m) ≡ suc d
  unfolding after op_words effect popped
  after-pointer m capture h = omega arith

  pub after_call : (i m op capture : ℕ) → m ≤ 255 → after (Call i m op capture) n (d + m) ≡ suc d
  unfolding after op_words effect popped
  after_call i m op capture h = omega arith

  pub after-chain : (i : ℕ) → after (Chain i) n (d + n) ≡ suc d
  unfolding after op_words effect popped
  after-chain i = omega arith

-- a Local receiver is not on the stack
argc-local : (m : ℕ) → m ≤ 255 → ref_argc (m + 256 * 0) ≡ m - 1
unfolding ref_argc
argc-local m h =
    let z : (m + 256 * 0) / 256 ≡ 0 = omega arith in
    let r : (m + 256 * 0) % 256 ≡ m = omega arith in
    rw (eq-eqb ((m + 256 * 0) / 256) 0 z, ref_argc) (ap (λ k. k - 1) r)

argc-stacked : (m k : ℕ) → m ≤ 255 → 1 ≤ k → ref_argc (m + 256 * k) ≡ m
unfolding ref_argc
argc-stacked m k h g =
    let z : ((m + 256 * k) / 256 ≡ 0 → ⊥) = λ e. absurd (omega arith) in
    let r : (m + 256 * k) % 256 ≡ m = omega arith in
    rw (ne_eqb ((m + 256 * k) / 256) 0 z, ref_argc) r

module _ (n d i m : ℕ) (h : m ≤ 255) where
  pub after-ref-local : (slot : ℕ) → after (CallRef i m (Local slot)) n (d + (m - 1)) ≡ suc d
  unfolding after op_words effect popped receiver_kind
  after-ref-local slot = omega (arith, argc-local m h)

  pub after-ref-named : (k : ℕ) → after (CallRef i m (Named k)) n (d + m) ≡ suc d
  unfolding after op_words effect popped receiver_kind
  after-ref-named k = omega (arith, argc-stacked m 1 h (omega arith))

  pub after-ref-this : after (CallRef i m This) n (d + m) ≡ suc d
  unfolding after op_words effect popped receiver_kind
  after-ref-this = omega (arith, argc-stacked m 2 h (omega arith))

-- no instruction pushes more than one value
pub after-least : (op : Op) (n d : ℕ) → after op n d ≤ suc d
unfolding after op_words effect
after-least (Const i) n d = omega arith
after-least Unit n d = omega arith
after-least (Bool t) n d = omega arith
after-least (LoadLocal slot) n d = omega arith
after-least (LoadNamed i) n d = omega arith
after-least LoadThis n d = omega arith
after-least Pop n d = omega arith
after-least (Jump t) n d = omega arith
after-least (JumpIfTrue t) n d = omega arith
after-least (JumpIfFalse t) n d = omega arith
after-least (SkipIfNotUnit t) n d = omega arith
after-least (Call i m op capture) n d = omega arith
after-least (CallRef i m r) n d = omega arith
after-least (Rotate k) n d = omega arith
after-least (Switch i) n d = omega arith
after-least MakeFnPtr n d = omega arith
after-least (CallFnPtr m capture) n d = omega arith
after-least InterpolateStart n d = omega arith
after-least InterpolateAppend n d = omega arith
after-least InterpolateEnd n d = omega arith
after-least (MakeArray m) n d = omega arith
after-least (CheckSize i) n d = omega arith
after-least (Chain i) n d = omega arith
after-least (EvalAst i) n d = omega arith
