-- The words and the depth that the code computes are those of the definition.
use Rattle.std.proofs.Common.{◌≡◌, ℕ, ◌+◌, ◌*◌, ◌<◌, List, sym, refl, ap, ◌∙◌, subst, arith}
use Rattle.bytecode.specs.declared.Receiver.{Receiver}
use Rattle.bytecode.specs.declared.Receiver.TheVariants.{Local, Named, This}
use Rattle.bytecode.specs.declared.Op.{Op}
use Rattle.bytecode.specs.declared.Op.TheVariants.{Const, Unit, Bool, LoadLocal, LoadNamed, LoadThis, Pop, Jump, JumpIfTrue, JumpIfFalse}
use Rattle.bytecode.specs.declared.Op.TheVariants.{SkipIfNotUnit, Call, CallRef, Rotate, Switch, MakeFnPtr, CallFnPtr, InterpolateStart}
use Rattle.bytecode.specs.declared.Op.TheVariants.{InterpolateAppend, InterpolateEnd, MakeArray, CheckSize, Chain, EvalAst}
use Rattle.bytecode.specs.Op.{four, receiver_kind, receiver_word, op_words}
use Rattle.bytecode.specs.Effect.{effect, popped}
use Rattle.expr_model.specs.Made.{after}
use Rattle.scratch_store.specs.Effects.{Narrow, joined, call_ref_words, after_words}

joined_small : (argc n : ℕ) → argc < 256 → n < 256 → joined argc n ≡ argc + 256 * n
unfolding joined
joined_small argc n h g = omega arith

kind-small : (r : Receiver) → receiver_kind r < 256
unfolding receiver_kind
kind-small (Local slot) = omega arith
kind-small (Named name) = omega arith
kind-small This = omega arith

-- Call and CallRef
pub call-words : (x : Op) (name argc op capture b : ℕ) → x ≡ Call name argc op capture → b ≡ joined argc capture → Narrow x
    → four 12 name b op ≡ op_words x
unfolding op_words
call-words x name argc op capture b e f h =
    let k = subst Narrow e h in
    let g = k.1 in
    ap (λ (z : ℕ). four 12 name z op) (f ∙ joined_small argc capture k.0 (omega arith)) ∙ sym (ap op_words e)

pub call-ref-words : (x : Op) (name argc : ℕ) (r : Receiver) (w : List ℕ) → x ≡ CallRef name argc r → w ≡ call_ref_words name argc r
    → Narrow x → w ≡ op_words x
unfolding op_words call_ref_words
call-ref-words x name argc r w e f h =
    f
    ∙ ap (λ (b : ℕ). four 13 name b (receiver_word r)) (joined_small argc (receiver_kind r) (subst Narrow e h) (kind-small r))
    ∙ sym (ap op_words e)

-- the table gives the effects
module _ (n d : ℕ) where
  pub after_op : (op : Op) → after_words (op_words op) n d ≡ after op n d
  unfolding after_words op_words after effect popped
  after_op (Const i) = refl
  after_op Unit = refl
  after_op (Bool t) = refl
  after_op (LoadLocal slot) = refl
  after_op (LoadNamed name) = refl
  after_op LoadThis = refl
  after_op Pop = refl
  after_op (Jump t) = refl
  after_op (JumpIfTrue t) = refl
  after_op (JumpIfFalse t) = refl
  after_op (SkipIfNotUnit t) = refl
  after_op (Call name argc op capture) = refl
  after_op (CallRef name argc r) = refl
  after_op (Rotate k) = refl
  after_op (Switch i) = refl
  after_op MakeFnPtr = refl
  after_op (CallFnPtr argc capture) = refl
  after_op InterpolateStart = refl
  after_op InterpolateAppend = refl
  after_op InterpolateEnd = refl
  after_op (MakeArray k) = refl
  after_op (CheckSize i) = refl
  after_op (Chain i) = refl
  after_op (EvalAst i) = refl
