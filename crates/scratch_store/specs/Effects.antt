-- The words of an instruction and the depth after it, as the code computes them.
use Rattle.std.specs.Prelude.{ℕ, ◌+◌, ◌-◌, ◌*◌, ◌%◌, ◌<◌, List, [], ◌∷◌, slice_index, slice_index_or}
use Rattle.bytecode.specs.declared.Receiver.{Receiver}
use Rattle.bytecode.specs.declared.Op.{Op}
use Rattle.bytecode.specs.declared.Op.TheVariants.{Const, Unit, Bool, LoadLocal, LoadNamed, LoadThis, Pop, Jump, JumpIfTrue, JumpIfFalse}
use Rattle.bytecode.specs.declared.Op.TheVariants.{SkipIfNotUnit, Call, CallRef, Rotate, Switch, MakeFnPtr, CallFnPtr, InterpolateStart}
use Rattle.bytecode.specs.declared.Op.TheVariants.{InterpolateAppend, InterpolateEnd, MakeArray, CheckSize, Chain, EvalAst}
use Rattle.bytecode.specs.Op.{four, receiver_kind, receiver_word}
use Rattle.bytecode.specs.Effect.{effect, popped}

-- argc and capture, or argc and receiver, have room in one word
abbrev pub Narrow : Op → Type 0
Narrow (Const i) = Prim.Unit {0}
Narrow Unit = Prim.Unit {0}
Narrow (Bool t) = Prim.Unit {0}
Narrow (LoadLocal slot) = Prim.Unit {0}
Narrow (LoadNamed name) = Prim.Unit {0}
Narrow LoadThis = Prim.Unit {0}
Narrow Pop = Prim.Unit {0}
Narrow (Jump t) = Prim.Unit {0}
Narrow (JumpIfTrue t) = Prim.Unit {0}
Narrow (JumpIfFalse t) = Prim.Unit {0}
Narrow (SkipIfNotUnit t) = Prim.Unit {0}
Narrow (Call name argc op capture) = (argc < 256) × (capture < 2)
Narrow (CallRef name argc r) = argc < 256
Narrow (Rotate n) = Prim.Unit {0}
Narrow (Switch i) = Prim.Unit {0}
Narrow MakeFnPtr = Prim.Unit {0}
Narrow (CallFnPtr argc capture) = Prim.Unit {0}
Narrow InterpolateStart = Prim.Unit {0}
Narrow InterpolateAppend = Prim.Unit {0}
Narrow InterpolateEnd = Prim.Unit {0}
Narrow (MakeArray n) = Prim.Unit {0}
Narrow (CheckSize i) = Prim.Unit {0}
Narrow (Chain i) = Prim.Unit {0}
Narrow (EvalAst i) = Prim.Unit {0}

unfoldable pub receiver_words : Receiver → List ℕ
receiver_words r = receiver_kind r ∷ receiver_word r ∷ []

unfoldable pub joined : ℕ → ℕ → ℕ
joined argc n = (argc + 256 * n) % 4294967296

unfoldable pub call_ref_words : ℕ → ℕ → Receiver → List ℕ
call_ref_words name argc r = four 13 name (joined argc (receiver_kind r)) (receiver_word r)

-- the depth after an instruction, by the effect of its kind
unfoldable pub after_words : List ℕ → ℕ → ℕ → ℕ
after_words w n d =
    let e = effect (slice_index_or w 0 0) in
    d - (e.pops + popped e.count (slice_index w 1) (slice_index w 2) n) + e.pushes
