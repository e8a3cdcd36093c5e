-- The words of an instruction: kind, a, b, c.
use Rattle.std.specs.Prelude.{ℕ, ◌+◌, ◌*◌, List, [], ◌∷◌}
use Rattle.bytecode.specs.declared.Receiver.{Receiver}
use Rattle.bytecode.specs.declared.Receiver.TheVariants.{Local, Named, This}
use Rattle.bytecode.specs.declared.Op.{Op}
use Rattle.bytecode.specs.declared.Op.TheVariants.{Const, Unit, Bool, LoadLocal, LoadNamed, LoadThis, Pop, Jump, JumpIfTrue}
use Rattle.bytecode.specs.declared.Op.TheVariants.{JumpIfFalse, SkipIfNotUnit, Call, CallRef, Rotate, Switch, MakeFnPtr, CallFnPtr}
use Rattle.bytecode.specs.declared.Op.TheVariants.{InterpolateStart, InterpolateAppend, InterpolateEnd, MakeArray, CheckSize, Chain}
use Rattle.bytecode.specs.declared.Op.TheVariants.{EvalAst}

-- a receiver's number, and the word that names it
unfoldable pub receiver_kind : Receiver → ℕ
receiver_kind (Local slot) = 0
receiver_kind (Named name) = 1
receiver_kind This = 2

unfoldable pub receiver_word : Receiver → ℕ
receiver_word (Local slot) = slot
receiver_word (Named name) = name
receiver_word This = 0

abbrev pub four : ℕ → ℕ → ℕ → ℕ → List ℕ
four k a b c = k ∷ a ∷ b ∷ c ∷ []

unfoldable pub op_words : Op → List ℕ
op_words (Const i) = four 1 i 0 0
op_words Unit = four 2 0 0 0
op_words (Bool t) = four 3 t 0 0
op_words (LoadLocal slot) = four 4 slot 0 0
op_words (LoadNamed name) = four 5 name 0 0
op_words LoadThis = four 6 0 0 0
op_words Pop = four 7 0 0 0
op_words (Jump t) = four 8 t 0 0
op_words (JumpIfTrue t) = four 9 t 0 0
op_words (JumpIfFalse t) = four 10 t 0 0
op_words (SkipIfNotUnit t) = four 11 t 0 0
op_words (Call name argc op capture) = four 12 name (argc + 256 * capture) op
op_words (CallRef name argc r) = four 13 name (argc + 256 * receiver_kind r) (receiver_word r)
op_words (Rotate n) = four 14 n 0 0
op_words (Switch i) = four 15 i 0 0
op_words MakeFnPtr = four 16 0 0 0
op_words (CallFnPtr argc capture) = four 17 argc capture 0
op_words InterpolateStart = four 18 0 0 0
op_words InterpolateAppend = four 19 0 0 0
op_words InterpolateEnd = four 20 0 0 0
op_words (MakeArray n) = four 21 n 0 0
op_words (CheckSize i) = four 22 i 0 0
op_words (Chain i) = four 23 i 0 0
op_words (EvalAst i) = four 24 i 0 0
