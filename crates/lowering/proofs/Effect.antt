-- What an instruction does to the depth and where it goes, for code as the lowering gives it. The runs of the theorem read the same
-- from the image's words.
use Prim.Native.Nat.{ℕ, suc, ◌+◌, ◌-◌, ◌<◌}
use mathlib.Core.List.{List, [], ◌∷◌}
use lib.ListN.{get_or, length}
use Rattle.bytecode.specs.declared.Receiver.{Receiver}
use Rattle.bytecode.specs.declared.Receiver.TheVariants.{Local, Named, This}
use Rattle.bytecode.specs.declared.Root.TheVariants.{Temporary}
use Rattle.bytecode.specs.declared.Chain as ChainRecord
use Rattle.bytecode.specs.declared.Op.{Op}
use Rattle.bytecode.specs.declared.Op.TheVariants.{Const, Unit, Bool, LoadLocal, LoadNamed, LoadThis, Pop, Jump, JumpIfTrue, JumpIfFalse}
use Rattle.bytecode.specs.declared.Op.TheVariants.{SkipIfNotUnit, Call, CallRef, Rotate, Switch, MakeFnPtr, CallFnPtr, InterpolateStart}
use Rattle.bytecode.specs.declared.Op.TheVariants.{InterpolateAppend, InterpolateEnd, MakeArray, CheckSize, Chain, EvalAst}
use Rattle.lowering.specs.Chain.{on_stack}

-- what the code stands in: the chains of the image, the count of its switch tables, and the targets of each table
pub record Context : Type 0 where
  pub chains : List ChainRecord.Chain
  pub tables : ℕ
  pub table : ℕ → List ℕ

abbrev pub no_chain : ChainRecord.Chain
no_chain = record { root = Temporary; first = 0; steps = 0; operands = 0 }

-- the operands of chain i, and one more for a root on the stack
abbrev pub chain_pops : Context → ℕ → ℕ
chain_pops X i = (get_or X.chains i no_chain).operands + on_stack (get_or X.chains i no_chain).root

abbrev pub ref_pops : ℕ → Receiver → ℕ
ref_pops argc (Local slot) = argc - 1
ref_pops argc (Named i) = argc
ref_pops argc This = argc

abbrev pub pops : Context → Op → ℕ
pops X (Const i) = 0
pops X Unit = 0
pops X (Bool t) = 0
pops X (LoadLocal slot) = 0
pops X (LoadNamed i) = 0
pops X LoadThis = 0
pops X Pop = 1
pops X (Jump t) = 0
pops X (JumpIfTrue t) = 1
pops X (JumpIfFalse t) = 1
pops X (SkipIfNotUnit t) = 0
pops X (Call i argc op capture) = argc
pops X (CallRef i argc r) = ref_pops argc r
pops X (Rotate n) = 0
pops X (Switch i) = 0
pops X MakeFnPtr = 1
pops X (CallFnPtr argc capture) = argc + 1
pops X InterpolateStart = 0
pops X InterpolateAppend = 2
pops X InterpolateEnd = 1
pops X (MakeArray n) = n
pops X (CheckSize i) = 0
pops X (Chain i) = chain_pops X i
pops X (EvalAst i) = 0

-- what must be there: what is popped, and what is only looked at
abbrev pub needs : Context → Op → ℕ
needs X (Const i) = 0
needs X Unit = 0
needs X (Bool t) = 0
needs X (LoadLocal slot) = 0
needs X (LoadNamed i) = 0
needs X LoadThis = 0
needs X Pop = 1
needs X (Jump t) = 0
needs X (JumpIfTrue t) = 1
needs X (JumpIfFalse t) = 1
needs X (SkipIfNotUnit t) = 1
needs X (Call i argc op capture) = argc
needs X (CallRef i argc r) = ref_pops argc r
needs X (Rotate n) = n + 1
needs X (Switch i) = 1
needs X MakeFnPtr = 1
needs X (CallFnPtr argc capture) = argc + 1
needs X InterpolateStart = 0
needs X InterpolateAppend = 2
needs X InterpolateEnd = 1
needs X (MakeArray n) = n
needs X (CheckSize i) = 1
needs X (Chain i) = chain_pops X i
needs X (EvalAst i) = 0

abbrev pub pushes : Op → ℕ
pushes (Const i) = 1
pushes Unit = 1
pushes (Bool t) = 1
pushes (LoadLocal slot) = 1
pushes (LoadNamed i) = 1
pushes LoadThis = 1
pushes Pop = 0
pushes (Jump t) = 0
pushes (JumpIfTrue t) = 0
pushes (JumpIfFalse t) = 0
pushes (SkipIfNotUnit t) = 0
pushes (Call i argc op capture) = 1
pushes (CallRef i argc r) = 1
pushes (Rotate n) = 0
pushes (Switch i) = 0
pushes MakeFnPtr = 1
pushes (CallFnPtr argc capture) = 1
pushes InterpolateStart = 1
pushes InterpolateAppend = 1
pushes InterpolateEnd = 1
pushes (MakeArray n) = 1
pushes (CheckSize i) = 0
pushes (Chain i) = 1
pushes (EvalAst i) = 1

-- the depth after the instruction
abbrev pub after : Context → Op → ℕ → ℕ
after X op d = d - pops X op + pushes op

-- where the instruction at place p can go
abbrev pub nexts : Context → Op → ℕ → List ℕ
nexts X (Const i) p = suc p ∷ []
nexts X Unit p = suc p ∷ []
nexts X (Bool t) p = suc p ∷ []
nexts X (LoadLocal slot) p = suc p ∷ []
nexts X (LoadNamed i) p = suc p ∷ []
nexts X LoadThis p = suc p ∷ []
nexts X Pop p = suc p ∷ []
nexts X (Jump t) p = t ∷ []
nexts X (JumpIfTrue t) p = t ∷ suc p ∷ []
nexts X (JumpIfFalse t) p = t ∷ suc p ∷ []
nexts X (SkipIfNotUnit t) p = t ∷ suc p ∷ []
nexts X (Call i argc op capture) p = suc p ∷ []
nexts X (CallRef i argc r) p = suc p ∷ []
nexts X (Rotate n) p = suc p ∷ []
nexts X (Switch i) p = X.table i
nexts X MakeFnPtr p = suc p ∷ []
nexts X (CallFnPtr argc capture) p = suc p ∷ []
nexts X InterpolateStart p = suc p ∷ []
nexts X InterpolateAppend p = suc p ∷ []
nexts X InterpolateEnd p = suc p ∷ []
nexts X (MakeArray n) p = suc p ∷ []
nexts X (CheckSize i) p = suc p ∷ []
nexts X (Chain i) p = suc p ∷ []
nexts X (EvalAst i) p = suc p ∷ []

-- what the words of an instruction rest on: a count of arguments fits its part of a word, a chain and a table exist
abbrev pub Narrow : Context → Op → Type 0
Narrow X (Const i) = Prim.Unit {0}
Narrow X Unit = Prim.Unit {0}
Narrow X (Bool t) = Prim.Unit {0}
Narrow X (LoadLocal slot) = Prim.Unit {0}
Narrow X (LoadNamed i) = Prim.Unit {0}
Narrow X LoadThis = Prim.Unit {0}
Narrow X Pop = Prim.Unit {0}
Narrow X (Jump t) = Prim.Unit {0}
Narrow X (JumpIfTrue t) = Prim.Unit {0}
Narrow X (JumpIfFalse t) = Prim.Unit {0}
Narrow X (SkipIfNotUnit t) = Prim.Unit {0}
Narrow X (Call i argc op capture) = argc < 256
Narrow X (CallRef i argc r) = argc < 256
Narrow X (Rotate n) = Prim.Unit {0}
Narrow X (Switch i) = i < X.tables
Narrow X MakeFnPtr = Prim.Unit {0}
Narrow X (CallFnPtr argc capture) = Prim.Unit {0}
Narrow X InterpolateStart = Prim.Unit {0}
Narrow X InterpolateAppend = Prim.Unit {0}
Narrow X InterpolateEnd = Prim.Unit {0}
Narrow X (MakeArray n) = Prim.Unit {0}
Narrow X (CheckSize i) = Prim.Unit {0}
Narrow X (Chain i) = i < length X.chains
Narrow X (EvalAst i) = Prim.Unit {0}
