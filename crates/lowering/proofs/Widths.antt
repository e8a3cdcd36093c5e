-- Each kind of record has the width that Limits names.
use Prim.Native.Nat.{ℕ}
use mathlib.Core.Path.{◌≡◌, refl}
use mathlib.Core.List.{List, [], ◌∷◌, ◌++◌}
use lib.ListN.{length}
use Rattle.bytecode.specs.declared.Root.{Root}
use Rattle.bytecode.specs.declared.Root.TheVariants.{Local, Named, This, Temporary}
use Rattle.bytecode.specs.declared.Step.{Step}
use Rattle.bytecode.specs.declared.Step.TheVariants.{Index, Property, Method}
use Rattle.bytecode.specs.declared.Chain as ChainRecord
use Rattle.bytecode.specs.declared.Switch as SwitchRecord
use Rattle.bytecode.specs.declared.SwitchCase.{SwitchCase}
use Rattle.bytecode.specs.declared.SwitchRange.{SwitchRange}
use Rattle.bytecode.specs.declared.Op.{Op}
use Rattle.bytecode.specs.declared.Op.TheVariants.{Const, Unit, Bool, LoadLocal, LoadNamed, LoadThis, Pop, Jump, JumpIfTrue, JumpIfFalse}
use Rattle.bytecode.specs.declared.Op.TheVariants.{SkipIfNotUnit, Call, CallRef, Rotate, Switch, MakeFnPtr, CallFnPtr, InterpolateStart}
use Rattle.bytecode.specs.declared.Op.TheVariants.{InterpolateAppend, InterpolateEnd, MakeArray, CheckSize, Chain, EvalAst}
use Rattle.bytecode.specs.Op.{op_words}
use Rattle.bytecode.specs.Chain.{root_words, step_words, chain_words}
use Rattle.bytecode.specs.Switch.{switch_words, case_words, range_words}
use Rattle.lowering.specs.Limits.{op_width, const_width, name_width, chain_width, step_width, switch_width, case_width, range_width}
use Rattle.lowering.specs.Pools as Pools
use Rattle.lowering.specs.Image.{const_words, name_words}

pub op-width : (op : Op) → length (op_words op) ≡ op_width
unfolding op_words
op-width (Const i) = refl
op-width Unit = refl
op-width (Bool t) = refl
op-width (LoadLocal slot) = refl
op-width (LoadNamed i) = refl
op-width LoadThis = refl
op-width Pop = refl
op-width (Jump t) = refl
op-width (JumpIfTrue t) = refl
op-width (JumpIfFalse t) = refl
op-width (SkipIfNotUnit t) = refl
op-width (Call i argc op capture) = refl
op-width (CallRef i argc r) = refl
op-width (Rotate n) = refl
op-width (Switch i) = refl
op-width MakeFnPtr = refl
op-width (CallFnPtr argc capture) = refl
op-width InterpolateStart = refl
op-width InterpolateAppend = refl
op-width InterpolateEnd = refl
op-width (MakeArray n) = refl
op-width (CheckSize i) = refl
op-width (Chain i) = refl
op-width (EvalAst i) = refl

pub const-width : (c : Pools.Const) → length (const_words c) ≡ const_width
unfolding const_words
const-width c = refl

pub name-width : (n : Pools.Name) → length (name_words n) ≡ name_width
unfolding name_words
name-width n = refl

root-width : (root : Root) (xs : List ℕ) → length xs ≡ 3 → length (root_words root ++ xs) ≡ chain_width
unfolding root_words
root-width (Local slot i) xs h = rw h
root-width (Named i pos) xs h = rw h
root-width (This pos) xs h = rw h
root-width Temporary xs h = rw h

pub chain-width : (c : ChainRecord.Chain) → length (chain_words c) ≡ chain_width
unfolding chain_words
chain-width c = root-width c.root (c.first ∷ c.steps ∷ c.operands ∷ []) refl

pub step-width : (t : Step) → length (step_words t) ≡ step_width
unfolding step_words
step-width (Index operand flags pos bracket) = refl
step-width (Property i getter setter flags pos) = refl
step-width (Method i argc operand flags pos) = refl

pub switch-width : (t : SwitchRecord.Switch) → length (switch_words t) ≡ switch_width
unfolding switch_words
switch-width t = refl

pub case-width : (c : SwitchCase) → length (case_words c) ≡ case_width
unfolding case_words
case-width c = refl

pub range-width : (c : SwitchRange) → length (range_words c) ≡ range_width
unfolding range_words
range-width c = refl
