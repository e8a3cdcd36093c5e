-- What a program's records are to be, so that its words obey the rules: indexes below the counts, widths, flags.
use Prim.Native.Nat.{ℕ, zero, suc, ◌+◌, ◌≤◌, ◌<◌}
use mathlib.Core.Path.{◌≡◌}
use mathlib.Core.Bool.{true}
use mathlib.Core.List.{List, [], ◌∷◌}
use native.Mathlib.Omega.{arith}
use lib.ListN.{length, get_or}
use Rattle.sheet.specs.Sections.{node_count, text_count, local_count}
use Rattle.check_shape.specs.Kinds as Kinds
use Rattle.bytecode.specs.declared.Receiver.{Receiver}
use Rattle.bytecode.specs.declared.Receiver.TheVariants as Receivers
use Rattle.bytecode.specs.declared.Root.{Root}
use Rattle.bytecode.specs.declared.Root.TheVariants as Roots
use Rattle.bytecode.specs.declared.Step.{Step}
use Rattle.bytecode.specs.declared.Step.TheVariants.{Index, Property, Method}
use Rattle.bytecode.specs.declared.Chain as ChainRecord
use Rattle.bytecode.specs.declared.Op.{Op}
use Rattle.bytecode.specs.declared.Op.TheVariants.{Const, Unit, Bool, LoadLocal, LoadNamed, LoadThis, Pop, Jump, JumpIfTrue, JumpIfFalse}
use Rattle.bytecode.specs.declared.Op.TheVariants.{SkipIfNotUnit, Call, CallRef, Rotate, Switch, MakeFnPtr, CallFnPtr, InterpolateStart}
use Rattle.bytecode.specs.declared.Op.TheVariants.{InterpolateAppend, InterpolateEnd, MakeArray, CheckSize, Chain, EvalAst}
use Rattle.bytecode.specs.declared.Switch as SwitchRecord
use Rattle.bytecode.specs.declared.SwitchCase.{SwitchCase}
use Rattle.bytecode.specs.declared.SwitchRange.{SwitchRange}
use Rattle.lowering.specs.Limits.{max_args, max_elements}
use Rattle.lowering.specs.Code.{Ins, Code}
use Rattle.lowering.specs.Pools as P
use Rattle.lowering.specs.Pools.{Pools}
use Rattle.lowering.specs.Program.{Program}

-- counts of pools, of tables and of locals
pub record Counts : Type 0 where
  pub consts : ℕ
  pub names : ℕ
  pub tokens : ℕ
  pub residuals : ℕ
  pub chains : ℕ
  pub tables : ℕ
  pub locals : ℕ

-- with T tables
abbrev pub counts_for : List ℕ → ℕ → Pools → Counts
counts_for s T p = record {
  consts = length p.consts;
  names = length p.names;
  tokens = length p.tokens;
  residuals = length p.residuals;
  chains = length p.chains;
  tables = T;
  locals = local_count s;
}

-- a receiver names what is there
abbrev pub ReceiverOk : Counts → Receiver → Type 0
ReceiverOk C (Receivers.Local slot) = slot < C.locals
ReceiverOk C (Receivers.Named i) = i < C.names
ReceiverOk C Receivers.This = Prim.Unit {0}

-- so does an instruction, and its small operands are in range
abbrev pub OpOk : Counts → Op → Type 0
OpOk C (Const i) = i < C.consts
OpOk C Unit = Prim.Unit {0}
OpOk C (Bool t) = t ≤ 1
OpOk C (LoadLocal slot) = slot < C.locals
OpOk C (LoadNamed i) = i < C.names
OpOk C LoadThis = Prim.Unit {0}
OpOk C Pop = Prim.Unit {0}
OpOk C (Jump t) = Prim.Unit {0}
OpOk C (JumpIfTrue t) = Prim.Unit {0}
OpOk C (JumpIfFalse t) = Prim.Unit {0}
OpOk C (SkipIfNotUnit t) = Prim.Unit {0}
OpOk C (Call i argc op capture) = (i < C.names) × (argc < 256) × (capture ≤ 1) × (op ≤ C.tokens)
OpOk C (CallRef i argc r) = (i < C.names) × (1 ≤ argc) × (argc < 256) × ReceiverOk C r
OpOk C (Rotate n) = n ≤ max_args
OpOk C (Switch i) = i < C.tables
OpOk C MakeFnPtr = Prim.Unit {0}
OpOk C (CallFnPtr argc capture) = (argc ≤ max_args) × (capture ≤ 1)
OpOk C InterpolateStart = Prim.Unit {0}
OpOk C InterpolateAppend = Prim.Unit {0}
OpOk C InterpolateEnd = Prim.Unit {0}
OpOk C (MakeArray n) = n ≤ max_elements
OpOk C (CheckSize i) = i ≤ max_elements
OpOk C (Chain i) = i < C.chains
OpOk C (EvalAst i) = i < C.residuals

-- a constant by its kind
pub data ConstOk (s : List ℕ) (c : P.Const) : Type 0 where
  int : c.kind ≡ 3 → ConstOk s c
  float : c.kind ≡ 4 → ConstOk s c
  char : c.kind ≡ 5 → Kinds.scalar c.a ≡ true → c.b ≡ 0 → ConstOk s c
  string : c.kind ≡ 6 → c.a < text_count s → c.b ≡ 0 → ConstOk s c

-- roots and steps, with n names
abbrev pub RootOk : List ℕ → ℕ → Root → Type 0
RootOk s n (Roots.Local slot name) = (slot < local_count s) × (name < n)
RootOk s n (Roots.Named name pos) = name < n
RootOk s n (Roots.This pos) = Prim.Unit {0}
RootOk s n Roots.Temporary = Prim.Unit {0}

abbrev pub StepOk : ℕ → Step → Type 0
StepOk n (Index operand flags pos bracket) = flags ≤ 1
StepOk n (Property name getter setter flags pos) = (name < n) × (getter < n) × (setter < n) × (flags ≤ 1)
StepOk n (Method name argc operand flags pos) = (name < n) × (argc ≤ max_args) × (flags ≤ 1)

-- a step's operands are among n
abbrev pub StepIn : ℕ → Step → Type 0
StepIn n (Index operand flags pos bracket) = operand < n
StepIn n (Property name getter setter flags pos) = Prim.Unit {0}
StepIn n (Method name argc operand flags pos) = argc + operand ≤ n

-- what a lookup past the end gives
abbrev pub no_step : Step
no_step = Index 0 0 0 0

abbrev pub NameOk : List ℕ → P.Name → Type 0
NameOk s n = (n.text < text_count s) × (n.mark ≤ 1) × (n.namespace ≤ text_count s)

abbrev pub TokenOk : ℕ → Type 0
TokenOk t = (1 ≤ t) × (t ≤ 65535)

-- the rows of a table exist by `TablesFit`; code of n instructions, k constants
abbrev pub TableOk : ℕ → SwitchRecord.Switch → Type 0
TableOk n t = (t.ranged ≤ 1) × (t.default ≤ n)

abbrev pub CaseOk : ℕ → ℕ → SwitchCase → Type 0
CaseOk n k c = (c.target ≤ n) × (c.constant < k)

abbrev pub RangeOk : ℕ → SwitchRange → Type 0
RangeOk n c = (c.inclusive ≤ 1) × (c.target ≤ n)

-- a chain of pools p
pub record ChainOk (s : List ℕ) (p : Pools) (c : ChainRecord.Chain) : Type 0 where
  pub root : RootOk s (length p.names) c.root
  pub run : c.first + c.steps ≤ length p.steps
  pub few : c.operands ≤ max_elements
  -- each step has its operands in the chain
  pub inside : (k : ℕ) → k < c.steps → StepIn c.operands (get_or p.steps (c.first + k) no_step)

-- a fact of each entry of a list
abbrev pub AllIn : {A : Type 0} → (A → Type 0) → List A → Type 0
AllIn P [] = Prim.Unit {0}
AllIn P (x ∷ xs) = P x × AllIn P xs

-- the fact of entry i
pub all-in-at : {A : Type 0} (P : A → Type 0) (xs : List A) (d : A) → AllIn P xs → (i : ℕ) → i < length xs → P (get_or xs i d)
all-in-at P [] d h i g = absurd (omega arith)
all-in-at P (x ∷ xs) d h zero g = h.0
all-in-at P (x ∷ xs) d h (suc i) g = all-in-at P xs d h.1 i (omega arith)

-- all pools
pub record PoolsOk (s : List ℕ) (p : Pools) : Type 0 where
  pub consts : AllIn (ConstOk s) p.consts
  pub names : AllIn (NameOk s) p.names
  pub tokens : AllIn TokenOk p.tokens
  pub residuals : AllIn (λ j. j < node_count s) p.residuals
  pub chains : AllIn (ChainOk s p) p.chains
  pub steps : AllIn (StepOk (length p.names)) p.steps

-- all instructions, with T tables
abbrev pub CodeOk : List ℕ → ℕ → Pools → Code → Type 0
CodeOk s T p c = AllIn (λ (i : Ins). OpOk (counts_for s T p) i.op) c

-- the whole program
pub record Listed (s : List ℕ) (r : Program) : Type 0 where
  pub code : CodeOk s (length r.switches) r.pools r.code
  pub pools : PoolsOk s r.pools
  pub tables : AllIn (TableOk (length r.code)) r.switches
  pub cases : AllIn (CaseOk (length r.code) (length r.pools.consts)) r.cases
  pub ranges : AllIn (RangeOk (length r.code)) r.ranges
