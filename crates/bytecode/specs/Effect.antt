-- What each kind of instruction does to the depth and to the place, as one table.
use Rattle.std.specs.Prelude.{ℕ, ◌-◌, ◌/◌, ◌%◌, true, false, List, [], ◌∷◌, eqb, get_or}

-- where the next place is: behind; at the target a; at the target or behind, as the branch goes; at a row's target of table a, or at its
-- default
pub data Flow : Type 0 where
  on : Flow
  jump : Flow
  branch : Flow
  table : Flow

-- which count comes on top: none; argc of Call; argc of CallRef, less a Local receiver; a, popped; a, needed; what chain a takes
pub data Count : Type 0 where
  fixed : Count
  argc : Count
  argc_ref : Count
  pops_a : Count
  needs_a : Count
  operands : Count

-- pops and pushes; `keeps` is what an instruction needs and does not pop
pub record Effect : Type 0 where
  pub pops : ℕ
  pub pushes : ℕ
  pub keeps : ℕ
  pub count : Count
  pub flow : Flow

abbrev pub row : ℕ → ℕ → ℕ → Count → Flow → Effect
row pops pushes keeps count flow = record { pops = pops; pushes = pushes; keeps = keeps; count = count; flow = flow }

-- kinds 0 to 24; kind 0 is none
abbrev pub effects : List Effect
effects =
    row 0 0 0 fixed on
    -- Const, Unit, Bool, LoadLocal, LoadNamed, LoadThis
    ∷ row 0 1 0 fixed on
    ∷ row 0 1 0 fixed on
    ∷ row 0 1 0 fixed on
    ∷ row 0 1 0 fixed on
    ∷ row 0 1 0 fixed on
    ∷ row 0 1 0 fixed on
    -- Pop, Jump, JumpIfTrue, JumpIfFalse, SkipIfNotUnit
    ∷ row 1 0 0 fixed on
    ∷ row 0 0 0 fixed jump
    ∷ row 1 0 0 fixed branch
    ∷ row 1 0 0 fixed branch
    ∷ row 0 0 1 fixed branch
    -- Call, CallRef, Rotate, Switch
    ∷ row 0 1 0 argc on
    ∷ row 0 1 0 argc_ref on
    ∷ row 0 0 1 needs_a on
    ∷ row 0 0 1 fixed table
    -- MakeFnPtr, CallFnPtr
    ∷ row 1 1 0 fixed on
    ∷ row 1 1 0 pops_a on
    -- InterpolateStart, InterpolateAppend, InterpolateEnd
    ∷ row 0 1 0 fixed on
    ∷ row 2 1 0 fixed on
    ∷ row 1 1 0 fixed on
    -- MakeArray, CheckSize, Chain, EvalAst
    ∷ row 0 1 0 pops_a on
    ∷ row 0 0 1 fixed on
    ∷ row 0 1 0 operands on
    ∷ row 0 1 0 fixed on
    ∷ []

unfoldable pub effect : ℕ → Effect
effect kind = get_or effects kind (row 0 0 0 fixed on)

-- argc + 256 · receiver: a Local receiver (0) is not on the stack
unfoldable pub ref_argc : ℕ → ℕ
ref_argc b = elim (eqb (b / 256) 0) [ true ↦ b % 256 - 1 | false ↦ b % 256 ]

-- the count that is popped on top, of an instruction with words a and b, where chain a takes n
unfoldable pub popped : Count → ℕ → ℕ → ℕ → ℕ
popped fixed a b n = 0
popped argc a b n = b % 256
popped argc_ref a b n = ref_argc b
popped pops_a a b n = a
popped needs_a a b n = 0
popped operands a b n = n

-- the count that is needed and kept on top
unfoldable pub kept : Count → ℕ → ℕ
kept fixed a = 0
kept argc a = 0
kept argc_ref a = 0
kept pops_a a = 0
kept needs_a a = a
kept operands a = 0
