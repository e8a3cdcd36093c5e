-- The words of all records, and each record's test over numbers as the code makes it. Only `fields_right` is to be believed: the laws show
-- that the others are the tests of crate image_rule.
use Rattle.std.specs.Prelude.{ℕ, ◌+◌, ◌/◌, ◌%◌, Bool, true, false, ◌&&◌, ◌||◌, List, [], ◌∷◌, Option, Some, None, leb, ltb, eqb, get_or}
use Rattle.sheet.specs.Sections.{local_count}
use Rattle.check_shape.specs.Kinds as Kinds
use Rattle.lowering.specs.Limits.{max_args, max_elements}
use Rattle.image_read.specs.declared.RootKind.{RootKind}
use Rattle.image_read.specs.declared.RootKind.TheVariants.{Local, Named, This, Temporary}
use Rattle.image_read.specs.declared.StepKind.{StepKind}
use Rattle.image_read.specs.declared.StepKind.TheVariants.{Index, Property, Method}
use Rattle.image_rule.specs.Rules.{constants, names, residuals, chains, tables}
use Rattle.image_rule.specs.Test.{code_right, consts_right, names_right, tokens_right, residuals_right}
use Rattle.image_rule.specs.Test.{chains_right, steps_right, switches_right, cases_right, ranges_right}

-- the words of each record of each section, but for what steps ask of the operands of the chains that have them
unfoldable pub fields_right : List ℕ → List ℕ → Bool
fields_right s w =
    code_right s w
    && consts_right s w
    && names_right s w
    && tokens_right w
    && residuals_right s w
    && chains_right s w
    && steps_right w
    && switches_right w
    && cases_right w
    && ranges_right w

-- one more than any word
abbrev pub any : ℕ
any = 0x1_0000_0000

-- for the kinds 0 to 24: what a must be below, by the counts of constants, locals, names, tables, chains and residuals
unfoldable pub bounds_by : ℕ → ℕ → ℕ → ℕ → ℕ → ℕ → List ℕ
bounds_by consts locals names tables chains residuals =
    0
    -- Const, Unit, Bool, LoadLocal, LoadNamed, LoadThis
    ∷ consts
    ∷ 1
    ∷ 2
    ∷ locals
    ∷ names
    ∷ 1
    -- Pop, Jump, JumpIfTrue, JumpIfFalse, SkipIfNotUnit
    ∷ 1
    ∷ any
    ∷ any
    ∷ any
    ∷ any
    -- Call, CallRef, Rotate, Switch
    ∷ names
    ∷ names
    ∷ (max_args + 1)
    ∷ tables
    -- MakeFnPtr, CallFnPtr
    ∷ 1
    ∷ (max_args + 1)
    -- InterpolateStart, InterpolateAppend, InterpolateEnd
    ∷ 1
    ∷ 1
    ∷ 1
    -- MakeArray, CheckSize, Chain, EvalAst
    ∷ (max_elements + 1)
    ∷ (max_elements + 1)
    ∷ chains
    ∷ residuals
    ∷ []

unfoldable pub code_bounds : List ℕ → List ℕ → List ℕ
code_bounds s w = bounds_by (constants w) (local_count s) (names w) (tables w) (chains w) (residuals w)

-- b and c of CallRef: its c is what LoadLocal, LoadNamed or LoadThis may have as a
unfoldable pub ref_fits : List ℕ → ℕ → ℕ → Bool
ref_fits bounds b c =
    elim (ltb 2 (b / 256)) [ true ↦ false | false ↦ leb 1 (b % 256) && ltb c (get_or bounds (4 + b / 256) 0) ]

-- b and c by the kind
unfoldable pub rest_fits : List ℕ → ℕ → ℕ → ℕ → ℕ → Bool
rest_fits bounds tokens kind b c =
    elim (eqb kind 12) [
      | true ↦ ltb (b / 256) 2 && leb c tokens
      | false ↦
          elim (eqb kind 13) [
            | true ↦ ref_fits bounds b c
            | false ↦
                elim (eqb kind 17) [ true ↦ leb b 1 && eqb c 0 | false ↦ eqb b 0 && eqb c 0 ]
          ]
    ]

unfoldable pub code_fits : List ℕ → ℕ → ℕ → ℕ → ℕ → ℕ → Bool
code_fits bounds tokens kind a b c =
    elim (ltb 24 kind) [ true ↦ false | false ↦ ltb a (get_or bounds kind 0) && rest_fits bounds tokens kind b c ]

unfoldable pub const_fits : ℕ → ℕ → ℕ → ℕ → Bool
const_fits texts kind a b =
    eqb kind 3
    || eqb kind 4
    || (eqb kind 5 && Kinds.scalar a && eqb b 0)
    || (eqb kind 6 && ltb a texts && eqb b 0)

unfoldable pub run_fits : ℕ → ℕ → ℕ → Bool
run_fits first count n = leb (first + count) n

unfoldable pub root_fits : ℕ → ℕ → Option RootKind → ℕ → ℕ → Bool
root_fits locals names (Some Local) x y = ltb x locals && ltb y names
root_fits locals names (Some Named) x y = ltb x names
root_fits locals names (Some This) x y = eqb x 0
root_fits locals names (Some Temporary) x y = eqb x 0 && eqb y 0
root_fits locals names None x y = false

unfoldable pub step_fits : ℕ → Option StepKind → ℕ → ℕ → ℕ → ℕ → ℕ → Bool
step_fits names (Some Index) a b c d e = leb b 1 && eqb e 0
step_fits names (Some Property) a b c d e = ltb a names && ltb b names && ltb c names && leb d 1
step_fits names (Some Method) a b c d e = ltb a names && leb b max_args && leb d 1
step_fits names None a b c d e = false
