-- What each word of an image may be: a rule for each word of each record, by the record's kind.
use Rattle.std.specs.Prelude.{ℕ, ◌+◌, ◌*◌, ◌/◌, ◌%◌, ◌≤◌, ◌<◌, ◌≡◌, true, false, List, [], ◌∷◌, ◌++◌, eqb, length, get_or}
use Rattle.sheet.specs.Sections.{node_count, text_count, local_count}
use Rattle.check_shape.specs.Kinds as Kinds
use Rattle.lowering.specs.Limits.{max_args, max_elements, const_width, name_width, chain_width, step_width, range_width}
use Rattle.lowering.specs.Words.{word, instructions, consts_at, chains_at, ranges_at, kind_at, b_at, const_word}
use Rattle.lowering.specs.Words.{chain_word, switch_word}

-- the counts of the pools
abbrev pub constants : List ℕ → ℕ
constants w = word w 1

abbrev pub names : List ℕ → ℕ
names w = word w 2

abbrev pub tokens : List ℕ → ℕ
tokens w = word w 3

abbrev pub residuals : List ℕ → ℕ
residuals w = word w 4

abbrev pub chains : List ℕ → ℕ
chains w = word w 5

abbrev pub steps : List ℕ → ℕ
steps w = word w 6

abbrev pub tables : List ℕ → ℕ
tables w = word w 7

abbrev pub cases : List ℕ → ℕ
cases w = word w 8

abbrev pub ranges : List ℕ → ℕ
ranges w = word w 9

-- where the sections start that a run does not read
unfoldable pub names_at : List ℕ → ℕ
names_at w = consts_at w + const_width * constants w

unfoldable pub tokens_at : List ℕ → ℕ
tokens_at w = names_at w + name_width * names w

unfoldable pub residuals_at : List ℕ → ℕ
residuals_at w = tokens_at w + tokens w

unfoldable pub steps_at : List ℕ → ℕ
steps_at w = chains_at w + chain_width * chains w

unfoldable pub step_word : List ℕ → ℕ → ℕ → ℕ
step_word w i f = word w (steps_at w + step_width * i + f)

unfoldable pub end_at : List ℕ → ℕ
end_at w = ranges_at w + range_width * ranges w

pub data Rule : Type 0 where
  -- any word; 0
  free : Rule
  unused : Rule
  -- below a count; at most; from .. to, both included
  below : ℕ → Rule
  up_to : ℕ → Rule
  between : ℕ → ℕ → Rule
  -- a Unicode scalar value
  scalar : Rule
  -- the low 8 bits at least the first number, the rest below the second
  packed : ℕ → ℕ → Rule
  -- a count that, from the first number on, does not pass the second
  within : ℕ → ℕ → Rule

unfoldable pub Fits : Rule → ℕ → Type 0
Fits free x = Unit {0}
Fits unused x = x ≡ 0
Fits (below n) x = x < n
Fits (up_to n) x = x ≤ n
Fits (between a b) x = (a ≤ x) × (x ≤ b)
Fits scalar x = Kinds.scalar x ≡ true
Fits (packed least kinds) x = (least ≤ x % 256) × (x / 256 < kinds)
Fits (within first n) x = first + x ≤ n

-- the words from `at` on obey the rules, one after another
abbrev pub Obeys : List Rule → List ℕ → ℕ → Type 0
Obeys rs w at = (f : ℕ) → f < length rs → Fits (get_or rs f free) (word w (at + f))

-- a record that names only a; one that names nothing
abbrev pub only : Rule → List Rule
only r = r ∷ unused ∷ unused ∷ []

abbrev pub nothing : List Rule
nothing = only unused

-- the last word of CallRef, by its receiver: slot, name, or 0
unfoldable pub receiver_rule : List ℕ → List ℕ → ℕ → Rule
receiver_rule s w receiver = get_or (below (local_count s) ∷ below (names w) ∷ unused ∷ []) receiver unused

-- a, b and c for the kinds 0 to 24, with b known; kind 0 is none. The targets of 8 to 11 have a clause of their own.
unfoldable pub code_table : List ℕ → List ℕ → ℕ → List (List Rule)
code_table s w b =
    []
    -- Const, Unit, Bool, LoadLocal, LoadNamed, LoadThis
    ∷ only (below (constants w))
    ∷ nothing
    ∷ only (up_to 1)
    ∷ only (below (local_count s))
    ∷ only (below (names w))
    ∷ nothing
    -- Pop, Jump, JumpIfTrue, JumpIfFalse, SkipIfNotUnit
    ∷ nothing
    ∷ only free
    ∷ only free
    ∷ only free
    ∷ only free
    -- Call, CallRef, Rotate, Switch
    ∷ (below (names w) ∷ packed 0 2 ∷ up_to (tokens w) ∷ [])
    ∷ (below (names w) ∷ packed 1 3 ∷ receiver_rule s w (b / 256) ∷ [])
    ∷ only (up_to max_args)
    ∷ only (below (tables w))
    -- MakeFnPtr, CallFnPtr
    ∷ nothing
    ∷ (up_to max_args ∷ up_to 1 ∷ unused ∷ [])
    -- InterpolateStart, InterpolateAppend, InterpolateEnd
    ∷ nothing
    ∷ nothing
    ∷ nothing
    -- MakeArray, CheckSize, Chain, EvalAst
    ∷ only (up_to max_elements)
    ∷ only (up_to max_elements)
    ∷ only (below (chains w))
    ∷ only (below (residuals w))
    ∷ []

abbrev pub code_rules : List ℕ → List ℕ → ℕ → List Rule
code_rules s w p = between 1 24 ∷ get_or (code_table s w (b_at w p)) (kind_at w p) []

-- Int, Float: any 64 bits; Char; String
unfoldable pub const_table : List ℕ → List (List Rule)
const_table s =
    []
    ∷ []
    ∷ []
    ∷ (free ∷ free ∷ [])
    ∷ (free ∷ free ∷ [])
    ∷ (scalar ∷ unused ∷ [])
    ∷ (below (text_count s) ∷ unused ∷ [])
    ∷ []

abbrev pub const_rules : List ℕ → List ℕ → ℕ → List Rule
const_rules s w i = between 3 6 ∷ get_or (const_table s) (const_word w i 0) []

abbrev pub name_rules : List ℕ → List Rule
name_rules s = below (text_count s) ∷ up_to 1 ∷ up_to (text_count s) ∷ []

abbrev pub token_rules : List Rule
token_rules = between 1 65535 ∷ []

abbrev pub residual_rules : List ℕ → List Rule
residual_rules s = below (node_count s) ∷ []

-- Local: slot and name; Named: name and position; This: position; Temporary
unfoldable pub root_table : List ℕ → List ℕ → List (List Rule)
root_table s w =
    (below (local_count s) ∷ below (names w) ∷ [])
    ∷ (below (names w) ∷ free ∷ [])
    ∷ (unused ∷ free ∷ [])
    ∷ (unused ∷ unused ∷ [])
    ∷ []

-- the root, the first step, the steps, the operands
abbrev pub chain_rules : List ℕ → List ℕ → ℕ → List Rule
chain_rules s w i = up_to 3 ∷ get_or (root_table s w) (chain_word w i 0) [] ++ (free ∷ within (chain_word w i 3) (steps w) ∷ up_to max_elements ∷ [])

-- index: operand, flags, two positions, 0; property: three names, flags, position; method: name, argc, operand, flags, position
unfoldable pub step_table : List ℕ → List (List Rule)
step_table w =
    (free ∷ up_to 1 ∷ free ∷ free ∷ unused ∷ [])
    ∷ (below (names w) ∷ below (names w) ∷ below (names w) ∷ up_to 1 ∷ free ∷ [])
    ∷ (below (names w) ∷ up_to max_args ∷ free ∷ up_to 1 ∷ free ∷ [])
    ∷ []

abbrev pub step_rules : List ℕ → ℕ → List Rule
step_rules w j = up_to 2 ∷ get_or (step_table w) (step_word w j 0) []

-- step j as a step of a chain with n operands: an index's operand, and a method's operands, are among them
unfoldable pub operand_table : List ℕ → ℕ → ℕ → List (List Rule)
operand_table w j n =
    (free ∷ below n ∷ [])
    ∷ []
    ∷ (free ∷ free ∷ free ∷ within (step_word w j 2) n ∷ [])
    ∷ []

abbrev pub operand_rules : List ℕ → ℕ → ℕ → List Rule
operand_rules w i j = get_or (operand_table w j (chain_word w i 5)) (step_word w j 0) []

-- a table's rows are cases (0) or ranges (1)
unfoldable pub rows_there : List ℕ → ℕ → ℕ
rows_there w kind = elim (eqb kind 0) [ true ↦ cases w | false ↦ ranges w ]

abbrev pub table_rules : List ℕ → ℕ → List Rule
table_rules w i = up_to 1 ∷ free ∷ within (switch_word w i 1) (rows_there w (switch_word w i 0)) ∷ up_to (instructions w) ∷ []

abbrev pub case_rules : List ℕ → List Rule
case_rules w = up_to (instructions w) ∷ below (constants w) ∷ []

abbrev pub range_rules : List ℕ → List Rule
range_rules w = free ∷ free ∷ free ∷ free ∷ up_to 1 ∷ up_to (instructions w) ∷ []
