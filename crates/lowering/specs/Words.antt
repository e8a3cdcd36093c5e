-- An image read back from its words. Sections follow one another in the order of the sizes.
use Rattle.std.specs.Prelude.{ℕ, ◌+◌, ◌*◌, List, get_or}
use Rattle.lowering.specs.Limits.{sizes_words, op_width, code_width, const_width, chain_width, step_width, switch_width, case_width}
use Rattle.lowering.specs.Limits.{range_width, name_width}

abbrev pub word : List ℕ → ℕ → ℕ
word w i = get_or w i 0

-- sizes: instructions, constants, names, tokens, residuals, chains, steps, switches, cases, ranges, max_stack, greatest depth
abbrev pub instructions : List ℕ → ℕ
instructions w = word w 0

abbrev pub greatest_depth : List ℕ → ℕ
greatest_depth w = word w 11

-- where sections start: code, positions, constants, names, tokens, residuals, chains, steps, switches, cases, ranges
abbrev pub code_at : ℕ
code_at = sizes_words

unfoldable pub consts_at : List ℕ → ℕ
consts_at w = code_at + code_width * instructions w

unfoldable pub chains_at : List ℕ → ℕ
chains_at w = consts_at w + const_width * word w 1 + name_width * word w 2 + word w 3 + word w 4

unfoldable pub switches_at : List ℕ → ℕ
switches_at w = chains_at w + chain_width * word w 5 + step_width * word w 6

unfoldable pub cases_at : List ℕ → ℕ
cases_at w = switches_at w + switch_width * word w 7

unfoldable pub ranges_at : List ℕ → ℕ
ranges_at w = cases_at w + case_width * word w 8

-- the words of the instruction at a place: kind, a, b
abbrev pub kind_at : List ℕ → ℕ → ℕ
kind_at w p = word w (code_at + op_width * p)

abbrev pub a_at : List ℕ → ℕ → ℕ
a_at w p = word w (code_at + op_width * p + 1)

abbrev pub b_at : List ℕ → ℕ → ℕ
b_at w p = word w (code_at + op_width * p + 2)

-- word f of a record
unfoldable pub const_word : List ℕ → ℕ → ℕ → ℕ
const_word w i f = word w (consts_at w + const_width * i + f)

unfoldable pub chain_word : List ℕ → ℕ → ℕ → ℕ
chain_word w i f = word w (chains_at w + chain_width * i + f)

unfoldable pub switch_word : List ℕ → ℕ → ℕ → ℕ
switch_word w i f = word w (switches_at w + switch_width * i + f)

unfoldable pub case_word : List ℕ → ℕ → ℕ → ℕ
case_word w i f = word w (cases_at w + case_width * i + f)

unfoldable pub range_word : List ℕ → ℕ → ℕ → ℕ
range_word w i f = word w (ranges_at w + range_width * i + f)
