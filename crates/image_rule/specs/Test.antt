-- The test for a well made image. It goes over each section once, and over the code twice: to mark the depths,
-- and to see that the marks agree.
use Rattle.std.specs.Prelude.{ℕ, zero, suc, ◌+◌, ◌*◌, ◌/◌, ◌%◌, min, Bool, true, ◌&&◌, List, leb, ltb, eqb, length, get_or}
use Rattle.words.specs.Count.{all_below}
use Rattle.check_shape.specs.Kinds as Kinds
use Rattle.bytecode.specs.Effect.{Flow, on, jump, branch, table}
use Rattle.lowering.specs.Limits.{sizes_words, op_width, const_width, name_width, chain_width, step_width, switch_width, case_width, range_width}
use Rattle.lowering.specs.Words.{word, instructions, code_at, consts_at, chains_at, switches_at, cases_at, ranges_at, a_at, chain_word, switch_word}
use Rattle.lowering.specs.Run.{row_target}
use Rattle.image_rule.specs.Rules.{constants, names, tokens, residuals, chains, steps, tables, cases, ranges, names_at, tokens_at}
use Rattle.image_rule.specs.Rules.{residuals_at, steps_at, end_at, Rule, free, unused, below, up_to, between, scalar, packed, within}
use Rattle.image_rule.specs.Rules.{code_rules, const_rules, name_rules, token_rules, residual_rules, chain_rules, step_rules, operand_rules}
use Rattle.image_rule.specs.Rules.{table_rules, case_rules, range_rules}
use Rattle.image_rule.specs.Marks.{flow_at, marks_there, marked, marks_right}

unfoldable pub fits : Rule → ℕ → Bool
fits free x = true
fits unused x = eqb x 0
fits (below n) x = ltb x n
fits (up_to n) x = leb x n
fits (between a b) x = leb a x && leb x b
fits scalar x = Kinds.scalar x
fits (packed least kinds) x = leb least (x % 256) && ltb (x / 256) kinds
fits (within first n) x = leb (first + x) n

unfoldable pub obeys : List Rule → List ℕ → ℕ → Bool
obeys rs w at = all_below (length rs) (λ f. fits (get_or rs f free) (word w (at + f)))

-- the words of each section
abbrev pub code_right : List ℕ → List ℕ → Bool
code_right s w = all_below (instructions w) (λ p. obeys (code_rules s w p) w (code_at + op_width * p))

abbrev pub consts_right : List ℕ → List ℕ → Bool
consts_right s w = all_below (constants w) (λ i. obeys (const_rules s w i) w (consts_at w + const_width * i))

abbrev pub names_right : List ℕ → List ℕ → Bool
names_right s w = all_below (names w) (λ i. obeys (name_rules s) w (names_at w + name_width * i))

abbrev pub tokens_right : List ℕ → Bool
tokens_right w = all_below (tokens w) (λ i. obeys token_rules w (tokens_at w + i))

abbrev pub residuals_right : List ℕ → List ℕ → Bool
residuals_right s w = all_below (residuals w) (λ i. obeys (residual_rules s) w (residuals_at w + i))

abbrev pub chains_right : List ℕ → List ℕ → Bool
chains_right s w = all_below (chains w) (λ i. obeys (chain_rules s w i) w (chains_at w + chain_width * i))

abbrev pub steps_right : List ℕ → Bool
steps_right w = all_below (steps w) (λ j. obeys (step_rules w j) w (steps_at w + step_width * j))

-- the steps of chain i have their operands in it
abbrev pub operands_by : List ℕ → ℕ → Bool
operands_by w i =
    all_below (chain_word w i 4)
    (λ k. obeys (operand_rules w i (chain_word w i 3 + k)) w (steps_at w + step_width * (chain_word w i 3 + k)))

abbrev pub operands_right : List ℕ → Bool
operands_right w = all_below (chains w) (λ i. operands_by w i)

abbrev pub switches_right : List ℕ → Bool
switches_right w = all_below (tables w) (λ i. obeys (table_rules w i) w (switches_at w + switch_width * i))

abbrev pub cases_right : List ℕ → Bool
cases_right w = all_below (cases w) (λ i. obeys (case_rules w) w (cases_at w + case_width * i))

abbrev pub ranges_right : List ℕ → Bool
ranges_right w = all_below (ranges w) (λ i. obeys (range_rules w) w (ranges_at w + range_width * i))

unfoldable pub words_right : List ℕ → List ℕ → Bool
words_right s w =
    code_right s w
    && consts_right s w
    && names_right s w
    && tokens_right w
    && residuals_right s w
    && chains_right s w
    && steps_right w
    && operands_right w
    && switches_right w
    && cases_right w
    && ranges_right w

-- the least of d, f 0, .. f (k - 1)
unfoldable pub least : (ℕ → ℕ) → ℕ → ℕ → ℕ
least f d zero = d
least f d (suc k) = min (least f d k) (f k)

-- the least target of table i
unfoldable pub least_target : List ℕ → ℕ → ℕ
least_target w i = least (row_target w i) (switch_word w i 3) (switch_word w i 2)

-- the targets of the instruction at p; those of tables are at most the code's length by the rules of their rows
unfoldable pub aims : Flow → List ℕ → ℕ → Bool
aims on w p = true
aims jump w p = ltb p (a_at w p) && leb (a_at w p) (instructions w)
aims branch w p = ltb p (a_at w p) && leb (a_at w p) (instructions w)
aims table w p = ltb p (least_target w (a_at w p))

unfoldable pub targets_right : List ℕ → Bool
targets_right w = all_below (instructions w) (λ p. aims (flow_at w p) w p)

unfoldable pub well_made : List ℕ → List ℕ → Bool
well_made s w =
    leb sizes_words (length w)
    && eqb (length w) (end_at w)
    && words_right s w
    && targets_right w
    && marks_right w (marked w (marks_there w) (instructions w))
