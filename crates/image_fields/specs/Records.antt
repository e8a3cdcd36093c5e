-- The test of each record of each section, by its rules.
use Rattle.std.specs.Prelude.{ℕ, ◌+◌, ◌*◌, Bool, List}
use Rattle.lowering.specs.Limits.{op_width, const_width, name_width, chain_width, step_width, switch_width, case_width, range_width}
use Rattle.lowering.specs.Words.{code_at, consts_at, chains_at, switches_at, cases_at, ranges_at}
use Rattle.image_rule.specs.Rules.{names_at, tokens_at, residuals_at, steps_at}
use Rattle.image_rule.specs.Rules.{code_rules, const_rules, name_rules, token_rules, residual_rules, chain_rules, step_rules}
use Rattle.image_rule.specs.Rules.{table_rules, case_rules, range_rules}
use Rattle.image_rule.specs.Test.{obeys}

-- instruction p obeys its rules
abbrev pub instruction_right : List ℕ → List ℕ → ℕ → Bool
instruction_right s w p = obeys (code_rules s w p) w (code_at + op_width * p)

-- record i of each section obeys its rules
abbrev pub const_right : List ℕ → List ℕ → ℕ → Bool
const_right s w i = obeys (const_rules s w i) w (consts_at w + const_width * i)

abbrev pub name_right : List ℕ → List ℕ → ℕ → Bool
name_right s w i = obeys (name_rules s) w (names_at w + name_width * i)

abbrev pub token_right : List ℕ → ℕ → Bool
token_right w i = obeys token_rules w (tokens_at w + i)

abbrev pub residual_right : List ℕ → List ℕ → ℕ → Bool
residual_right s w i = obeys (residual_rules s) w (residuals_at w + i)

abbrev pub chain_right : List ℕ → List ℕ → ℕ → Bool
chain_right s w i = obeys (chain_rules s w i) w (chains_at w + chain_width * i)

abbrev pub step_right : List ℕ → ℕ → Bool
step_right w i = obeys (step_rules w i) w (steps_at w + step_width * i)

abbrev pub table_right : List ℕ → ℕ → Bool
table_right w i = obeys (table_rules w i) w (switches_at w + switch_width * i)

abbrev pub case_right : List ℕ → ℕ → Bool
case_right w i = obeys (case_rules w) w (cases_at w + case_width * i)

abbrev pub range_right : List ℕ → ℕ → Bool
range_right w i = obeys (range_rules w) w (ranges_at w + range_width * i)
