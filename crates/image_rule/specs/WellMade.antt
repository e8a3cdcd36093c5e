-- When an image is well made for a sheet. Each clause is one of 02's; those about runs speak of all runs, by the `run` of demand 3.
use Rattle.std.specs.Prelude.{ℕ, ◌+◌, ◌*◌, ◌≤◌, ◌<◌, ◌≡◌, List, length}
use Rattle.lowering.specs.Limits.{sizes_words, op_width, const_width, name_width, chain_width, step_width, switch_width, case_width, range_width}
use Rattle.lowering.specs.Words.{instructions, code_at, consts_at, chains_at, switches_at, cases_at, ranges_at, chain_word}
use Rattle.lowering.specs.Run.{run, next}
use Rattle.lowering.specs.Demand3.{RunsRight, DepthReached}
use Rattle.image_rule.specs.Rules.{constants, names, tokens, residuals, chains, steps, tables, cases, ranges}
use Rattle.image_rule.specs.Rules.{names_at, tokens_at, residuals_at, steps_at, end_at}
use Rattle.image_rule.specs.Rules.{Obeys, code_rules, const_rules, name_rules, token_rules, residual_rules}
use Rattle.image_rule.specs.Rules.{chain_rules, step_rules, operand_rules, table_rules, case_rules, range_rules}

-- every record of every section, reached by a run or not, used or not
pub record WordsRight (s w : List ℕ) : Type 0 where
  pub code : (p : ℕ) → p < instructions w → Obeys (code_rules s w p) w (code_at + op_width * p)
  pub consts : (i : ℕ) → i < constants w → Obeys (const_rules s w i) w (consts_at w + const_width * i)
  pub named : (i : ℕ) → i < names w → Obeys (name_rules s) w (names_at w + name_width * i)
  pub tokened : (i : ℕ) → i < tokens w → Obeys token_rules w (tokens_at w + i)
  pub residual : (i : ℕ) → i < residuals w → Obeys (residual_rules s) w (residuals_at w + i)
  pub chained : (i : ℕ) → i < chains w → Obeys (chain_rules s w i) w (chains_at w + chain_width * i)
  pub stepped : (j : ℕ) → j < steps w → Obeys (step_rules w j) w (steps_at w + step_width * j)
  -- step k of chain i, which is step j of the image, has its operands in that chain
  pub operands :
      (i : ℕ) → i < chains w → (k : ℕ) → k < chain_word w i 4 → let j = chain_word w i 3 + k in
      Obeys (operand_rules w i j) w (steps_at w + step_width * j)
  pub tabled : (i : ℕ) → i < tables w → Obeys (table_rules w i) w (switches_at w + switch_width * i)
  pub cased : (i : ℕ) → i < cases w → Obeys (case_rules w) w (cases_at w + case_width * i)
  pub ranged : (i : ℕ) → i < ranges w → Obeys (range_rules w) w (ranges_at w + range_width * i)

-- all runs agree on the depth at each place
abbrev pub RunsAgree : List ℕ → Type 0
RunsAgree w =
    (ways ways' : ℕ → ℕ) (n m : ℕ)
    → (run w ways n).place ≡ (run w ways' m).place
    → (run w ways n).depth ≡ (run w ways' m).depth

pub record WellMade (s w : List ℕ) : Type 0 where
  -- sizes agree: the twelve are there, and the length is what they say
  pub enough : sizes_words ≤ length w
  pub sizes : length w ≡ end_at w
  -- kinds, flags, operators and constants are 01's; counts fit; a CallRef has an argument; unused words are 0; every index and every run
  -- lies in its pool, chain or sheet
  pub words : WordsRight s w
  -- targets go forward, a table's from each Switch naming it, and at most to the code's length: whichever way an instruction goes
  pub targets : (p : ℕ) → p < instructions w → (way : ℕ) → (p < next w way p) × (next w way p ≤ instructions w)
  -- all runs agree on the depth at each instruction
  pub agree : RunsAgree w
  -- each step finds what it pops or needs, one value remains, and no run passes the reported depth
  pub runs : (ways : ℕ → ℕ) → RunsRight w ways
  -- which some run reaches
  pub depth : DepthReached w
