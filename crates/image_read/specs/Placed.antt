-- What is read once of an image's sizes, and words that no other definition names.
use Rattle.std.specs.Prelude.{ℕ, ◌+◌, ◌*◌, ◌≤◌, ◌≡◌, List}
use Rattle.lowering.specs.Limits.{op_width, name_width}
use Rattle.lowering.specs.Words.{word, code_at, instructions, consts_at, chains_at, switches_at, cases_at, ranges_at}
use Rattle.image_rule.specs.Rules.{constants, names, tokens, residuals, chains, steps, tables, cases, ranges}
use Rattle.image_rule.specs.Rules.{names_at, tokens_at, residuals_at, steps_at}
use Rattle.image_read.specs.Most.{consts_most, names_most, tokens_most, residuals_most, chains_most, steps_most}
use Rattle.image_read.specs.Most.{switches_most, cases_most, ranges_most}
use Rattle.image_read.specs.declared.Sizes.{Sizes}
use Rattle.image_read.specs.declared.Starts.{Starts}

-- how many records each section has
pub record SizesOf (w : List ℕ) (o : Sizes) : Type 0 where
  pub places : o.places ≡ instructions w
  pub consts : o.consts ≡ constants w
  pub names : o.names ≡ names w
  pub tokens : o.tokens ≡ tokens w
  pub residuals : o.residuals ≡ residuals w
  pub chains : o.chains ≡ chains w
  pub steps : o.steps ≡ steps w
  pub tables : o.tables ≡ tables w
  pub cases : o.cases ≡ cases w
  pub ranges : o.ranges ≡ ranges w

-- where the sections start
pub record Placed (w : List ℕ) (o : Starts) : Type 0 where
  pub consts : o.consts ≡ consts_at w
  pub names : o.names ≡ names_at w
  pub tokens : o.tokens ≡ tokens_at w
  pub residuals : o.residuals ≡ residuals_at w
  pub chains : o.chains ≡ chains_at w
  pub steps : o.steps ≡ steps_at w
  pub tables : o.tables ≡ switches_at w
  pub cases : o.cases ≡ cases_at w
  pub ranges : o.ranges ≡ ranges_at w

-- how far each section starts at most: no place in it is without a number
pub record Near (o : Starts) : Type 0 where
  pub consts : o.consts ≤ consts_most
  pub names : o.names ≤ names_most
  pub tokens : o.tokens ≤ tokens_most
  pub residuals : o.residuals ≤ residuals_most
  pub chains : o.chains ≤ chains_most
  pub steps : o.steps ≤ steps_most
  pub tables : o.tables ≤ switches_most
  pub cases : o.cases ≤ cases_most
  pub ranges : o.ranges ≤ ranges_most

-- the last word of an instruction
abbrev pub c_at : List ℕ → ℕ → ℕ
c_at w p = word w (code_at + op_width * p + 3)

-- word f of a name; a token; a residual
unfoldable pub name_word : List ℕ → ℕ → ℕ → ℕ
name_word w i f = word w (names_at w + name_width * i + f)

unfoldable pub token : List ℕ → ℕ → ℕ
token w i = word w (tokens_at w + i)

unfoldable pub residual : List ℕ → ℕ → ℕ
residual w i = word w (residuals_at w + i)
