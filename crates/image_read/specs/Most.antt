-- How far each section of an image can start at most: the sizes are words, and each section is behind the one before it.
use Rattle.std.specs.Prelude.{ℕ, ◌+◌, ◌*◌}
use Rattle.lowering.specs.Limits.{sizes_words, code_width, const_width, name_width, chain_width, step_width}
use Rattle.lowering.specs.Limits.{switch_width, case_width, range_width, range_target}

-- the greatest word
abbrev pub word_most : ℕ
word_most = 4294967295

-- the constants
abbrev pub consts_most : ℕ
consts_most = sizes_words + code_width * word_most

-- the names
abbrev pub names_most : ℕ
names_most = consts_most + const_width * word_most

-- the tokens
abbrev pub tokens_most : ℕ
tokens_most = names_most + name_width * word_most

-- the residuals
abbrev pub residuals_most : ℕ
residuals_most = tokens_most + word_most

-- the chains
abbrev pub chains_most : ℕ
chains_most = residuals_most + word_most

-- the steps
abbrev pub steps_most : ℕ
steps_most = chains_most + chain_width * word_most

-- the tables
abbrev pub switches_most : ℕ
switches_most = steps_most + step_width * word_most

-- the rows of cases
abbrev pub cases_most : ℕ
cases_most = switches_most + switch_width * word_most

-- the rows of ranges
abbrev pub ranges_most : ℕ
ranges_most = cases_most + case_width * word_most

-- the end
abbrev pub end_most : ℕ
end_most = ranges_most + range_width * word_most

-- the target of the first row of ranges
abbrev pub targets_most : ℕ
targets_most = ranges_most + range_target
