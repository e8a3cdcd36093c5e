-- `image_read::starts_of` meets its contract: each section starts where the one before it ends.
use native.Mathlib.Omega.{arith}
use Rattle.lowering.specs.Words.{consts_at, chains_at, switches_at, cases_at, ranges_at}
use Rattle.image_rule.specs.Rules.{names_at, tokens_at, residuals_at, steps_at}
use Rattle.image_read.proofs.starts_of.Goals as goal

pub returns-clause-placed : goal.returns-clause-placed
unfolding consts_at names_at tokens_at residuals_at chains_at steps_at switches_at cases_at ranges_at
returns-clause-placed c = λ w S. record {
  consts = omega (arith, S.places);
  names = omega (arith, S.places, S.consts);
  tokens = omega (arith, S.places, S.consts, S.names);
  residuals = omega (arith, S.places, S.consts, S.names, S.tokens);
  chains = omega (arith, S.places, S.consts, S.names, S.tokens, S.residuals);
  steps = omega (arith, S.places, S.consts, S.names, S.tokens, S.residuals, S.chains);
  tables = omega (arith, S.places, S.consts, S.names, S.tokens, S.residuals, S.chains, S.steps);
  cases = omega (arith, S.places, S.consts, S.names, S.tokens, S.residuals, S.chains, S.steps, S.tables);
  ranges = omega (arith, S.places, S.consts, S.names, S.tokens, S.residuals, S.chains, S.steps, S.tables, S.cases);
}
