-- The front of an image: all of it but the tables of a switch, whose sizes are sw, ca and ra.
use Rattle.std.specs.Prelude.{ℕ, List, [], ◌∷◌, ◌++◌, length}
use Rattle.bytecode.specs.Chain.{chain_words}
use Rattle.lowering.specs.Code.{greatest, code_words, positions}
use Rattle.lowering.specs.Pools.{steps_words}
use Rattle.lowering.specs.Image.{section, const_words, name_words, max_stack}
use Rattle.expr_model.specs.Made.{Made}

-- the twelve sizes
unfoldable pub front_sizes : Made → ℕ → ℕ → ℕ → List ℕ
front_sizes a sw ca ra =
    length a.code
    ∷ length a.pools.consts
    ∷ length a.pools.names
    ∷ length a.pools.tokens
    ∷ length a.pools.residuals
    ∷ length a.pools.chains
    ∷ length a.pools.steps
    ∷ sw
    ∷ ca
    ∷ ra
    ∷ max_stack a.pools
    ∷ greatest a.code
    ∷ []

unfoldable pub front : Made → ℕ → ℕ → ℕ → List ℕ
front a sw ca ra =
    front_sizes a sw ca ra
    ++ code_words a.code
    ++ positions a.code
    ++ section const_words a.pools.consts
    ++ section name_words a.pools.names
    ++ a.pools.tokens
    ++ a.pools.residuals
    ++ section chain_words a.pools.chains
    ++ steps_words a.pools.steps

-- three parts of it, behind the sizes
unfoldable pub code_part : Made → List ℕ
code_part a = code_words a.code ++ positions a.code

unfoldable pub pools_part : Made → List ℕ
pools_part a =
    section const_words a.pools.consts ++ section name_words a.pools.names ++ a.pools.tokens ++ a.pools.residuals

unfoldable pub chains_part : Made → List ℕ
chains_part a = section chain_words a.pools.chains ++ steps_words a.pools.steps
