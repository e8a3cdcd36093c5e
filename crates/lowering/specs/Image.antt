-- The image: the words of a program, section by section.
use Rattle.std.specs.Prelude.{ℕ, min, List, [], ◌∷◌, ◌++◌, length}
use Rattle.bytecode.specs.Chain.{chain_words}
use Rattle.bytecode.specs.Switch.{switch_words, case_words, range_words}
use Rattle.lowering.specs.Limits.{max_stack_cap}
use Rattle.lowering.specs.Code.{greatest, code_words, positions}
use Rattle.lowering.specs.Pools.{Const, Name, Pools, steps_words}
use Rattle.lowering.specs.Program.{Program}

-- the words of a list's entries, one after another
unfoldable pub section : {A : Type 0} → (A → List ℕ) → List A → List ℕ
section f [] = []
section f (x ∷ xs) = f x ++ section f xs

unfoldable pub const_words : Const → List ℕ
const_words c = c.kind ∷ c.a ∷ c.b ∷ []

unfoldable pub name_words : Name → List ℕ
name_words n = n.text ∷ n.mark ∷ n.namespace ∷ []

-- emitted, capped
unfoldable pub max_stack : Pools → ℕ
max_stack p = min p.emitted max_stack_cap

-- the twelve sizes
unfoldable pub sizes : Program → List ℕ
sizes r =
    length r.code
    ∷ length r.pools.consts
    ∷ length r.pools.names
    ∷ length r.pools.tokens
    ∷ length r.pools.residuals
    ∷ length r.pools.chains
    ∷ length r.pools.steps
    ∷ length r.switches
    ∷ length r.cases
    ∷ length r.ranges
    ∷ max_stack r.pools
    ∷ greatest r.code
    ∷ []

unfoldable pub words : Program → List ℕ
words r =
    sizes r
    ++ code_words r.code
    ++ positions r.code
    ++ section const_words r.pools.consts
    ++ section name_words r.pools.names
    ++ r.pools.tokens
    ++ r.pools.residuals
    ++ section chain_words r.pools.chains
    ++ steps_words r.pools.steps
    ++ section switch_words r.switches
    ++ section case_words r.cases
    ++ section range_words r.ranges
