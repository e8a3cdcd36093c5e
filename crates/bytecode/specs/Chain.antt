-- The words of a chain and of a step: six each.
use Rattle.std.specs.Prelude.{ℕ, List, [], ◌∷◌, ◌++◌}
use Rattle.bytecode.specs.declared.Root.{Root}
use Rattle.bytecode.specs.declared.Root.TheVariants.{Local, Named, This, Temporary}
use Rattle.bytecode.specs.declared.Step.{Step}
use Rattle.bytecode.specs.declared.Step.TheVariants.{Index, Property, Method}
use Rattle.bytecode.specs.declared.Chain.{Chain}

-- the root's number; slot or name, else 0; Local's name or the position, else 0
unfoldable pub root_words : Root → List ℕ
root_words (Local slot name) = 0 ∷ slot ∷ name ∷ []
root_words (Named name pos) = 1 ∷ name ∷ pos ∷ []
root_words (This pos) = 2 ∷ 0 ∷ pos ∷ []
root_words Temporary = 3 ∷ 0 ∷ 0 ∷ []

unfoldable pub step_words : Step → List ℕ
step_words (Index operand flags pos bracket) = 0 ∷ operand ∷ flags ∷ pos ∷ bracket ∷ 0 ∷ []
step_words (Property name getter setter flags pos) = 1 ∷ name ∷ getter ∷ setter ∷ flags ∷ pos ∷ []
step_words (Method name argc operand flags pos) = 2 ∷ name ∷ argc ∷ operand ∷ flags ∷ pos ∷ []

unfoldable pub chain_words : Chain → List ℕ
chain_words c = root_words c.root ++ (c.first ∷ c.steps ∷ c.operands ∷ [])
