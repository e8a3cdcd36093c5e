-- What holds of a chain that was pooled: each link has a step that lowers, and every name of the chain stands in the pool.
use Rattle.std.specs.Prelude.{ℕ, ◌<◌, ◌≡◌, true, List, [], ◌∷◌, eqb, length}
use Rattle.sheet.specs.Limits.{max_depth}
use Rattle.sheet.specs.Node.{field_a, field_b, field_c, child}
use Rattle.sheet.specs.Namespace.{role}
use Rattle.lowering.specs.Kinds.{variable_kind}
use Rattle.lowering.specs.Pools.{Name}
use Rattle.lowering.specs.Steps.{is_lowerable_method}
use Rattle.lowering.specs.Flatten as flatten
use Rattle.lowering.specs.Flatten.{operand_of, StepRule, index, property, method, step_rule, links}
use Rattle.expr_chains.specs.Steps.{name_in}

-- a fact of each entry
abbrev pub All : {A : Type 0} → (A → Type 0) → List A → Type 0
All P [] = Prim.Unit {0}
All P (x ∷ xs) = P x × All P xs

-- the name with text t stands in the pool
abbrev pub Stands : List ℕ → List Name → ℕ → Type 0
Stands s ns t = name_in s ns t < length ns

abbrev pub StepStands : StepRule → List ℕ → List Name → ℕ → Type 0
StepStands index s ns c = Prim.Unit {0}
StepStands property s ns c =
    Stands s ns (field_a s (operand_of s c)) × Stands s ns (field_b s (operand_of s c)) × Stands s ns (field_c s (operand_of s c))
StepStands method s ns c = (is_lowerable_method s (operand_of s c) ≡ true) × Stands s ns (field_a s (operand_of s c))
StepStands flatten.none s ns c = ⊥

abbrev pub LinkStands : List ℕ → List Name → ℕ → Type 0
LinkStands s ns c = StepStands (step_rule s c) s ns c

abbrev pub RootStands : List ℕ → List Name → ℕ → Type 0
RootStands s ns v = eqb (role s v) variable_kind ≡ true → Stands s ns (field_a s v)

-- the chain of node j
pub record Pooled (s : List ℕ) (ns : List Name) (j : ℕ) : Type 0 where
  pub root : RootStands s ns (child j)
  pub steps : All (LinkStands s ns) (links max_depth s j)
