-- The chain pool by its nodes: the pools' chains and steps are those of the nodes js, in order.
use Rattle.std.specs.Prelude.{ℕ, ◌+◌, ◌≡◌, List, [], ◌∷◌}
use Rattle.lowering.specs.Pools.{Pools}
use Rattle.expr_chains.specs.Steps.{link_count, chains_from, steps_from}
use Rattle.expr_chains.specs.Pooled.{All, Pooled}

pub record Kept (s : List ℕ) (p : Pools) (js : List ℕ) : Type 0 where
  pub chains : p.chains ≡ chains_from s p.names 0 js
  pub steps : p.steps ≡ steps_from s p.names js
  pub pooled : All (Pooled s p.names) js

-- how many steps the chains of these nodes have
unfoldable pub step_count : List ℕ → List ℕ → ℕ
step_count s [] = 0
step_count s (j ∷ js) = link_count s j + step_count s js
