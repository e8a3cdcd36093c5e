-- The lowering of nodes as a change: it only adds code, leaves one value, and a chain that is closed finds its names and its operands.
use Prim.Native.Nat.{ℕ, suc, ◌+◌}
use mathlib.Core.Path.{◌≡◌, refl, ap, subst}
use mathlib.Core.Bool.{true}
use mathlib.Core.List.{List}
use Rattle.sheet.specs.Limits.{max_depth}
use Rattle.sheet.specs.Node.{child}
use Rattle.lowering.specs.Expression.{expression}
use Rattle.lowering.specs.Flatten.{links}
use Rattle.expr_chains.proofs.Grow.{Grows}
use Rattle.expr_chains.specs.Pooled.{Pooled}
use Rattle.expr_chains.specs.Lowers.{lowers}
use Rattle.expr_chains.proofs.AddsLaws.{names-grow}
use Rattle.expr_count.specs.Count.{tally}
use Rattle.expr_count.proofs.CountLaws.{tally-emitted}
use Rattle.expr_model.specs.Made.{Made, place, lowered}
use Rattle.expr_model.specs.Construct.{steps, root_name, root_value}
use Rattle.expr_model.proofs.StepLaws.{steps-behind}
use Rattle.expr_model.proofs.ChainLaws.{root-name-is, chain-pooled}

-- ---- code

module _ (levels : ℕ) (s : List ℕ) where
  lowered-behind : (j : ℕ) (a : Made) → Grows a.code (lowered levels s j a).code
  unfolding lowered
  lowered-behind j a = record { more = _; whole = refl }

  walk-behind : (cs : List ℕ) (a : Made) → Grows a.code (steps s (lowered levels s) cs a).code
  walk-behind cs a = steps-behind s (lowered levels s) lowered-behind cs a

module _ (s : List ℕ) (v : ℕ) (a : Made) where
  root-name-code : (root_name s v a).code ≡ a.code
  root-name-code = ap (λ (x : Made). x.code) (root-name-is s v a)

-- a chain's code starts with what was there before it
pub chain-behind : (levels : ℕ) (s : List ℕ) (v : ℕ) (cs : List ℕ) (a : Made)
    → Grows a.code (steps s (lowered levels s) cs (root_name s v a)).code
chain-behind levels s v cs a =
    subst (λ c. Grows c (steps s (lowered levels s) cs (root_name s v a)).code) (root-name-code s v a)
    (walk-behind levels s cs (root_name s v a))

-- ---- what a node adds

module _ (levels : ℕ) (s : List ℕ) (j : ℕ) (a : Made) where
  pub lowered-emitted : (lowered levels s j a).pools.emitted ≡ a.pools.emitted + (tally levels s j).emitted
  unfolding lowered
  lowered-emitted = tally-emitted levels s j (place a) a.depth a.pools

-- ---- depth

module _ (levels : ℕ) (s : List ℕ) where
  pub lowered-depth : (j : ℕ) (a : Made) → (lowered levels s j a).depth ≡ suc a.depth
  unfolding lowered
  lowered-depth j a = refl

  -- ---- a chain that is closed

  module _ (j : ℕ) (a : Made) where
    -- behind the root's name, the steps, and the root's value
    abbrev pub before_chain : Made
    before_chain = root_value s (lowered levels s) (child j) (steps s (lowered levels s) (links max_depth s j) (root_name s (child j) a))

    pub closed-pooled : lowers s j ≡ true → Pooled s before_chain.pools.names j
    unfolding lowered
    closed-pooled h = chain-pooled s (expression levels s) (names-grow s levels) j a h
