-- Laws of the constructs in the shapes of the code: one for each way through.
use Prim.Native.Nat.{ℕ, ◌≤◌, ◌<◌}
use mathlib.Core.Path.{◌≡◌}
use mathlib.Core.Bool.{true, false}
use mathlib.Core.List.{List}
use borrow.Author.Tests.{eq-eqb, ne_eqb, le-leb, lt-leb}
use Rattle.sheet.specs.Limits.{max_depth}
use Rattle.sheet.specs.Node.{count, field_a, position, child}
use Rattle.sheet.specs.Namespace.{role}
use Rattle.bytecode.specs.declared.Op.TheVariants as Op
use Rattle.lowering.specs.Limits.{max_elements}
use Rattle.lowering.specs.Kinds.{variable_kind}
use Rattle.lowering.specs.Pools.{name}
use Rattle.lowering.specs.Flatten.{links, flattens}
use Rattle.expr_chains.specs.Lowers.{lowers}
use Rattle.expr_chains.proofs.LowersLaws.{lower-flat}
use Rattle.expr_model.specs.Made.{Made, emit, add_name, take_back}
use Rattle.expr_model.specs.Made as Made
use Rattle.expr_model.specs.Construct.{Low, elements, array, steps, root_name, root_value, close_chain, chain}

-- ---- variables and arrays

module _ (s : List ℕ) (j : ℕ) (a : Made) where
  -- a chain's root at node j
  pub root-variable : role s j ≡ variable_kind → add_name s (name (field_a s j) 0) a ≡ root_name s j a
  unfolding root_name
  root-variable h = rw (eq-eqb (role s j) variable_kind h, root_name)

  pub root-nameless : (role s j ≡ variable_kind → ⊥) → a ≡ root_name s j a
  unfolding root_name
  root-nameless h = rw (ne_eqb (role s j) variable_kind h, root_name)

module _ (s : List ℕ) (low : Low) (j : ℕ) (a : Made) where
  pub array-few : count s j ≤ max_elements
      → emit (Op.MakeArray (count s j)) (position s j) 0 (elements s low (count s j) (child j) a) ≡ array s low j a
  unfolding array
  array-few h = rw (le-leb (count s j) max_elements h, array)

  pub array-many : max_elements < count s j → Made.residual j a ≡ array s low j a
  unfolding array
  array-many h = rw (lt-leb (count s j) max_elements h, array)

  -- ---- a chain's root at node j, and the chain of node j

  pub chain-stays : flattens s (links max_depth s j) ≡ false → Made.residual j a ≡ chain s low j a
  unfolding chain
  chain-stays f = rw (f, chain)

  pub chain-fails : flattens s (links max_depth s j) ≡ true → lowers s j ≡ false
      → Made.residual j (take_back a (steps s low (links max_depth s j) (root_name s (child j) a))) ≡ chain s low j a
  unfolding chain
  chain-fails f h = rw (f, h, chain)

  flat : lowers s j ≡ true → flattens s (links max_depth s j) ≡ true
  unfolding lowers
  flat h = lower-flat s (links max_depth s j) h

  pub chain-lowers : lowers s j ≡ true
      → close_chain s j (root_value s low (child j) (steps s low (links max_depth s j) (root_name s (child j) a))) ≡ chain s low j a
  unfolding chain
  chain-lowers h = let f = flat h in rw (f, h, chain)
