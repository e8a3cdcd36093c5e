-- The hash of a chain over the names ns: everything that tells chains apart is in it, a name by its place, so that no bytes are read. j,
-- c and v are nodes: of a chain, of a link, of a root.
use Rattle.std.specs.Prelude.{◌≡◌, ℕ, Bool, true, false, List, [], ◌∷◌, ◌==◌}
use Rattle.sheet.specs.Limits.{max_depth}
use Rattle.sheet.specs.Node.{count, field_a, field_b, field_c, position, child}
use Rattle.sheet.specs.Namespace.{role}
use Rattle.sheet.specs.Start.{start_of}
use Rattle.lowering.specs.Kinds.{variable_kind, this_kind}
use Rattle.lowering.specs.Pools.{Name}
use Rattle.lowering.specs.Flatten as flatten
use Rattle.lowering.specs.Flatten.{negated, operand_of, StepRule, index, property, method, step_rule, links}
use Rattle.expr_chains.specs.Steps.{name_in}
use Rattle.expr_chains.specs.Same.{is_local, root_kind, RootLocal, same_nodes}
use Rattle.scratch.specs.declared.Index.{Index}
use Rattle.scratch.specs.declared.Layout.{Layout}
use Rattle.scratch_folds.specs.Hash.{step, spread}
use Rattle.scratch_index.specs.Consts.{const_slot}
use Rattle.scratch_index.specs.Lookup.{Finds}
use Rattle.scratch_index.specs.Held.{NamesHold}

-- one link more, by its step: an index, a property x, a method x
unfoldable pub index_hash : List ℕ → ℕ → ℕ → ℕ
index_hash s h c = step (step (step h 0) (position s c)) (start_of s (operand_of s c))

unfoldable pub property_hash : List ℕ → List Name → ℕ → ℕ → ℕ
property_hash s ns h x =
    step
    (step (step (step (step h 1) (position s x)) (name_in s ns (field_a s x))) (name_in s ns (field_b s x)))
    (name_in s ns (field_c s x))

unfoldable pub method_hash : List ℕ → List Name → ℕ → ℕ → ℕ
method_hash s ns h x = step (step (step (step h 2) (position s x)) (count s x)) (name_in s ns (field_a s x))

unfoldable pub step_hash : StepRule → List ℕ → List Name → ℕ → ℕ → ℕ
step_hash index s ns h c = index_hash s h c
step_hash property s ns h c = property_hash s ns h (operand_of s c)
step_hash method s ns h c = method_hash s ns h (operand_of s c)
step_hash flatten.none s ns h c = h

unfoldable pub link_hash : List ℕ → List Name → ℕ → ℕ → ℕ
link_hash s ns h c = step_hash (step_rule s c) s ns (step h (negated s c)) c

-- all links
unfoldable pub links_hash : List ℕ → List Name → ℕ → List ℕ → ℕ
links_hash s ns h [] = h
links_hash s ns h (c ∷ cs) = links_hash s ns (link_hash s ns h c) cs

-- the root: a variable's position counts only where it is no local
unfoldable pub variable_hash : Bool → List ℕ → List Name → ℕ → ℕ → ℕ
variable_hash true s ns h v = step h (name_in s ns (field_a s v))
variable_hash false s ns h v = step (step h (name_in s ns (field_a s v))) (position s v)

unfoldable pub root_hash_by : ℕ → List ℕ → List Name → ℕ → ℕ → ℕ
root_hash_by k s ns h v =
    elim (k == variable_kind) [
      | true ↦ variable_hash (is_local s v) s ns h v
      | false ↦ elim (k == this_kind) [ true ↦ step h (position s v) | false ↦ h ]
    ]

unfoldable pub root_hash : List ℕ → List Name → ℕ → ℕ → ℕ
root_hash s ns h v = root_hash_by (root_kind (role s v)) s ns (step h (root_kind (role s v))) v

unfoldable pub chain_hash : List ℕ → List Name → ℕ → ℕ
chain_hash s ns j = spread (root_hash s ns (links_hash s ns 1 (links max_depth s j)) (child j))

-- r is v, where n names stand
pub record ByNames (s : List ℕ) (l : Layout) (n : ℕ) (xs : List ℕ) (v r : ℕ) : Type 0 where
  pub is : NamesHold s l n xs → r ≡ v

-- the search for the chain of node j finds it, by whatever hash of chains the index was made
pub record FindsChain (s : List ℕ) (j : ℕ) (local : Bool) (ix : Index) (n h : ℕ) (xs : List ℕ) (r : ℕ) : Type 0 where
  pub found : (hash : ℕ → ℕ) → RootLocal s (child j) local → Finds (same_nodes s j) hash const_slot ix n h xs r
