-- A chain as its node gives it, over a pool of names: where it starts, its steps, and how many operands they take. A name's place is
-- where it is found in the pool.
use Rattle.std.specs.Prelude.{ℕ, ◌+◌, min, true, false, List, [], ◌∷◌, ◌++◌, eqb, length}
use Rattle.std.proofs.Math.Option.{none, some}
use Rattle.sheet.specs.Limits.{max_depth}
use Rattle.sheet.specs.Node.{count, field_a, field_b, field_c, position, child}
use Rattle.sheet.specs.Start.{start_of}
use Rattle.sheet.specs.Text.{text}
use Rattle.sheet.specs.Namespace.{role}
use Rattle.bytecode.specs.declared.Root.{Root}
use Rattle.bytecode.specs.declared.Root.TheVariants.{Local, Named, This, Temporary}
use Rattle.bytecode.specs.declared.Step.{Step}
use Rattle.bytecode.specs.declared.Step.TheVariants.{Index, Property, Method}
use Rattle.bytecode.specs.declared.Chain.{Chain}
use Rattle.lowering.specs.Kinds.{variable_kind, this_kind}
use Rattle.lowering.specs.Limits.{max_args}
use Rattle.lowering.specs.Pools.{Name, name, first_where, same_name}
use Rattle.lowering.specs.Slots.{resolve}
use Rattle.lowering.specs.Flatten as flatten
use Rattle.lowering.specs.Flatten.{negated, operand_of, StepRule, index, property, method, step_rule, links}

-- where the name with text t stands
unfoldable pub name_in : List ℕ → List Name → ℕ → ℕ
name_in s ns t = first_where (same_name s (name t 0)) ns

-- node v as a root, with its name at place i
unfoldable pub root_with : List ℕ → ℕ → ℕ → Root
root_with s v i =
    elim (eqb (role s v) variable_kind) [
      | true ↦ elim (resolve s (text s (field_a s v))) [ some slot ↦ Local slot i | none ↦ Named i (position s v) ]
      | false ↦ elim (eqb (role s v) this_kind) [ true ↦ This (position s v) | false ↦ Temporary ]
    ]

unfoldable pub root_in : List ℕ → List Name → ℕ → Root
root_in s ns v = root_with s v (name_in s ns (field_a s v))

-- the step of link c by this rule, with n operands before it and its names at these places. A chain with a link that has no step is not
-- pooled, so any step serves there.
unfoldable pub step_with : StepRule → List ℕ → ℕ → ℕ → ℕ → ℕ → ℕ → Step
step_with index s c n at_name at-getter at-setter = Index n (negated s c) (start_of s (operand_of s c)) (position s c)
step_with property s c n at_name at-getter at-setter =
    Property at_name at-getter at-setter (negated s c) (position s (operand_of s c))
step_with method s c n at_name at-getter at-setter =
    Method at_name (count s (operand_of s c)) n (negated s c) (position s (operand_of s c))
step_with flatten.none s c n at_name at-getter at-setter = Index n 0 0 0

unfoldable pub step_as : StepRule → List ℕ → List Name → ℕ → ℕ → Step
step_as r s ns c n =
    let x = operand_of s c in
    step_with r s c n (name_in s ns (field_a s x)) (name_in s ns (field_b s x)) (name_in s ns (field_c s x))

-- how many operands the step of link c takes. A method with more arguments than lower is not pooled, so the count is cut there.
unfoldable pub width_by : StepRule → List ℕ → ℕ → ℕ
width_by index s c = 1
width_by property s c = 0
width_by method s c = min (count s (operand_of s c)) max_args
width_by flatten.none s c = 0

unfoldable pub step_operands : List ℕ → ℕ → ℕ
step_operands s c = width_by (step_rule s c) s c

-- the steps of these links, with n operands before them
unfoldable pub steps_in : List ℕ → List Name → ℕ → List ℕ → List Step
steps_in s ns n [] = []
steps_in s ns n (c ∷ cs) = step_as (step_rule s c) s ns c n ∷ steps_in s ns (n + step_operands s c) cs

-- the operands of these links
unfoldable pub operands_of : List ℕ → List ℕ → ℕ
operands_of s [] = 0
operands_of s (c ∷ cs) = step_operands s c + operands_of s cs

-- the chain of node j
unfoldable pub chain_root : List ℕ → List Name → ℕ → Root
chain_root s ns j = root_in s ns (child j)

unfoldable pub chain_steps : List ℕ → List Name → ℕ → List Step
chain_steps s ns j = steps_in s ns 0 (links max_depth s j)

unfoldable pub chain_operands : List ℕ → ℕ → ℕ
chain_operands s j = operands_of s (links max_depth s j)

unfoldable pub link_count : List ℕ → ℕ → ℕ
link_count s j = length (links max_depth s j)

-- as a record, with this many steps before it
abbrev pub chain_by : List ℕ → ℕ → ℕ → Root → Chain
chain_by s j first root = record { root = root; first = first; steps = link_count s j; operands = chain_operands s j }

-- the root's name at place i
unfoldable pub chain_with : List ℕ → ℕ → ℕ → ℕ → Chain
chain_with s j i first = chain_by s j first (root_with s (child j) i)

unfoldable pub chain_in : List ℕ → List Name → ℕ → ℕ → Chain
chain_in s ns first j = chain_by s j first (chain_root s ns j)

-- the chains of these nodes, the first of them with this many steps before it
unfoldable pub chains_from : List ℕ → List Name → ℕ → List ℕ → List Chain
chains_from s ns first [] = []
chains_from s ns first (j ∷ js) = chain_in s ns first j ∷ chains_from s ns (first + link_count s j) js

-- all their steps
unfoldable pub steps_from : List ℕ → List Name → List ℕ → List Step
steps_from s ns [] = []
steps_from s ns (j ∷ js) = chain_steps s ns j ++ steps_from s ns js
