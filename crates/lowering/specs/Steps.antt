-- The steps of a chain: indexes and arguments are lowered in step order, before the root.
use Rattle.std.specs.Prelude.{ℕ, ◌+◌, Bool, true, false, ◌&&◌, ◌||◌, List, [], ◌∷◌, ◌++◌, leb, length}
use Rattle.text.specs.Keyword.{is_call, is_curry}
use Rattle.sheet.specs.Node.{count, field_a, field_b, field_c, position, child}
use Rattle.sheet.specs.Start.{start_of}
use Rattle.bytecode.specs.declared.Step.{Step}
use Rattle.bytecode.specs.declared.Step.TheVariants.{Index, Property, Method}
use Rattle.lowering.specs.Limits.{max_args}
use Rattle.lowering.specs.Code.{Code}
use Rattle.lowering.specs.Pools.{Pools, name, name_at, push_name}
use Rattle.lowering.specs.Out.{Out, Rec}
use Rattle.lowering.specs.Operands.{operands}
use Rattle.lowering.specs.Call.{callee, is_lowerable_call}
use Rattle.lowering.specs.Flatten.{negated, operand_of, StepRule, index, property, method, none, step_rule}

-- one step: the code of its operands, the step, how many operands; or the chain fails with the pools that it got to
pub data Stepped : Type 0 where
  stepped : Code → Step → ℕ → Pools → Stepped
  failed : Pools → Stepped

-- link c, with n operands before it
unfoldable pub index_step : List ℕ → Rec → ℕ → ℕ → ℕ → ℕ → Pools → Stepped
index_step s rec c n b d p =
    let x = operand_of s c in
    let o = rec x b d p in
    stepped o.code (Index n (negated s c) (start_of s x) (position s c)) 1 o.pools

-- name, getter and setter are pooled in this order
unfoldable pub property_step : List ℕ → ℕ → Pools → Stepped
property_step s c p =
    let x = operand_of s c in
    let p₁ = push_name s (name (field_a s x) 0) p in
    let p₂ = push_name s (name (field_b s x) 0) p₁ in
    let p₃ = push_name s (name (field_c s x) 0) p₂ in
    let at_name = name_at s (name (field_a s x) 0) p in
    let at-getter = name_at s (name (field_b s x) 0) p₁ in
    let at-setter = name_at s (name (field_c s x) 0) p₂ in
    stepped [] (Property at_name at-getter at-setter (negated s c) (position s x)) 0 p₃

-- `call` and `curry` lower as methods, `eval` and `Fn` never
unfoldable pub is_lowerable_method : List ℕ → ℕ → Bool
is_lowerable_method s x =
    (is_call (callee s x) || is_curry (callee s x) || is_lowerable_call s x) && leb (count s x) max_args

-- a method's name is pooled after its arguments
unfoldable pub method_after : List ℕ → ℕ → ℕ → ℕ → Out → Stepped
method_after s c x n o =
    let m = name (field_a s x) 0 in
    let at_name = name_at s m o.pools in
    let step = Method at_name (count s x) n (negated s c) (position s x) in
    stepped o.code step (count s x) (push_name s m o.pools)

unfoldable pub method_step : List ℕ → Rec → ℕ → ℕ → ℕ → ℕ → Pools → Stepped
method_step s rec c n b d p =
    let x = operand_of s c in
    elim (is_lowerable_method s x) [
      | true ↦ method_after s c x n (operands s rec (count s x) (child x) b d p)
      | false ↦ failed p
    ]

unfoldable pub step_by : StepRule → List ℕ → Rec → ℕ → ℕ → ℕ → ℕ → Pools → Stepped
step_by index s rec c n b d p = index_step s rec c n b d p
step_by property s rec c n b d p = property_step s c p
step_by method s rec c n b d p = method_step s rec c n b d p
step_by none s rec c n b d p = failed p

-- all steps: code, steps, operands, pools
pub data Walked : Type 0 where
  walked : Code → List Step → ℕ → Pools → Walked
  stopped : Pools → Walked

unfoldable pub onto : Code → Step → Walked → Walked
onto code x (walked rest xs n p) = walked (code ++ rest) (x ∷ xs) n p
onto code x (stopped p) = stopped p

-- the steps of these links, with n operands before them
unfoldable pub steps : List ℕ → Rec → List ℕ → ℕ → ℕ → ℕ → Pools → Walked
steps s rec [] n b d p = walked [] [] n p
steps s rec (c ∷ cs) n b d p =
    elim (step_by (step_rule s c) s rec c n b d p) [
      | stepped code x k q ↦ onto code x (steps s rec cs (n + k) (b + length code) (d + k) q)
      | failed q ↦ stopped q
    ]
