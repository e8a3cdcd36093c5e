-- Laws of walks along the links of a chain, in the shapes of the code: at most `left` links from c on.
use Prim.Native.Nat.{ℕ, ◌+◌, ◌-◌, ◌<◌, ◌≤◌}
use mathlib.Core.Path.{◌≡◌, refl, sym, ap}
use mathlib.Core.Bool.{Bool, true, false, not, true≢false, false≢true}
use mathlib.Core.List.{List, [], ◌∷◌}
use native.Mathlib.Omega.{arith}
use Rattle.std.specs.Prelude.{Option, Some, None, is_some}
use Rattle.std.specs.Iterator.{YieldsFirst}
use Rattle.lowering.proofs.ChainNodesLaws.{links-more, links-last, links-none}
use Rattle.lowering.specs.Limits.{max_args}
use Rattle.lowering.specs.Flatten as flatten
use Rattle.lowering.specs.Flatten.{StepRule, index, property, method, rest_of, goes_on, step_rule, links}
use Rattle.expr_rules.specs.declared.chains.Read.{Read}
use Rattle.expr_rules.specs.declared.chains.Links.{Links}
use Rattle.expr_rules.specs.Links.{links_left, nodes_left}
use Rattle.expr_rules.proofs.LinksLaws.{Left, links-turn, links-over}
use Rattle.expr_chains.specs.Steps.{width_by, step_operands, operands_of}
use Rattle.expr_chains.specs.Same.{same_step, same_steps}

module _ (s : List ℕ) where
  -- how many operands, with n before
  pub operands-more : (n left c : ℕ) → 0 < left → goes_on s c ≡ true
      → n + operands_of s (links left s c) ≡ n + step_operands s c + operands_of s (links (left - 1) s (rest_of s c))
  unfolding operands_of
  operands-more n left c h g = omega (arith, ap (operands_of s) (links-more s left c h g))

  pub operands-last : (n left c : ℕ) → 0 < left → goes_on s c ≡ false → n + operands_of s (links left s c) ≡ n + step_operands s c
  unfolding operands_of
  operands-last n left c h g = omega (arith, ap (operands_of s) (links-last s left c h g))

  pub operands-done : (n left c : ℕ) → left ≤ 0 → n + operands_of s (links left s c) ≡ n
  unfolding operands_of
  operands-done n left c h = omega (arith, ap (operands_of s) (links-none s left c h))

  few-by : (r : StepRule) (c : ℕ) → width_by r s c ≤ max_args
  unfolding width_by
  few-by index c = omega arith
  few-by property c = omega arith
  few-by method c = omega arith
  few-by flatten.none c = omega arith

  pub width_few : (c : ℕ) → step_operands s c ≤ max_args
  unfolding step_operands
  width_few c = few-by (step_rule s c) c

  -- both chains at once
  pub same-on : (c d : ℕ) (cs ds : List ℕ) → same_step s c d ≡ true → same_steps s (c ∷ cs) (d ∷ ds) ≡ same_steps s cs ds
  unfolding same_steps
  same-on c d cs ds h = rw (h, same_steps)

  pub same-off : (c d : ℕ) (cs ds : List ℕ) → same_step s c d ≡ false → same_steps s (c ∷ cs) (d ∷ ds) ≡ false
  unfolding same_steps
  same-off c d cs ds h = rw (h, same_steps)

  -- one of them is longer
  pub same-longer : (c : ℕ) (cs : List ℕ) → same_steps s (c ∷ cs) [] ≡ false
  unfolding same_steps
  same-longer c cs = refl

  -- one is passed, and of the other there is one more or not
  pub same_ends :
      (it t : Links) (r : Option Read) (b : Bool) → is_some r ≡ not b → Left s it → YieldsFirst links_left it r t
      → b ≡ same_steps s [] (nodes_left it)
  unfolding same_steps
  same_ends it t None true e l h = sym (ap (λ n. same_steps s [] n) (links-over it h.0))
  same_ends it t None false e l h = absurd (false≢true e)
  same_ends it t (Some q) true e l h = absurd (true≢false e)
  same_ends it t (Some q) false e l h = sym (ap (λ n. same_steps s [] n) (links-turn t l h).nodes)
