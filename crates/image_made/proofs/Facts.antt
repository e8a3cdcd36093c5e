-- What the check of 1 to 8 says of a node, by the rule that lowers it.
use Prim.Native.Nat.{ℕ, zero, suc, ◌-◌, ◌≤◌, ◌<◌}
use mathlib.Core.Path.{◌≡◌, refl, ap, ◌∙◌, subst}
use mathlib.Core.Bool.{Bool, true, false, ◌&&◌, and-eq-true_iff}
use mathlib.Core.List.{List, [], ◌∷◌}
use native.Mathlib.Omega.{arith}
use borrow.Author.Tests.{eqb-true, eq-eqb, leb-true, ltb-true}
use lib.Dec.{eqb, leb, ltb}
use lib.ListN.{get_or}
use Rattle.words.specs.Count.{all_below}
use Rattle.words.proofs.CountLaws.{all-at}
use Rattle.sheet.specs.Limits.{max_depth}
use Rattle.sheet.specs.Sections.{node_count, text_count}
use Rattle.sheet.specs.Node.{kind, count, field_a, field_b, field_c, child, namespace_word}
use Rattle.sheet.specs.Text.{text_length}
use Rattle.sheet.specs.Namespace.{may_have, namespace_by, namespace}
use Rattle.check_shape.specs.Kinds.{bound, scalar}
use Rattle.check_shape.specs.Shape.{within_bounds_by, within_bounds, own_rule, self_by}
use Rattle.check_numbers.specs.Numbers.{names_text, exist, number_by, number_ok, node_numbers_by, numbers_by, numbers_ok}
use Rattle.lowering.specs.Kinds.{index_kind, property_kind, method_call_kind}
use Rattle.lowering.specs.All.{All}
use Rattle.lowering.specs.Pools.{const_of}
use Rattle.lowering.specs.Flatten.{StepRule, operand_of, links, dot_rule, step_rule}
use Rattle.lowering.specs.Nodes.{Valid, Right}
use Rattle.lowering.proofs.NodesLaws.{node-own, children, child-valid}
use Rattle.lowering.specs.ChainNodes.{Link}
use Rattle.lowering.proofs.ChainNodesLaws.{operand-valid, links-valid}
use Rattle.lowering.specs.Expression.{Rule, boolean, unit, constant, interpolated, array, variable, this, fn_call, chain, and, or, coalesce}
use Rattle.lowering.specs.Expression.{residual, rules, rule}
use Rattle.lowering.proofs.LinkedExpression.{least, rule-count}
use Rattle.image_made.proofs.Listed.{ConstOk, int, float, char, string, AllIn}
use Rattle.image_made.proofs.GivesCall.{CallFacts}
use Rattle.image_made.proofs.GivesChain.{StepFacts, LinkFacts, ChainFacts}
use Rattle.image_made.proofs.GivesExpression.{RuleFacts, NodeFacts}

-- the kinds that have a rule, for the rules that want to know
rule_kind : Rule → ℕ → Bool
rule_kind boolean k = eqb k 1
rule_kind unit k = true
rule_kind constant k = leb 3 k && leb k 6
rule_kind interpolated k = true
rule_kind array k = true
rule_kind variable k = eqb k 9
rule_kind this k = true
rule_kind fn_call k = eqb k 13
rule_kind chain k = true
rule_kind and k = true
rule_kind or k = true
rule_kind coalesce k = true
rule_kind residual k = true

-- each kind has the rule of its kind
rule-kinds : all_below 26 (λ k. rule_kind (get_or rules k residual) k) ≡ true
unfolding all_below rule_kind rules
rule-kinds = refl

-- the kind of the node that a step of this rule is taken with
step_kind : StepRule → ℕ → Bool
step_kind StepRule.index k = true
step_kind StepRule.property k = eqb k property_kind
step_kind StepRule.method k = eqb k method_call_kind
step_kind StepRule.none k = true

-- the same for a Dot, and for any link
dot-kinds : (k : ℕ) → step_kind (dot_rule k) k ≡ true
unfolding dot_rule step_kind
dot-kinds k = by (eqb k property_kind) (eqb k method_call_kind) refl refl
  where
    by : (p m : Bool) → eqb k property_kind ≡ p → eqb k method_call_kind ≡ m → step_kind (dot_rule k) k ≡ true
    by true m e f = rw (e, dot_rule, step_kind) e
    by false true e f = rw (e, f, dot_rule, step_kind) f
    by false false e f = rw (e, f, dot_rule, step_kind)

step-kinds : (s : List ℕ) (c : ℕ) → step_kind (step_rule s c) (kind s (operand_of s c)) ≡ true
unfolding step_rule step_kind
step-kinds s c = by (eqb (kind s c) index_kind) refl
  where
    by : (i : Bool) → eqb (kind s c) index_kind ≡ i → step_kind (step_rule s c) (kind s (operand_of s c)) ≡ true
    by true e = rw (e, step_rule, step_kind)
    by false e = rw (e, step_rule) (dot-kinds (kind s (operand_of s c)))

-- a namespace is the node's word for it, or none
namespace-within : (s : List ℕ) (n X : ℕ) → namespace_word s n ≤ X → namespace s n ≤ X
unfolding namespace namespace_by
namespace-within s n X h = by (may_have (kind s n))
  where
    by-text : (t : Bool) → elim t as (λ u. ℕ) [ true ↦ 0 | false ↦ namespace_word s n ] ≤ X
    by-text true = omega arith
    by-text false = h

    by-word : (t : Bool)
        → elim t as (λ u. ℕ) [
          | true ↦ 0
          | false ↦ elim (eqb (text_length s (namespace_word s n - 1)) 0) [ true ↦ 0 | false ↦ namespace_word s n ]
        ] ≤ X
    by-word true = omega arith
    by-word false = by-text (eqb (text_length s (namespace_word s n - 1)) 0)

    by : (t : Bool) → elim t as (λ u. ℕ) [ true ↦ namespace_by s (namespace_word s n) | false ↦ 0 ] ≤ X
    by true = by-word (eqb (namespace_word s n) 0)
    by false = omega arith

-- a node by itself
module _ (s : List ℕ) (C : Right s) (M : numbers_ok s ≡ true) (j : ℕ) (v : Valid s j) where
  -- what the check says of the node
  within : within_bounds (kind s j) (count s j) (field_a s j) (field_b s j) (field_c s j) ≡ true
  unfolding self_by
  within = let k = simp and-eq-true_iff at (node-own s C j v) in k.0.0.0.0

  own : own_rule (kind s j) (count s j) (field_a s j) (field_b s j) ≡ true
  unfolding self_by
  own = let k = simp and-eq-true_iff at (node-own s C j v) in k.0.0.0.1

  exists : number_ok s j ≡ true
  unfolding numbers_by node_numbers_by
  exists = all-at (number_ok s) (node_count s) j ((and-eq-true_iff _ _).0 M).0 v

  kinds : kind s j < 26
  unfolding within_bounds_by
  kinds = let k = simp and-eq-true_iff at within in omega (arith, leb-true)

  rule_fits : rule_kind (rule s j) (kind s j) ≡ true
  unfolding rule
  rule_fits = all-at (λ k. rule_kind (get_or rules k residual) k) 26 (kind s j) rule-kinds kinds

  -- bounds of a, b and c at a known kind
  a-bound : (k : ℕ) → kind s j ≡ k → field_a s j ≤ bound k 2
  unfolding within_bounds_by
  a-bound k e = let h = simp and-eq-true_iff at within in subst (λ (n : ℕ). field_a s j ≤ bound n 2) e (omega (arith, leb-true))

  b-bound : (k : ℕ) → kind s j ≡ k → field_b s j ≤ bound k 3
  unfolding within_bounds_by
  b-bound k e = let h = simp and-eq-true_iff at within in subst (λ (n : ℕ). field_b s j ≤ bound n 3) e (omega (arith, leb-true))

  c-bound : (k : ℕ) → kind s j ≡ k → field_c s j ≤ bound k 4
  unfolding within_bounds_by
  c-bound k e = let h = simp and-eq-true_iff at within in subst (λ (n : ℕ). field_c s j ≤ bound n 4) e (omega (arith, leb-true))

  -- a kind that names a text names one that is there
  named : (k : ℕ) → kind s j ≡ k → names_text k ≡ true → field_a s j < text_count s
  unfolding number_by exist
  named k e h =
      let x = simp and-eq-true_iff at exists in
      ltb-true (field_a s j) (text_count s) (rw (ap names_text e ∙ h) at x.0.0.0.0.1)

  -- so does the namespace
  in_space : namespace s j ≤ text_count s
  unfolding number_by exist
  in_space =
      let x = simp and-eq-true_iff at exists in
      namespace-within s j (text_count s) (leb-true (namespace_word s j) (text_count s) x.0.0.0.0.0)

  -- a Property's three texts
  property-texts : kind s j ≡ property_kind → StepFacts s j StepRule.property
  unfolding names_text number_by exist
  property-texts e =
      let x = simp and-eq-true_iff at exists in
      let others = rw (eq-eqb (kind s j) property_kind e) at x.0.0.0.1 in
      let y = (and-eq-true_iff (ltb (field_b s j) (text_count s)) (ltb (field_c s j) (text_count s))).0 others in
      (named 11 e refl, ltb-true (field_b s j) (text_count s) y.0, ltb-true (field_c s j) (text_count s) y.1)

  -- a Char is a Unicode scalar
  char-scalar : kind s j ≡ 5 → scalar (field_a s j) ≡ true
  unfolding own_rule
  char-scalar e = rw (eq-eqb (kind s j) 5 e) at (simp and-eq-true_iff at own).0

  -- the constant of a node is right
  pub const-at : (k : ℕ) → kind s j ≡ k → 3 ≤ k → k ≤ 6 → ConstOk s (const_of s j)
  unfolding bound names_text
  const-at zero e a b = absurd (omega arith)
  const-at (suc zero) e a b = absurd (omega arith)
  const-at (suc (suc zero)) e a b = absurd (omega arith)
  const-at (suc (suc (suc zero))) e a b = int e
  const-at (suc (suc (suc (suc zero)))) e a b = float e
  const-at (suc (suc (suc (suc (suc zero))))) e a b = let z = b-bound 5 e in char e (char-scalar e) (omega arith)
  const-at (suc (suc (suc (suc (suc (suc zero)))))) e a b = let z = b-bound 6 e in string e (named 6 e refl) (omega arith)
  const-at (suc (suc (suc (suc (suc (suc (suc k))))))) e a b = absurd (omega arith)

-- a node and its children
module _ (s : List ℕ) (C : Right s) (M : numbers_ok s ≡ true) where
  -- a call
  call_facts : (j : ℕ) → Valid s j → kind s j ≡ 13 → CallFacts s j
  unfolding bound names_text
  call_facts j v e = record {
    valid = v;
    args = children s C j v;
    named = named s C M j v 13 e refl;
    space = in_space s C M j v;
    capture = b-bound s C M j v 13 e;
    operator = c-bound s C M j v 13 e;
    first = λ one f. named s C M (child j) (child-valid s C j v one) 9 f refl;
  }

  -- the step of a link
  step-facts : (x : ℕ) → Valid s x → (r : StepRule) → step_kind r (kind s x) ≡ true → StepFacts s x r
  unfolding step_kind names_text
  step-facts x v StepRule.index e = v
  step-facts x v StepRule.property e = property-texts s C M x v (eqb-true (kind s x) property_kind e)
  step-facts x v StepRule.method e = (named s C M x v 12 (eqb-true (kind s x) method_call_kind e) refl, children s C x v)
  step-facts x v StepRule.none e = tt

  -- all links of a chain
  links-facts : (cs : List ℕ) → All (Link s) cs → AllIn (LinkFacts s) cs
  links-facts [] h = tt
  links-facts (c ∷ cs) h =
      (step-facts (operand_of s c) (operand-valid s C c h.0) (step_rule s c) (step-kinds s c), links-facts cs h.1)

  -- a chain
  chain-facts : (j : ℕ) → Valid s j → 2 ≤ count s j → ChainFacts s j
  unfolding names_text
  chain-facts j v two =
      let base = child-valid s C j v (omega arith) in
      record {
        valid = v;
        base = base;
        named = λ f. named s C M (child j) base 9 f refl;
        links = links-facts (links max_depth s j) (links-valid s C max_depth j (record { valid = v; two = two }));
      }

  -- a node of this rule
  rule-says : (j : ℕ) → Valid s j → (r : Rule) → least r ≤ count s j → rule_kind r (kind s j) ≡ true → RuleFacts s j r
  unfolding rule_kind bound names_text
  rule-says j v boolean n e = a-bound s C M j v 1 (eqb-true (kind s j) 1 e)
  rule-says j v unit n e = tt
  rule-says j v constant n e =
      let h = (and-eq-true_iff (leb 3 (kind s j)) (leb (kind s j) 6)).0 e in
      const-at s C M j v (kind s j) refl (leb-true 3 (kind s j) h.0) (leb-true (kind s j) 6 h.1)
  rule-says j v interpolated n e = tt
  rule-says j v array n e = tt
  rule-says j v variable n e = (named s C M j v 9 (eqb-true (kind s j) 9 e) refl, in_space s C M j v)
  rule-says j v this n e = tt
  rule-says j v fn_call n e = call_facts j v (eqb-true (kind s j) 13 e)
  rule-says j v chain n e = chain-facts j v n
  rule-says j v and n e = tt
  rule-says j v or n e = tt
  rule-says j v coalesce n e = (children s C j v).each (count s j - 1) (omega arith)
  rule-says j v residual n e = tt

  -- every node of a checked sheet
  pub node-facts : (j : ℕ) → Valid s j → NodeFacts s j
  node-facts j v = record {
    row = children s C j v;
    rule-facts = rule-says j v (rule s j) (rule-count s C j v) (rule_fits s C M j v);
  }
