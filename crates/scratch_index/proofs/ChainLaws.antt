-- Chains: the test of two chains by the sheet is symmetric and transitive (`nodes-swap`, `nodes-join`), and what it tells of the steps
-- and of the roots. (A chain is the same as itself only where each of its links has a step.)
use Rattle.std.proofs.Common.{◌≡◌, ℕ, Bool, true, false, ◌&&◌, eqb, List, [], ◌∷◌, sym, refl, ap, ◌∙◌, subst, true≢false, eq-eqb, ne_eqb}
use Rattle.std.proofs.Common.{eqb-true}
use mathlib.Core.Bool.{and-eq-true_iff}
use borrow.Author.Tests.{eqb-false}
use Rattle.expr_chains.proofs.RootLaws.{as-variable}
use Rattle.expr_chains.proofs.NameLaws.{texts-same, texts-equal}
use Rattle.laws.proofs.Bool.{lazy-true, lazy-of, both}
use Rattle.sheet.specs.Limits.{max_depth}
use Rattle.sheet.specs.Node.{count, field_a, field_b, field_c, position, child}
use Rattle.sheet.specs.Namespace.{role}
use Rattle.sheet.specs.Start.{start_of}
use Rattle.sheet.specs.Text.{text}
use Rattle.lowering.specs.Kinds.{variable_kind, this_kind}
use Rattle.lowering.specs.Slots.{resolve}
use Rattle.lowering.specs.Flatten as flatten
use Rattle.lowering.specs.Flatten.{negated, operand_of, StepRule, index, property, method, step_rule, links}
use Rattle.expr_chains.specs.Same.{same_text, is_some, is_local, same_variable, root_kind, same_root_as, same_root}
use Rattle.expr_chains.specs.Same.{same_index, same_property, same_method, same_as, rule_number, same_by, same_step, same_steps, same_links}
use Rattle.expr_chains.specs.Same.{same_nodes}
use Rattle.expr_chains.proofs.SameLaws.{rule-one}

eqb_swap : (a b : ℕ) → eqb a b ≡ true → eqb b a ≡ true
eqb_swap a b h = eq-eqb b a (sym (eqb-true a b h))

eqb-join : (a b c : ℕ) → eqb a b ≡ true → eqb b c ≡ true → eqb a c ≡ true
eqb-join a b c h g = eq-eqb a c (eqb-true a b h ∙ eqb-true b c g)

module _ (s : List ℕ) where
  index-swap : (c d : ℕ) → same_index s c d ≡ true → same_index s d c ≡ true
  unfolding same_index
  index-swap c d h =
      let p = lazy-true (eqb (position s c) (position s d)) (eqb (start_of s (operand_of s c)) (start_of s (operand_of s d))) h in
      lazy-of (eqb (position s d) (position s c)) (eqb (start_of s (operand_of s d)) (start_of s (operand_of s c)))
      (eqb_swap (position s c) (position s d) p.0) (eqb_swap (start_of s (operand_of s c)) (start_of s (operand_of s d)) p.1)

  index-join : (c d e : ℕ) → same_index s c d ≡ true → same_index s d e ≡ true → same_index s c e ≡ true
  unfolding same_index
  index-join c d e h g =
      let p = lazy-true (eqb (position s c) (position s d)) (eqb (start_of s (operand_of s c)) (start_of s (operand_of s d))) h in
      let q = lazy-true (eqb (position s d) (position s e)) (eqb (start_of s (operand_of s d)) (start_of s (operand_of s e))) g in
      lazy-of (eqb (position s c) (position s e)) (eqb (start_of s (operand_of s c)) (start_of s (operand_of s e)))
      (eqb-join (position s c) (position s d) (position s e) p.0 q.0)
      (eqb-join (start_of s (operand_of s c)) (start_of s (operand_of s d)) (start_of s (operand_of s e)) p.1 q.1)

  -- what two Properties, two methods have in common
  pub record PropertyTold (x y : ℕ) : Type 0 where
    pub pos : position s x ≡ position s y
    pub a : text s (field_a s x) ≡ text s (field_a s y)
    pub b : text s (field_b s x) ≡ text s (field_b s y)
    pub c : text s (field_c s x) ≡ text s (field_c s y)

  pub property-told : (x y : ℕ) → same_property s x y ≡ true → PropertyTold x y
  unfolding same_property
  property-told x y h =
      let a = same_text s (field_a s x) (field_a s y) in
      let b = same_text s (field_b s x) (field_b s y) in
      let c = same_text s (field_c s x) (field_c s y) in
      let p = lazy-true (eqb (position s x) (position s y)) (a && b && c) h in
      let q = (and-eq-true_iff (a && b) c).0 p.1 in
      let r = (and-eq-true_iff a b).0 q.0 in
      record {
        pos = eqb-true (position s x) (position s y) p.0;
        a = texts-same s (field_a s x) (field_a s y) r.0;
        b = texts-same s (field_b s x) (field_b s y) r.1;
        c = texts-same s (field_c s x) (field_c s y) q.1;
      }

  property-of : (x y : ℕ) → PropertyTold x y → same_property s x y ≡ true
  unfolding same_property
  property-of x y t =
      let a = same_text s (field_a s x) (field_a s y) in
      let b = same_text s (field_b s x) (field_b s y) in
      let c = same_text s (field_c s x) (field_c s y) in
      lazy-of (eqb (position s x) (position s y)) (a && b && c) (eq-eqb (position s x) (position s y) t.pos)
      (both
      (both (texts-equal s (field_a s x) (field_a s y) t.a) (texts-equal s (field_b s x) (field_b s y) t.b))
      (texts-equal s (field_c s x) (field_c s y) t.c))

  pub record MethodTold (x y : ℕ) : Type 0 where
    pub pos : position s x ≡ position s y
    pub argc : count s x ≡ count s y
    pub a : text s (field_a s x) ≡ text s (field_a s y)

  pub method-told : (x y : ℕ) → same_method s x y ≡ true → MethodTold x y
  unfolding same_method
  method-told x y h =
      let p = lazy-true (eqb (position s x) (position s y) && eqb (count s x) (count s y)) (same_text s (field_a s x) (field_a s y)) h in
      let q = (and-eq-true_iff (eqb (position s x) (position s y)) (eqb (count s x) (count s y))).0 p.0 in
      record {
        pos = eqb-true (position s x) (position s y) q.0;
        argc = eqb-true (count s x) (count s y) q.1;
        a = texts-same s (field_a s x) (field_a s y) p.1;
      }

  method-of : (x y : ℕ) → MethodTold x y → same_method s x y ≡ true
  unfolding same_method
  method-of x y t =
      lazy-of (eqb (position s x) (position s y) && eqb (count s x) (count s y)) (same_text s (field_a s x) (field_a s y))
      (both
      (eq-eqb (position s x) (position s y) t.pos) (eq-eqb (count s x) (count s y) t.argc))
      (texts-equal s (field_a s x) (field_a s y) t.a)

  as-swap : (r : StepRule) (c d : ℕ) → same_as r s c d ≡ true → same_as r s d c ≡ true
  unfolding same_as
  as-swap index c d h = index-swap c d h
  as-swap property c d h =
      let t = property-told (operand_of s c) (operand_of s d) h in
      property-of (operand_of s d) (operand_of s c)
      (record { pos = sym t.pos; a = sym t.a; b = sym t.b; c = sym t.c })
  as-swap method c d h =
      let t = method-told (operand_of s c) (operand_of s d) h in
      method-of (operand_of s d) (operand_of s c) (record { pos = sym t.pos; argc = sym t.argc; a = sym t.a })
  as-swap flatten.none c d h = absurd (true≢false (sym h))

  as-join : (r : StepRule) (c d e : ℕ) → same_as r s c d ≡ true → same_as r s d e ≡ true → same_as r s c e ≡ true
  unfolding same_as
  as-join index c d e h g = index-join c d e h g
  as-join property c d e h g =
      let t = property-told (operand_of s c) (operand_of s d) h in
      let u = property-told (operand_of s d) (operand_of s e) g in
      property-of (operand_of s c) (operand_of s e)
      (record {
        pos = t.pos ∙ u.pos;
        a = t.a ∙ u.a;
        b = t.b ∙ u.b;
        c = t.c ∙ u.c;
      })
  as-join method c d e h g =
      let t = method-told (operand_of s c) (operand_of s d) h in
      let u = method-told (operand_of s d) (operand_of s e) g in
      method-of (operand_of s c) (operand_of s e)
      (record { pos = t.pos ∙ u.pos; argc = t.argc ∙ u.argc; a = t.a ∙ u.a })
  as-join flatten.none c d e h g = absurd (true≢false (sym h))

  -- a step
  pub record StepTold (r q : StepRule) (c d : ℕ) : Type 0 where
    pub rules : r ≡ q
    pub flags : negated s c ≡ negated s d
    pub parts : same_as r s c d ≡ true

  pub by-told : (r q : StepRule) (c d : ℕ) → same_by r q s c d ≡ true → StepTold r q c d
  unfolding same_by
  by-told r q c d h =
      let p = lazy-true (eqb (rule_number r) (rule_number q) && eqb (negated s c) (negated s d)) (same_as r s c d) h in
      let b = (and-eq-true_iff (eqb (rule_number r) (rule_number q)) (eqb (negated s c) (negated s d))).0 p.0 in
      record {
        rules = rule-one r q (eqb-true (rule_number r) (rule_number q) b.0);
        flags = eqb-true (negated s c) (negated s d) b.1;
        parts = p.1;
      }

  by-of : (r q : StepRule) (c d : ℕ) → StepTold r q c d → same_by r q s c d ≡ true
  unfolding same_by
  by-of r q c d t =
      lazy-of (eqb (rule_number r) (rule_number q) && eqb (negated s c) (negated s d)) (same_as r s c d)
      (both
      (eq-eqb (rule_number r) (rule_number q) (ap rule_number t.rules)) (eq-eqb (negated s c) (negated s d) t.flags))
      t.parts

  step-swap : (c d : ℕ) → same_step s c d ≡ true → same_step s d c ≡ true
  unfolding same_step
  step-swap c d h =
      let t = by-told (step_rule s c) (step_rule s d) c d h in
      by-of (step_rule s d) (step_rule s c) d c
      (record {
        rules = sym t.rules;
        flags = sym t.flags;
        parts = subst (λ (r : StepRule). same_as r s d c ≡ true) t.rules (as-swap (step_rule s c) c d t.parts);
      })

  step-join : (c d e : ℕ) → same_step s c d ≡ true → same_step s d e ≡ true → same_step s c e ≡ true
  unfolding same_step
  step-join c d e h g =
      let t = by-told (step_rule s c) (step_rule s d) c d h in
      let u = by-told (step_rule s d) (step_rule s e) d e g in
      by-of (step_rule s c) (step_rule s e) c e
      (record {
        rules = t.rules ∙ u.rules;
        flags = t.flags ∙ u.flags;
        parts =
            as-join (step_rule s c) c d e t.parts
            (subst (λ (r : StepRule). same_as r s d e ≡ true) (sym t.rules) u.parts);
      })

  steps-swap : (cs ds : List ℕ) → same_steps s cs ds ≡ true → same_steps s ds cs ≡ true
  unfolding same_steps
  steps-swap [] [] h = refl
  steps-swap [] (d ∷ ds) h = absurd (true≢false (sym h))
  steps-swap (c ∷ cs) [] h = absurd (true≢false (sym h))
  steps-swap (c ∷ cs) (d ∷ ds) h =
      let p = lazy-true (same_step s c d) (same_steps s cs ds) h in
      lazy-of (same_step s d c) (same_steps s ds cs) (step-swap c d p.0) (steps-swap cs ds p.1)

  steps-join : (cs ds es : List ℕ) → same_steps s cs ds ≡ true → same_steps s ds es ≡ true → same_steps s cs es ≡ true
  unfolding same_steps
  steps-join [] [] es h g = g
  steps-join [] (d ∷ ds) es h g = absurd (true≢false (sym h))
  steps-join (c ∷ cs) [] es h g = absurd (true≢false (sym h))
  steps-join (c ∷ cs) (d ∷ ds) [] h g = absurd (true≢false (sym g))
  steps-join (c ∷ cs) (d ∷ ds) (e ∷ es) h g =
      let p = lazy-true (same_step s c d) (same_steps s cs ds) h in
      let q = lazy-true (same_step s d e) (same_steps s ds es) g in
      lazy-of (same_step s c e) (same_steps s cs es) (step-join c d e p.0 q.0) (steps-join cs ds es p.1 q.1)

  -- a root
  pub local_same : (v w : ℕ) → text s (field_a s v) ≡ text s (field_a s w) → is_local s v ≡ is_local s w
  unfolding is_local
  local_same v w e = ap (λ (x : List ℕ). is_some (resolve s x)) e

  pub record VariableTold (v w : ℕ) : Type 0 where
    pub name : text s (field_a s v) ≡ text s (field_a s w)
    pub near : (position s v ≡ position s w → ⊥) → is_local s v ≡ true

  pub variable-told : (v w : ℕ) → same_variable s v w ≡ true → VariableTold v w
  unfolding same_variable
  variable-told v w h =
      let p =
      lazy-true (same_text s (field_a s v) (field_a s w))
      (elim (eqb (position s v) (position s w)) [ true ↦ true | false ↦ is_local s v ]) h in
      record { name = texts-same s (field_a s v) (field_a s w) p.0; near = by (eqb (position s v) (position s w)) refl p.1 }
    where
      by :
          (t : Bool) → eqb (position s v) (position s w) ≡ t → elim t [ true ↦ true | false ↦ is_local s v ] ≡ true
          → (position s v ≡ position s w → ⊥) → is_local s v ≡ true
      by true e q n = absurd (n (eqb-true (position s v) (position s w) e))
      by false e q n = q

  variable-of : (v w : ℕ) → VariableTold v w → same_variable s v w ≡ true
  unfolding same_variable
  variable-of v w t =
      lazy-of (same_text s (field_a s v) (field_a s w)) (elim (eqb (position s v) (position s w)) [ true ↦ true | false ↦ is_local s v ])
      (texts-equal s (field_a s v) (field_a s w) t.name) (by (eqb (position s v) (position s w)) refl)
    where
      by : (b : Bool) → eqb (position s v) (position s w) ≡ b → elim b [ true ↦ true | false ↦ is_local s v ] ≡ true
      by true e = refl
      by false e = t.near (eqb-false (position s v) (position s w) e)

  variable-swap : (v w : ℕ) → same_variable s v w ≡ true → same_variable s w v ≡ true
  variable-swap v w h =
      let t = variable-told v w h in
      variable-of w v
      (record { name = sym t.name; near = λ n. sym (local_same v w t.name) ∙ t.near (λ e. n (sym e)) })

  variable-join : (v w u : ℕ) → same_variable s v w ≡ true → same_variable s w u ≡ true → same_variable s v u ≡ true
  variable-join v w u h g =
      let t = variable-told v w h in
      let r = variable-told w u g in
      variable-of v u (record { name = t.name ∙ r.name; near = λ n. by t r n (eqb (position s v) (position s w)) refl })
    where
      by :
          VariableTold v w → VariableTold w u → (position s v ≡ position s u → ⊥) → (b : Bool)
          → eqb (position s v) (position s w) ≡ b → is_local s v ≡ true
      by t r n true e = local_same v w t.name ∙ r.near (λ q. n (eqb-true (position s v) (position s w) e ∙ q))
      by t r n false e = t.near (eqb-false (position s v) (position s w) e)

  pub as-this : (k v w : ℕ) → (k ≡ variable_kind → ⊥) → k ≡ this_kind → same_root_as k s v w ≡ eqb (position s v) (position s w)
  unfolding same_root_as
  as-this k v w n e = rw (ne_eqb k variable_kind n, eq-eqb k this_kind e, same_root_as)

  as-other : (k v w : ℕ) → (k ≡ variable_kind → ⊥) → (k ≡ this_kind → ⊥) → same_root_as k s v w ≡ true
  unfolding same_root_as
  as-other k v w n m = rw (ne_eqb k variable_kind n, ne_eqb k this_kind m, same_root_as)

  root-as-swap : (k v w : ℕ) → same_root_as k s v w ≡ true → same_root_as k s w v ≡ true
  root-as-swap k v w h = by (eqb k variable_kind) refl (eqb k this_kind) refl
    where
      by : (a : Bool) → eqb k variable_kind ≡ a → (b : Bool) → eqb k this_kind ≡ b → same_root_as k s w v ≡ true
      by true e b f = let z = eqb-true k variable_kind e in as-variable s k w v z ∙ variable-swap v w (sym (as-variable s k v w z) ∙ h)
      by false e true f =
          let n = eqb-false k variable_kind e in
          let z = eqb-true k this_kind f in
          as-this k w v n z ∙ eqb_swap (position s v) (position s w) (sym (as-this k v w n z) ∙ h)
      by false e false f = as-other k w v (eqb-false k variable_kind e) (eqb-false k this_kind f)

  root-as-join : (k v w u : ℕ) → same_root_as k s v w ≡ true → same_root_as k s w u ≡ true → same_root_as k s v u ≡ true
  root-as-join k v w u h g = by (eqb k variable_kind) refl (eqb k this_kind) refl
    where
      by : (a : Bool) → eqb k variable_kind ≡ a → (b : Bool) → eqb k this_kind ≡ b → same_root_as k s v u ≡ true
      by true e b f =
          let z = eqb-true k variable_kind e in
          as-variable s k v u z ∙ variable-join v w u (sym (as-variable s k v w z) ∙ h) (sym (as-variable s k w u z) ∙ g)
      by false e true f =
          let n = eqb-false k variable_kind e in
          let z = eqb-true k this_kind f in
          as-this k v u n z
          ∙ eqb-join (position s v) (position s w) (position s u) (sym (as-this k v w n z) ∙ h) (sym (as-this k w u n z) ∙ g)
      by false e false f = as-other k v u (eqb-false k variable_kind e) (eqb-false k this_kind f)

  root-swap : (v w : ℕ) → same_root s v w ≡ true → same_root s w v ≡ true
  unfolding same_root
  root-swap v w h =
      let p = lazy-true (eqb (root_kind (role s v)) (root_kind (role s w))) (same_root_as (root_kind (role s v)) s v w) h in
      let e = eqb-true (root_kind (role s v)) (root_kind (role s w)) p.0 in
      lazy-of (eqb (root_kind (role s w)) (root_kind (role s v))) (same_root_as (root_kind (role s w)) s w v)
      (eq-eqb (root_kind (role s w)) (root_kind (role s v)) (sym e))
      (subst (λ (k : ℕ). same_root_as k s w v ≡ true) e (root-as-swap (root_kind (role s v)) v w p.1))

  root-join : (v w u : ℕ) → same_root s v w ≡ true → same_root s w u ≡ true → same_root s v u ≡ true
  unfolding same_root
  root-join v w u h g =
      let p = lazy-true (eqb (root_kind (role s v)) (root_kind (role s w))) (same_root_as (root_kind (role s v)) s v w) h in
      let q = lazy-true (eqb (root_kind (role s w)) (root_kind (role s u))) (same_root_as (root_kind (role s w)) s w u) g in
      let e = eqb-true (root_kind (role s v)) (root_kind (role s w)) p.0 in
      let f = eqb-true (root_kind (role s w)) (root_kind (role s u)) q.0 in
      lazy-of (eqb (root_kind (role s v)) (root_kind (role s u))) (same_root_as (root_kind (role s v)) s v u)
      (eq-eqb (root_kind (role s v)) (root_kind (role s u)) (e ∙ f))
      (root-as-join (root_kind (role s v)) v w u p.1 (subst (λ (k : ℕ). same_root_as k s w u ≡ true) (sym e) q.1))

  pub nodes-swap : (i j : ℕ) → same_nodes s i j ≡ true → same_nodes s j i ≡ true
  unfolding same_nodes same_links
  nodes-swap i j h =
      let p = lazy-true (same_steps s (links max_depth s i) (links max_depth s j)) (same_root s (child i) (child j)) h in
      lazy-of (same_steps s (links max_depth s j) (links max_depth s i)) (same_root s (child j) (child i))
      (steps-swap (links max_depth s i) (links max_depth s j) p.0) (root-swap (child i) (child j) p.1)

  pub nodes-join : (i j k : ℕ) → same_nodes s i j ≡ true → same_nodes s j k ≡ true → same_nodes s i k ≡ true
  unfolding same_nodes same_links
  nodes-join i j k h g =
      let p = lazy-true (same_steps s (links max_depth s i) (links max_depth s j)) (same_root s (child i) (child j)) h in
      let q = lazy-true (same_steps s (links max_depth s j) (links max_depth s k)) (same_root s (child j) (child k)) g in
      lazy-of (same_steps s (links max_depth s i) (links max_depth s k)) (same_root s (child i) (child k))
      (steps-join (links max_depth s i) (links max_depth s j) (links max_depth s k) p.0 q.0)
      (root-join (child i) (child j) (child k) p.1 q.1)
