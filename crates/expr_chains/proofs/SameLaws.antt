-- The chains of two nodes are the same by the sheet if and only if their roots, steps and operands over the pool of names are.
use Prim.Native.Nat.{ℕ, ◌+◌}
use mathlib.Core.Path.{◌≡◌, refl, sym, ap, ap₂, subst, ◌∙◌}
use mathlib.Core.Bool.{true, false, ◌&&◌, and-eq-true_iff, false≢true}
use mathlib.Core.List.{List, [], ◌∷◌, ◌++◌}
use native.Mathlib.Omega.{arith}
use lib.Dec.{eqb}
use lib.ListN.{length, get_or, take, drop, length-append}
use lib.Seq.{take_at, drop_at}
use borrow.Author.Tests.{eqb-true, eq-eqb}
use Rattle.lowering.proofs.Widths.{step-width}
use Rattle.laws.proofs.Bool.{lazy-true, lazy-of}
use Rattle.sheet.specs.Node.{count, field_a, field_b, field_c, position}
use Rattle.sheet.specs.Start.{start_of}
use Rattle.bytecode.specs.Chain.{step_words}
use Rattle.lowering.specs.Pools.{Name, steps_words}
use Rattle.lowering.specs.Flatten as flatten
use Rattle.lowering.specs.Flatten.{negated, operand_of, StepRule, index, property, method, step_rule}
use Rattle.expr_chains.specs.Steps.{step_with, step_as, width_by, step_operands, steps_in, operands_of}
use Rattle.expr_chains.specs.Same.{same_text, same_index, same_property, same_method, same_as, rule_number, same_by, same_step, same_steps}
use Rattle.expr_chains.specs.Pooled.{All, StepStands, LinkStands}
use Rattle.expr_chains.proofs.NameLaws.{names-one, names_apart}

-- two lists whose front parts have one length
append-parts : (a b c d : List ℕ) → length a ≡ length c → a ++ b ≡ c ++ d → (a ≡ c) × (b ≡ d)
append-parts a b c d l e = (
  sym (take_at a b (length a) refl) ∙ ap (take (length a)) e ∙ take_at c d (length a) (sym l),
  sym (drop_at a b (length a) refl) ∙ ap (drop (length a)) e ∙ drop_at c d (length a) (sym l),
)

-- a rule is known by its number
rule_at : ℕ → StepRule
rule_at n =
    elim (eqb n 0) [
      | true ↦ index
      | false ↦ elim (eqb n 1) [ true ↦ property | false ↦ elim (eqb n 2) [ true ↦ method | false ↦ flatten.none ] ]
    ]

rule-at : (r : StepRule) → rule_at (rule_number r) ≡ r
unfolding rule_at rule_number
rule-at index = refl
rule-at property = refl
rule-at method = refl
rule-at flatten.none = refl

pub rule-one : (r q : StepRule) → rule_number r ≡ rule_number q → r ≡ q
rule-one r q e = sym (rule-at r) ∙ ap rule_at e ∙ rule-at q

module _ (s : List ℕ) where
  -- what each test says
  index-says : (c d : ℕ) → same_index s c d ≡ true → (position s c ≡ position s d) × (start_of s (operand_of s c) ≡ start_of s (operand_of s d))
  unfolding same_index
  index-says c d h =
      let both = lazy-true (eqb (position s c) (position s d)) (eqb (start_of s (operand_of s c)) (start_of s (operand_of s d))) h in
      (eqb-true (position s c) (position s d) both.0, eqb-true (start_of s (operand_of s c)) (start_of s (operand_of s d)) both.1)

  index_of : (c d : ℕ) → position s c ≡ position s d → start_of s (operand_of s c) ≡ start_of s (operand_of s d) → same_index s c d ≡ true
  unfolding same_index
  index_of c d g h =
      lazy-of (eqb (position s c) (position s d)) (eqb (start_of s (operand_of s c)) (start_of s (operand_of s d)))
      (eq-eqb (position s c) (position s d) g)
      (eq-eqb (start_of s (operand_of s c)) (start_of s (operand_of s d)) h)

  pub record PropertySays (x y : ℕ) : Type 0 where
    pub pos : position s x ≡ position s y
    pub name : same_text s (field_a s x) (field_a s y) ≡ true
    pub getter : same_text s (field_b s x) (field_b s y) ≡ true
    pub setter : same_text s (field_c s x) (field_c s y) ≡ true

  property-says : (x y : ℕ) → same_property s x y ≡ true → PropertySays x y
  unfolding same_property
  property-says x y h =
      let a = same_text s (field_a s x) (field_a s y) in
      let b = same_text s (field_b s x) (field_b s y) in
      let c = same_text s (field_c s x) (field_c s y) in
      let both = lazy-true (eqb (position s x) (position s y)) (a && b && c) h in
      let last = (and-eq-true_iff (a && b) c).0 both.1 in
      let front = (and-eq-true_iff a b).0 last.0 in
      record {
        pos = eqb-true (position s x) (position s y) both.0;
        name = front.0;
        getter = front.1;
        setter = last.1;
      }

  property-of : (x y : ℕ) → PropertySays x y → same_property s x y ≡ true
  unfolding same_property
  property-of x y h =
      let a = same_text s (field_a s x) (field_a s y) in
      let b = same_text s (field_b s x) (field_b s y) in
      let c = same_text s (field_c s x) (field_c s y) in
      lazy-of (eqb (position s x) (position s y)) (a && b && c)
      (eq-eqb (position s x) (position s y) h.pos)
      ((and-eq-true_iff (a && b) c).1 ((and-eq-true_iff a b).1 (h.name, h.getter), h.setter))

  pub record MethodSays (x y : ℕ) : Type 0 where
    pub pos : position s x ≡ position s y
    pub argc : count s x ≡ count s y
    pub name : same_text s (field_a s x) (field_a s y) ≡ true

  method-says : (x y : ℕ) → same_method s x y ≡ true → MethodSays x y
  unfolding same_method
  method-says x y h =
      let a = eqb (position s x) (position s y) in
      let b = eqb (count s x) (count s y) in
      let both = lazy-true (a && b) (same_text s (field_a s x) (field_a s y)) h in
      let front = (and-eq-true_iff a b).0 both.0 in
      record {
        pos = eqb-true (position s x) (position s y) front.0;
        argc = eqb-true (count s x) (count s y) front.1;
        name = both.1;
      }

  method-of : (x y : ℕ) → MethodSays x y → same_method s x y ≡ true
  unfolding same_method
  method-of x y h =
      let a = eqb (position s x) (position s y) in
      let b = eqb (count s x) (count s y) in
      lazy-of (a && b) (same_text s (field_a s x) (field_a s y))
      ((and-eq-true_iff a b).1 (eq-eqb (position s x) (position s y) h.pos, eq-eqb (count s x) (count s y) h.argc))
      h.name

  pub record BySays (r q : StepRule) (c d : ℕ) : Type 0 where
    pub rules : r ≡ q
    pub flags : negated s c ≡ negated s d
    pub parts : same_as r s c d ≡ true

  by-says : (r q : StepRule) (c d : ℕ) → same_by r q s c d ≡ true → BySays r q c d
  unfolding same_by
  by-says r q c d h =
      let a = eqb (rule_number r) (rule_number q) in
      let b = eqb (negated s c) (negated s d) in
      let both = lazy-true (a && b) (same_as r s c d) h in
      let front = (and-eq-true_iff a b).0 both.0 in
      record {
        rules = rule-one r q (eqb-true (rule_number r) (rule_number q) front.0);
        flags = eqb-true (negated s c) (negated s d) front.1;
        parts = both.1;
      }

  by-of : (r q : StepRule) (c d : ℕ) → BySays r q c d → same_by r q s c d ≡ true
  unfolding same_by
  by-of r q c d h =
      let a = eqb (rule_number r) (rule_number q) in
      let b = eqb (negated s c) (negated s d) in
      lazy-of (a && b) (same_as r s c d)
      ((and-eq-true_iff a b).1
      (eq-eqb (rule_number r) (rule_number q) (ap rule_number h.rules), eq-eqb (negated s c) (negated s d) h.flags))
      h.parts

  -- steps that pass the tests are equal, and take as many operands
  as-equal : (r : StepRule) (ns : List Name) (c d n : ℕ) → negated s c ≡ negated s d → same_as r s c d ≡ true
      → step_as r s ns c n ≡ step_as r s ns d n
  unfolding step_as step_with same_as
  as-equal index ns c d n f h =
      let says = index-says c d h in
      rw (f, says.0, says.1)
  as-equal property ns c d n f h =
      let x = operand_of s c in
      let y = operand_of s d in
      let says = property-says x y h in
      rw (
        f,
        says.pos,
        names-one s ns (field_a s x) (field_a s y) says.name,
        names-one s ns (field_b s x) (field_b s y) says.getter,
        names-one s ns (field_c s x) (field_c s y) says.setter,
      )
  as-equal method ns c d n f h =
      let x = operand_of s c in
      let y = operand_of s d in
      let says = method-says x y h in
      rw (f, says.pos, says.argc, names-one s ns (field_a s x) (field_a s y) says.name)
  as-equal flatten.none ns c d n f h = absurd (false≢true h)

  as_wide : (r : StepRule) (c d : ℕ) → same_as r s c d ≡ true → width_by r s c ≡ width_by r s d
  unfolding width_by same_as
  as_wide index c d h = refl
  as_wide property c d h = refl
  as_wide method c d h = rw (method-says (operand_of s c) (operand_of s d) h).argc
  as_wide flatten.none c d h = refl

  step-wide : (c d : ℕ) → same_step s c d ≡ true → step_operands s c ≡ step_operands s d
  unfolding same_step step_operands
  step-wide c d h =
      let says = by-says (step_rule s c) (step_rule s d) c d h in
      as_wide (step_rule s c) c d says.parts ∙ ap (λ (r : StepRule). width_by r s d) says.rules

  step-equal : (ns : List Name) (c d n : ℕ) → same_step s c d ≡ true → step_as (step_rule s c) s ns c n ≡ step_as (step_rule s d) s ns d n
  unfolding same_step
  step-equal ns c d n h =
      let says = by-says (step_rule s c) (step_rule s d) c d h in
      as-equal (step_rule s c) ns c d n says.flags says.parts ∙ ap (λ (r : StepRule). step_as r s ns d n) says.rules

  pub steps-equal : (ns : List Name) (n : ℕ) (cs ds : List ℕ) → same_steps s cs ds ≡ true → steps_in s ns n cs ≡ steps_in s ns n ds
  unfolding same_steps steps_in
  steps-equal ns n [] [] h = refl
  steps-equal ns n [] (d ∷ ds) h = absurd (false≢true h)
  steps-equal ns n (c ∷ cs) [] h = absurd (false≢true h)
  steps-equal ns n (c ∷ cs) (d ∷ ds) h =
      let both = lazy-true (same_step s c d) (same_steps s cs ds) h in
      ap₂ ◌∷◌ (step-equal ns c d n both.0)
      (steps-equal ns (n + step_operands s c) cs ds both.1
      ∙ ap (λ (k : ℕ). steps_in s ns (n + k) ds) (step-wide c d both.0))

  pub operands-equal : (cs ds : List ℕ) → same_steps s cs ds ≡ true → operands_of s cs ≡ operands_of s ds
  unfolding same_steps operands_of
  operands-equal [] [] h = refl
  operands-equal [] (d ∷ ds) h = absurd (false≢true h)
  operands-equal (c ∷ cs) [] h = absurd (false≢true h)
  operands-equal (c ∷ cs) (d ∷ ds) h =
      let both = lazy-true (same_step s c d) (same_steps s cs ds) h in
      ap₂ ◌+◌ (step-wide c d both.0) (operands-equal cs ds both.1)

module _ (s : List ℕ) (ns : List Name) where
  -- steps with equal words pass the tests, if their names stand in the pool
  head-rule : (r : StepRule) (c n : ℕ) → StepStands r s ns c → get_or (step_words (step_as r s ns c n)) 0 0 ≡ rule_number r
  unfolding step_words step_as step_with rule_number
  head-rule index c n h = refl
  head-rule property c n h = refl
  head-rule method c n h = refl
  head-rule flatten.none c n h = absurd h

  as-says : (r : StepRule) (c d n : ℕ) → StepStands r s ns c → StepStands r s ns d
      → step_words (step_as r s ns c n) ≡ step_words (step_as r s ns d n) → BySays s r r c d
  unfolding step_words step_as step_with same_as
  as-says index c d n g h e = record { rules = refl; flags = cc; parts = index_of s c d (cc) (cc) }
  as-says property c d n g h e =
      let x = operand_of s c in
      let y = operand_of s d in
      record {
        rules = refl;
        flags = cc;
        parts =
            property-of s x y
            (record {
              pos = cc;
              name = names_apart s ns (field_a s x) (field_a s y) g.0 h.0 (cc);
              getter = names_apart s ns (field_b s x) (field_b s y) g.1 h.1 (cc);
              setter = names_apart s ns (field_c s x) (field_c s y) g.2 h.2 (cc);
            });
      }
  as-says method c d n g h e =
      let x = operand_of s c in
      let y = operand_of s d in
      record {
        rules = refl;
        flags = cc;
        parts =
            method-of s x y
            (record {
              pos = cc;
              argc = cc;
              name = names_apart s ns (field_a s x) (field_a s y) g.1 h.1 (cc);
            });
      }
  as-says flatten.none c d n g h e = absurd g

  step-words : (r q : StepRule) (c d n : ℕ) → StepStands r s ns c → StepStands q s ns d
      → step_words (step_as r s ns c n) ≡ step_words (step_as q s ns d n) → same_by r q s c d ≡ true
  step-words r q c d n g h e =
      let heads = sym (head-rule r c n g) ∙ ap (λ (l : List ℕ). get_or l 0 0) e ∙ head-rule q d n h in
      let one = rule-one r q heads in
      let h' = subst (λ (k : StepRule). StepStands k s ns d) (sym one) h in
      let e' = subst (λ (k : StepRule). step_words (step_as r s ns c n) ≡ step_words (step_as k s ns d n)) (sym one) e in
      let says = as-says r c d n g h' e' in
      by-of s r q c d (record { rules = one; flags = says.flags; parts = says.parts })

  pub steps-words : (n : ℕ) (cs ds : List ℕ) → All (LinkStands s ns) cs → All (LinkStands s ns) ds
      → steps_words (steps_in s ns n cs) ≡ steps_words (steps_in s ns n ds) → same_steps s cs ds ≡ true
  unfolding steps_words steps_in same_steps same_step
  steps-words n [] [] g h e = refl
  steps-words n [] (d ∷ ds) g h e =
      let x = step_as (step_rule s d) s ns d n in
      let l = simp length-append at (ap length e) in
      absurd (omega (arith, l, step-width x))
  steps-words n (c ∷ cs) [] g h e =
      let x = step_as (step_rule s c) s ns c n in
      let l = simp length-append at (ap length e) in
      absurd (omega (arith, l, step-width x))
  steps-words n (c ∷ cs) (d ∷ ds) g h e =
      let x = step_as (step_rule s c) s ns c n in
      let y = step_as (step_rule s d) s ns d n in
      let parts =
      append-parts (step_words x) (steps_words (steps_in s ns (n + step_operands s c) cs)) (step_words y)
      (steps_words (steps_in s ns (n + step_operands s d) ds))
      (step-width x ∙ sym (step-width y)) e in
      let one = step-words (step_rule s c) (step_rule s d) c d n g.0 h.0 parts.0 in
      let wide = step-wide s c d one in
      lazy-of (same_step s c d) (same_steps s cs ds) one
      (steps-words (n + step_operands s c) cs ds g.1 h.1
      (parts.1 ∙ ap (λ (k : ℕ). steps_words (steps_in s ns (n + k) ds)) (sym wide)))
