-- Dot and Index: the names that a chain pools, its entry, and the step of a link as its operands with names behind them.
use Rattle.std.proofs.Common.{◌≡◌, ℕ, zero, suc, ◌+◌, ◌-◌, ◌*◌, ◌%◌, ◌<◌, ◌≤◌, Bool, true, false, eqb, List, sym, refl, ap, ◌∙◌, subst, arith, eqb-true, ◌⊎◌, inl, inr}
use borrow.Author.Tests.{eqb-false}
use Rattle.scratch_store.proofs.GrowingLaws.{growing-name}
use Rattle.sheet.specs.Limits.{max_depth}
use Rattle.sheet.specs.Node.{kind, field_a, field_b, field_c, position, child}
use Rattle.sheet.specs.Namespace.{namespace, role}
use Rattle.sheet.proofs.NamespaceLaws.{namespace-none, unqualified, role-kind, role-variable}
use Rattle.sheet.specs.Walk.{skip}
use Rattle.bytecode.specs.declared.Op.TheVariants.{Chain}
use Rattle.lowering.specs.Limits.{max_args, names_per_node}
use Rattle.lowering.specs.Kinds.{variable_kind, this_kind, property_kind, method_call_kind, dot_kind, index_kind}
use Rattle.lowering.specs.Pools.{name}
use Rattle.lowering.specs.Flatten.{StepRule, dot_rule, step_rule, operand_of, goes_on, rest_of, links}
use Rattle.lowering.specs.Flatten as Flatten
use Rattle.lowering.specs.Steps.{is_lowerable_method}
use Rattle.lowering.specs.Nodes.{Valid, Row, Right}
use Rattle.lowering.proofs.NodesLaws.{row-none, row_cons, children}
use Rattle.lowering.specs.ChainNodes as Linked
use Rattle.lowering.proofs.ChainNodesLaws as LinkedLaws
use Rattle.expr_rules.specs.declared.chains.StepRule as StepRules
use Rattle.expr_rules.specs.Answers.{step_rule_of}
use Rattle.expr_rules.specs.Inverse.{step_rule_from}
use Rattle.expr_rules.proofs.InverseLaws as Inverse
use Rattle.expr_chains.specs.Steps.{operands_of, chain_operands}
use Rattle.expr_chains.proofs.LoopLaws.{width_few, operands-more, operands-last, operands-done}
use Rattle.expr_chains.specs.Lowers.{lowers_by, step_lowers}
use Rattle.expr_count.specs.declared.links.Link.{Link}
use Rattle.expr_count.specs.declared.links.Link.TheVariants.{Lowers, Fails, Nowhere}
use Rattle.expr_count.specs.declared.operands.Operands.{Operands}
use Rattle.expr_count.specs.Operands.{all}
use Rattle.expr_count.specs.Link.{link_by, link, grade, temporary}
use Rattle.scratch_keys.specs.Keys.{key_of, call_kind, field_of, is_marked, mark_by, mark_of, namespace_of, name_of}
use Rattle.scratch_keys.specs.Used.{ChainKey, NameKey}
use Rattle.scratch_keys.proofs.KeyLaws.{field-a, field-b, field-c, own-namespace, no-namespace, name-plain, no-mark}
use Rattle.expr_model.specs.Made.{Made, emit, add_name}
use Rattle.expr_model.specs.Construct.{Low, operands, property, method, step_by, root_name, add_chain, chain_place, close_chain}
use Rattle.expr_model.proofs.WayLaws.{root-variable, root-nameless}
use Rattle.expr_model.proofs.Growing.{property-grows}
use Rattle.scratch.specs.declared.Layout.{Layout}
use Rattle.scratch_store.specs.declared.State.{State}
use Rattle.scratch_store.specs.Holds.{Holds}
use Rattle.scratch_store.specs.Does.{Fits, Growing, Does}
use Rattle.scratch_store.proofs.DoesLaws.{does-seq, does-same, does-none, growing-none}
use Rattle.expr_emit.proofs.Doing.{does_at}
use Rattle.expr_emit.specs.declared.after.After.TheVariants.{Nothing}
use Rattle.expr_emit.specs.ChainParts.{step_names}
use Rattle.expr_emit.specs.Siblings.{rows}
use Rattle.expr_emit.proofs.SiblingsLaws.{rows-operands}
use Rattle.expr_emit.proofs.KeyFacts.{own_key, getter-key, setter-key}

-- ---- names of nodes that are no calls

module _ (s : List ℕ) (j : ℕ) where
  unmarked : (f t : ℕ) → f < names_per_node → (kind s j ≡ call_kind → ⊥) → namespace_of s j f ≡ 0 → field_of s f j ≡ t
      → name_of s (key_of j f) ≡ name t 0
  unmarked f t h n w e =
      name-plain s j f h w ∙ ap (λ (m : ℕ). name (field_of s f j) m) (no-mark s j f n) ∙ ap (λ (u : ℕ). name u 0) e

  pub other_name : (kind s j ≡ call_kind → ⊥) → namespace s j ≡ 0 → name_of s (key_of j 0) ≡ name (field_a s j) 0
  other_name n w = unmarked 0 (field_a s j) (omega arith) n (own-namespace s j ∙ w) (field-a s j)

  -- a node that has no namespace by its kind
  kind-name : (kind s j ≡ call_kind → ⊥) → (kind s j ≡ variable_kind → ⊥) → name_of s (key_of j 0) ≡ name (field_a s j) 0
  kind-name n v = other_name n (namespace-none s j v n)

  other-getter : (kind s j ≡ call_kind → ⊥) → name_of s (key_of j 1) ≡ name (field_b s j) 0
  other-getter n = unmarked 1 (field_b s j) (omega arith) n (no-namespace s j 1 (λ e. omega arith)) (field-b s j)

  setter-mark : mark_of s j 2 ≡ 0
  unfolding mark_of is_marked mark_by
  setter-mark = refl

  -- the setter that a link is taken with
  other-setter : (v : ℕ) → v ≡ operand_of s j → name_of s (key_of j 2) ≡ name (field_c s v) 0
  other-setter v e =
      name-plain s j 2 (omega arith) (no-namespace s j 2 (λ e. omega arith)) ∙ ap (name (field_of s 2 j)) setter-mark
      ∙ ap (λ (u : ℕ). name u 0) (field-c s j ∙ ap (field_c s) (sym e))

-- ---- the root's name, and the names of a step

module _ {s : List ℕ} {l : Layout} {xs ys : List ℕ} {st r : State} (v : ℕ) where
  pub root-named : (k : ℕ) → k ≡ role s v → k ≡ variable_kind → Valid s v
      → (NameKey s (key_of v 0) → Does s l xs st ys r (add_name s (name_of s (key_of v 0)))) → Does s l xs st ys r (root_name s v)
  root-named k e h valid d =
      let is = role-kind s v (sym e ∙ h) (omega arith) in
      let done = d (own_key s v valid (omega arith)) in
      let none = unqualified s v (role-variable s v (sym e ∙ h)) in
      does-same (root_name s v) (λ a g. root-variable s v a (sym e ∙ h)) (does_at (add_name s) (other_name s v (λ z. omega arith) none) done)

  pub method-does : kind s v ≡ method_call_kind → Valid s v
      → (NameKey s (key_of v 0) → Does s l xs st ys r (add_name s (name_of s (key_of v 0))))
      → Does s l xs st ys r (step_names Flatten.method s v)
  unfolding step_names
  method-does h valid d = does_at (add_name s) (kind-name s v (λ z. omega arith) (λ z. omega arith)) (d (own_key s v valid (omega arith)))

pub root-other : {s : List ℕ} {l : Layout} {xs : List ℕ} {st : State} (v k : ℕ) → k ≡ role s v → (k ≡ variable_kind → ⊥)
    → Does s l xs st xs st (root_name s v)
root-other {s} {l} {xs} {st} v k e h =
    does-same (root_name s v) (λ a g. root-nameless s v a (λ z. h (e ∙ z))) (does-none xs st)

pub property-does : {s : List ℕ} {l : Layout} {xs ys zs ws : List ℕ} {st p q r : State} (v c : ℕ) → kind s v ≡ property_kind
    → v ≡ operand_of s c
    → kind s c ≡ dot_kind → Valid s v → Valid s c
    → (NameKey s (key_of v 0) → Does s l xs st ys p (add_name s (name_of s (key_of v 0))))
    → (NameKey s (key_of v 1) → Does s l ys p zs q (add_name s (name_of s (key_of v 1))))
    → (NameKey s (key_of c 2) → Does s l zs q ws r (add_name s (name_of s (key_of c 2)))) → Does s l xs st ws r (property s v)
unfolding property
property-does {s} v c h at k valid link a b d =
    does-seq (growing-name s (name (field_c s v) 0))
    (does-seq (growing-name s (name (field_b s v) 0))
    (does_at (add_name s) (kind-name s v (λ z. omega arith) (λ z. omega arith)) (a (own_key s v valid (omega arith))))
    (does_at (add_name s) (other-getter s v (λ z. omega arith)) (b (getter-key s v valid h))))
    (does_at (add_name s) (other-setter s c v at) (d (setter-key s c link k)))

-- the node that a property's or a method's step is taken with
unfoldable number : StepRule → ℕ
number Flatten.index = 0
number Flatten.property = 1
number Flatten.method = 2
number Flatten.none = 3

dot-method : (k : ℕ) → eqb k property_kind ≡ false → eqb k method_call_kind ≡ true → dot_rule k ≡ Flatten.method
unfolding dot_rule
dot-method k e f = rw (e, f, dot_rule)

dot-none : (k : ℕ) → eqb k property_kind ≡ false → eqb k method_call_kind ≡ false → dot_rule k ≡ Flatten.none
unfolding dot_rule
dot-none k e f = rw (e, f, dot_rule)

dot-first : (k : ℕ) → eqb k property_kind ≡ true → dot_rule k ≡ Flatten.property
unfolding dot_rule
dot-first k e = rw (e, dot_rule)

dot-kind : (k n : ℕ) → number (dot_rule k) ≡ suc n → n < 2 → k ≡ property_kind + n
unfolding number
dot-kind k n h few = by (eqb k property_kind) refl (eqb k method_call_kind) refl
  where
    by : (t : Bool) → eqb k property_kind ≡ t → (u : Bool) → eqb k method_call_kind ≡ u → k ≡ property_kind + n
    by true e u f = let z = ap number (dot-first k e) in let i = eqb-true k property_kind e in omega arith
    by false e true f = let z = ap number (dot-method k e f) in let i = eqb-true k method_call_kind f in omega arith
    by false e false f = let z = ap number (dot-none k e f) in absurd (omega arith)

module _ (s : List ℕ) (c : ℕ) where
  rule-index : eqb (kind s c) index_kind ≡ true → step_rule s c ≡ Flatten.index
  unfolding step_rule
  rule-index h = rw (h, step_rule)

  rule-dot : eqb (kind s c) index_kind ≡ false → step_rule s c ≡ dot_rule (kind s (operand_of s c))
  unfolding step_rule
  rule-dot h = rw (h, step_rule)

  rule-kind : (n : ℕ) → number (step_rule s c) ≡ suc n → n < 2 → kind s (operand_of s c) ≡ property_kind + n
  unfolding number
  rule-kind n h few = by (eqb (kind s c) index_kind) refl
    where
      by : (t : Bool) → eqb (kind s c) index_kind ≡ t → kind s (operand_of s c) ≡ property_kind + n
      by true e = let z = ap number (rule-index e) in absurd (omega arith)
      by false e = dot-kind (kind s (operand_of s c)) n (sym (ap number (rule-dot e)) ∙ h) few

  property-kind : step_rule s c ≡ Flatten.property → kind s (operand_of s c) ≡ property_kind
  unfolding number
  property-kind h = rule-kind 0 (ap number h) (omega arith)

  -- no step of an Index is a property
  property-dot : ChainKey s c → step_rule s c ≡ Flatten.property → kind s c ≡ dot_kind
  unfolding number
  property-dot K h = by (eqb (kind s c) index_kind) refl
    where
      by : (t : Bool) → eqb (kind s c) index_kind ≡ t → kind s c ≡ dot_kind
      by true e = let z = ap number (sym (rule-index e) ∙ h) in absurd (omega arith)
      by false e = let n = eqb-false (kind s c) index_kind e in omega arith

  method-kind : step_rule s c ≡ Flatten.method → kind s (operand_of s c) ≡ method_call_kind
  unfolding number
  method-kind h = rule-kind 1 (ap number h) (omega arith)

-- the names of a step by the code's name of the rule
module _ {s : List ℕ} {l : Layout} {xs ys : List ℕ} {st r : State} (c v : ℕ) (k : StepRules.StepRule)
    (told : k ≡ step_rule_of (step_rule s c)) where
  pub names-property : k ≡ StepRules.TheVariants.Property → v ≡ operand_of s c → Valid s (operand_of s c) → ChainKey s c
      → (kind s v ≡ property_kind → v ≡ operand_of s c → kind s c ≡ dot_kind → Valid s v → Valid s c → Does s l xs st ys r (property s v))
      → Does s l xs st ys r (step_names (step_rule s c) s (operand_of s c))
  unfolding step_names step_rule_from
  names-property e at valid link d =
      let by : Flatten.property ≡ step_rule s c = Inverse.step_is (step_rule s c) StepRules.TheVariants.Property (sym told ∙ e) in
      let found = d (ap (kind s) at ∙ property-kind s c (sym by)) at (property-dot s c link (sym by)) (subst (Valid s) (sym at) valid)
      link.below in
      does_at (λ (q : StepRule). step_names q s (operand_of s c)) by (does_at (property s) at found)

  pub names-method : k ≡ StepRules.TheVariants.Method → v ≡ operand_of s c → Valid s (operand_of s c)
      → (kind s v ≡ method_call_kind → Valid s v → Does s l xs st ys r (step_names Flatten.method s v))
      → Does s l xs st ys r (step_names (step_rule s c) s (operand_of s c))
  unfolding step_rule_from
  names-method e at valid d =
      let by : Flatten.method ≡ step_rule s c = Inverse.step_is (step_rule s c) StepRules.TheVariants.Method (sym told ∙ e) in
      let found = d (ap (kind s) at ∙ method-kind s c (sym by)) (subst (Valid s) (sym at) valid) in
      does_at (λ (q : StepRule). step_names q s (operand_of s c)) by (does_at (step_names Flatten.method s) at found)

module _ {s : List ℕ} {l : Layout} {xs : List ℕ} {st : State} (c : ℕ) (k : StepRules.StepRule) (told : k ≡ step_rule_of (step_rule s c)) where
  pub names-index : k ≡ StepRules.TheVariants.Index → Does s l xs st xs st (step_names (step_rule s c) s (operand_of s c))
  unfolding step_names step_rule_from
  names-index e =
      does_at (λ (q : StepRule). step_names q s (operand_of s c))
      (Inverse.step_is (step_rule s c) StepRules.TheVariants.Index (sym told ∙ e)) (does-none xs st)

  pub names-nothing : k ≡ StepRules.TheVariants.Nothing → Does s l xs st xs st (step_names (step_rule s c) s (operand_of s c))
  unfolding step_names step_rule_from
  names-nothing e =
      does_at (λ (q : StepRule). step_names q s (operand_of s c))
      (Inverse.step_is (step_rule s c) StepRules.TheVariants.Nothing (sym told ∙ e)) (does-none xs st)

names-grow : (r : StepRule) (s : List ℕ) (v : ℕ) → Growing (step_names r s v)
unfolding step_names
names-grow Flatten.index s v = growing-none
names-grow Flatten.property s v = record { each = property-grows s v }
names-grow Flatten.method s v = growing-name s (name (field_a s v) 0)
names-grow Flatten.none s v = growing-none

-- ---- a chain's operands are few

module _ (s : List ℕ) where
  links-few : (n c : ℕ) → operands_of s (links n s c) ≤ max_args * n
  links-few zero c = omega (arith, operands-done s 0 0 c (omega arith))
  links-few (suc n) c = by (goes_on s c) refl (links-few n (rest_of s c))
    where
      by : (t : Bool) → goes_on s c ≡ t → operands_of s (links n s (rest_of s c)) ≤ max_args * n
          → operands_of s (links (suc n) s c) ≤ max_args * suc n
      by true g more =
          let e : suc n - 1 ≡ n = omega arith in
          let rest = ap (λ (m : ℕ). operands_of s (links m s (rest_of s c))) e in
          omega (arith, more, rest, width_few s c, operands-more s 0 (suc n) c (omega arith) g)
      by false g more = omega (arith, width_few s c, operands-last s 0 (suc n) c (omega arith) g)

  operands-few : (j : ℕ) → chain_operands s j ≤ max_args * max_depth
  unfolding chain_operands
  operands-few j = links-few max_depth j

  pub temporary-few : (v : ℕ) → temporary s v ≤ 1
  unfolding temporary
  temporary-few v = by (eqb (role s v) variable_kind) refl (eqb (role s v) this_kind) refl
    where
      by : (t : Bool) → eqb (role s v) variable_kind ≡ t → (u : Bool) → eqb (role s v) this_kind ≡ u → temporary s v ≤ 1
      by true e u f = rw (e, temporary) (omega arith)
      by false e true f = rw (e, f, temporary) (omega arith)
      by false e false f = rw (e, f, temporary) (omega arith)

  -- what Chain takes off the stack: few values, so the sum does not wrap
  pub popped-is : (j m t v : ℕ) → m ≡ chain_operands s j → t ≡ temporary s v → v ≡ child j
      → (m + t) % 4294967296 ≡ chain_operands s j + temporary s (child j)
  popped-is j m t v e f g = let h = ap (temporary s) g in omega (arith, operands-few j, temporary-few v)

-- ---- the chain's entry, and Chain of its place

pub close-does : {s : List ℕ} {l : Layout} {ys zs : List ℕ} {q r : State} (j pos n at : ℕ) (a : Made) → pos ≡ position s j
    → n ≡ chain_operands s j + temporary s (child j) → at ≡ chain_place s j a → Holds s l ys q (add_chain s j a)
    → Does s l ys q zs r (emit (Chain at) pos n) → Fits l (close_chain s j a) → Holds s l zs r (close_chain s j a)
unfolding close_chain
close-does {s} j pos n at a at-pos takes found h d room =
    let m = chain_operands s j + temporary s (child j) in
    let here = does_at (λ (p : ℕ). emit (Chain at) p n) at-pos d in
    let counted = does_at (λ (k : ℕ). emit (Chain at) (position s j) k) takes here in
    (does_at (λ (i : ℕ). emit (Chain i) (position s j) m) found counted).holds (add_chain s j a) h room

-- ---- a link as it is counted

-- the operands of a link
unfoldable operands_at : List ℕ → Low → Link → Made → Made
operands_at s low (Lowers o) a = operands s low o.n o.from a
operands_at s low Fails a = a
operands_at s low Nowhere a = a

abbrev RowAt : List ℕ → Link → Type 0
RowAt s (Lowers o) = Row s o.n o.from
RowAt s Fails = Prim.Unit {0}
RowAt s Nowhere = Prim.Unit {0}

module _ (s : List ℕ) (x : ℕ) where
  method-lowers : is_lowerable_method s x ≡ true → link_by Flatten.method s x ≡ Lowers (all s x)
  unfolding link_by
  method-lowers h = rw (h, link_by)

  method-fails : is_lowerable_method s x ≡ false → link_by Flatten.method s x ≡ Fails
  unfolding link_by
  method-fails h = rw (h, link_by)

  by_row : (r : StepRule) → Right s → Valid s x → RowAt s (link_by r s x)
  unfolding link_by
  by_row Flatten.index C v = row_cons v row-none
  by_row Flatten.property C v = row-none
  by_row Flatten.method C v = by (is_lowerable_method s x) refl
    where
      by : (t : Bool) → is_lowerable_method s x ≡ t → RowAt s (link_by Flatten.method s x)
      by true e = subst (RowAt s) (sym (method-lowers e)) (children s C x v)
      by false e = subst (RowAt s) (sym (method-fails e)) tt
  by_row Flatten.none C v = tt

module _ (s : List ℕ) (c : ℕ) where
  -- a link that lowers has grade 2, and no other has
  by-grade : (r : StepRule) → grade (link_by r s (operand_of s c)) ≡ 2 → lowers_by r s c ≡ true
  unfolding link_by lowers_by grade
  by-grade Flatten.index g = refl
  by-grade Flatten.property g = refl
  by-grade Flatten.method g = by (is_lowerable_method s (operand_of s c)) refl
    where
      by : (t : Bool) → is_lowerable_method s (operand_of s c) ≡ t → is_lowerable_method s (operand_of s c) ≡ true
      by true e = e
      by false e = let z = ap grade (method-fails s (operand_of s c) e) in absurd (omega arith)
  by-grade Flatten.none g = absurd (omega arith)

  by_less : (r : StepRule) → grade (link_by r s (operand_of s c)) < 2 → lowers_by r s c ≡ false
  unfolding link_by lowers_by grade
  by_less Flatten.index g = absurd (omega arith)
  by_less Flatten.property g = absurd (omega arith)
  by_less Flatten.method g = by (is_lowerable_method s (operand_of s c)) refl
    where
      by : (t : Bool) → is_lowerable_method s (operand_of s c) ≡ t → is_lowerable_method s (operand_of s c) ≡ false
      by true e = let z = ap grade (method-lowers s (operand_of s c) e) in absurd (omega arith)
      by false e = e
  by_less Flatten.none g = refl

  by_names : (r : StepRule) (low : Low) (a : Made) → lowers_by r s c ≡ true
      → step_by r s low c a ≡ step_names r s (operand_of s c) (operands_at s low (link_by r s (operand_of s c)) a)
  unfolding step_by step_names link_by lowers_by operands_at operands skip method
  by_names Flatten.index low a h = refl
  by_names Flatten.property low a h = refl
  by_names Flatten.method low a h =
      let x = operand_of s c in
      ap (λ (k : Link). add_name s (name (field_a s x) 0) (operands_at s low k a)) (sym (method-lowers s x h))
  by_names Flatten.none low a h = refl

  pub link-lowers : (o : Operands) → link s c ≡ Lowers o → step_lowers s c ≡ true
  unfolding link step_lowers grade
  link-lowers o h = by-grade (step_rule s c) (ap grade h)

  link-fails : link s c ≡ Fails → step_lowers s c ≡ false
  unfolding link step_lowers grade
  link-fails h = by_less (step_rule s c) (let z = ap grade h in omega arith)

  link-nowhere : link s c ≡ Nowhere → step_lowers s c ≡ false
  unfolding link step_lowers grade
  link-nowhere h = by_less (step_rule s c) (let z = ap grade h in omega arith)

  -- one that does not lower, as the code's match tells it
  pub link-ends : {k : Link} → k ≡ link s c → (k ≡ Fails) ⊎ (k ≡ Nowhere) → step_lowers s c ≡ false
  link-ends e (inl h) = link-fails (sym e ∙ h)
  link-ends e (inr h) = link-nowhere (sym e ∙ h)

  step_is : (low : Low) (o : Operands) (a : Made) → link s c ≡ Lowers o
      → step_by (step_rule s c) s low c a ≡ step_names (step_rule s c) s (operand_of s c) (operands s low o.n o.from a)
  unfolding link step_lowers operands_at
  step_is low o a h =
      by_names (step_rule s c) low a (link-lowers o h)
      ∙ ap (λ (k : Link). step_names (step_rule s c) s (operand_of s c) (operands_at s low k a)) h

  pub link_row : (o : Operands) → Right s → Linked.Link s c → link s c ≡ Lowers o → Row s o.n o.from
  unfolding link
  link_row o C l h = subst (RowAt s) h (by_row s (operand_of s c) (step_rule s c) C (LinkedLaws.operand-valid s C c l))

-- the operands of a link, and then its names
pub step-does : {s : List ℕ} {l : Layout} {xs ys zs : List ℕ} {st q r : State} (low : Low) (c : ℕ) (o : Operands) → link s c ≡ Lowers o
    → Does s l xs st ys q (rows s low Nothing o.n o.from) → Does s l ys q zs r (step_names (step_rule s c) s (operand_of s c))
    → Does s l xs st zs r (step_by (step_rule s c) s low c)
step-does {s} low c o h d e =
    let v = operand_of s c in
    let same : (a : Made) → step_names (step_rule s c) s v (rows s low Nothing o.n o.from a) ≡ step_by (step_rule s c) s low c a =
    λ a. ap (step_names (step_rule s c) s v) (rows-operands s low o.n o.from a) ∙ sym (step_is s c low o a h) in
    does-same (step_by (step_rule s c) s low c) (λ a g. same a) (does-seq (names-grow (step_rule s c) s v) d e)
