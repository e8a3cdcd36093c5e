-- A call by its way: it is what comes before its arguments, the arguments, and what comes behind them; what a checked sheet says of it; and
-- that no part takes back what is emitted.
use Rattle.std.proofs.Common.{◌≡◌, ℕ, zero, suc, ◌-◌, ◌<◌, ◌≤◌, Bool, true, false, not, ◌&&◌, eqb, leb, List, refl, ap, ◌∙◌, arith, eq-eqb, ne_eqb, eqb-true}
use mathlib.Core.Bool.{and-eq-true_iff, and-false}
use Rattle.scratch_store.proofs.GrowingLaws.{growing-emit}
use Rattle.sheet.specs.Node.{kind, count, field_a, field_b, field_c, position, child}
use Rattle.sheet.specs.Namespace.{namespace, qualified, role}
use Rattle.sheet.proofs.NamespaceLaws.{unqualified, role-kind, role-variable}
use Rattle.sheet.specs.Walk.{skip}
use Rattle.bytecode.specs.declared.Receiver.TheVariants as Receivers
use Rattle.bytecode.specs.declared.Op.TheVariants.{LoadNamed}
use Rattle.lowering.specs.Kinds.{variable_kind, this_kind}
use Rattle.lowering.specs.Limits.{max_args}
use Rattle.lowering.specs.Pools.{name, own_name}
use Rattle.lowering.specs.Nodes.{Valid, Right, Row}
use Rattle.lowering.proofs.NodesLaws.{children, child-valid, row-less, row-others, row-none}
use Rattle.lowering.specs.Call.{CallRule, First, call_rule, receiver, stores_token, first_of, variable_first}
use Rattle.lowering.specs.Call as Call
use Rattle.scratch_keys.specs.Keys.{key_of, call_kind, field_of, is_marked, mark_by, mark_of, namespace_of, name_of}
use Rattle.scratch_keys.specs.Used.{NameKey}
use Rattle.scratch_keys.proofs.KeyLaws.{name-of, no-mark}
use Rattle.expr_model.specs.Made.{Made, defeated}
use Rattle.expr_model.specs.Made as Made
use Rattle.expr_model.specs.Construct.{Low, operands, make_fn_ptr, call_fn_ptr, other_args, call_ref, rotate, call_local, call_this, call_named}
use Rattle.expr_model.specs.Construct.{call_values, call_by, add_own, ref_at, qualified_local, qualified_this, qualified_named, values_at}
use Rattle.expr_model.specs.Construct.{qualified_values, qualified_by, call_qualified, call, fn_call_by, fn_call}
use Rattle.expr_model.proofs.Growing.{ref-grows, rotate-grows, call-end-grows, residual-grows, defeated-grows}
use Rattle.expr_model.proofs.CallFacts.{RuleSays, FirstSays, rule-says, first_says, call-capture}
use Rattle.scratch_store.specs.Does.{Growing}
use Rattle.scratch_store.proofs.DoesLaws.{growing-seq}
use Rattle.expr_emit.specs.declared.calls.Way.{Way}
use Rattle.expr_emit.specs.declared.calls.Way.TheVariants.{FnPtr, FnPtrCall, Local, Named, This, Value, Eval, Kept, InLocal, InNamed, InThis}
use Rattle.expr_emit.specs.declared.calls.Way.TheVariants.{InValue}
use Rattle.expr_emit.specs.declared.calls.Opened.{Opened}
use Rattle.expr_emit.specs.Plain.{Plain, Unmarked}
use Rattle.expr_emit.specs.Ways.{way_first, within, way_lowered, way_by, way_of, arg_count, first_arg, own_at, opened, opened_at, close_named}
use Rattle.expr_emit.specs.Ways.{closed}
use Rattle.expr_emit.specs.WayFacts.{Facts, Refers, Qualifies}
use Rattle.expr_emit.proofs.KeyFacts.{token-key, own_key}

-- ---- the parts

module _ (s : List ℕ) (low : Low) (j : ℕ) (a : Made) where
  -- the call as its way has it
  abbrev parts : Way → Made
  parts w = closed w s j (opened_at w s j a) (operands s low (arg_count w s j) (first_arg w s j) (opened w s j a))

  first-is : (f : First) → call_by f s low j a ≡ parts (way_first f)
  unfolding call_by way_first closed close_named opened opened_at arg_count first_arg call_local call_this call_named call_values other_args
  first-is (Call.local slot) = refl
  first-is Call.named = refl
  first-is Call.this = refl
  first-is Call.value = refl

  within-is : (f : First) → qualified_by f (own_at s j a) s low j (add_own s j a) ≡ parts (within (way_first f))
  unfolding qualified_by way_first within closed opened opened_at arg_count first_arg qualified_local qualified_this qualified_named
      qualified_values other_args
  within-is (Call.local slot) = refl
  within-is Call.named = refl
  within-is Call.this = refl
  within-is Call.value = refl

  lowered_is : call s low j a ≡ parts (way_lowered (qualified s j) (receiver s j))
  unfolding call call_qualified way_lowered
  lowered_is = by (qualified s j) refl
    where
      by : (t : Bool) → qualified s j ≡ t → call s low j a ≡ parts (way_lowered (qualified s j) (receiver s j))
      by true q = rw (q, call, way_lowered) (within-is (receiver s j))
      by false q = rw (q, call, way_lowered) (first-is (receiver s j))

  rule_is : (r : CallRule) → fn_call_by r s low j a ≡ parts (way_by (qualified s j) r (receiver s j))
  unfolding fn_call_by way_by closed opened opened_at arg_count first_arg make_fn_ptr call_fn_ptr operands skip
  rule_is Call.fn_ptr = refl
  rule_is Call.fn_ptr_call = refl
  rule_is Call.lowerable = lowered_is
  rule_is Call.eval = refl
  rule_is Call.residual = refl

pub way-is : (s : List ℕ) (low : Low) (j : ℕ) (a : Made)
    → fn_call s low j a ≡ closed (way_of s j) s j (opened_at (way_of s j) s j a)
    (operands s low (arg_count (way_of s j) s j) (first_arg (way_of s j) s j) (opened (way_of s j) s j a))
unfolding fn_call way_of
way-is s low j a = rule_is s low j a (call_rule s j)

-- ---- the arguments are nodes

module _ (s : List ℕ) (j : ℕ) (R : Row s (count s j) (child j)) where
  first-row : (f : First) → Row s (arg_count (way_first f) s j) (first_arg (way_first f) s j)
  unfolding way_first arg_count first_arg
  first-row (Call.local slot) = row-others s (count s j) (child j) R
  first-row Call.named = row-others s (count s j) (child j) R
  first-row Call.this = row-others s (count s j) (child j) R
  first-row Call.value = R

  within-row : (f : First) → Row s (arg_count (within (way_first f)) s j) (first_arg (within (way_first f)) s j)
  unfolding way_first within arg_count first_arg
  within-row (Call.local slot) = row-others s (count s j) (child j) R
  within-row Call.named = row-others s (count s j) (child j) R
  within-row Call.this = row-others s (count s j) (child j) R
  within-row Call.value = R

  lowered-row : (q : Bool) (f : First) → Row s (arg_count (way_lowered q f) s j) (first_arg (way_lowered q f) s j)
  unfolding way_lowered
  lowered-row true f = within-row f
  lowered-row false f = first-row f

  rule-row :
      (q : Bool) (r : CallRule) → RuleSays s j r
      → Row s (arg_count (way_by q r (receiver s j)) s j) (first_arg (way_by q r (receiver s j)) s j)
  unfolding way_by arg_count first_arg
  rule-row q Call.fn_ptr h = row-less (omega arith) R
  rule-row q Call.fn_ptr_call h = R
  rule-row q Call.lowerable h = lowered-row q (receiver s j)
  rule-row q Call.eval h = row-none
  rule-row q Call.residual h = row-none

pub way-row : {s : List ℕ} {j : ℕ} → Right s → Valid s j → Row s (arg_count (way_of s j) s j) (first_arg (way_of s j) s j)
unfolding way_of
way-row {s} {j} C v = rule-row s j (children s C j v) (qualified s j) (call_rule s j) (rule-says s j)

-- ---- names and their marks

bit-mark : (b : ℕ) → b < 2 → mark_by (eqb b 1) ≡ b
unfolding mark_by
bit-mark zero h = refl
bit-mark (suc zero) h = refl
bit-mark (suc (suc b)) h = absurd (omega arith)

module _ (s : List ℕ) (j : ℕ) where
  -- the own name, in its namespace and without one
  name-own : (m : ℕ) → mark_of s j 0 ≡ m → name_of s (key_of j 0) ≡ own_name s j m
  unfolding field_of namespace_of
  name-own m h = name-of s j 0 (omega arith) ∙ ap (own_name s j) h

  name-first : (m : ℕ) → namespace s j ≡ 0 → mark_of s j 0 ≡ m → name_of s (key_of j 0) ≡ name (field_a s j) m
  name-first m n h =
      name-own m h ∙ ap (λ (w : ℕ). record { text = field_a s j; mark = m; namespace = w }) n

  -- a node that captures nothing
  mark-none : field_b s j ≡ 0 → mark_of s j 0 ≡ 0
  unfolding mark_of is_marked mark_by
  mark-none h =
      ap (λ (b : Bool). mark_by (eqb 0 0 && eqb (kind s j) call_kind && not (stores_token s j) && b))
      (ne_eqb (field_b s j) 1 (λ e. omega arith))
      ∙ ap mark_by (and-false (eqb 0 0 && eqb (kind s j) call_kind && not (stores_token s j)))

  -- a call with a token
  mark-token : stores_token s j ≡ true → mark_of s j 0 ≡ 0
  unfolding mark_of is_marked mark_by
  mark-token h =
      ap (λ (b : Bool). mark_by (eqb 0 0 && eqb (kind s j) call_kind && not b && eqb (field_b s j) 1)) h
      ∙ ap (λ (b : Bool). mark_by (b && eqb (field_b s j) 1)) (and-false (eqb 0 0 && eqb (kind s j) call_kind))

  -- a call without one
  mark-capture : kind s j ≡ call_kind → field_b s j < 2 → stores_token s j ≡ false → mark_of s j 0 ≡ field_b s j
  unfolding mark_of is_marked
  mark-capture k b h =
      ap (λ (x : Bool). mark_by (eqb 0 0 && x && not (stores_token s j) && eqb (field_b s j) 1)) (eq-eqb (kind s j) call_kind k)
      ∙ ap (λ (x : Bool). mark_by (true && true && not x && eqb (field_b s j) 1)) h
      ∙ bit-mark (field_b s j) b

  -- a call with a namespace stores no token
  token-none : qualified s j ≡ true → stores_token s j ≡ false
  unfolding stores_token
  token-none h = rw h

  plain-none : namespace s j ≡ 0 → field_b s j ≡ 0 → Plain s j
  plain-none n h = name-first 0 n (mark-none h)

  plain-variable : role s j ≡ variable_kind → Plain s j
  plain-variable h =
      let k = role-kind s j h (omega arith) in
      name-first 0 (unqualified s j (role-variable s j h)) (no-mark s j 0 (λ e. omega arith))

  pub unmarked-variable : kind s j ≡ variable_kind → Unmarked s j
  unmarked-variable h = name-own 0 (no-mark s j 0 (λ e. omega arith))

-- ---- what a receiver says

module _ (s : List ℕ) (j : ℕ) where
  abbrev FirstIs : First → Type 0
  FirstIs (Call.local slot) = field_b s j ≡ 0
  FirstIs Call.named = (field_b s j ≡ 0) × (role s (child j) ≡ variable_kind)
  FirstIs Call.this = field_b s j ≡ 0
  FirstIs Call.value = Prim.Unit {0}

  any-is : field_b s j ≡ 0 → role s (child j) ≡ variable_kind → (f : First) → FirstIs f
  any-is b k (Call.local slot) = b
  any-is b k Call.named = (b, k)
  any-is b k Call.this = b
  any-is b k Call.value = tt

  of_is : field_b s j ≡ 0 → FirstIs (first_of s (child j))
  unfolding first_of
  of_is b = by (eqb (role s (child j)) this_kind) refl (eqb (role s (child j)) variable_kind) refl
    where
      by : (t : Bool) → eqb (role s (child j)) this_kind ≡ t → (u : Bool) → eqb (role s (child j)) variable_kind ≡ u
          → FirstIs (first_of s (child j))
      by true h u g = rw (h, first_of) b
      by false h true g = rw (h, g, first_of) (any-is b (eqb-true (role s (child j)) variable_kind g) (variable_first s (child j)))
      by false h false g = rw (h, g, first_of) tt

  receiver-is : FirstIs (receiver s j)
  unfolding receiver
  receiver-is = by (eqb (field_c s j) 0 && eqb (field_b s j) 0 && leb 1 (count s j)) refl
    where
      by : (t : Bool) → (eqb (field_c s j) 0 && eqb (field_b s j) 0 && leb 1 (count s j)) ≡ t → FirstIs (receiver s j)
      by true h =
          let k = ((and-eq-true_iff (eqb (field_c s j) 0 && eqb (field_b s j) 0) (leb 1 (count s j))).0 h).0 in
          let b = ((and-eq-true_iff (eqb (field_c s j) 0) (eqb (field_b s j) 0)).0 k).1 in
          rw (h, receiver) (of_is (eqb-true (field_b s j) 0 b))
      by false h = rw (h, receiver) tt

  -- ---- what is known of the call

  module _ (C : Right s) (v : Valid s j) (k : kind s j ≡ 13) where
    refers : namespace s j ≡ 0 → count s j ≤ max_args → field_b s j ≡ 0 → Refers s j
    refers n few b = record { key = own_key s j v (omega arith); plain = plain-none s j n b; few = omega arith }

    -- the receiver's key
    child-key : 1 ≤ count s j → role s (child j) ≡ variable_kind → NameKey s (key_of (child j) 0)
    child-key i is =
        let e = role-kind s (child j) is (omega arith) in
        own_key s (child j) (child-valid s C j v i) (omega arith)

    first-facts : namespace s j ≡ 0 → count s j ≤ max_args → (f : First) → FirstIs f → FirstSays s j f → Facts (way_first f) s j
    unfolding way_first
    first-facts n few (Call.local slot) h i = refers n few h
    first-facts n few Call.named h i =
        record { refers = refers n few h.0; first = child-key i h.1; plain = plain-variable s (child j) h.1 }
    first-facts n few Call.this h i = refers n few h
    first-facts n few Call.value h i =
        let capture = call-capture s j C v k in
        record {
          key = own_key s j v (omega arith);
          token = token-key s j v k;
          few = omega arith;
          capture = omega arith;
          tokened = λ t. name-first s j 0 n (mark-token s j t);
          marked = λ t. name-first s j (field_b s j) n (mark-capture s j k (omega arith) t);
        }

    -- with a namespace
    qualifies : qualified s j ≡ true → count s j ≤ max_args → Qualifies s j
    qualifies q few =
        let capture = call-capture s j C v k in
        record {
          key = own_key s j v (omega arith);
          own = name-own s j (field_b s j) (mark-capture s j k (omega arith) (token-none s j q));
          few = omega arith;
          capture = omega arith;
        }

    within-facts : qualified s j ≡ true → count s j ≤ max_args → (f : First) → FirstIs f → FirstSays s j f → Facts (within (way_first f)) s j
    unfolding way_first within
    within-facts q few (Call.local slot) h i = qualifies q few
    within-facts q few Call.named h i =
        record { qualifies = qualifies q few; first = child-key i h.1; plain = plain-variable s (child j) h.1 }
    within-facts q few Call.this h i = qualifies q few
    within-facts q few Call.value h i = qualifies q few

    lowered-facts : count s j ≤ max_args → Facts (way_lowered (qualified s j) (receiver s j)) s j
    unfolding way_lowered
    lowered-facts few = by (qualified s j) refl
      where
        by : (t : Bool) → qualified s j ≡ t → Facts (way_lowered (qualified s j) (receiver s j)) s j
        by true q = rw (q, way_lowered) (within-facts q few (receiver s j) receiver-is (first_says s j))
        by false q = rw (q, way_lowered) (first-facts (unqualified s j q) few (receiver s j) receiver-is (first_says s j))

    rule-facts : (r : CallRule) → RuleSays s j r → Facts (way_by (qualified s j) r (receiver s j)) s j
    unfolding way_by
    rule-facts Call.fn_ptr h = tt
    rule-facts Call.fn_ptr_call h = tt
    rule-facts Call.lowerable h = lowered-facts h
    rule-facts Call.eval h = tt
    rule-facts Call.residual h = tt

pub way-facts : (s : List ℕ) (j : ℕ) → Right s → Valid s j → kind s j ≡ 13 → Facts (way_of s j) s j
unfolding way_of
way-facts s j C v k = rule-facts s j C v k (call_rule s j) (rule-says s j)

-- ---- growth

close-named-grows : (s : List ℕ) (j i : ℕ) → Growing (close_named s j i)
unfolding close_named
close-named-grows s j i =
    let turned : Growing (rotate (count s j - 1)) = record { each = rotate-grows (count s j - 1) } in
    let called : Growing (call_ref s j (Receivers.Named i)) = record { each = ref-grows s j (Receivers.Named i) } in
    growing-seq (growing-seq (growing-emit (LoadNamed i) (position s (child j)) 0) turned) called

pub closed-grows : (w : Way) (s : List ℕ) (j : ℕ) (at : Opened) → Growing (closed w s j at)
unfolding closed ref_at values_at
closed-grows FnPtr s j i = growing-emit _ (position s (child j)) 0
closed-grows FnPtrCall s j i = growing-emit _ (position s j) 0
closed-grows (Local slot) s j i = record { each = ref-grows s j (Receivers.Local slot) }
closed-grows Named s j i = close-named-grows s j i.first
closed-grows This s j i = record { each = ref-grows s j Receivers.This }
closed-grows Value s j i = record { each = call-end-grows s j }
closed-grows Eval s j i =
    let beaten : Growing defeated = record { each = defeated-grows } in
    let kept : Growing (Made.residual j) = record { each = residual-grows j } in
    growing-seq beaten kept
closed-grows Kept s j i = record { each = residual-grows j }
closed-grows (InLocal slot) s j i = growing-emit _ (position s j) 0
closed-grows InNamed s j i = growing-emit _ (position s j) 0
closed-grows InThis s j i = growing-emit _ (position s j) 0
closed-grows InValue s j i = growing-emit _ (position s j) 0
