-- Names of modules, put together: of a sheet that passes the check the definitions say what document 02 says.
use Prim.Native.Nat.{ℕ, zero, suc, ◌+◌, ◌-◌, ◌≤◌, ◌<◌}
use mathlib.Core.Path.{◌≡◌, refl, sym, ap, ap₂, ◌∙◌, subst}
use mathlib.Core.Bool.{Bool, true, false, ◌&&◌, and-eq-true_iff}
use mathlib.Core.Logic.{◌⊎◌, inl, inr}
use mathlib.Core.List.{List, [], ◌∷◌, ◌++◌, append-nil, append_assoc}
use native.Mathlib.Omega.{arith}
use lib.Dec.{leb, eqb}
use lib.ListN.{length, get_or}
use borrow.Author.Tests.{eq-eqb, ne_eqb, leb-true, lt-leb, le-leb}
use Rattle.text.specs.Same.{same}
use Rattle.text.proofs.SameLaws.{same_refl, same_true, same_false}
use Rattle.text.specs.Keyword.{is_eval, is_fn, is_call, is_curry, eval_name, fn_name, call_name, curry_name}
use Rattle.sheet.specs.Kinds.{variable_kind, fn_call_kind}
use Rattle.sheet.specs.Sections.{node_count}
use Rattle.sheet.specs.Node.{kind, count, field_a, field_b, field_c, position, child, namespace_word, namespace_pos}
use Rattle.sheet.specs.Text.{text}
use Rattle.sheet.specs.Namespace.{may_have, qualified, qualified_variable, role}
use Rattle.sheet.specs.Start.{starts_inside, own_start, start_within, start_of}
use Rattle.sheet.proofs.NamespaceLaws.{unqualified, plain-here, role-plain, role-qualified}
use Rattle.check_shape.specs.Kinds.{most_b, bound}
use Rattle.check_shape.specs.Shape.{within_bounds_by, self_by}
use Rattle.checks.specs.Checked.{verdict_number, checked}
use Rattle.bytecode.specs.declared.Op.TheVariants.{LoadNamed}
use Rattle.lowering.specs.Code.{ins}
use Rattle.lowering.specs.Pools.{Name, Pools, pools, first_where, emits, defeat, prefix, own_name, name_bytes, same_name, name_at}
use Rattle.lowering.specs.Pools.{push_name}
use Rattle.lowering.specs.Leaf.{load_named, load_qualified, variable}
use Rattle.lowering.specs.Out.{Out, out, Rec, and_then, emit_at, residual_expr}
use Rattle.lowering.specs.Limits.{max_args}
use Rattle.lowering.specs.Call.{CallRule, callee, syntactic, is_lowerable_call, lowerable, eval, residual, general_rule, call_rule, First}
use Rattle.lowering.specs.Call.{value, first_of, receiver, other_args, ref_at, loaded_args, qualified_local, qualified_this}
use Rattle.lowering.specs.Call.{qualified_named, qualified_values, lower_qualified_by, lower_qualified, stores_token, lower_call}
use Rattle.lowering.specs.Call.{fn_call_by, fn_call}
use Rattle.lowering.specs.Chain.{root_of, root_pools}
use Rattle.lowering.specs.Expression as Expr
use Rattle.lowering.specs.Expression.{Rule, rules, rule, by_rule}
use Rattle.lowering.specs.Modules.{Same, Both, Keyword, kept, Called, ModuleCall, exclamation, colons, joined, OfModule, module_name}
use Rattle.lowering.specs.Modules.{lowered, with_names, ModuleVariable, NoModule, Statement}
use Rattle.lowering.proofs.FirstLaws.{first-is, first-none, added_new, added-old}
use Rattle.lowering.proofs.LinkedLeaf.{plain-local, plain-named}
use Rattle.lowering.proofs.NodesLaws.{node-own}
use Rattle.lowering.proofs.SwitchAccepted.{accepted-right}
use Rattle.lowering.proofs.NamespaceWords.{other-kinds, no-position, word-within, empty-none, namespace-is, is-qualified, module-is}

-- ---- names

module _ (s : List ℕ) where
  one_name : (m n : Name) → Both (same_name s m n ≡ true) (name_bytes s m ≡ name_bytes s n)
  unfolding same_name
  one_name m n = (
    same_true (name_bytes s m) (name_bytes s n),
    λ e. subst (λ x. same (name_bytes s m) x ≡ true) e (same_refl (name_bytes s m)),
  )

  -- what `same_name` says of an entry
  same_at : (n : Name) (p : Pools) (i : ℕ) → Same s n p i → same_name s n (get_or p.names i n) ≡ true
  same_at n p i e = (one_name n (get_or p.names i n)).1 (sym e)

  not_at : (n : Name) (p : Pools) (i : ℕ) → (Same s n p i → ⊥) → same_name s n (get_or p.names i n) ≡ false
  unfolding same_name
  not_at n p i f = same_false (name_bytes s n) (name_bytes s (get_or p.names i n)) (λ e. f (sym e))

  pooled : (n : Name) (p : Pools) (i : ℕ) → i < length p.names → Same s n p i → ((k : ℕ) → k < i → Same s n p k → ⊥)
      → (name_at s n p ≡ i) × (push_name s n p ≡ p)
  unfolding name_at push_name
  pooled n p i l e none = (
    at,
    ap (λ ns. pools p.consts ns p.tokens p.residuals p.chains p.steps p.emitted p.defeated)
        (added-old (same_name s n) n p.names (ne_eqb _ _ (λ z. omega (arith, at)))),
  )
    where
      at : first_where (same_name s n) p.names ≡ i
      at = first-is (same_name s n) n p.names i l (same_at n p i e) (λ k m. not_at n p k (none k m))

  pooled-new : (n : Name) (p : Pools) → ((k : ℕ) → k < length p.names → Same s n p k → ⊥)
      → (name_at s n p ≡ length p.names) × (push_name s n p ≡ with_names (p.names ++ (n ∷ [])) p)
  unfolding name_at push_name
  pooled-new n p none = (at, ap (λ (ns : List Name). with_names ns p) (added_new (same_name s n) n p.names (eq-eqb _ _ at)))
    where
      at : first_where (same_name s n) p.names ≡ length p.names
      at = first-none (same_name s n) n p.names (λ k m. not_at n p k (none k m))

  -- what stands before a name in a namespace
  before : (n : ℕ) → prefix s (n + 1) ≡ text s n ++ colons
  unfolding prefix
  before n =
      let e : n + 1 - 1 ≡ n = omega arith in
      rw (ne_eqb (n + 1) 0 (λ z. omega arith), prefix) (ap (λ t. text s t ++ colons) e)

  bytes-joined : (n t : ℕ) → name_bytes s (joined n t 0) ≡ text s n ++ colons ++ text s t
  unfolding name_bytes
  bytes-joined n t = ap₂ (λ (x y : List ℕ). x ++ y) (before n) (append-nil (text s t))

  bytes-both : (n t : ℕ) → name_bytes s (joined n t 1) ≡ text s n ++ colons ++ text s t ++ exclamation
  unfolding name_bytes
  bytes-both n t =
      ap (λ (x : List ℕ). x ++ (text s t ++ exclamation)) (before n) ∙ sym (append_assoc (text s n ++ colons) (text s t) exclamation)

-- ---- nodes

module _ (s : List ℕ) where
  -- a node that does not start inside starts with itself
  starts-itself : (m j : ℕ) → starts_inside (kind s j) ≡ false → start_within m s j ≡ own_start s j
  unfolding start_within
  starts-itself zero j e = refl
  starts-itself (suc m) j e = rw (e, start_within)

  -- a node is lowered by the rule of its kind
  by-kind : (k j : ℕ) (r : Rule) (rec : Rec) (b d : ℕ) (p : Pools) → kind s j ≡ k → get_or rules k Expr.residual ≡ r
      → lowered s rec j b d p ≡ by_rule r s rec j b d p
  unfolding rule
  by-kind k j r rec b d p e f = ap (λ r. by_rule r s rec j b d p) (ap (λ k. get_or rules k Expr.residual) e ∙ f)

module _ (s : List ℕ) (a : verdict_number (checked s) ≡ 0) where
  -- the namespace that is pooled is the node's word
  own-module : {k j : ℕ} (mark : ℕ) → may_have k ≡ true → OfModule s k j → own_name s j mark ≡ module_name s j mark
  own-module {k} {j} mark m o =
      ap (λ w. record { text = field_a s j; mark = mark; namespace = w }) (namespace-is s a m o ∙ above (namespace_word s j) o.word)
    where
      above : (w : ℕ) → (w ≡ 0 → ⊥) → w ≡ w - 1 + 1
      above zero n = absurd (n refl)
      above (suc w) n = omega arith

  -- ---- a Variable of a module

  module _ (j : ℕ) (o : OfModule s variable_kind j) where
    in-module : qualified s j ≡ true
    in-module = is-qualified s a refl o

    no-role : role s j ≡ 0
    no-role = role-qualified s j o.kind_is in-module

    loaded : (rec : Rec) (b d : ℕ) (p : Pools)
        → let n = module_name s j 0 in
        lowered s rec j b d p ≡ out (ins (LoadNamed (name_at s n p)) d (namespace_pos s j) ∷ []) (emits 1 (push_name s n p))
    unfolding rules by_rule variable load_qualified emit_at
    loaded rec b d p =
        by-kind s variable_kind j Expr.variable rec b d p o.kind_is refl
        ∙ rw (in-module, variable) (ap load (own-module 0 refl o))
      where
        load : Name → Out
        load n = out (ins (LoadNamed (name_at s n p)) d (namespace_pos s j) ∷ []) (emits 1 (push_name s n p))

    variable-starts : start_of s j ≡ namespace_pos s j
    unfolding start_of own_start qualified_variable
    variable-starts =
        starts-itself s (node_count s) j (subst (λ k. starts_inside k ≡ false) (sym o.kind_is) refl)
        ∙ rw (eq-eqb (kind s j) variable_kind o.kind_is, in-module, own_start, qualified_variable) refl

    no-receiver : (c : ℕ) → child c ≡ j → receiver s c ≡ value
    unfolding receiver first_of
    no-receiver c e = by (eqb (field_c s c) 0 && eqb (field_b s c) 0 && leb 1 (count s c))
      where
        here : first_of s (child c) ≡ value
        here = ap (first_of s) e ∙ rw (no-role, first_of, no-role) refl

        by : (t : Bool) → elim t as (λ u. First) [ true ↦ first_of s (child c) | false ↦ value ] ≡ value
        by true = here
        by false = refl

    module-variable : ModuleVariable s j
    unfolding root_of root_pools
    module-variable =
        record {
          loaded = loaded;
          starts = variable-starts;
          no_receiver = no-receiver;
          root = λ p. rw (no-role, root_of, no-role) refl;
          root_unpooled = λ p. rw (no-role, root_pools) refl;
        }

-- ---- a node without a namespace

module _ (s : List ℕ) (j : ℕ) (h : qualified s j ≡ false) where
  no-module : NoModule s j
  unfolding variable emit_at load_named own_start qualified_variable call_rule lower_call stores_token
  no-module =
      record {
        name_is = λ mark. ap (λ w. record { text = field_a s j; mark = mark; namespace = w }) (unqualified s j h);
        role_is = role-plain s j h;
        start_is = starts;
        is_local = λ slot d p e. rw (h, variable) (plain-local s j d p slot e);
        is_named = λ d p e. rw (h, variable) (plain-named s j d p e);
        rule_is = rw (h, call_rule) refl;
        call_is = λ rec b d p. rw (h, lower_call) refl;
        token_is = rw (h, stores_token) refl;
      }
    where
      starts : own_start s j ≡ position s j
      starts = by (eqb (kind s j) variable_kind) refl
        where
          by : (t : Bool) → eqb (kind s j) variable_kind ≡ t → own_start s j ≡ position s j
          by true e = rw (e, h, own_start, qualified_variable) refl
          by false e = rw (e, own_start, qualified_variable) refl

-- ---- a FnCall of a module

-- the rule of a call by its own name and the count of its arguments
module _ (s : List ℕ) (j : ℕ) where
  eval-syntactic : callee s j ≡ eval_name → syntactic (callee s j) ≡ true
  unfolding syntactic is_eval is_fn is_call is_curry same
  eval-syntactic e = subst (λ x. syntactic x ≡ true) (sym e) refl

  eval-is : callee s j ≡ eval_name → is_eval (callee s j) ≡ true
  unfolding is_eval same
  eval-is e = subst (λ x. is_eval x ≡ true) (sym e) refl

  word-syntactic : (callee s j ≡ fn_name) ⊎ (callee s j ≡ call_name) ⊎ (callee s j ≡ curry_name)
      → (syntactic (callee s j) ≡ true) × (is_eval (callee s j) ≡ false)
  unfolding syntactic is_eval is_fn is_call is_curry same
  word-syntactic w = by w
    where
      Kept : List ℕ → Type 0
      Kept x = (syntactic x ≡ true) × (is_eval x ≡ false)

      by : (callee s j ≡ fn_name) ⊎ (callee s j ≡ call_name) ⊎ (callee s j ≡ curry_name) → Kept (callee s j)
      by (inl e) = subst Kept (sym e) (refl, refl)
      by (inr (inl e)) = subst Kept (sym e) (refl, refl)
      by (inr (inr e)) = subst Kept (sym e) (refl, refl)

  eval-not : (callee s j ≡ eval_name → ⊥) → is_eval (callee s j) ≡ false
  unfolding is_eval
  eval-not n = same_false (callee s j) eval_name n

  not-syntactic : (Keyword (callee s j) → ⊥) → syntactic (callee s j) ≡ false
  unfolding syntactic is_eval is_fn is_call is_curry
  not-syntactic n =
      rw (
        same_false (callee s j) eval_name (λ e. n (inl e)),
        same_false (callee s j) fn_name (λ e. n (inr (inl e))),
        same_false (callee s j) call_name (λ e. n (inr (inr (inl e)))),
        same_false (callee s j) curry_name (λ e. n (inr (inr (inr e)))),
        syntactic,
      ) refl

  syntactic-kept : syntactic (callee s j) ≡ true → is_lowerable_call s j ≡ false
  unfolding is_lowerable_call
  syntactic-kept h = by (leb (count s j) max_args) refl
    where
      by : (t : Bool) → leb (count s j) max_args ≡ t → is_lowerable_call s j ≡ false
      by true e = rw (e, h, is_lowerable_call) refl
      by false e = rw (e, is_lowerable_call) refl

  many-kept : 255 < count s j → is_lowerable_call s j ≡ false
  unfolding is_lowerable_call
  many-kept h = rw (lt-leb (count s j) max_args h, is_lowerable_call) refl

  other-lowers : count s j ≤ 255 → (Keyword (callee s j) → ⊥) → is_lowerable_call s j ≡ true
  unfolding is_lowerable_call
  other-lowers h n = rw (le-leb (count s j) max_args h, not-syntactic n, is_lowerable_call) refl

  rule-eval : is_lowerable_call s j ≡ false → is_eval (callee s j) ≡ true → general_rule s j ≡ eval
  unfolding general_rule
  rule-eval h e = rw (h, e, general_rule) refl

  rule-residual : is_lowerable_call s j ≡ false → is_eval (callee s j) ≡ false → general_rule s j ≡ residual
  unfolding general_rule
  rule-residual h e = rw (h, e, general_rule) refl

  rule-lowerable : is_lowerable_call s j ≡ true → general_rule s j ≡ lowerable
  unfolding general_rule
  rule-lowerable h = rw (h, general_rule) refl

-- what `lower_qualified_by` makes, for each first argument
called-by : (s : List ℕ) (rec : Rec) (j b d i : ℕ) (p : Pools) (o : Out) → o ≡ lower_qualified_by (receiver s j) i s rec j b d p
    → Called s rec j b d i p o
unfolding lower_qualified_by qualified_local qualified_this qualified_named qualified_values loaded_args ref_at other_args and_then
called-by s rec j b d i p o e =
    record { local_first = λ slot h. by h; this_first = λ h. by h; named_first = λ h. by h; value_first = λ h. by h }
  where
    by : {f : First} → receiver s j ≡ f → o ≡ lower_qualified_by f i s rec j b d p
    by h = e ∙ ap (λ f. lower_qualified_by f i s rec j b d p) h

module _ (s : List ℕ) (a : verdict_number (checked s) ≡ 0) (j : ℕ) (o : OfModule s fn_call_kind j) where
  module-called : qualified s j ≡ true
  module-called = is-qualified s a refl o

  mark-bound : field_b s j ≤ 1
  unfolding self_by within_bounds_by bound
  mark-bound =
      let k = simp and-eq-true_iff at (node-own s (accepted-right s a) j o.valid) in
      let l = leb-true (field_b s j) (bound (kind s j) most_b) k.0.0.0.0.0.1 in
      subst (λ k. field_b s j ≤ bound k most_b) o.kind_is l

  call-starts : start_of s j ≡ position s j
  unfolding start_of own_start qualified_variable
  call-starts =
      starts-itself s (node_count s) j (subst (λ k. starts_inside k ≡ false) (sym o.kind_is) refl)
      ∙ rw (o.kind_is, own_start, qualified_variable) refl

  module _ (rec : Rec) (b d : ℕ) (p : Pools) where
    by-call : {x : CallRule} → general_rule s j ≡ x → lowered s rec j b d p ≡ fn_call_by x s rec j b d p
    unfolding rules by_rule fn_call call_rule
    by-call {x} e =
        by-kind s fn_call_kind j Expr.fn_call rec b d p o.kind_is refl
        ∙ ap (λ x. fn_call_by x s rec j b d p) (rw (module-called, call_rule) e)

    eval-kept : callee s j ≡ eval_name → lowered s rec j b d p ≡ kept j d (defeat p)
    unfolding fn_call_by residual_expr emit_at
    eval-kept e = by-call (rule-eval s j (syntactic-kept s j (eval-syntactic s j e)) (eval-is s j e))

    word-kept : (callee s j ≡ fn_name) ⊎ (callee s j ≡ call_name) ⊎ (callee s j ≡ curry_name) → lowered s rec j b d p ≡ kept j d p
    unfolding fn_call_by residual_expr emit_at
    word-kept w = let k = word-syntactic s j w in by-call (rule-residual s j (syntactic-kept s j k.0) k.1)

    long-kept : 255 < count s j → (callee s j ≡ eval_name → ⊥) → lowered s rec j b d p ≡ kept j d p
    unfolding fn_call_by residual_expr emit_at
    long-kept h n = by-call (rule-residual s j (many-kept s j h) (eval-not s j n))

    is-called : count s j ≤ 255 → (Keyword (callee s j) → ⊥)
        → let n = module_name s j (field_b s j) in
        Called s rec j b d (name_at s n p) (push_name s n p) (lowered s rec j b d p)
    unfolding fn_call_by lower_call lower_qualified
    is-called h n =
        let m = module_name s j (field_b s j) in
        called-by s rec j b d (name_at s m p) (push_name s m p) (lowered s rec j b d p)
        (by-call (rule-lowerable s j (other-lowers s j h n)) ∙ rw (module-called, lower_call) (ap by (own-module s a (field_b s j) refl o)))
      where
        by : Name → Out
        by n = lower_qualified_by (receiver s j) (name_at s n p) s rec j b d (push_name s n p)

  module-call : ModuleCall s j
  module-call =
      record { starts = call-starts; mark = mark-bound; eval = eval-kept; keyword = word-kept; many = long-kept; called = is-called }

-- ---- all of it

pub modules : Statement
unfolding name_bytes prefix
modules s a =
    record {
      names = one_name s;
      bytes = λ t. append-nil (text s t);
      bytes_marked = λ t. refl;
      bytes_joined = bytes-joined s;
      bytes_joined_marked = bytes-both s;
      pooled = pooled s;
      pooled_new = pooled-new s;
      module_is = module-is s a;
      other_kinds = other-kinds s a;
      no_position = no-position s a;
      word_within = word-within s a;
      empty_is_none = λ j v e. plain-here s j (empty-none s a j v e);
      no_module = no-module s;
      variable = module-variable s a;
      call = module-call s a;
    }
