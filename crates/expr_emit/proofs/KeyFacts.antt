-- The keys of entries, from what is known where they are added: the rule of a node, and the kind of a call, of a property and of a link.
use Rattle.std.proofs.Common.{◌≡◌, ℕ, zero, suc, ◌<◌, ◌≤◌, Bool, true, false, not, eqb, List, get_or, sym, refl, ap, ◌∙◌, subst, arith, eqb-true}
use mathlib.Core.Bool.{and-eq-true_iff}
use Rattle.sheet.specs.Node.{kind}
use Rattle.lowering.specs.Limits.{names_per_node}
use Rattle.lowering.specs.Kinds.{string_kind, variable_kind, property_kind, dot_kind, index_kind}
use Rattle.lowering.specs.Nodes.{Valid}
use Rattle.lowering.specs.Flatten.{is_chain, breaks, rest_of, goes_on}
use Rattle.lowering.specs.Expression.{Rule, rules, rule}
use Rattle.lowering.specs.Expression as Expression
use Rattle.expr_rules.specs.declared.kinds.Rule as Kinds
use Rattle.expr_rules.specs.Answers.{rule_of}
use Rattle.expr_rules.proofs.InverseLaws.{rule_from, rule_is}
use Rattle.scratch_keys.specs.Keys.{key_node, key_field, key_of, call_kind}
use Rattle.scratch_keys.specs.Used.{ConstKey, TokenKey, ChainKey, NameKey}

-- ---- what a rule says of the kind

abbrev KindIs : Rule → ℕ → Type 0
KindIs Expression.boolean k = Prim.Unit {0}
KindIs Expression.unit k = Prim.Unit {0}
KindIs Expression.constant k = k ≤ string_kind
KindIs Expression.interpolated k = Prim.Unit {0}
KindIs Expression.array k = Prim.Unit {0}
KindIs Expression.variable k = k ≡ variable_kind
KindIs Expression.this k = Prim.Unit {0}
KindIs Expression.fn_call k = Prim.Unit {0}
KindIs Expression.chain k = (dot_kind ≤ k) × (k ≤ index_kind)
KindIs Expression.and k = Prim.Unit {0}
KindIs Expression.or k = Prim.Unit {0}
KindIs Expression.coalesce k = Prim.Unit {0}
KindIs Expression.residual k = Prim.Unit {0}

kind_is : (k : ℕ) → KindIs (get_or rules k Expression.residual) k
unfolding rules
kind_is zero = tt
kind_is (suc zero) = tt
kind_is (suc (suc zero)) = tt
kind_is (suc (suc (suc zero))) = omega arith
kind_is (suc (suc (suc (suc zero)))) = omega arith
kind_is (suc (suc (suc (suc (suc zero))))) = omega arith
kind_is (suc (suc (suc (suc (suc (suc zero)))))) = omega arith
kind_is (suc (suc (suc (suc (suc (suc (suc zero))))))) = tt
kind_is (suc (suc (suc (suc (suc (suc (suc (suc zero)))))))) = tt
kind_is (suc (suc (suc (suc (suc (suc (suc (suc (suc zero))))))))) = refl
kind_is (suc (suc (suc (suc (suc (suc (suc (suc (suc (suc zero)))))))))) = tt
kind_is (suc (suc (suc (suc (suc (suc (suc (suc (suc (suc (suc zero))))))))))) = tt
kind_is (suc (suc (suc (suc (suc (suc (suc (suc (suc (suc (suc (suc zero)))))))))))) = tt
kind_is (suc (suc (suc (suc (suc (suc (suc (suc (suc (suc (suc (suc (suc zero))))))))))))) = tt
kind_is (suc (suc (suc (suc (suc (suc (suc (suc (suc (suc (suc (suc (suc (suc zero)))))))))))))) = (omega arith, omega arith)
kind_is (suc (suc (suc (suc (suc (suc (suc (suc (suc (suc (suc (suc (suc (suc (suc zero))))))))))))))) = (omega arith, omega arith)
kind_is (suc (suc (suc (suc (suc (suc (suc (suc (suc (suc (suc (suc (suc (suc (suc (suc zero)))))))))))))))) = tt
kind_is (suc (suc (suc (suc (suc (suc (suc (suc (suc (suc (suc (suc (suc (suc (suc (suc (suc zero))))))))))))))))) = tt
kind_is (suc (suc (suc (suc (suc (suc (suc (suc (suc (suc (suc (suc (suc (suc (suc (suc (suc (suc zero)))))))))))))))))) = tt
kind_is (suc (suc (suc (suc (suc (suc (suc (suc (suc (suc (suc (suc (suc (suc (suc (suc (suc (suc (suc k))))))))))))))))))) = tt

module _ (s : List ℕ) (j : ℕ) where
  rule-kind : KindIs (rule s j) (kind s j)
  unfolding rule
  rule-kind = kind_is (kind s j)

  rule-as : (k : Kinds.Rule) → rule_of (rule s j) ≡ k → KindIs (rule_from k) (kind s j)
  rule-as k h = subst (λ r. KindIs r (kind s j)) (sym (rule_is (rule s j) k h)) rule-kind

  pub variable-kind : rule_of (rule s j) ≡ Kinds.TheVariants.Variable → kind s j ≡ variable_kind
  unfolding rule_from
  variable-kind h = rule-as Kinds.TheVariants.Variable h

  pub const-key : Valid s j → rule_of (rule s j) ≡ Kinds.TheVariants.Constant → ConstKey s j
  unfolding rule_from
  const-key v h = record { below = v; value = rule-as Kinds.TheVariants.Constant h }

  pub chain-key : Valid s j → rule_of (rule s j) ≡ Kinds.TheVariants.Chain → ChainKey s j
  unfolding rule_from
  chain-key v h = let k = rule-as Kinds.TheVariants.Chain h in record { below = v; from = k.0; to = k.1 }

  pub token-key : Valid s j → kind s j ≡ call_kind → TokenKey s j
  token-key v h = record { below = v; call = h }

-- ---- the link behind a link

chain-kind : (k : ℕ) → is_chain k ≡ true → (dot_kind ≤ k) × (k ≤ index_kind)
chain-kind k h = by (eqb k dot_kind) refl
  where
    by : (t : Bool) → eqb k dot_kind ≡ t → (dot_kind ≤ k) × (k ≤ index_kind)
    by true e = omega (arith, eqb-true k dot_kind e)
    by false e = omega (arith, eqb-true k index_kind (rw e at h))

pub next-key : (s : List ℕ) (c : ℕ) → Valid s (rest_of s c) → goes_on s c ≡ true → ChainKey s (rest_of s c)
unfolding goes_on
next-key s c v h =
    let k = chain-kind (kind s (rest_of s c)) ((and-eq-true_iff (not (breaks s c)) (is_chain (kind s (rest_of s c)))).0 h).1 in
    record { below = v; from = k.0; to = k.1 }

-- ---- names

module _ (s : List ℕ) (j : ℕ) (v : Valid s j) where
  name-key :
      (f : ℕ) → f < names_per_node → (f ≡ 0 → kind s j < dot_kind) → (f ≡ 1 → kind s j ≡ property_kind) → (f ≡ 2 → kind s j ≡ dot_kind)
      → NameKey s (key_of j f)
  name-key f h own getter setter =
      let node : key_node (key_of j f) ≡ j = omega arith in
      let place : key_field (key_of j f) ≡ f = omega arith in
      record {
        below = omega arith;
        own = λ e. subst (λ (i : ℕ). kind s i < dot_kind) (sym node) (own (sym place ∙ e));
        getter = λ e. ap (kind s) node ∙ getter (sym place ∙ e);
        setter = λ e. ap (kind s) node ∙ setter (sym place ∙ e);
      }

  -- of the node itself, which is no link; of a property's getter; of the setter that a Dot is taken with
  pub own_key : kind s j < dot_kind → NameKey s (key_of j 0)
  own_key k = name-key 0 (omega arith) (λ e. k) (λ e. absurd (omega arith)) (λ e. absurd (omega arith))

  pub getter-key : kind s j ≡ property_kind → NameKey s (key_of j 1)
  getter-key k = name-key 1 (omega arith) (λ e. absurd (omega arith)) (λ e. k) (λ e. absurd (omega arith))

  pub setter-key : kind s j ≡ dot_kind → NameKey s (key_of j 2)
  setter-key k = name-key 2 (omega arith) (λ e. absurd (omega arith)) (λ e. absurd (omega arith)) (λ e. k)
