-- Laws of keywords, in the shapes of the code: a name of another length is none, no name is two of them, and the rules go by the keyword.
use Prim.Native.Nat.{ℕ, ◌+◌}
use mathlib.Core.Path.{◌≡◌, refl, ap, sym, ◌∙◌}
use mathlib.Core.Bool.{Bool, true, false, ◌&&◌, ◌||◌, not}
use mathlib.Core.List.{List}
use lib.Dec.{eqb, leb}
use lib.ListN.{length}
use Rattle.text.specs.Same.{same}
use Rattle.text.proofs.SameLaws.{same_true, same-lengths}
use Rattle.text.specs.Keyword.{eval_name, fn_name, call_name, curry_name, is_eval, is_fn, is_call, is_curry}
use Rattle.sheet.specs.Node.{count}
use Rattle.lowering.specs.Limits.{max_args}
use Rattle.lowering.specs.Call.{callee, syntactic, is_lowerable_call, is_fn_ptr, is_fn_ptr_call, general_rule, plain_rule}
use Rattle.lowering.specs.Call.{CallRule, fn_ptr, fn_ptr_call, lowerable, eval, residual}
use Rattle.lowering.specs.Steps.{is_lowerable_method}
use Rattle.expr_rules.specs.Keywords.{keyword_by, keyword_of, general_by, rule_by, as_method}

-- ---- names

module _ (name : List ℕ) where
  pub no_fn : (length name ≡ 2 → ⊥) → is_fn name ≡ false
  unfolding is_fn
  no_fn h = same-lengths name fn_name h

  pub no_call : (length name ≡ 4 → ⊥) → is_call name ≡ false
  unfolding is_call
  no_call h = same-lengths name call_name h

  pub no-eval : (length name ≡ 4 → ⊥) → is_eval name ≡ false
  unfolding is_eval
  no-eval h = same-lengths name eval_name h

  pub no-curry : (length name ≡ 5 → ⊥) → is_curry name ≡ false
  unfolding is_curry
  no-curry h = same-lengths name curry_name h

  -- the keyword by the four tests
  pub keyword-is :
      {f c e u : Bool} → is_fn name ≡ f → is_call name ≡ c → is_eval name ≡ e → is_curry name ≡ u
      → keyword_by f c e u ≡ keyword_of name
  unfolding keyword_of
  keyword-is p q r t = sym (λ i. keyword_by (p i) (q i) (r i) (t i))

  -- a name that is one keyword is no other
  one_only : (k l : List ℕ) → same k l ≡ false → same name k ≡ true → same name l ≡ false
  one_only k l e h = ap (λ x. same x l) (same_true name k h) ∙ e

  fn-call : is_fn name ≡ true → is_call name ≡ false
  unfolding is_fn is_call same
  fn-call h = one_only fn_name call_name refl h

  fn-eval : is_fn name ≡ true → is_eval name ≡ false
  unfolding is_fn is_eval same
  fn-eval h = one_only fn_name eval_name refl h

  fn-curry : is_fn name ≡ true → is_curry name ≡ false
  unfolding is_fn is_curry same
  fn-curry h = one_only fn_name curry_name refl h

  call-eval : is_call name ≡ true → is_eval name ≡ false
  unfolding is_call is_eval same
  call-eval h = one_only call_name eval_name refl h

  call-curry : is_call name ≡ true → is_curry name ≡ false
  unfolding is_call is_curry same
  call-curry h = one_only call_name curry_name refl h

  eval-curry : is_eval name ≡ true → is_curry name ≡ false
  unfolding is_eval is_curry same
  eval-curry h = one_only eval_name curry_name refl h

  -- what holds for each way in which the four tests may come out holds for the name
  by-keyword :
      (P : Bool → Bool → Bool → Bool → Type 0)
      → P true false false false → P false true false false → P false false true false → P false false false true
      → P false false false false
      → P (is_fn name) (is_call name) (is_eval name) (is_curry name)
  by-keyword P pf pc pe pu po = by (is_fn name) (is_call name) (is_eval name) (is_curry name) refl refl refl refl
    where
      back :
          {f c e u : Bool} → is_fn name ≡ f → is_call name ≡ c → is_eval name ≡ e → is_curry name ≡ u
          → P f c e u → P (is_fn name) (is_call name) (is_eval name) (is_curry name)
      back p q r t x = rw (p, q, r, t) x

      by :
          (f c e u : Bool) → is_fn name ≡ f → is_call name ≡ c → is_eval name ≡ e → is_curry name ≡ u
          → P (is_fn name) (is_call name) (is_eval name) (is_curry name)
      by true c e u p q r t = back p (fn-call p) (fn-eval p) (fn-curry p) pf
      by false true e u p q r t = back p q (call-eval q) (call-curry q) pc
      by false false true u p q r t = back p q r (eval-curry r) pe
      by false false false true p q r t = back p q r t pu
      by false false false false p q r t = back p q r t po

-- ---- rules, by the four tests of the name and those of the count

abbrev said : Bool → Bool → Bool → Bool → Bool → Bool → Bool → Bool → CallRule
said f c e u one some few all =
    elim (f && one) [
      | true ↦ fn_ptr
      | false ↦
          elim (c && some && few) [
            | true ↦ fn_ptr_call
            | false ↦
                elim (all && not (e || f || c || u)) [
                  | true ↦ lowerable
                  | false ↦ elim e [ true ↦ eval | false ↦ residual ]
                ]
          ]
    ]

said-fn : (one some few all : Bool) → said true false false false one some few all ≡ elim one [ true ↦ fn_ptr | false ↦ residual ]
said-fn true some few all = refl
said-fn false some few true = refl
said-fn false some few false = refl

said-call :
    (one some few all : Bool)
    → said false true false false one some few all ≡ elim (some && few) [ true ↦ fn_ptr_call | false ↦ residual ]
said-call one true true all = refl
said-call one true false true = refl
said-call one true false false = refl
said-call one false few true = refl
said-call one false few false = refl

said-eval : (one some few all : Bool) → said false false true false one some few all ≡ eval
said-eval one some few true = refl
said-eval one some few false = refl

said-curry : (one some few all : Bool) → said false false false true one some few all ≡ residual
said-curry one some few true = refl
said-curry one some few false = refl

said-other : (one some few all : Bool) → said false false false false one some few all ≡ elim all [ true ↦ lowerable | false ↦ residual ]
said-other one some few true = refl
said-other one some few false = refl

abbrev general-said : Bool → Bool → Bool → Bool → Bool → CallRule
general-said f c e u all =
    elim (all && not (e || f || c || u)) [ true ↦ lowerable | false ↦ elim e [ true ↦ eval | false ↦ residual ] ]

general-said-fn : (all : Bool) → general-said true false false false all ≡ residual
general-said-fn true = refl
general-said-fn false = refl

general-said-call : (all : Bool) → general-said false true false false all ≡ residual
general-said-call true = refl
general-said-call false = refl

general-said-eval : (all : Bool) → general-said false false true false all ≡ eval
general-said-eval true = refl
general-said-eval false = refl

general-said-curry : (all : Bool) → general-said false false false true all ≡ residual
general-said-curry true = refl
general-said-curry false = refl

general-said-other : (all : Bool) → general-said false false false false all ≡ elim all [ true ↦ lowerable | false ↦ residual ]
general-said-other true = refl
general-said-other false = refl

module _ (s : List ℕ) (j : ℕ) where
  pub plain_is : plain_rule s j ≡ rule_by (keyword_of (callee s j)) (count s j)
  unfolding plain_rule general_rule is_fn_ptr is_fn_ptr_call is_lowerable_call syntactic keyword_of general_by rule_by
  plain_is =
      let n = count s j in
      by-keyword (callee s j)
      (λ f c e u. said f c e u (eqb n 1) (leb 1 n) (leb n (max_args + 1)) (leb n max_args) ≡ rule_by (keyword_by f c e u) n)
      (said-fn (eqb n 1) (leb 1 n) (leb n (max_args + 1)) (leb n max_args))
      (said-call (eqb n 1) (leb 1 n) (leb n (max_args + 1)) (leb n max_args))
      (said-eval (eqb n 1) (leb 1 n) (leb n (max_args + 1)) (leb n max_args))
      (said-curry (eqb n 1) (leb 1 n) (leb n (max_args + 1)) (leb n max_args))
      (said-other (eqb n 1) (leb 1 n) (leb n (max_args + 1)) (leb n max_args))

  pub general_is : general_rule s j ≡ general_by (keyword_of (callee s j)) (count s j)
  unfolding general_rule is_lowerable_call syntactic keyword_of general_by
  general_is =
      let n = count s j in
      by-keyword (callee s j)
      (λ f c e u. general-said f c e u (leb n max_args) ≡ general_by (keyword_by f c e u) n)
      (general-said-fn (leb n max_args)) (general-said-call (leb n max_args)) (general-said-eval (leb n max_args))
      (general-said-curry (leb n max_args)) (general-said-other (leb n max_args))

  pub method_lowers : is_lowerable_method s j ≡ (leb (count s j) max_args && as_method (keyword_of (callee s j)))
  unfolding is_lowerable_method is_lowerable_call syntactic keyword_of as_method
  method_lowers =
      let few = leb (count s j) max_args in
      by-keyword (callee s j) (λ f c e u. ((c || u || (few && not (e || f || c || u))) && few) ≡ (few && as_method (keyword_by f c e u)))
      (never few) (always few) (never few) (always few) (twice few)
    where
      never : (few : Bool) → ((few && false) && few) ≡ (few && false)
      never true = refl
      never false = refl

      always : (few : Bool) → few ≡ (few && true)
      always true = refl
      always false = refl

      twice : (few : Bool) → ((few && true) && few) ≡ (few && true)
      twice true = refl
      twice false = refl
