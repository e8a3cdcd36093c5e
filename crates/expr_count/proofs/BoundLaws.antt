-- The more Variables are locals, the fewer instructions a node gives and emits; whether it reaches an `eval` stays.
use Prim.Native.Nat.{ℕ, zero, suc, ◌+◌, ◌-◌, ◌≤◌}
use mathlib.Core.Path.{◌≡◌, refl, sym, ap₂, ◌∙◌}
use mathlib.Core.Bool.{Bool, true, false, ◌&&◌, ◌||◌, true≢false}
use mathlib.Core.List.{List, [], ◌∷◌}
use native.Mathlib.Omega.{arith}
use lib.Dec.{leb, eqb}
use borrow.Author.Tests.{eqb-true}
use Rattle.sheet.specs.Limits.{max_depth}
use Rattle.sheet.specs.Node.{kind, field_b, field_c, count, child, next}
use Rattle.sheet.specs.Namespace.{role}
use Rattle.sheet.proofs.NamespaceLaws.{role-kind}
use Rattle.sheet.specs.Walk.{skip}
use Rattle.lowering.specs.Kinds.{variable_kind, this_kind}
use Rattle.lowering.specs.Call.{CallRule, call_rule}
use Rattle.lowering.specs.Call as Call
use Rattle.lowering.specs.Expression.{Rule, rule}
use Rattle.lowering.specs.Expression as Expression
use Rattle.lowering.specs.Flatten.{links}
use Rattle.expr_count.specs.declared.tallies.Tally.{Tally}
use Rattle.expr_count.specs.declared.plans.Plan.{Plan}
use Rattle.expr_count.specs.declared.plans.Plan.TheVariants.{Parts, Coalesce, Chain}
use Rattle.expr_count.specs.declared.links.Link.{Link}
use Rattle.expr_count.specs.declared.links.Link.TheVariants.{Lowers, Fails, Nowhere}
use Rattle.expr_count.specs.Tally.{counted, instructions, nothing, plus, taken_back}
use Rattle.expr_count.specs.Locals.{is_local, variable_by, first_by, receiver_by}
use Rattle.expr_count.specs.Plan.{other_args, moves, call_by, fn_call_by, fn_call, plan_by, plan}
use Rattle.expr_count.specs.Link.{link, least, temporary}
use Rattle.expr_count.specs.Count.{Rec, siblings, coalesce, walk_on, walk, chain_by, chain, follow, tally_by, tally}

-- a tally that is no greater than another, with an `eval` where the other has one
pub record Below (a b : Tally) : Type 0 where
  pub len : a.len ≤ b.len
  pub emitted : a.emitted ≤ b.emitted
  pub defeated : a.defeated ≡ b.defeated

pub below-refl : (a : Tally) → Below a a
below-refl a = record { len = omega arith; emitted = omega arith; defeated = refl }

below-trans : {a b c : Tally} → Below a b → Below b c → Below a c
below-trans g h =
    record {
      len = omega (arith, g.len, h.len);
      emitted = omega (arith, g.emitted, h.emitted);
      defeated = g.defeated ∙ h.defeated;
    }

pub below-plus : {a b c d : Tally} → Below a b → Below c d → Below (plus a c) (plus b d)
unfolding plus
below-plus g h =
    record {
      len = omega (arith, g.len, h.len);
      emitted = omega (arith, g.emitted, h.emitted);
      defeated = ap₂ ◌||◌ g.defeated h.defeated;
    }

below-back : {a b : Tally} → Below a b → Below (taken_back a) (taken_back b)
unfolding taken_back
below-back g = record { len = omega arith; emitted = g.emitted; defeated = g.defeated }

fewer : {m n : ℕ} → m ≤ n → Below (instructions m) (instructions n)
unfolding instructions
fewer h = record { len = h; emitted = h; defeated = refl }

-- ---- operands that count no more

pub record Under (t u : Rec) : Type 0 where
  pub each : (j : ℕ) → Below (t j) (u j)

module _ (s : List ℕ) (t u : Rec) (U : Under t u) where
  siblings-below : (gap n j : ℕ) → Below (siblings s t gap n j) (siblings s u gap n j)
  unfolding siblings
  siblings-below gap zero j = below-refl nothing
  siblings-below gap (suc n) j =
      below-plus (below-plus (U.each j) (below-refl (instructions gap))) (siblings-below gap n (next s j))

  on_below : (l : Link) (a b : Tally) → Below a b → Below (walk_on l s t a) (walk_on l s u b)
  unfolding walk_on
  on_below (Lowers o) a b g = below-plus (siblings-below 0 o.n o.from) g
  on_below Fails a b g = below-refl nothing
  on_below Nowhere a b g = below-refl nothing

  walk-below : (ls : List ℕ) → Below (walk s t ls) (walk s u ls)
  unfolding walk
  walk-below [] = below-refl nothing
  walk-below (c ∷ cs) = on_below (link s c) (walk s t cs) (walk s u cs) (walk-below cs)

  by-below : (far : ℕ) {a b c d : Tally} → Below a b → Below c d → Below (chain_by far a c) (chain_by far b d)
  unfolding chain_by
  by-below zero g h = below-refl (instructions 1)
  by-below (suc zero) g h = below-plus (below-back g) (below-refl (instructions 1))
  by-below (suc (suc far)) g h = below-plus (below-plus g h) (below-refl (instructions 1))

  follow-below : (p : Plan) (j : ℕ) → Below (follow p s t j) (follow p s u j)
  unfolding follow coalesce chain
  follow-below (Parts gap o rest) j = below-plus (siblings-below gap o.n o.from) (below-refl rest)
  follow-below Coalesce j =
      below-plus (siblings-below 2 (count s j - 1) (child j)) (U.each (skip s (count s j - 1) (child j)))
  follow-below Chain j =
      by-below (least s (links max_depth s j)) (walk-below (links max_depth s j)) (siblings-below 0 (temporary s (child j)) (child j))

-- ---- receivers: those that are locals here are locals there

-- each Variable that is a local here is one there
pub record More (s : List ℕ) (here there : ℕ → Bool) : Type 0 where
  pub each : (v : ℕ) → kind s v ≡ variable_kind → here v ≡ true → there v ≡ true

module _ (here there : ℕ → Bool) (s : List ℕ) (more : More s here there) (u : Rec) (j : ℕ) where
  abbrev Falls : Plan → Plan → Type 0
  Falls p q = Below (follow p s u j) (follow q s u j)

  stays : (p : Plan) → Falls p p
  stays p = below-refl (follow p s u j)

  -- CallRef in place of LoadNamed, Rotate if need be, CallRef
  one-falls : Falls (other_args s j 1) (other_args s j (2 + moves s j))
  unfolding other_args follow
  one-falls = below-plus (below-refl (siblings s u 0 (count s j - 1) (next s (child j)))) (fewer (omega arith))

  variable-falls : (v : ℕ) → kind s v ≡ variable_kind → Falls (call_by (variable_by there v) s j) (call_by (variable_by here v) s j)
  unfolding variable_by call_by
  variable-falls v is = by (here v) (there v) refl refl
    where
      by : (a b : Bool) → here v ≡ a → there v ≡ b → Falls (call_by (variable_by there v) s j) (call_by (variable_by here v) s j)
      by true true e f = rw (e, f, variable_by) (stays (other_args s j 1))
      by true false e f = absurd (true≢false (sym (more.each v is e) ∙ f))
      by false true e f = rw (e, f, variable_by) one-falls
      by false false e f = rw (e, f, variable_by) (stays (other_args s j (2 + moves s j)))

  first-falls : (v : ℕ) → Falls (call_by (first_by there s v) s j) (call_by (first_by here s v) s j)
  unfolding first_by
  first-falls v = by (eqb (role s v) this_kind) (eqb (role s v) variable_kind) refl refl
    where
      by : (a b : Bool) → eqb (role s v) this_kind ≡ a → eqb (role s v) variable_kind ≡ b
          → Falls (call_by (first_by there s v) s j) (call_by (first_by here s v) s j)
      by true b e f = rw (e, first_by) (stays (call_by Call.this s j))
      by false true e f = rw (e, f, first_by) (variable-falls v (role-kind s v (eqb-true (role s v) variable_kind f) (omega arith)))
      by false false e f = rw (e, f, first_by) (stays (call_by Call.value s j))

  receiver-falls : Falls (call_by (receiver_by there s j) s j) (call_by (receiver_by here s j) s j)
  unfolding receiver_by
  receiver-falls = by (eqb (field_c s j) 0 && eqb (field_b s j) 0 && leb 1 (count s j)) refl
    where
      by : (a : Bool) → (eqb (field_c s j) 0 && eqb (field_b s j) 0 && leb 1 (count s j)) ≡ a
          → Falls (call_by (receiver_by there s j) s j) (call_by (receiver_by here s j) s j)
      by true e = rw (e, receiver_by) (first-falls (child j))
      by false e = rw (e, receiver_by) (stays (call_by Call.value s j))

  call-falls : (r : CallRule) → Falls (fn_call_by there r s j) (fn_call_by here r s j)
  unfolding fn_call_by
  call-falls Call.fn_ptr = stays _
  call-falls Call.fn_ptr_call = stays _
  call-falls Call.lowerable = receiver-falls
  call-falls Call.eval = stays _
  call-falls Call.residual = stays _

  rule-falls : (r : Rule) → Falls (plan_by there r s j) (plan_by here r s j)
  unfolding plan_by fn_call
  rule-falls Expression.boolean = stays _
  rule-falls Expression.unit = stays _
  rule-falls Expression.constant = stays _
  rule-falls Expression.interpolated = stays _
  rule-falls Expression.array = stays _
  rule-falls Expression.variable = stays _
  rule-falls Expression.this = stays _
  rule-falls Expression.fn_call = call-falls (call_rule s j)
  rule-falls Expression.chain = stays _
  rule-falls Expression.and = stays _
  rule-falls Expression.or = stays _
  rule-falls Expression.coalesce = stays _
  rule-falls Expression.residual = stays _

-- ---- nodes

pub tally-falls : (here there : ℕ → Bool) (s : List ℕ) → More s here there → (levels : ℕ)
    → Under (tally_by there levels s) (tally_by here levels s)
unfolding tally_by plan
tally-falls here there s more zero = record { each = λ j. below-refl (instructions 1) }
tally-falls here there s more (suc levels) =
    let U = tally-falls here there s more levels in
    record {
      each = λ j. below-trans (follow-below s (tally_by there levels s) (tally_by here levels s) U (plan_by there (rule s j) s j) j)
          (rule-falls here there s more (tally_by here levels s) j (rule s j));
    }

-- with all Variables locals, and with none
pub tally-least : (levels : ℕ) (s : List ℕ) → Under (tally_by (λ v. true) levels s) (tally levels s)
tally-least levels s = tally-falls (is_local s) (λ v. true) s (record { each = λ v is h. refl }) levels

pub tally-greatest : (levels : ℕ) (s : List ℕ) → Under (tally levels s) (tally_by (λ v. false) levels s)
tally-greatest levels s = tally-falls (λ v. false) (is_local s) s (record { each = λ v is h. absurd (true≢false (sym h)) }) levels

-- ---- the same Variables are locals

below_both : {a b : Tally} → Below a b → Below b a → a ≡ b
below_both {a} {b} g h =
    let len : a.len ≡ b.len = omega (arith, g.len, h.len) in
    let emitted : a.emitted ≡ b.emitted = omega (arith, g.emitted, h.emitted) in
    λ i. counted (len i) (emitted i) (g.defeated i)

pub tally-same : (here there : ℕ → Bool) (s : List ℕ) → ((v : ℕ) → kind s v ≡ variable_kind → here v ≡ there v) → (levels j : ℕ)
    → tally_by here levels s j ≡ tally_by there levels s j
tally-same here there s same levels j =
    below_both ((tally-falls there here s (record { each = λ v is h. same v is ∙ h }) levels).each j)
    ((tally-falls here there s (record { each = λ v is h. sym (same v is) ∙ h }) levels).each j)
