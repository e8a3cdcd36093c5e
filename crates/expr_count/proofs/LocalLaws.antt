-- Laws of receivers as a count has them: one for each way through the code, and by the definition's locals a call has its own plan.
use Prim.Native.Nat.{ℕ, ◌*◌, ◌<◌, ◌≤◌}
use mathlib.Core.Path.{◌≡◌, refl, ap, ◌∙◌}
use mathlib.Core.Bool.{Bool, true, false, ◌&&◌, not}
use mathlib.Core.Option.{Option, none, some}
use mathlib.Core.List.{List}
use lib.Dec.{eqb, leb}
use lib.ListN.{get_or}
use borrow.Author.Tests.{eq-eqb, ne_eqb, lt-ltb, le-ltb}
use native.Mathlib.Omega.{arith}
use Rattle.sheet.specs.Sections.{node_count}
use Rattle.sheet.specs.Node.{field_a, field_b, field_c, count, child}
use Rattle.sheet.specs.Text.{text}
use Rattle.sheet.specs.Namespace.{role}
use Rattle.lowering.specs.Kinds.{variable_kind, this_kind}
use Rattle.lowering.specs.Slots.{resolve}
use Rattle.lowering.specs.Call as Call
use Rattle.lowering.specs.Call.{variable_first, receiver}
use Rattle.std.specs.Prelude.{Some, None, is_some, unwrap_or}
use Rattle.std.specs.Bool.{then_some}
use Rattle.expr_slots.specs.Found.{found}
use Rattle.expr_rules.specs.declared.calls.First as Firsts
use Rattle.expr_rules.specs.Answers.{first_of, receiver_node}
use Rattle.expr_count.specs.declared.locals.Locals.TheVariants.{Sought, All, Nobody}
use Rattle.expr_count.specs.Locals.{is_local, told_by, answer, variable_by, first_by, receiver_by}
use Rattle.expr_count.specs.Plan.{call_by}

-- ---- the definition's locals

module _ (s : List ℕ) (j : ℕ) where
  variable-same : (v : ℕ) → call_by (variable_by (is_local s) v) s j ≡ call_by (variable_first s v) s j
  unfolding variable_by is_local variable_first call_by
  variable-same v = by (resolve s (text s (field_a s v))) refl
    where
      by : (o : Option ℕ) → resolve s (text s (field_a s v)) ≡ o → call_by (variable_by (is_local s) v) s j ≡ call_by (variable_first s v) s j
      by none e = rw (e, is_local, variable_by, variable_first)
      by (some n) e = rw (e, is_local, variable_by, variable_first)

  first-same : (v : ℕ) → call_by (first_by (is_local s) s v) s j ≡ call_by (Call.first_of s v) s j
  unfolding first_by Call.first_of
  first-same v = by (eqb (role s v) this_kind) (eqb (role s v) variable_kind) refl refl
    where
      by : (l m : Bool) → eqb (role s v) this_kind ≡ l → eqb (role s v) variable_kind ≡ m
          → call_by (first_by (is_local s) s v) s j ≡ call_by (Call.first_of s v) s j
      by true m e f = rw (e, first_by, Call.first_of)
      by false true e f = rw (e, f, first_by, Call.first_of) (variable-same v)
      by false false e f = rw (e, f, first_by, Call.first_of)

  pub call_same : call_by (receiver_by (is_local s) s j) s j ≡ call_by (receiver s j) s j
  unfolding receiver_by receiver
  call_same = by (eqb (field_c s j) 0 && eqb (field_b s j) 0 && leb 1 (count s j)) refl
    where
      by : (l : Bool) → (eqb (field_c s j) 0 && eqb (field_b s j) 0 && leb 1 (count s j)) ≡ l
          → call_by (receiver_by (is_local s) s j) s j ≡ call_by (receiver s j) s j
      by true e = rw (e, receiver_by, receiver) (first-same (child j))
      by false e = rw (e, receiver_by, receiver)

-- ---- in the shapes of the code

-- a search among the locals
pub local_is : (s : List ℕ) (v : ℕ) → is_some (found (resolve s (text s (field_a s v)))) ≡ is_local s v
unfolding is_local found
local_is s v = by (resolve s (text s (field_a s v))) refl
  where
    by : (o : Option ℕ) → resolve s (text s (field_a s v)) ≡ o → is_some (found (resolve s (text s (field_a s v)))) ≡ is_local s v
    by none e = rw (e, is_local)
    by (some n) e = rw (e, is_local)

-- by the words that are told
module _ (x s : List ℕ) (v : ℕ) where
  pub told-each : {m : ℕ} → m ≡ node_count s → v < m → not (eqb (get_or x (2 * v) 0) 0) ≡ told_by x s v
  unfolding told_by
  told-each m-is i = rw (lt-ltb v (node_count s) (omega arith), told_by)

  -- what is no node is looked up
  pub told-outside : {m : ℕ} → m ≡ node_count s → m ≤ v → is_local s v ≡ told_by x s v
  unfolding told_by
  told-outside m-is i = rw (le-ltb v (node_count s) (omega arith), told_by)

module _ (here : ℕ → Bool) (s : List ℕ) (j : ℕ) where
  pub variable-local : here j ≡ true → Firsts.TheVariants.Local 0 ≡ first_of (variable_by here j)
  unfolding variable_by first_of
  variable-local h = rw (h, variable_by)

  pub variable-named : here j ≡ false → Firsts.TheVariants.Named ≡ first_of (variable_by here j)
  unfolding variable_by first_of
  variable-named h = rw (h, variable_by)

  pub first-this : role s j ≡ 10 → Firsts.TheVariants.This ≡ first_of (first_by here s j)
  unfolding first_by first_of
  first-this h = rw (eq-eqb (role s j) 10 h, first_by)

  pub first-variable : role s j ≡ 9 → first_by here s j ≡ variable_by here j
  unfolding first_by
  first-variable h = rw (ne_eqb (role s j) 10 (λ e. omega (arith, e, h)), eq-eqb (role s j) 9 h, first_by)

  pub first-value : (role s j ≡ 10 → ⊥) → (role s j ≡ 9 → ⊥) → Firsts.TheVariants.Value ≡ first_of (first_by here s j)
  unfolding first_by first_of
  first-value h i = rw (ne_eqb (role s j) 10 h, ne_eqb (role s j) 9 i, first_by)

  abbrev asked : Bool
  asked = eqb (field_c s j) 0 && eqb (field_b s j) 0 && leb 1 (count s j)

  receiver-first : asked ≡ true → receiver_by here s j ≡ first_by here s (child j)
  unfolding receiver_by
  receiver-first h = rw (h, receiver_by)

  receiver-none : asked ≡ false → Firsts.TheVariants.Value ≡ first_of (receiver_by here s j)
  unfolding receiver_by first_of
  receiver-none h = rw (h, receiver_by)

  -- a call's receiver as the code is told of it
  pub receiver-some : (v : ℕ) → receiver_node s j ≡ Some v → receiver_by here s j ≡ first_by here s v
  unfolding receiver_node
  receiver-some v = by asked refl
    where
      by : (t : Bool) → asked ≡ t → then_some asked (child j) ≡ Some v → receiver_by here s j ≡ first_by here s v
      by true h = rw h (λ e. receiver-first h ∙ ap (λ o. first_by here s (unwrap_or o (child j))) e)
      by false h = rw h (λ e. cc)

  pub receiver-nothing : receiver_node s j ≡ None → Firsts.TheVariants.Value ≡ first_of (receiver_by here s j)
  unfolding receiver_node
  receiver-nothing = by asked refl
    where
      by : (t : Bool) → asked ≡ t → then_some asked (child j) ≡ None → Firsts.TheVariants.Value ≡ first_of (receiver_by here s j)
      by true h = rw h (λ e. cc)
      by false h = rw h (λ e. receiver-none h)

-- ---- what is told without words

pub sought-answer : (s : List ℕ) → answer Sought s ≡ is_local s
unfolding answer
sought-answer s = refl

pub all-locals : (s : List ℕ) → answer All s ≡ (λ v. true)
unfolding answer
all-locals s = refl

pub no-locals : (s : List ℕ) → answer Nobody s ≡ (λ v. false)
unfolding answer
no-locals s = refl
