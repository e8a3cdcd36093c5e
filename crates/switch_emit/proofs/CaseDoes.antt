-- The constants of the Cases, one after another, and their places. The value of a Case is a constant, by the check of the sheet.
use Rattle.std.proofs.Common.{◌≡◌, ℕ, ◌+◌, ◌<◌, ◌≤◌, min, true, eqb, List, [], ◌∷◌, ◌++◌, length, take, set, sym, refl, ap, ◌∙◌, add-one}
use Rattle.std.proofs.Common.{arith, length-set, take_all, get_or-set_other, take-suc, get_or-set_same, eqb-true}
use native.Mathlib.Decide.{dec_lt}
use borrow.Table.Steps.{cases}
use Rattle.sheet.specs.Limits.{max_entries}
use Rattle.sheet.specs.Node.{kind, count, field_a, field_b, child}
use Rattle.sheet.specs.Walk.{skip}
use Rattle.check_shape.specs.Kinds.{bound, case_value}
use Rattle.check_switches.specs.Switch.{case_count, first_case}
use Rattle.lowering.specs.Kinds.{string_kind}
use Rattle.lowering.specs.Nodes.{Valid}
use Rattle.lowering.proofs.NodesLaws.{cases-row, child-valid, node-bounds}
use Rattle.lowering.specs.Pools.{push_const, const_of, const_at}
use Rattle.lowering.specs.SwitchSheet.{cases_of}
use Rattle.lowering.specs.SwitchTables.{case_pools}
use Rattle.lowering.proofs.SwitchChecked.{child-kind, value-kind}
use Rattle.expr_model.specs.Made.{Made, add_const}
use Rattle.scratch_keys.specs.Used.{ConstKey}
use Rattle.scratch.specs.declared.Layout.{Layout}
use Rattle.scratch_store.specs.declared.State.{State}
use Rattle.scratch_store.specs.Holds.{Holds}
use Rattle.scratch_store.specs.Does.{Fits, Does, Adds}
use Rattle.switch_model.specs.Change.{cases_to}
use Rattle.switch_model.proofs.NodeLaws.{case-kind}
use Rattle.switch_tables.specs.Columns.{size, case_const_at, cell, Within}
use Rattle.switch_tables.proofs.ColumnLaws.{within-then, within-put}
use Rattle.switch_tables.proofs.NodesLaws.{cases-count}
use Rattle.switch_tables.proofs.Accepted.{few_cases}
use Rattle.switch_tables.proofs.Whole.{case_at}
use Rattle.switch_emit.specs.Ready.{Ready}
use Rattle.switch_emit.specs.Consts.{ConstsAt}

-- ---- the value of a Case

one-child : (s : List ℕ) (j : ℕ) → kind s j ≡ 20 → bound (kind s j) 0 ≤ count s j → 1 ≤ count s j
unfolding bound
one-child s j e h = rw e at h

value_low : (k : ℕ) → case_value k ≡ true → k ≤ string_kind
unfolding case_value
value_low k h =
    cases (eqb k 3) (λ e. omega (arith, eqb-true k 3 e))
    (λ e. cases (eqb k 5) (λ f. omega (arith, eqb-true k 5 f)) (λ f. omega (arith, eqb-true k 6 (rw (e, f) at h))))

-- the value v of Case i, which is node j
pub case-key : {s : List ℕ} (i j v : ℕ) → Ready s → i < field_b s 0 → j ≡ skip s i (first_case s) → v ≡ child j → ConstKey s v
unfolding skip first_case
case-key {s} i j v C lt at f =
    let there : Valid s j = rw at ((cases-row s C.right C.switch).each i lt) in
    let k : kind s j ≡ 20 = ap (kind s) at ∙ case-kind s C.right C.numbers C.switch i lt in
    let one = one-child s j k (node-bounds s C.right j there).1 in
    let value = value-kind (kind s j) (field_a s j) (field_b s j) (kind s (child j)) k (child-kind s C.right j there 0 one) in
    rw f (record { below = child-valid s C.right j there one; value = value_low (kind s (child j)) value })

-- ---- one more case

cases_end : (s : List ℕ) (cs : List ℕ) (c : ℕ) (a : Made)
    → cases_to s (cs ++ (c ∷ [])) a ≡ add_const s (const_of s (child c)) (cases_to s cs a)
unfolding cases_to
cases_end s [] c a = refl
cases_end s (d ∷ cs) c a = cases_end s cs c (add_const s (const_of s (child d)) a)

-- the pools of what is made
cases-pools : (s : List ℕ) (cs : List ℕ) (a : Made) → (cases_to s cs a).pools ≡ case_pools s cs a.pools
unfolding cases_to case_pools add_const
cases-pools s [] a = refl
cases-pools s (c ∷ cs) a = cases-pools s cs (add_const s (const_of s (child c)) a)

-- a constant is no instruction
const-fits : (s : List ℕ) (l : Layout) (v : ℕ) (a : Made) → Fits l a → Fits l (add_const s (const_of s v) a)
unfolding add_const push_const
const-fits s l v a h = h

held_fits : {s : List ℕ} {l : Layout} {xs : List ℕ} {st : State} {a : Made} → Holds s l xs st a → Fits l a
held_fits h = let c = h.counts in let e = c.emitted in let w = c.within in omega arith

pub count_is : (s : List ℕ) (n m : ℕ) → n ≡ min m max_entries → m ≡ case_count s → n ≡ min (case_count s) max_entries
count_is s n m e h = e ∙ ap (λ (k : ℕ). min k max_entries) h

pub within_step : {w v u : List ℕ} {i : ℕ} (p : ℕ) → Within case_const_at size w v → i < max_entries → u ≡ set v (case_const_at + i) p
    → Within case_const_at size w u
within_step {w} {v} {u} {i} p W lt e =
    within-then W (rw e (within-put case_const_at size v (case_const_at + i) p (omega arith) (omega arith)))

-- ---- the loop

-- where the constant of Case k stands
abbrev place_of : List ℕ → Made → ℕ → ℕ
place_of s a k = const_at s (const_of s (child (skip s k (first_case s)))) (case_pools s (take k (cases_of s)) a.pools)

-- i Cases are passed; w has their places, if it was long enough
pub record CasesDone (s : List ℕ) (l : Layout) (ws : List ℕ) (st : State) (xs : List ℕ) (q : State) (w : List ℕ) (i : ℕ) : Type 0 where
  pub held : (a : Made) → Holds s l ws st a → Holds s l xs q (cases_to s (take i (cases_of s)) a)
  pub places : (a : Made) → Holds s l ws st a → length w ≡ size → (k : ℕ) → k < i → cell w (case_const_at + k) ≡ place_of s a k

pub cases_begin : {s : List ℕ} {l : Layout} {ws : List ℕ} {st : State} (w : List ℕ) → CasesDone s l ws st ws st w 0
unfolding cases_to
cases_begin w = record { held = λ a h. h; places = λ a h e k l. absurd (omega arith) }

module _ {s : List ℕ} {l : Layout} {ws xs : List ℕ} {st q : State} {w : List ℕ} {i : ℕ} (L : CasesDone s l ws st xs q w i) where
  pub cases_step : {ys : List ℕ} {r : State} {p : ℕ} {u : List ℕ} (n j v : ℕ) → Ready s → n ≡ min (case_count s) max_entries → i < n
      → j ≡ skip s i (first_case s) → v ≡ child j
      → ConstKey s v → Adds s l xs q ys r p (ConstKey s v) (add_const s (const_of s v)) (λ a. const_at s (const_of s v) a.pools)
      → u ≡ set w (case_const_at + i) p → CasesDone s l ws st ys r u (i + 1)
  cases_step {p = p} {u} n j v C n-is lt j-is v-is key A u-is =
      let cs = cases_of s in
      let below : i < case_count s = omega arith in
      let more : take (i + 1) cs ≡ take i cs ++ (j ∷ []) =
      rw (add-one, take-suc cs i 0 (omega (arith, cases-count s)), case_at s i below, j-is) in
      record {
        held = λ a h.
            let z = cases_to s (take i cs) a in
            let g = L.held a h in
            rw (more, cases_end s (take i cs) j a, ← v-is) ((A.does key).holds z g (const-fits s l v z (held_fits g)));
        places = λ a h e k lk.
            let long : length w ≡ size = sym (length-set w (case_const_at + i) p) ∙ rw u-is at e in
            elim (dec_lt k i) [
              | yes b ↦ rw u-is (get_or-set_other w (case_const_at + i) (case_const_at + k) p 0 (λ g. omega arith)) ∙ L.places a h long k b
              | no m ↦
                  let here : k ≡ i = omega arith in
                  let value : v ≡ child (skip s i (first_case s)) = v-is ∙ ap child j-is in
                  rw (u-is, here)
                  (get_or-set_same w (case_const_at + i) p 0 (omega arith)
                  ∙ A.place (cases_to s (take i cs) a) (L.held a h)
                  ∙ rw (cases-pools s (take i cs) a, value))
            ];
      }

  -- all are passed
  module _ (n : ℕ) (C : Ready s) (n-is : n ≡ min (case_count s) max_entries) (done : n ≤ i) where
    all : case_count s ≤ i
    all = omega (arith, few_cases s C.accepted C.switch)

    pub cases-does : Does s l ws st xs q (cases_to s (cases_of s))
    cases-does = record { holds = λ a g f. rw (take_all i (cases_of s) (omega (arith, all, cases-count s))) at (L.held a g) }

    pub cases-places : (a : Made) → length w ≡ size → Holds s l ws st a → ConstsAt s w a
    cases-places a long g = record { each = λ k lk. L.places a g long k (omega (arith, all)) }
