-- The places by tallies are those of the layout and of the code.
use Prim.Native.Nat.{ℕ, zero, suc, ◌+◌}
use mathlib.Core.Path.{◌≡◌, refl, ap, ◌∙◌}
use mathlib.Core.Bool.{Bool, true, false}
use mathlib.Core.List.{List, [], ◌∷◌, ◌++◌, map}
use native.Mathlib.Omega.{arith}
use lib.Dec.{eqb}
use lib.ListN.{length}
use Rattle.lowering.proofs.DropLaws.{target-drop}
use Rattle.text.specs.Same.{same}
use Rattle.switch_split.specs.Split.{split}
use Rattle.switch_split.specs.Split as Split
use Rattle.lowering.specs.Pools.{Pools, no_pools, emits}
use Rattle.lowering.specs.Out.{Rec}
use Rattle.lowering.specs.SwitchSheet.{block_count, default_block, subject, ranges_of}
use Rattle.lowering.specs.Arms.{Try, End, taken, declined, idle, tries_of, entry_from, entry_extent, end_emits, Arm, arms_extent, arm_chains}
use Rattle.lowering.specs.Arms.{distinct, distinct_from, drop_idle_jump}
use Rattle.lowering.specs.Bodies.{Body, body_at}
use Rattle.lowering.specs.SwitchLaid.{SwitchLaid, lay_cases, case_arms_of, lay_ranges, ranges_extent, layout}
use Rattle.lowering.specs.SwitchCode.{default_at, end_at, fallback_at}
use Rattle.lowering.specs.SwitchTables.{entry_of, target}
use Rattle.expr_count.specs.Tally.{instructions, plus}
use Rattle.expr_count.specs.Count as Count
use Rattle.expr_count.proofs.Adds.{Counts}
use Rattle.switch_count.specs.Arms.{has_try}
use Rattle.switch_count.specs.Bodies.{default_tally}
use Rattle.switch_count.specs.Total.{case_lists, split_lists, bodies_of}
use Rattle.switch_count.specs.Place.{cases_place, dispatch_place, bodies_place, body_from, body_place, default_place, end_place}
use Rattle.switch_count.specs.Place.{fallback_place, end_target, list_target, target_from, case_target, range_target}
use Rattle.switch_count.proofs.ArmsAdd.{some, tries-sum, arm-adds, entry_at}
use Rattle.switch_count.proofs.BodiesAdd.{Placed, none, more, bodies-sum, fall-length}
use Rattle.switch_count.proofs.BodiesAdd
use Rattle.switch_count.proofs.TotalLaws.{cases-add, ranges-add, both-want}

-- ---- bodies

placed_at : {s : List ℕ} {t : Count.Rec} {b : ℕ} {ks : List ℕ} {xs : List Body} (k : ℕ) → Placed s t b ks xs
    → body_at k xs ≡ body_from s t k b ks
unfolding body_at body_from
placed_at k none = refl
placed_at {s} {t} k (more {b} {ks} {xs} x e n g) = by (eqb k x.block) refl (placed_at k g)
  where
    by : (y : Bool) → eqb k x.block ≡ y → body_at k xs ≡ body_from s t k (b + length x.code + 1) ks
        → body_at k (x ∷ xs) ≡ body_from s t k b (x.block ∷ ks)
    by true h r = rw (h, body_at, body_from) e
    by false h r = rw (h, body_at, body_from) (r ∙ ap (λ m. body_from s t k (b + m + 1) ks) n)

-- ---- entries

module _ (bodies : List Body) (fallback : ℕ) where
  entries-drop : (l : List ℕ) (as' : List Arm)
      → target bodies fallback (entry_of l (drop_idle_jump as')) ≡ target bodies fallback (entry_of l as')
  unfolding entry_of drop_idle_jump
  entries-drop l [] = refl
  entries-drop l (a ∷ as') = by (eqb (arms_extent as') 0) refl (same l a.blocks) refl (entries-drop l as')
    where
      by : (x : Bool) → eqb (arms_extent as') 0 ≡ x → (y : Bool) → same l a.blocks ≡ y
          → target bodies fallback (entry_of l (drop_idle_jump as')) ≡ target bodies fallback (entry_of l as')
          → target bodies fallback (entry_of l (drop_idle_jump (a ∷ as'))) ≡ target bodies fallback (entry_of l (a ∷ as'))
      by true h true k r = rw (h, drop_idle_jump) (rw (k, entry_of) (target-drop bodies fallback a.entry))
      by true h false k r = rw (h, drop_idle_jump) (rw (k, entry_of) refl)
      by false h true k r = rw (h, drop_idle_jump) (rw (k, entry_of) refl)
      by false h false k r = rw (h, drop_idle_jump) (rw (k, entry_of) r)

  -- an entry, by whether there are tries and by its end
  entry-target : (b : ℕ) (ts : List Try) (e : End)
      → target bodies fallback (entry_from b ts e) ≡ elim (some ts) [ true ↦ b | false ↦ end_target (λ k. body_at k bodies) fallback e ]
  unfolding target entry_from some end_target
  entry-target b [] (taken k) = refl
  entry-target b [] declined = refl
  entry-target b [] idle = refl
  entry-target b (x ∷ xs) e = refl

module _ (s : List ℕ) (rec : Rec) (t : Count.Rec) (C : Counts rec t) where
  module _ (bodies : List Body) (fallback : ℕ) where
    list-target : (m : List ℕ) (b : ℕ) (p : Pools)
        → target bodies fallback (entry_at s rec t C m b p) ≡ list_target s (λ k. body_at k bodies) fallback b m
    unfolding list_target
    list-target m b p =
        let r = tries-sum s rec t C m b p in
        entry-target bodies fallback b (tries_of s rec m b p).tries (tries_of s rec m b p).end
        ∙ ap (λ x. elim x [ true ↦ b | false ↦ end_target (λ k. body_at k bodies) fallback (tries_of s rec m b p).end ]) r.some_is
        ∙ ap (λ e. elim (has_try s m) [ true ↦ b | false ↦ end_target (λ k. body_at k bodies) fallback e ]) r.end_is

    entries-target : (l : List ℕ) (ls : List (List ℕ)) (b : ℕ) (p : Pools)
        → target bodies fallback (entry_of l (arm_chains s rec ls b p).arms) ≡ target_from s t (λ k. body_at k bodies) fallback l b ls
    unfolding entry_of arm_chains target_from target
    entries-target l [] b p = refl
    entries-target l (m ∷ ms) b p =
        let e = entry_at s rec t C m b p in
        let p' = emits (end_emits e) (tries_of s rec m b p).pools in
        by (same l m) refl (entries-target l ms (b + entry_extent e) p')
      where
        by : (x : Bool) → same l m ≡ x
            → target bodies fallback (entry_of l
            (arm_chains s rec ms (b + entry_extent (entry_at s rec t C m b p))
            (emits (end_emits (entry_at s rec t C m b p)) (tries_of s rec m b p).pools)).arms)
            ≡ target_from s t (λ k. body_at k bodies) fallback l (b + entry_extent (entry_at s rec t C m b p)) ms
            → target bodies fallback (entry_of l (arm_chains s rec (m ∷ ms) b p).arms)
            ≡ target_from s t (λ k. body_at k bodies) fallback l b (m ∷ ms)
        by true h r = rw (h, entry_of, target_from) (list-target m b p)
        by false h r =
            rw (h, entry_of, target_from)
            (r ∙ ap (λ n. target_from s t (λ k. body_at k bodies) fallback l (b + n) ms) (arm-adds s rec t C m b p).length-is)

  -- ---- the layout

  abbrev es : List Split.Entry
  es = split (ranges_of s)

  layout-splits : (layout s rec).splits ≡ es
  unfolding layout
  layout-splits = refl

  layout-dispatch : (layout s rec).dispatch ≡ dispatch_place s t es
  unfolding layout lay_cases case_lists dispatch_place cases_place
  layout-dispatch =
      let o = rec subject 0 0 no_pools in
      omega (arith, (C.each subject 0 0 no_pools).length-is, (cases-add s rec t C es (length o.code + 1) (emits 1 o.pools)).length-is)

  layout-bodies-place : (layout s rec).bodies_place ≡ bodies_place s t es
  unfolding layout lay_cases case_lists bodies_place
  layout-bodies-place =
      let o = rec subject 0 0 no_pools in
      let c = lay_cases s rec o in
      omega (arith, layout-dispatch, (ranges-add s rec t C es (layout s rec).dispatch c.pools).length-is)

  -- the bodies, with what the pools were before them
  layout-sum : BodiesAdd.Sums s t (layout s rec).bodies_place
      (lay_ranges s rec es (layout s rec).dispatch (lay_cases s rec (rec subject 0 0 no_pools)).pools).pools
      (bodies_of s es) (record { bodies = (layout s rec).bodies; pools = (layout s rec).pools })
  unfolding layout lay_cases case_lists bodies_of
  layout-sum =
      let o = rec subject 0 0 no_pools in
      let c = lay_cases s rec o in
      let cs = case_arms_of es c.arms in
      let at-ranges = length o.code + 1 + arms_extent cs in
      let r = lay_ranges s rec es at-ranges c.pools in
      bodies-sum s rec t C (cs ++ r.arms) (case_lists s ++ split_lists es)
      (λ k. both-want s rec t C k es (length o.code + 1) at-ranges (emits 1 o.pools) c.pools)
      (default_block s) (block_count s) 0 (at-ranges + ranges_extent es r.arms) r.pools

  layout-bodies : Placed s t (bodies_place s t es) (bodies_of s es) (layout s rec).bodies
  layout-bodies = rw (← layout-bodies-place) layout-sum.placed

  pub layout-body : (k : ℕ) → body_at k (layout s rec).bodies ≡ body_place s t es k
  unfolding body_place
  layout-body k = placed_at k layout-bodies

  pub layout-default : (def : ℕ) → default_at def (layout s rec) ≡ default_place s t es def
  unfolding default_at default_place
  layout-default zero = omega (arith, layout-bodies-place, layout-sum.adds.length-is)
  layout-default (suc k) = layout-body k

  pub layout-end : (def : ℕ) → end_at def (layout s rec) ≡ end_place s t es def
  unfolding end_at end_place default_tally plus instructions
  layout-end zero = omega (arith, layout-bodies-place, layout-sum.adds.length-is)
  layout-end (suc k) = omega (arith, layout-bodies-place, fall-length layout-bodies)

  fallback_is : (def : ℕ) (xs : List Split.Entry) (l : SwitchLaid) → default_at def l ≡ default_place s t xs def
      → l.dispatch ≡ dispatch_place s t xs
      → fallback_at def xs l ≡ fallback_place s t xs def
  unfolding fallback_at fallback_place
  fallback_is def [] l h k = h
  fallback_is def (x ∷ xs) l h k = k

  pub layout-fallback : (def : ℕ) → fallback_at def (layout s rec).splits (layout s rec) ≡ fallback_place s t es def
  layout-fallback def =
      ap (λ x. fallback_at def x (layout s rec)) layout-splits ∙ fallback_is def es (layout s rec) (layout-default def) layout-dispatch

  -- ---- the targets of the tables' rows

  cases-target : (bodies : List Body) (fallback : ℕ) (l : List ℕ) (xs : List Split.Entry) (b : ℕ) (p : Pools)
      → target bodies fallback (entry_of l (case_arms_of xs (arm_chains s rec (case_lists s) b p).arms))
      ≡ target_from s t (λ k. body_at k bodies) fallback l b (case_lists s)
  unfolding case_arms_of
  cases-target bodies fallback l [] b p = entries-target bodies fallback l (case_lists s) b p
  cases-target bodies fallback l (x ∷ xs) b p =
      entries-drop bodies fallback l (arm_chains s rec (case_lists s) b p).arms ∙ entries-target bodies fallback l (case_lists s) b p

  ranges-target : (bodies : List Body) (fallback : ℕ) (l : List ℕ) (xs : List Split.Entry) (b : ℕ) (p : Pools)
      → target bodies fallback (entry_of l (lay_ranges s rec xs b p).arms)
      ≡ target_from s t (λ k. body_at k bodies) fallback l (b + 1) (split_lists xs)
  unfolding lay_ranges split_lists distinct distinct_from entry_of target target_from
  ranges-target bodies fallback l [] b p = refl
  ranges-target bodies fallback l (x ∷ xs) b p =
      entries-target bodies fallback l (distinct (map (λ (e : Split.Entry). e.blocks) (x ∷ xs))) (b + 1) (emits 1 p)

  bodies-are : (λ k. body_at k (layout s rec).bodies) ≡ body_place s t es
  bodies-are = λ i k. layout-body k i

  pub layout-case : (l : List ℕ)
      → target (layout s rec).bodies (fallback_at (default_block s) (layout s rec).splits (layout s rec))
      (entry_of l (layout s rec).case_arms)
      ≡ case_target s t es l
  unfolding layout lay_cases case_lists case_target cases_place
  layout-case l =
      let o = rec subject 0 0 no_pools in
      let fallback = fallback_at (default_block s) (layout s rec).splits (layout s rec) in
      cases-target (layout s rec).bodies fallback l es (length o.code + 1) (emits 1 o.pools)
      ∙ ap (λ f. target_from s t f fallback l (length o.code + 1) (case_lists s)) bodies-are
      ∙ ap (λ n. target_from s t (body_place s t es) n l (length o.code + 1) (case_lists s)) (layout-fallback (default_block s))
      ∙ ap (λ n. target_from s t (body_place s t es) (fallback_place s t es (default_block s)) l (n + 1) (case_lists s))
      (C.each subject 0 0 no_pools).length-is

  pub layout-range : (l : List ℕ)
      → target (layout s rec).bodies (default_at (default_block s) (layout s rec)) (entry_of l (layout s rec).range_arms)
      ≡ range_target s t es l
  unfolding layout lay_cases case_lists range_target
  layout-range l =
      let o = rec subject 0 0 no_pools in
      let default = default_at (default_block s) (layout s rec) in
      let b = (layout s rec).dispatch in
      ranges-target (layout s rec).bodies default l es b (lay_cases s rec o).pools
      ∙ ap (λ f. target_from s t f default l (b + 1) (split_lists es)) bodies-are
      ∙ ap (λ n. target_from s t (body_place s t es) n l (b + 1) (split_lists es)) (layout-default (default_block s))
      ∙ ap (λ n. target_from s t (body_place s t es) (default_place s t es (default_block s)) l (n + 1) (split_lists es)) layout-dispatch
