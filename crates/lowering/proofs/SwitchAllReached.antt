-- The program of a switch: every place is reached.
use Prim.Native.Nat.{ℕ, zero, suc, ◌+◌, ◌<◌}
use mathlib.Core.Path.{◌≡◌, refl, sym, ap, ◌∙◌, subst}
use mathlib.Core.List.Memᴰ
use mathlib.Core.List.{List, [], ◌∷◌, ◌++◌, map, Memᴰ}
use mathlib.Core.Logic.{⊎_elim}
use native.Mathlib.Omega.{arith}
use native.Mathlib.Nat.{zero-add}
use native.Mathlib.Numerals.{add-one}
use lib.Dec.{eqb}
use lib.ListN.{length, length-append}
use borrow.Author.Tests.{eqb-true}
use Rattle.laws.proofs.Bool.{or-one}
use Rattle.switch_split.specs.Split as Split
use Rattle.lowering.specs.Code.{Code}
use Rattle.lowering.specs.Out.{Rec}
use Rattle.lowering.specs.SwitchSheet.{block_count, default_block, subject, cases_of, case_blocks, guard_of, body_of}
use Rattle.lowering.specs.Arms.{Arm, distinct, distinct_from}
use Rattle.lowering.specs.Bodies.{Body, body_at, wanted}
use Rattle.lowering.specs.SwitchLaid.{SwitchLaid, layout}
use Rattle.lowering.specs.SwitchCode.{default_at, end_at, fallback_at, arms_code, ranges_code, default_code, switch_code}
use Rattle.lowering.specs.SwitchTables.{entry_of, target}
use Rattle.lowering.specs.Switch.{switch_of, switch}
use Rattle.lowering.specs.All.{All}
use Rattle.lowering.proofs.Effect.{Context}
use Rattle.lowering.proofs.Linked.{Closed, Reached, Linked, reached-append}
use Rattle.lowering.proofs.Meets.{Meets}
use Rattle.lowering.proofs.Whole.{context_of, AllReached}
use Rattle.lowering.proofs.Stands.{closed-part}
use Rattle.lowering.proofs.SwitchPlaces.{arms-length, ranges-length, default-length, ending_code, first_switch, subject-stands}
use Rattle.lowering.proofs.SwitchPlaces.{switch-stands, cases-stand, bodies-stand, ending-stands}
use Rattle.lowering.proofs.SwitchEntries.{Once, blocks_of, distinct-once, distinct-only, entry-own}
use Rattle.lowering.proofs.SwitchParts.{dispatch-stands, range-arms-stand}
use Rattle.lowering.proofs.SwitchTargets.{case_target, range_target, case-targets, range-targets}
use Rattle.lowering.proofs.SwitchNames.{ArmNames, names-append, named-wanted, wanted-named}
use Rattle.lowering.proofs.SwitchBlocks.{Blocks, case-named, range-named}
use Rattle.lowering.proofs.SwitchTyped.{Ready, switch-ready}
use Rattle.lowering.proofs.SwitchReached.{Links, lowered-linked, arms-reached, missing-reached, given-reached}

-- ---- targets of a table

all_left : (P : ℕ → Type 0) (xs ys : List ℕ) → All P (xs ++ ys) → All P xs
all_left P [] ys h = tt
all_left P (x ∷ xs) ys h = (h.0, all_left P xs ys h.1)

all-last : (P : ℕ → Type 0) (xs : List ℕ) (y : ℕ) → All P (xs ++ (y ∷ [])) → P y
all-last P [] y h = h.0
all-last P (x ∷ xs) y h = all-last P xs y h.1

all_of_map : {A : Type 0} (P : ℕ → Type 0) (f : A → ℕ) (xs : List A) → All P (map f xs) → (x : A) → Memᴰ x xs → P (f x)
all_of_map P f [] h x m = absurd (Memᴰ.not-nil m)
all_of_map P f (y ∷ xs) h x m = ⊎_elim (λ e. subst (λ z. P (f z)) (sym e) h.0) (all_of_map P f xs h.1 x) (Memᴰ.cases_cons m)

-- each arm is where a row goes
own-target : {A : Type 0} (R : ℕ → Type 0) (bodies : List Body) (fb : ℕ) (arms : List Arm) (f : A → List ℕ) (rows : List A)
    → blocks_of arms ≡ distinct (map f rows)
    → ((x : A) → Memᴰ x rows → R (target bodies fb (entry_of (f x) arms))) → (a : Arm) → Memᴰ a arms
    → R (target bodies fb a.entry)
own-target R bodies fb arms f rows q h a m =
    let once : Once (blocks_of arms) = subst Once (sym q) (distinct-once (map f rows)) in
    let row = Memᴰ.of_map f rows
    (distinct-only (map f rows) a.blocks (subst (Memᴰ a.blocks) q (Memᴰ.map (λ (x : Arm). x.blocks) m))) in
    subst (λ e. R (target bodies fb e)) (ap (λ (ks : List ℕ). entry_of ks arms) row.2 ∙ entry-own arms once a m) (h row.0 row.1)

-- no lists, no arms
no_names : (P : ℕ → Type 0) (arms : List Arm) → blocks_of arms ≡ [] → ArmNames P arms
no_names P [] q = tt
no_names P (a ∷ arms) q = let z : suc (length (blocks_of arms)) ≡ 0 = ap length q in absurd (omega arith)

-- code behind code that starts at 0
reached-next : (R : ℕ → Type 0) (c c' : Code) (b : ℕ) → length c ≡ b → Reached R 0 c → Reached R b c' → Reached R 0 (c ++ c')
reached-next R c c' b q g h = reached-append R 0 c c' g (subst (λ (n : ℕ). Reached R n c') (sym q ∙ sym (zero-add (length c))) h)

-- ---- the parts of a switch are reached

module _ (s : List ℕ) (rec : Rec) (V' : ℕ → Type 0) (K : Links rec V') (l : SwitchLaid)
    (Y : Ready s rec (default_block s) (context_of (switch_of s (default_block s) l)) l)
    (vs : V' subject)
    (vc : ArmNames (λ (k : ℕ). V' (guard_of s k)) l.case_arms)
    (vr : ArmNames (λ (k : ℕ). V' (guard_of s k)) l.range_arms)
    (vb : (k : ℕ) → k < block_count s → V' (body_of s k))
    (R : ℕ → Type 0)
    (C : Closed (context_of (switch_of s (default_block s) l)) R 0 (switch_code (default_block s) l))
    (r₀ : R 0) where
  abbrev def : ℕ
  def = default_block s

  abbrev in_context : Context
  in_context = context_of (switch_of s def l)

  abbrev hs : List Rattle.bytecode.specs.declared.Chain.Chain
  hs = in_context.chains

  subject-linked : Linked in_context 0 l.subject_code
  subject-linked = lowered-linked s rec hs V' K in_context R subject 0 0 l.subject_code Y.out.subject-lowered vs

  subject-closed : Closed in_context R 0 l.subject_code
  subject-closed = closed-part in_context R (subject-stands def l Y.out.places) C

  at-switch : R (length l.subject_code)
  at-switch = subst R (zero-add (length l.subject_code)) (subject-linked.behind R subject-closed r₀)

  first-targets : All R (map (case_target s def l) (cases_of s) ++ (fallback_at def l.splits l ∷ []))
  first-targets = subst (All R) (case-targets s def l) ((closed-part in_context R (switch-stands def l Y.out.places) C).0 at-switch)

  at-fallback : R (fallback_at def l.splits l)
  at-fallback = all-last R (map (case_target s def l) (cases_of s)) (fallback_at def l.splits l) first-targets

  cases-reached : Reached R (length l.subject_code + 1) (arms_code l.bodies (fallback_at def l.splits l) l.case_arms)
      × ArmNames (λ (k : ℕ). R (body_at k l.bodies)) l.case_arms
  cases-reached =
      arms-reached s rec hs V' K in_context R l.bodies (fallback_at def l.splits l) (length l.subject_code + 1) l.case_arms
      Y.out.case-arms vc
      (closed-part in_context R (cases-stand def l Y.out.places) C)
      (own-target R l.bodies (fallback_at def l.splits l) l.case_arms (case_blocks s) (cases_of s) Y.out.case-lists
      (all_of_map R (case_target s def l) (cases_of s)
      (all_left R (map (case_target s def l) (cases_of s)) (fallback_at def l.splits l ∷ []) first-targets)))

  -- the second Switch and its chains, where there are split ranges; and the default in any case
  ranges-reached : Reached R l.dispatch (ranges_code l.bodies (default_at def l) l.splits l.range_arms) × R (default_at def l)
      × ArmNames (λ (k : ℕ). R (body_at k l.bodies)) l.range_arms
  unfolding ranges_code fallback_at distinct distinct_from
  ranges-reached = by l.splits refl
    where
      by : (es : List Split.Entry) → l.splits ≡ es
          → Reached R l.dispatch (ranges_code l.bodies (default_at def l) es l.range_arms) × R (default_at def l)
          × ArmNames (λ (k : ℕ). R (body_at k l.bodies)) l.range_arms
      by [] q =
          let at : R (fallback_at def [] l) = subst (λ (x : List Split.Entry). R (fallback_at def x l)) q at-fallback in (
            tt,
            at,
            no_names (λ (k : ℕ). R (body_at k l.bodies)) l.range_arms
                (Y.out.range-lists ∙ ap (λ (x : List Split.Entry). distinct (map (λ (e : Split.Entry). e.blocks) x)) q),
          )
      by (e ∷ es) q =
          let at : R l.dispatch = subst (λ (x : List Split.Entry). R (fallback_at def x l)) q at-fallback in
          let c = closed-part in_context R (dispatch-stands s rec hs l Y.out def e es q) C in
          let ts : All R (map (range_target def l) l.splits ++ (default_at def l ∷ [])) =
          subst (All R) (range-targets s def l e es q) (c.0 at) in
          let g =
          arms-reached s rec hs V' K in_context R l.bodies (default_at def l) (l.dispatch + 1) l.range_arms Y.out.range-arms vr
          (closed-part in_context R (range-arms-stand s rec hs l Y.out def e es q) C)
          (own-target R l.bodies (default_at def l) l.range_arms (λ (x : Split.Entry). x.blocks) l.splits Y.out.range-lists
          (all_of_map R (range_target def l) l.splits (all_left R (map (range_target def l) l.splits) (default_at def l ∷ []) ts))) in (
            (at, subst (λ (n : ℕ). Reached R n (arms_code l.bodies (default_at def l) l.range_arms)) (add-one l.dispatch) g.0),
            all-last R (map (range_target def l) l.splits) (default_at def l) ts,
            g.1,
          )

  -- a body is wanted by an arm, or is the default's
  body-met : (x : Body) → Memᴰ x l.bodies → V' (body_of s x.block) × R x.place
  unfolding default_at
  body-met x m =
      let o = Y.out.body_own x m in
      let k = x.block in
      let lt : k < block_count s = let h = o.below in omega arith in (
        vb k lt,
        subst R o.place_is
            (or-one (eqb def (suc k)) (wanted k (l.case_arms ++ l.range_arms)) o.wants
            (λ e. subst (λ (n : ℕ). R (default_at n l)) (eqb-true def (suc k) e) ranges-reached.1)
            (wanted-named (λ (j : ℕ). R (body_at j l.bodies)) k (l.case_arms ++ l.range_arms)
            (names-append (λ (j : ℕ). R (body_at j l.bodies)) l.case_arms l.range_arms cases-reached.1 ranges-reached.2))),
      )

  bodies-reached : Reached R l.bodies_place (default_code def (end_at def l) l.bodies) × R (end_at def l)
  unfolding end_at default_at
  bodies-reached = by def refl
    where
      for : ℕ → Type 0
      for n =
          R (default_at n l) → Closed in_context R l.bodies_place (default_code n (end_at n l) l.bodies)
          → Reached R l.bodies_place (default_code n (end_at n l) l.bodies) × R (end_at n l)

      closed : Closed in_context R l.bodies_place (default_code def (end_at def l) l.bodies)
      closed = closed-part in_context R (bodies-stand def l Y.out.places) C

      by : (n : ℕ) → def ≡ n → Reached R l.bodies_place (default_code def (end_at def l) l.bodies) × R (end_at def l)
      by zero q =
          subst for (sym q)
          (λ r c. missing-reached s rec hs V' K in_context R l.bodies_place (end_at 0 l) l.bodies Y.out.bodies-lowered body-met refl
          r c)
          ranges-reached.1 closed
      by (suc k) q =
          subst for (sym q)
          (λ r c. given-reached s rec hs V' K in_context R k l.bodies_place (end_at (suc k) l) l.bodies (Y.default_body k q)
          Y.out.bodies-lowered body-met refl c)
          ranges-reached.1 closed

  ending-reached : Reached R (end_at def l) ending_code
  ending-reached =
      let c = closed-part in_context R (ending-stands def l Y.out.places) C in
      (bodies-reached.1, ((c.0 bodies-reached.1).0, tt))

  all-reached : Reached R 0 (switch_code def l)
  unfolding switch_code
  all-reached =
      let h = Y.out.places in
      let e = default-length def l in
      let c₁ = l.subject_code in
      let c₃ = arms_code l.bodies (fallback_at def l.splits l) l.case_arms in
      let c₄ = ranges_code l.bodies (default_at def l) l.splits l.range_arms in
      let c₅ = default_code def (end_at def l) l.bodies in
      reached-next R (c₁ ++ first_switch ++ c₃ ++ c₄ ++ c₅) ending_code (end_at def l)
      (simp (length-append, arms-length, ranges-length) (omega arith))
      (reached-next R (c₁ ++ first_switch ++ c₃ ++ c₄) c₅ l.bodies_place (simp (length-append, arms-length, ranges-length) (omega arith))
      (reached-next R (c₁ ++ first_switch ++ c₃) c₄ l.dispatch (simp (length-append, arms-length) (omega arith))
      (reached-next R (c₁ ++ first_switch) c₃ (length c₁ + 1) (simp length-append)
      (reached-next R c₁ first_switch (length c₁) refl (subject-linked.inside R subject-closed r₀) (at-switch, tt))
      cases-reached.0)
      ranges-reached.0)
      bodies-reached.0)
      ending-reached

-- ---- the theorem

pub switch-reached : (s : List ℕ) (rec : Rec) → Meets rec → Blocks s → (V' : ℕ → Type 0) → Links rec V' → V' subject
    → ((k : ℕ) → k < block_count s → V' (guard_of s k)) → ((k : ℕ) → k < block_count s → V' (body_of s k)) → AllReached (switch s rec)
unfolding switch switch_of
switch-reached s rec M B V' K vs vg vb =
    let l = layout s rec in
    let Y = switch-ready s rec M B in
    let hs = (context_of (switch s rec)).chains in
    record {
      reached = λ R C r.
          all-reached s rec V' K l Y vs
          (named-wanted (λ (k : ℕ). k < block_count s) (λ (k : ℕ). V' (guard_of s k)) l.case_arms (case-named s rec hs l Y.out B)
          (λ k h lt. vg k lt))
          (named-wanted (λ (k : ℕ). k < block_count s) (λ (k : ℕ). V' (guard_of s k)) l.range_arms (range-named s rec hs l Y.out B)
          (λ k h lt. vg k lt))
          vb R C r;
    }
