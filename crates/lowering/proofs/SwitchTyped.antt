-- The program of a switch has the right depths: every place that a jump, a table or a chain's end goes to lies ahead and has the depth
-- that is assumed of it.
use Prim.Native.Nat.{ℕ, zero, suc, ◌+◌, ◌≤◌, ◌<◌}
use mathlib.Core.Path.{◌≡◌, refl, sym, ap, ◌∙◌, subst}
use mathlib.Core.List.{List, [], ◌∷◌, ◌++◌, map, Memᴰ}
use native.Mathlib.Omega.{arith}
use native.Mathlib.Nat.{add-zero, zero-add}
use lib.ListN.{length, length-append}
use Rattle.lowering.proofs.WholeLaws.{depth-end}
use Rattle.bytecode.specs.declared.Op.TheVariants.{Switch}
use Rattle.bytecode.specs.declared.Chain.{Chain}
use Rattle.switch_split.specs.Split as Split
use Rattle.lowering.specs.Code.{Ins, Code, ins, no_pos}
use Rattle.lowering.specs.Pools.{Pools, emits, push_const, const_of}
use Rattle.lowering.specs.Out.{Rec}
use Rattle.lowering.specs.SwitchSheet.{default_block, subject, cases_of, case_blocks, body_of}
use Rattle.lowering.specs.Arms.{Entry, to_body, to_chain, to_fallback, Arm, entry_extent, arms_extent}
use Rattle.lowering.specs.Bodies.{body_at}
use Rattle.lowering.specs.SwitchLaid.{SwitchLaid, layout, ranges_extent}
use Rattle.lowering.specs.SwitchCode.{over_subject, default_at, end_at, fallback_at, entry_code, arms_code, ranges_code, default_code}
use Rattle.lowering.specs.SwitchCode.{switch_code, last_emits}
use Rattle.lowering.specs.SwitchTables.{entry_of, target, case_pools, range_table}
use Rattle.lowering.specs.Switch.{switch_of, switch}
use Rattle.lowering.specs.All.{All}
use Rattle.lowering.proofs.Effect.{Context}
use Rattle.lowering.proofs.Typed.{Outside, Nothing, Goes, Exit, Agree, Starts, Sound, seq, none, one, weaken}
use Rattle.lowering.proofs.Meets.{Meets, Grows, grows-refl}
use Rattle.lowering.proofs.Whole.{targets_of, context_of, depth_at, WellTyped}
use Rattle.lowering.proofs.Stands.{Stands, stands-within, agree-part}
use Rattle.lowering.proofs.SwitchPlaces.{arms-length, ranges-length, default-length, entry_length, first_switch, cases-stand}
use Rattle.lowering.proofs.SwitchPlaces.{ending-stands}
use Rattle.lowering.proofs.Lowered.{EntryAt, ArmsAt}
use Rattle.lowering.proofs.SwitchEntries.{entry-any}
use Rattle.lowering.proofs.SwitchParts.{HasBody, LaidOut, ArmStands, arm-stands-from, layout-out, body-from, body-stands, FallTo}
use Rattle.lowering.proofs.SwitchParts.{dispatch-stands, range-arms-stand, missing-stands}
use Rattle.lowering.proofs.SwitchTargets.{case_target, range_target, case-targets, range-targets}
use Rattle.lowering.proofs.SwitchNames.{EntryNames, ArmNames, names-at}
use Rattle.lowering.proofs.SwitchBlocks.{Blocks, case-names, range-names, default-has}
use Rattle.lowering.proofs.SwitchSound.{Aim, sound-at, lowered-sound, entry-sound, arms-sound, missing-sound, given-sound}
use Rattle.lowering.proofs.SwitchSound.{ending-sound}

-- ---- depths at the places of parts

-- A has the depths of the whole code, which is within N
abbrev pub Within : Code → Outside
Within w A N = Agree A 0 w × (length w ≤ N)

first-depth : (A : ℕ → ℕ) (b d e : ℕ) (c : Code) → 0 < length c → Starts d e c → Agree A b c → A b ≡ d
first-depth A b d e [] n h g = absurd (omega arith)
first-depth A b d e (i ∷ c) n h g = g.0 ∙ h

-- where sound code stands, the depth is the one it starts with
sound-first : {X : Context} {O : Outside} {w c : Code} {b d e : ℕ} (A : ℕ → ℕ) (N : ℕ) → Sound X O b d e c → 0 < length c → Stands w b c
    → Within w A N → Exit b d A N
sound-first {c = c} {b = b} {d = d} {e = e} A N h n g o =
    let le = stands-within g in
    let le' = o.1 in
    (omega arith, first-depth A b d e c n h.starts (agree-part A g o.0))

ins-first : {w c : Code} {b : ℕ} {i : Ins} (A : ℕ → ℕ) (N : ℕ) → Stands w b (i ∷ c) → Within w A N → Exit b i.depth A N
ins-first {i = i} A N g o =
    let le = stands-within g in
    let le' = o.1 in
    (omega arith, (agree-part A g o.0).0)

-- code that adds a value is not empty
some-code : {X : Context} {O : Outside} {b d : ℕ} (c : Code) → Sound X O b d (suc d) c → 0 < length c
some-code [] h = let q = h.starts in absurd (omega arith)
some-code (i ∷ c) h = omega arith

-- ---- all targets of a table

all_map : {A : Type 0} (P : ℕ → Type 0) (f : A → ℕ) (xs : List A) → ((x : A) → Memᴰ x xs → P (f x)) → All P (map f xs)
all_map P f [] h = tt
all_map P f (x ∷ xs) h = (h x (Memᴰ.head refl), all_map P f xs (λ y m. h y (Memᴰ.tail m)))

all_append : (P : ℕ → Type 0) (xs ys : List ℕ) → All P xs → All P ys → All P (xs ++ ys)
all_append P [] ys g h = h
all_append P (x ∷ xs) ys g h = (g.0, all_append P xs ys g.1 h)

-- ---- the chains of the image

case-pools-chains : (s cs : List ℕ) (p : Pools) → (case_pools s cs p).chains ≡ p.chains
unfolding case_pools push_const
case-pools-chains s [] p = refl
case-pools-chains s (c ∷ cs) p = case-pools-chains s cs (push_const s (const_of s (Rattle.sheet.specs.Node.child c)) p)

switch-chains : (s : List ℕ) (def : ℕ) (l : SwitchLaid) → (switch_of s def l).pools.chains ≡ l.pools.chains
unfolding switch_of emits
switch-chains s def l = case-pools-chains s (cases_of s) (emits (last_emits def) l.pools)

-- a switch laid out whose named blocks and default have bodies
pub record Ready (s : List ℕ) (rec : Rec) (def : ℕ) (X : Context) (l : SwitchLaid) : Type 0 where
  pub out : LaidOut s rec X.chains l
  pub case-bodies : ArmNames (λ (k : ℕ). HasBody k l.bodies) l.case_arms
  pub range-bodies : ArmNames (λ (k : ℕ). HasBody k l.bodies) l.range_arms
  pub default_body : (k : ℕ) → def ≡ suc k → HasBody k l.bodies

module _ (s : List ℕ) (rec : Rec) (M : Meets rec) (def : ℕ) (X : Context) (l : SwitchLaid) (Y : Ready s rec def X l) (A : ℕ → ℕ) (N : ℕ)
    (W : Within (switch_code def l) A N) where
  body-aim : (k : ℕ) → HasBody k l.bodies → Aim l.bodies_place 1 (body_at k l.bodies) A N
  body-aim k h =
      let x = h.body in
      let f = body-from s rec X.chains l.bodies_place l.bodies Y.out.bodies-lowered x h.among in
      let g = lowered-sound rec M X {O = Nothing} (body_of s x.block) x.place 1 x.code f.lowered in
      let e = sound-first A N g (some-code x.code g) (body-stands s rec X.chains l Y.out def x h.among).stands W in
      subst (λ (t : ℕ). Aim l.bodies_place 1 t A N) (sym h.place_is) (f.from, e.0, e.1)

  pub default-aim : Aim l.bodies_place 1 (default_at def l) A N
  unfolding default_at
  default-aim = by def refl
    where
      missing : Within (switch_code 0 l) A N → Aim l.bodies_place 1 (default_at 0 l) A N
      missing v = let e = ins-first A N (missing-stands l Y.out.places) v in (omega arith, e.0, e.1)

      by : (n : ℕ) → def ≡ n → Aim l.bodies_place 1 (default_at def l) A N
      by zero q = subst (λ (n : ℕ). Within (switch_code n l) A N → Aim l.bodies_place 1 (default_at n l) A N) (sym q) missing W
      by (suc k) q = subst (λ (n : ℕ). Aim l.bodies_place 1 (default_at n l) A N) (sym q) (body-aim k (Y.default_body k q))

  pub fallback-aim : Aim l.dispatch 1 (fallback_at def l.splits l) A N
  unfolding fallback_at
  fallback-aim = by l.splits refl
    where
      by : (es : List Split.Entry) → l.splits ≡ es → Aim l.dispatch 1 (fallback_at def es l) A N
      by [] q = let a = default-aim in let h = Y.out.places.bodies-are in omega arith
      by (e ∷ es) q = let a = ins-first A N (dispatch-stands s rec X.chains l Y.out def e es q) W in (omega arith, a.0, a.1)

  end-exit : Exit (end_at def l) 2 A N
  end-exit = ins-first A N (ending-stands def l Y.out.places) W

  -- where an arm's entry goes
  entry-aim : (lo fb : ℕ) (a : Arm) (g : ArmStands s rec X.chains (switch_code def l) l.bodies fb a) → lo ≤ g.place
      → lo ≤ l.bodies_place → Aim lo 1 fb A N → EntryNames (λ (k : ℕ). HasBody k l.bodies) a.entry
      → Aim lo 1 (target l.bodies fb a.entry) A N
  unfolding target entry_extent
  entry-aim lo fb a g le le' f n = by a.entry g.at g.stands n
    where
      by : (e : Entry) → EntryAt s rec X.chains g.place a.blocks e
          → Stands (switch_code def l) g.place (entry_code l.bodies fb e) → EntryNames (λ (k : ℕ). HasBody k l.bodies) e
          → Aim lo 1 (target l.bodies fb e) A N
      by (to_body k) h t m = let q = body-aim k m in omega arith
      by (to_chain p ts e) h t m =
          let n' = entry_length l.bodies fb (to_chain p ts e) in
          let x = sound-first A N
          (entry-sound s rec M X l.bodies (g.place + entry_extent (to_chain p ts e)) fb g.place a.blocks (to_chain p ts e) h m
          (omega arith))
          (omega arith) t W in
          subst (λ (u : ℕ). Aim lo 1 u A N) (sym h.place_is) (le, x.0, x.1)
      by to_fallback h t m = f

  arms-aim : (lo fb : ℕ) (arms : List Arm) → ArmsAt s rec X.chains lo arms → FallTo fb lo arms
      → Stands (switch_code def l) lo (arms_code l.bodies fb arms) → ArmNames (λ (k : ℕ). HasBody k l.bodies) arms
      → lo ≤ l.bodies_place → Aim lo 1 fb A N → (ks : List ℕ) → Aim lo 1 (target l.bodies fb (entry_of ks arms)) A N
  unfolding target
  arms-aim lo fb arms at falls stands names le f ks =
      entry-any (λ (e : Entry). Aim lo 1 (target l.bodies fb e) A N) ks arms f
      (λ a m.
      let g = arm-stands-from s rec X.chains (switch_code def l) l.bodies fb lo arms at falls stands a m in
      entry-aim lo fb a g.0 g.1 le f (names-at (λ (k : ℕ). HasBody k l.bodies) arms names a m))

  pub case-aim : (c : ℕ) → Aim (length l.subject_code + 1) 1 (case_target s def l c) A N
  case-aim c =
      let f = fallback-aim in
      let h₁ = Y.out.places.dispatch_is in
      let h₂ = Y.out.places.bodies-are in
      arms-aim (length l.subject_code + 1) (fallback_at def l.splits l) l.case_arms Y.out.case-arms (Y.out.cases-fall def)
      (cases-stand def l Y.out.places) Y.case-bodies (omega arith) (omega arith) (case_blocks s c)

  -- the bodies lie behind the second Switch, where there is one
  behind-dispatch : (e : Split.Entry) (es : List Split.Entry) → l.splits ≡ e ∷ es → l.dispatch + 1 ≤ l.bodies_place
  unfolding ranges_extent
  behind-dispatch e es q =
      let h = Y.out.places.bodies-are in
      let x : ranges_extent l.splits l.range_arms ≡ suc (arms_extent l.range_arms) =
      ap (λ (y : List Split.Entry). ranges_extent y l.range_arms) q in
      omega arith

  pub range-aim : (e : Split.Entry) (es : List Split.Entry) → l.splits ≡ e ∷ es → (x : Split.Entry)
      → Aim (l.dispatch + 1) 1 (range_target def l x) A N
  range-aim e es q x =
      let f = default-aim in
      let h = behind-dispatch e es q in
      arms-aim (l.dispatch + 1) (default_at def l) l.range_arms Y.out.range-arms (Y.out.ranges-fall (default_at def l))
      (range-arms-stand s rec X.chains l Y.out def e es q) Y.range-bodies (omega arith) (omega arith) x.blocks

  -- every target of a table lies ahead
  ahead : (lo t : ℕ) → Aim (lo + 1) 1 t A N → Goes A N lo 1 t
  ahead lo t h = omega arith

  first-table : All (Goes A N (length l.subject_code) 1) (targets_of (switch_of s def l) 0)
  first-table =
      let p = length l.subject_code in
      let f = fallback-aim in
      let h = Y.out.places.dispatch_is in
      subst (All (Goes A N p 1)) (sym (case-targets s def l))
      (all_append (Goes A N p 1) (map (case_target s def l) (cases_of s)) (fallback_at def l.splits l ∷ [])
      (all_map (Goes A N p 1) (case_target s def l) (cases_of s) (λ c m. ahead p _ (case-aim c)))
      (ahead p _ (omega arith), tt))

  second-table : (e : Split.Entry) (es : List Split.Entry) → l.splits ≡ e ∷ es
      → All (Goes A N l.dispatch 1) (targets_of (switch_of s def l) 1)
  second-table e es q =
      let p = l.dispatch in
      let f = default-aim in
      let h = behind-dispatch e es q in
      subst (All (Goes A N p 1)) (sym (range-targets s def l e es q))
      (all_append (Goes A N p 1) (map (range_target def l) l.splits) (default_at def l ∷ [])
      (all_map (Goes A N p 1) (range_target def l) l.splits (λ x m. ahead p _ (range-aim e es q x)))
      (ahead p _ (omega arith), tt))

-- ---- the whole code

module _ (s : List ℕ) (rec : Rec) (M : Meets rec) (def : ℕ) (l : SwitchLaid) (Y : Ready s rec def (context_of (switch_of s def l)) l) where
  abbrev in_context : Context
  in_context = context_of (switch_of s def l)

  abbrev inside : Outside
  inside = Within (switch_code def l)

  first-sound : Sound in_context inside (length l.subject_code) 1 1 first_switch
  unfolding switch_of
  first-sound =
      one (ins (Switch 0) over_subject no_pos) refl (λ A N o a e n. (omega arith, omega arith, first-table s rec M def in_context l Y A N o))

  cases-sound : Sound in_context inside (length l.subject_code + 1) 1 1 (arms_code l.bodies (fallback_at def l.splits l) l.case_arms)
  cases-sound =
      let h₁ = Y.out.places.dispatch_is in
      let h₂ = Y.out.places.bodies-are in
      weaken
      (λ A N o. record {
        to-body = λ k h. let q = body-aim s rec M def in_context l Y A N o k h in omega arith;
        to-fallback = fallback-aim s rec M def in_context l Y A N o;
      })
      (arms-sound s rec M in_context l.bodies l.dispatch (fallback_at def l.splits l) (length l.subject_code + 1) l.case_arms
      Y.out.case-arms Y.case-bodies (omega arith))

  ranges-sound : Sound in_context inside l.dispatch 1 1 (ranges_code l.bodies (default_at def l) l.splits l.range_arms)
  unfolding ranges_code ranges_extent switch_of range_table
  ranges-sound = by l.splits refl
    where
      by : (es : List Split.Entry) → l.splits ≡ es
          → Sound in_context inside l.dispatch 1 1 (ranges_code l.bodies (default_at def l) es l.range_arms)
      by [] q = none
      by (e ∷ es) q =
          let two : length (range_table (default_at def l) l.splits) ≡ 1 =
          ap (λ (x : List Split.Entry). length (range_table (default_at def l) x)) q in
          let h : ranges_extent l.splits l.range_arms ≡ suc (arms_extent l.range_arms) =
          ap (λ (y : List Split.Entry). ranges_extent y l.range_arms) q in
          let h' = Y.out.places.bodies-are in
          seq {c = ins (Switch 1) over_subject no_pos ∷ []}
          (one (ins (Switch 1) over_subject no_pos) refl
          (λ A N o a u n. (omega arith, omega arith, second-table s rec M def in_context l Y A N o e es q)))
          (weaken
          (λ A N o. record {
            to-body = λ k v. body-aim s rec M def in_context l Y A N o k v;
            to-fallback = default-aim s rec M def in_context l Y A N o;
          })
          (arms-sound s rec M in_context l.bodies l.bodies_place (default_at def l) (l.dispatch + 1) l.range_arms Y.out.range-arms
          Y.range-bodies (omega arith)))

  default-sound : Sound in_context inside l.bodies_place 1 2 (default_code def (end_at def l) l.bodies)
  unfolding end_at
  default-sound = weaken (λ A N o. end-exit s rec M def in_context l Y A N o) (by def refl)
    where
      for : ℕ → Type 0
      for n = Sound in_context (Exit (end_at n l) 2) l.bodies_place 1 2 (default_code n (end_at n l) l.bodies)

      by : (n : ℕ) → def ≡ n → Sound in_context (Exit (end_at def l) 2) l.bodies_place 1 2 (default_code def (end_at def l) l.bodies)
      by zero q = subst for (sym q) (missing-sound s rec M in_context (end_at 0 l) l.bodies_place l.bodies Y.out.bodies-lowered refl)
      by (suc k) q =
          subst for (sym q) (given-sound s rec M in_context (end_at (suc k) l) k l.bodies_place l.bodies (Y.default_body k q)
          Y.out.bodies-lowered refl)

  whole-sound : Sound in_context inside 0 0 1 (switch_code def l)
  unfolding switch_code
  whole-sound =
      let e = default-length def l in
      let h = Y.out.places in
      seq
      (seq
      (seq
      (seq
      (seq (lowered-sound rec M in_context subject 0 0 l.subject_code Y.out.subject-lowered) (sound-at (omega arith) first-sound))
      (sound-at (simp length-append (omega arith)) cases-sound))
      (sound-at (simp (length-append, arms-length) (omega arith)) ranges-sound))
      (sound-at (simp (length-append, arms-length, ranges-length) (omega arith)) default-sound))
      (sound-at (simp (length-append, arms-length, ranges-length) (omega arith)) (ending-sound (end_at def l)))

-- ---- the theorem

agree_at : (A : ℕ → ℕ) (b : ℕ) (c : Code) → ((p : ℕ) → p < length c → A (b + p) ≡ depth_at c p) → Agree A b c
agree_at A b [] h = tt
agree_at A b (i ∷ c) h = (
  ap A (sym (add-zero b)) ∙ h 0 (omega arith),
  agree_at A (suc b) c (λ p lt. let e : suc b + p ≡ b + suc p = omega arith in ap A e ∙ h (suc p) (omega arith)),
)

pub depths-agree : (c : Code) → Agree (depth_at c) 0 c
depths-agree c = agree_at (depth_at c) 0 c (λ p lt. ap (depth_at c) (zero-add p))

pub ready-typed : (s : List ℕ) (rec : Rec) (M : Meets rec) (def : ℕ) (l : SwitchLaid) → Ready s rec def (context_of (switch_of s def l)) l
    → WellTyped (switch_of s def l)
unfolding switch_of
ready-typed s rec M def l Y =
    let w = switch_code def l in
    let g = whole-sound s rec M def l Y in
    let e : 0 + length w ≡ length w = omega arith in
    record {
      starts = g.starts;
      typed = g.typed (depth_at w) (length w) (depths-agree w, omega arith) (depths-agree w) (ap (depth_at w) e ∙ depth-end w) (omega arith);
    }

pub switch-ready : (s : List ℕ) (rec : Rec) → Meets rec → Blocks s → Ready s rec (default_block s) (context_of (switch s rec)) (layout s rec)
unfolding switch
switch-ready s rec M B =
    let l = layout s rec in
    let def = default_block s in
    let hs = (switch_of s def l).pools.chains in
    let L = layout-out s rec hs M (subst (λ (x : List Chain). Grows x hs) (switch-chains s def l) (grows-refl hs)) in
    record {
      out = L;
      case-bodies = case-names s rec hs l L B;
      range-bodies = range-names s rec hs l L B;
      default_body = default-has s rec hs l L B;
    }

pub switch-typed : (s : List ℕ) (rec : Rec) → Meets rec → Blocks s → WellTyped (switch s rec)
unfolding switch
switch-typed s rec M B = ready-typed s rec M (default_block s) (layout s rec) (switch-ready s rec M B)
