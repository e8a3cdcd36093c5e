-- Each chain and each body of a switch that is laid out stands in the code that is written.
use Prim.Native.Nat.{ℕ, zero, suc, ◌+◌, ◌≤◌, ◌<◌}
use mathlib.Core.Path.{◌≡◌, refl, sym, ap, ◌∙◌, subst}
use mathlib.Core.Bool.{Bool, true, false, ◌||◌, true≢false}
use mathlib.Core.Logic.{◌⊎◌, inl, inr, ⊎_elim}
use mathlib.Core.List.Memᴰ
use mathlib.Core.List.{List, [], ◌∷◌, ◌++◌, map, Memᴰ}
use native.Mathlib.Omega.{arith}
use native.Mathlib.Numerals.{add-one}
use lib.Dec.{eqb}
use lib.ListN.{length}
use borrow.Author.Tests.{eqb-true, eqb-false, eq-eqb, ne_eqb}
use Rattle.bytecode.specs.declared.Op.TheVariants.{Unit, Jump, Switch}
use Rattle.bytecode.specs.declared.Chain.{Chain}
use Rattle.switch_split.specs.Split as Split
use Rattle.switch_split.specs.Split.{split}
use Rattle.lowering.specs.Code.{Code, ins, no_pos}
use Rattle.lowering.specs.Pools.{Pools, no_pools, emits}
use Rattle.lowering.specs.Out.{Rec}
use Rattle.lowering.specs.SwitchSheet.{block_count, default_block, subject, guard_of, body_of, cases_of, case_blocks, ranges_of}
use Rattle.lowering.specs.Arms.{Try, End, taken, declined, idle, Entry, to_body, to_chain, to_fallback, Guard, never, always, tried}
use Rattle.lowering.specs.Arms.{guard_kind, try_at, tries_of, entry_from, tries_extent, end_extent, entry_extent, Arm, arms_extent, arm_chains}
use Rattle.lowering.specs.Arms.{distinct_from, distinct, drop_end, drop_entry, drop_idle_jump}
use Rattle.lowering.specs.Bodies.{Body, wanted, lay_bodies, body_at, fall_extent}
use Rattle.lowering.specs.SwitchLaid.{SwitchLaid, layout, lay_cases, case_arms_of, lay_ranges}
use Rattle.lowering.specs.SwitchCode.{over_subject, over_value, default_at, end_at, fallback_at, entry_code, arms_code, ranges_code}
use Rattle.lowering.specs.SwitchCode.{bodies_code, bodies_fall, default_code, switch_code}
use Rattle.lowering.proofs.Meets.{Grows, grows-refl, grows-trans, Meets}
use Rattle.lowering.proofs.Stands.{Stands, stands_at, stands-left, stands-right, stands-next, stands-first, stands-rest}
use Rattle.lowering.proofs.SwitchPlaces.{entry_length, bodies-length, Laid, layout-laid, ranges-stand, bodies-stand}
use Rattle.lowering.proofs.Lowered.{Lowered, tries-never, tries-always, tries-tried, EntryAt, ArmsAt, BodiesAt, bodies-lay}
use Rattle.lowering.proofs.Lowered.{bodies-skip, drop_here, drop-later, arms-grow, bodies-grow, arms_at, bodies-at, drop_at}
use Rattle.lowering.proofs.SwitchEntries.{blocks_of}

-- ---- the lists of the arms

arms-blocks : (s : List ℕ) (rec : Rec) (ls : List (List ℕ)) (b : ℕ) (p : Pools) → blocks_of (arm_chains s rec ls b p).arms ≡ ls
unfolding arm_chains
arms-blocks s rec [] b p = refl
arms-blocks s rec (l ∷ ls) b p = ap (λ (x : List (List ℕ)). l ∷ x) (arms-blocks s rec ls _ _)

drop-blocks : (arms : List Arm) → blocks_of (drop_idle_jump arms) ≡ blocks_of arms
unfolding drop_idle_jump
drop-blocks [] = refl
drop-blocks (a ∷ arms) = by (eqb (arms_extent arms) 0) refl (drop-blocks arms)
  where
    by : (t : Bool) → eqb (arms_extent arms) 0 ≡ t → blocks_of (drop_idle_jump arms) ≡ blocks_of arms
        → blocks_of (drop_idle_jump (a ∷ arms)) ≡ blocks_of (a ∷ arms)
    by true q r = rw (drop_here a arms q)
    by false q r = rw (drop-later a arms q) (ap (λ (x : List (List ℕ)). a.blocks ∷ x) r)

-- ---- a chain that ends without a jump ends at the fallback

-- with its chain from place b on, if it has one
abbrev pub FallsTo : ℕ → ℕ → Entry → Type 0
FallsTo fb b (to_body k) = Prim.Unit {0}
FallsTo fb b (to_chain p ts (taken k)) = Prim.Unit {0}
FallsTo fb b (to_chain p ts declined) = Prim.Unit {0}
FallsTo fb b (to_chain p ts idle) = b + tries_extent ts ≡ fb
FallsTo fb b to_fallback = Prim.Unit {0}

abbrev pub FallTo : ℕ → ℕ → List Arm → Type 0
FallTo fb b [] = Prim.Unit {0}
FallTo fb b (a ∷ arms) = FallsTo fb b a.entry × FallTo fb (b + entry_extent a.entry) arms

-- at first every chain ends with a jump
abbrev Jumps : End → Type 0
Jumps (taken k) = Prim.Unit {0}
Jumps declined = Prim.Unit {0}
Jumps idle = ⊥

abbrev EntryJumps : Entry → Type 0
EntryJumps (to_body k) = Prim.Unit {0}
EntryJumps (to_chain p ts e) = Jumps e
EntryJumps to_fallback = Prim.Unit {0}

abbrev AllJump : List Arm → Type 0
AllJump [] = Prim.Unit {0}
AllJump (a ∷ arms) = EntryJumps a.entry × AllJump arms

tries-jump : (s : List ℕ) (rec : Rec) (ks : List ℕ) (b : ℕ) (p : Pools) → Jumps (tries_of s rec ks b p).end
unfolding tries_of try_at
tries-jump s rec [] b p = tt
tries-jump s rec (k ∷ ks) b p = by (guard_kind s (guard_of s k)) refl (tries-jump s rec ks)
  where
    by : (g : Guard) → guard_kind s (guard_of s k) ≡ g → ((b' : ℕ) (p' : Pools) → Jumps (tries_of s rec ks b' p').end)
        → Jumps (tries_of s rec (k ∷ ks) b p).end
    by never h f = rw (tries-never s rec k ks b p h) (f b p)
    by always h f = rw (tries-always s rec k ks b p h) tt
    by tried h f = rw (tries-tried s rec k ks b p h) (f _ _)

entry-jumps : (b : ℕ) (ts : List Try) (e : End) → Jumps e → EntryJumps (entry_from b ts e)
unfolding entry_from
entry-jumps b [] (taken k) h = tt
entry-jumps b [] declined h = tt
entry-jumps b [] idle h = tt
entry-jumps b (t ∷ ts) e h = h

arms-jump : (s : List ℕ) (rec : Rec) (ls : List (List ℕ)) (b : ℕ) (p : Pools) → AllJump (arm_chains s rec ls b p).arms
unfolding arm_chains
arms-jump s rec [] b p = tt
arms-jump s rec (l ∷ ls) b p =
    let t = tries_of s rec l b p in
    (entry-jumps b t.tries t.end (tries-jump s rec l b p), arms-jump s rec ls _ _)

entry-falls : (fb b : ℕ) (e : Entry) → EntryJumps e → FallsTo fb b e
entry-falls fb b (to_body k) h = tt
entry-falls fb b (to_chain p ts (taken k)) h = tt
entry-falls fb b (to_chain p ts declined) h = tt
entry-falls fb b (to_chain p ts idle) h = absurd h
entry-falls fb b to_fallback h = tt

arms-fall : (fb b : ℕ) (arms : List Arm) → AllJump arms → FallTo fb b arms
arms-fall fb b [] h = tt
arms-fall fb b (a ∷ arms) h = (entry-falls fb b a.entry h.0, arms-fall fb (b + entry_extent a.entry) arms h.1)

drop-entry-falls : (fb b : ℕ) (e : Entry) → b + entry_extent (drop_entry e) ≡ fb → FallsTo fb b (drop_entry e)
unfolding drop_entry drop_end entry_extent end_extent
drop-entry-falls fb b (to_body k) q = tt
drop-entry-falls fb b (to_chain p ts (taken k)) q = tt
drop-entry-falls fb b (to_chain p ts declined) q = omega arith
drop-entry-falls fb b (to_chain p ts idle) q = omega arith
drop-entry-falls fb b to_fallback q = tt

-- the jump is dropped where the fallback follows
drop-fall : (fb b : ℕ) (arms : List Arm) → AllJump arms → b + arms_extent (drop_idle_jump arms) ≡ fb → FallTo fb b (drop_idle_jump arms)
unfolding drop_idle_jump arms_extent
drop-fall fb b [] h q = tt
drop-fall fb b (a ∷ arms) h q = by (eqb (arms_extent arms) 0) refl (drop-fall fb (b + entry_extent a.entry) arms h.1) q
  where
    by : (t : Bool) → eqb (arms_extent arms) 0 ≡ t
        → (b + entry_extent a.entry + arms_extent (drop_idle_jump arms) ≡ fb → FallTo fb (b + entry_extent a.entry) (drop_idle_jump arms))
        → b + arms_extent (drop_idle_jump (a ∷ arms)) ≡ fb → FallTo fb b (drop_idle_jump (a ∷ arms))
    by true z f =
        rw (drop_here a arms z)
        (λ q'. let z' = eqb-true (arms_extent arms) 0 z in (drop-entry-falls fb b a.entry (omega arith), arms-fall fb (b + entry_extent (drop_entry a.entry)) arms h.1))
    by false z f = rw (drop-later a arms z) (λ q'. (entry-falls fb b a.entry h.0, f (omega arith)))

-- ---- each arm stands

module _ (s : List ℕ) (rec : Rec) (hs : List Chain) (w : Code) (bodies : List Body) (fb : ℕ) where
  pub record ArmStands (a : Arm) : Type 0 where
    pub place : ℕ
    pub at : EntryAt s rec hs place a.blocks a.entry
    pub falls : FallsTo fb place a.entry
    pub stands : Stands w place (entry_code bodies fb a.entry)

  -- an arm stands, at place b or behind it
  pub arm-stands-from : (b : ℕ) (arms : List Arm) → ArmsAt s rec hs b arms → FallTo fb b arms → Stands w b (arms_code bodies fb arms)
      → (a : Arm) → Memᴰ a arms → (g : ArmStands a) × (b ≤ g.place)
  unfolding arms_code
  arm-stands-from b [] h f g a m = absurd (Memᴰ.not-nil m)
  arm-stands-from b (x ∷ arms) h f g a m = by (Memᴰ.cases_cons m) (arm-stands-from (b + entry_extent x.entry) arms h.1 f.1)
    where
      first : Stands w b (entry_code bodies fb x.entry)
      first = stands-left _ (arms_code bodies fb arms) g

      rest : Stands w (b + entry_extent x.entry) (arms_code bodies fb arms)
      rest = stands_at (ap (λ (n : ℕ). b + n) (entry_length bodies fb x.entry)) (stands-next first g)

      by : (a ≡ x) ⊎ Memᴰ a arms
          → (Stands w (b + entry_extent x.entry) (arms_code bodies fb arms) → (a' : Arm) → Memᴰ a' arms
          → (r : ArmStands a') × (b + entry_extent x.entry ≤ r.place))
          → (r : ArmStands a) × (b ≤ r.place)
      by (inl e) k =
          subst (λ (a' : Arm). (r : ArmStands a') × (b ≤ r.place)) (sym e)
          (record { place = b; at = h.0; falls = f.0; stands = first }, omega arith)
      by (inr n) k = let r = k rest a n in (r.0, let le = r.1 in omega arith)

-- ---- each body stands

-- the body of block k
pub record HasBody (k : ℕ) (xs : List Body) : Type 0 where
  pub body : Body
  pub among : Memᴰ body xs
  pub block-is : body.block ≡ k
  pub place_is : body_at k xs ≡ body.place

body-here : (k : ℕ) (x : Body) (xs : List Body) → eqb k x.block ≡ true → body_at k (x ∷ xs) ≡ x.place
unfolding body_at
body-here k x xs h = rw (h, body_at)

body-later : (k : ℕ) (x : Body) (xs : List Body) → eqb k x.block ≡ false → body_at k (x ∷ xs) ≡ body_at k xs
unfolding body_at
body-later k x xs h = rw (h, body_at)

here-has : (k : ℕ) (x : Body) (xs : List Body) → x.block ≡ k → HasBody k (x ∷ xs)
here-has k x xs h =
    record { body = x; among = Memᴰ.head refl; block-is = h; place_is = body-here k x xs (eq-eqb k x.block (sym h)) }

later-has : (k : ℕ) (x : Body) (xs : List Body) → HasBody k xs → HasBody k (x ∷ xs)
later-has k x xs h = by (eqb k x.block) refl
  where
    by : (t : Bool) → eqb k x.block ≡ t → HasBody k (x ∷ xs)
    by true q = here-has k x xs (sym (eqb-true k x.block q))
    by false q =
        record { body = h.body; among = Memᴰ.tail h.among; block-is = h.block-is; place_is = body-later k x xs q ∙ h.place_is }

-- something can reach block k
abbrev pub Wanted : ℕ → List Arm → ℕ → Type 0
Wanted def arms k = (eqb def (suc k) || wanted k arms) ≡ true

-- a body of n blocks from k on is that of its block, and the block is wanted
pub record Own (def : ℕ) (arms : List Arm) (n k : ℕ) (xs : List Body) (x : Body) : Type 0 where
  pub from : k ≤ x.block
  pub below : x.block < k + n
  pub wants : Wanted def arms x.block
  pub place_is : body_at x.block xs ≡ x.place

module _ (s : List ℕ) (rec : Rec) (arms : List Arm) (def : ℕ) where
  -- a wanted block has a body
  lay-has : (n k b : ℕ) (p : Pools) (j : ℕ) → k ≤ j → j < k + n → Wanted def arms j
      → HasBody j (lay_bodies s rec arms def n k b p).bodies
  unfolding lay_bodies
  lay-has zero k b p j h h' v = absurd (omega arith)
  lay-has (suc n) k b p j h h' v =
      by (eqb def (suc k) || wanted k arms) refl (λ b' p' le. lay-has n (suc k) b' p' j le (omega arith) v) (eqb k j) refl
    where
      by : (t : Bool) → (eqb def (suc k) || wanted k arms) ≡ t
          → ((b' : ℕ) (p' : Pools) → suc k ≤ j → HasBody j (lay_bodies s rec arms def n (suc k) b' p').bodies)
          → (c : Bool) → eqb k j ≡ c → HasBody j (lay_bodies s rec arms def (suc n) k b p).bodies
      by true q f true e = rw (bodies-lay s rec arms def n k b p q) (here-has j _ _ (eqb-true k j e))
      by true q f false e = rw (bodies-lay s rec arms def n k b p q) (later-has j _ _ (f _ _ (let ne = eqb-false k j e in omega arith)))
      by false q f true e = absurd (true≢false (sym v ∙ ap (λ (i : ℕ). eqb def (suc i) || wanted i arms) (sym (eqb-true k j e)) ∙ q))
      by false q f false e = rw (bodies-skip s rec arms def n k b p q) (f _ _ (let ne = eqb-false k j e in omega arith))

  own-here : (n k : ℕ) (y : Body) (xs : List Body) → y.block ≡ k → Wanted def arms k → Own def arms (suc n) k (y ∷ xs) y
  own-here n k y xs h v = record {
    from = omega arith;
    below = omega arith;
    wants = subst (Wanted def arms) (sym h) v;
    place_is = body-here y.block y xs (eq-eqb y.block y.block refl);
  }

  own-later : (n k : ℕ) (y : Body) (xs : List Body) (x : Body) → y.block ≡ k → Own def arms n (suc k) xs x
      → Own def arms (suc n) k (y ∷ xs) x
  own-later n k y xs x h o = record {
    from = omega arith;
    below = omega arith;
    wants = o.wants;
    place_is = body-later x.block y xs (ne_eqb x.block y.block (λ e. let le = o.from in omega arith)) ∙ o.place_is;
  }

  lay-own : (n k b : ℕ) (p : Pools) (x : Body) → Memᴰ x (lay_bodies s rec arms def n k b p).bodies
      → Own def arms n k (lay_bodies s rec arms def n k b p).bodies x
  unfolding lay_bodies
  lay-own zero k b p x m = absurd (Memᴰ.not-nil m)
  lay-own (suc n) k b p x m = by (eqb def (suc k) || wanted k arms) refl (λ b' p'. lay-own n (suc k) b' p' x) m
    where
      by : (t : Bool) → (eqb def (suc k) || wanted k arms) ≡ t
          → ((b' : ℕ) (p' : Pools) → Memᴰ x (lay_bodies s rec arms def n (suc k) b' p').bodies
          → Own def arms n (suc k) (lay_bodies s rec arms def n (suc k) b' p').bodies x)
          → Memᴰ x (lay_bodies s rec arms def (suc n) k b p).bodies
          → Own def arms (suc n) k (lay_bodies s rec arms def (suc n) k b p).bodies x
      by true q f = rw (bodies-lay s rec arms def n k b p q)
          (λ m'. ⊎_elim (λ e. subst (Own def arms (suc n) k _) (sym e) (own-here n k _ _ refl q))
          (λ m''. own-later n k _ _ x refl (f _ _ m'')) (Memᴰ.cases_cons m'))
      by false q f = rw (bodies-skip s rec arms def n k b p q)
          (λ m'. let o = f _ _ m' in record { from = omega arith; below = omega arith; wants = o.wants; place_is = o.place_is })

-- a body is lowered at its place, which is b or behind it
pub record BodyFrom (s : List ℕ) (rec : Rec) (hs : List Chain) (b : ℕ) (x : Body) : Type 0 where
  pub from : b ≤ x.place
  pub lowered : Lowered rec hs (body_of s x.block) x.place 1 x.code

pub body-from : (s : List ℕ) (rec : Rec) (hs : List Chain) (b : ℕ) (xs : List Body) → BodiesAt s rec hs b xs → (x : Body) → Memᴰ x xs
    → BodyFrom s rec hs b x
body-from s rec hs b [] h x m = absurd (Memᴰ.not-nil m)
body-from s rec hs b (y ∷ xs) h x m = by (Memᴰ.cases_cons m) (body-from s rec hs (b + length y.code + 1) xs h.1 x)
  where
    first : BodyFrom s rec hs b y
    first =
        let q = h.0.place_is in
        record {
          from = omega arith;
          lowered = subst (λ (n : ℕ). Lowered rec hs (body_of s y.block) n 1 y.code) (sym q) h.0.lowered;
        }

    by : (x ≡ y) ⊎ Memᴰ x xs → (Memᴰ x xs → BodyFrom s rec hs (b + length y.code + 1) x) → BodyFrom s rec hs b x
    by (inl e) k = subst (BodyFrom s rec hs b) (sym e) first
    by (inr n) k = let r = k n in record { from = omega arith; lowered = r.lowered }

-- a body stands in the code, and the end of the switch follows it or a jump to it
pub record BodyStands (w : Code) (end : ℕ) (x : Body) : Type 0 where
  pub stands : Stands w x.place x.code
  pub leaves : (x.place + length x.code ≡ end) ⊎ Stands w (x.place + length x.code) (ins (Jump end) over_value no_pos ∷ [])

module _ (s : List ℕ) (rec : Rec) (hs : List Chain) (w : Code) (end : ℕ) where
  jumping-stands : (b : ℕ) (x : Body) (c : Code) → x.place ≡ b → Stands w b (x.code ++ (ins (Jump end) over_value no_pos ∷ c))
      → BodyStands w end x
  jumping-stands b x c h g =
      let first = stands-left x.code (ins (Jump end) over_value no_pos ∷ c) g in
      record {
        stands = stands_at (sym h) first;
        leaves = inr (stands_at (ap (λ (n : ℕ). n + length x.code) (sym h)) (stands-first (stands-next first g)));
      }

  behind-stands : (b : ℕ) (x : Body) (c : Code) → Stands w b (x.code ++ (ins (Jump end) over_value no_pos ∷ c))
      → Stands w (b + length x.code + 1) c
  behind-stands b x c g =
      let r = stands-rest (stands-right x.code (ins (Jump end) over_value no_pos ∷ c) g) in
      stands_at (omega arith) r

  bodies-stand-each : (b : ℕ) (xs : List Body) → BodiesAt s rec hs b xs → Stands w b (bodies_code end xs) → (x : Body) → Memᴰ x xs
      → BodyStands w end x
  unfolding bodies_code
  bodies-stand-each b [] h g x m = absurd (Memᴰ.not-nil m)
  bodies-stand-each b (y ∷ xs) h g x m =
      ⊎_elim (λ e. subst (BodyStands w end) (sym e) (jumping-stands b y (bodies_code end xs) h.0.place_is g))
      (λ n. bodies-stand-each (b + length y.code + 1) xs h.1 (behind-stands b y (bodies_code end xs) g) x n)
      (Memᴰ.cases_cons m)

  fall-stand-each : (b : ℕ) (xs : List Body) → BodiesAt s rec hs b xs → b + fall_extent xs ≡ end → Stands w b (bodies_fall end xs)
      → (x : Body) → Memᴰ x xs → BodyStands w end x
  unfolding bodies_fall fall_extent
  fall-stand-each b [] h q g x m = absurd (Memᴰ.not-nil m)
  fall-stand-each b (y ∷ []) h q g x m =
      ⊎_elim (λ e. subst (BodyStands w end) (sym e)
      (record { stands = stands_at (sym h.0.place_is) g; leaves = inl (ap (λ (n : ℕ). n + length y.code) h.0.place_is ∙ q) }))
      (λ n. absurd (Memᴰ.not-nil n))
      (Memᴰ.cases_cons m)
  fall-stand-each b (y ∷ z ∷ xs) h q g x m =
      ⊎_elim (λ e. subst (BodyStands w end) (sym e) (jumping-stands b y (bodies_fall end (z ∷ xs)) h.0.place_is g))
      (λ n. fall-stand-each (b + length y.code + 1) (z ∷ xs) h.1 (omega arith) (behind-stands b y (bodies_fall end (z ∷ xs)) g) x n)
      (Memᴰ.cases_cons m)

-- ---- a whole switch laid out

-- hs are all chains at the end
pub record LaidOut (s : List ℕ) (rec : Rec) (hs : List Chain) (l : SwitchLaid) : Type 0 where
  pub places : Laid l
  pub subject-lowered : Lowered rec hs subject 0 0 l.subject_code
  pub splits-are : l.splits ≡ split (ranges_of s)
  -- chains of the cases
  pub case-arms : ArmsAt s rec hs (length l.subject_code + 1) l.case_arms
  pub case-lists : blocks_of l.case_arms ≡ distinct (map (case_blocks s) (cases_of s))
  pub cases-fall : (def : ℕ) → FallTo (fallback_at def l.splits l) (length l.subject_code + 1) l.case_arms
  -- chains of the ranges
  pub range-arms : ArmsAt s rec hs (l.dispatch + 1) l.range_arms
  pub range-lists : blocks_of l.range_arms ≡ distinct (map (λ (e : Split.Entry). e.blocks) l.splits)
  pub ranges-fall : (fb : ℕ) → FallTo fb (l.dispatch + 1) l.range_arms
  -- bodies
  pub bodies-lowered : BodiesAt s rec hs l.bodies_place l.bodies
  pub body_has : (k : ℕ) → k < block_count s → Wanted (default_block s) (l.case_arms ++ l.range_arms) k → HasBody k l.bodies
  pub body_own : (x : Body) → Memᴰ x l.bodies → Own (default_block s) (l.case_arms ++ l.range_arms) (block_count s) 0 l.bodies x

module _ (s : List ℕ) (rec : Rec) (hs : List Chain) where
  case-arms-blocks : (es : List Split.Entry) (arms : List Arm) → blocks_of (case_arms_of es arms) ≡ blocks_of arms
  unfolding case_arms_of
  case-arms-blocks [] arms = refl
  case-arms-blocks (e ∷ es) arms = drop-blocks arms

  case-arms-at : (es : List Split.Entry) (b : ℕ) (arms : List Arm) → ArmsAt s rec hs b arms → ArmsAt s rec hs b (case_arms_of es arms)
  unfolding case_arms_of
  case-arms-at [] b arms h = h
  case-arms-at (e ∷ es) b arms h = drop_at s rec hs b arms h

  case-arms-fall : (def : ℕ) (es : List Split.Entry) (l : SwitchLaid) (b : ℕ) (arms : List Arm) → AllJump arms
      → b + arms_extent (case_arms_of es arms) ≡ l.dispatch → FallTo (fallback_at def es l) b (case_arms_of es arms)
  unfolding case_arms_of fallback_at
  case-arms-fall def [] l b arms h q = arms-fall (default_at def l) b arms h
  case-arms-fall def (e ∷ es) l b arms h q = drop-fall l.dispatch b arms h q

  ranges-grow : Meets rec → (es : List Split.Entry) (b : ℕ) (p : Pools) → Grows p.chains (lay_ranges s rec es b p).pools.chains
  unfolding lay_ranges emits
  ranges-grow M [] b p = grows-refl p.chains
  ranges-grow M (e ∷ es) b p = arms-grow s rec M _ (b + 1) (emits 1 p)

  range-arms-at : Meets rec → (es : List Split.Entry) (b : ℕ) (p : Pools) → Grows (lay_ranges s rec es b p).pools.chains hs
      → ArmsAt s rec hs (b + 1) (lay_ranges s rec es b p).arms
  unfolding lay_ranges
  range-arms-at M [] b p g = tt
  range-arms-at M (e ∷ es) b p g = arms_at s rec hs M _ (b + 1) (emits 1 p) g

  range-arms-blocks : (es : List Split.Entry) (b : ℕ) (p : Pools)
      → blocks_of (lay_ranges s rec es b p).arms ≡ distinct (map (λ (e : Split.Entry). e.blocks) es)
  unfolding lay_ranges distinct distinct_from
  range-arms-blocks [] b p = refl
  range-arms-blocks (e ∷ es) b p = arms-blocks s rec _ (b + 1) (emits 1 p)

  range-arms-fall : (fb : ℕ) (es : List Split.Entry) (b : ℕ) (p : Pools) → FallTo fb (b + 1) (lay_ranges s rec es b p).arms
  unfolding lay_ranges
  range-arms-fall fb [] b p = tt
  range-arms-fall fb (e ∷ es) b p =
      arms-fall fb (b + 1) (lay_ranges s rec (e ∷ es) b p).arms
      (arms-jump s rec (distinct (map (λ (x : Split.Entry). x.blocks) (e ∷ es))) (b + 1) (emits 1 p))

  pub layout-out : Meets rec → Grows (layout s rec).pools.chains hs → LaidOut s rec hs (layout s rec)
  unfolding layout lay_cases emits no_pools
  layout-out M g =
      let o = rec subject 0 0 no_pools in
      let c = lay_cases s rec o in
      let es = split (ranges_of s) in
      let cs = case_arms_of es c.arms in
      let at-ranges = length o.code + 1 + arms_extent cs in
      let r = lay_ranges s rec es at-ranges c.pools in
      let at-bodies = (layout s rec).bodies_place in
      let g₁ : Grows r.pools.chains hs =
      grows-trans (bodies-grow s rec M (cs ++ r.arms) (default_block s) (block_count s) 0 at-bodies r.pools) g in
      let g₂ : Grows c.pools.chains hs = grows-trans (ranges-grow M es at-ranges c.pools) g₁ in
      let g₃ : Grows o.pools.chains hs = grows-trans (arms-grow s rec M _ (length o.code + 1) (emits 1 o.pools)) g₂ in
      record {
        places = layout-laid s rec;
        subject-lowered = record { pools = no_pools; code_is = refl; grown = g₃ };
        splits-are = refl;
        case-arms = case-arms-at es _ _ (arms_at s rec hs M _ (length o.code + 1) (emits 1 o.pools) g₂);
        case-lists = case-arms-blocks es c.arms ∙ arms-blocks s rec _ (length o.code + 1) (emits 1 o.pools);
        cases-fall =
            λ def. case-arms-fall def es (layout s rec) _ c.arms (arms-jump s rec _ (length o.code + 1) (emits 1 o.pools)) refl;
        range-arms = range-arms-at M es at-ranges c.pools g₁;
        range-lists = range-arms-blocks es at-ranges c.pools;
        ranges-fall = λ fb. range-arms-fall fb es at-ranges c.pools;
        bodies-lowered = bodies-at s rec hs M (cs ++ r.arms) (default_block s) (block_count s) 0 at-bodies r.pools g;
        body_has =
            λ k h v. lay-has s rec (cs ++ r.arms) (default_block s) (block_count s) 0 at-bodies r.pools k (omega arith) (omega arith) v;
        body_own = lay-own s rec (cs ++ r.arms) (default_block s) (block_count s) 0 at-bodies r.pools;
      }

-- ---- the parts of a switch that is laid out stand in its code

module _ (s : List ℕ) (rec : Rec) (hs : List Chain) (l : SwitchLaid) (L : LaidOut s rec hs l) (def : ℕ) where
  -- the second Switch, where there are split ranges
  pub dispatch-stands : (e : Split.Entry) (es : List Split.Entry) → l.splits ≡ e ∷ es
      → Stands (switch_code def l) l.dispatch (ins (Switch 1) over_subject no_pos ∷ arms_code l.bodies (default_at def l) l.range_arms)
  unfolding ranges_code
  dispatch-stands e es q =
      subst (λ (x : List Split.Entry). Stands (switch_code def l) l.dispatch (ranges_code l.bodies (default_at def l) x l.range_arms))
      q (ranges-stand def l L.places)

  pub range-arms-stand : (e : Split.Entry) (es : List Split.Entry) → l.splits ≡ e ∷ es
      → Stands (switch_code def l) (l.dispatch + 1) (arms_code l.bodies (default_at def l) l.range_arms)
  range-arms-stand e es q = stands_at (sym (add-one l.dispatch)) (stands-rest (dispatch-stands e es q))

pub body-stands : (s : List ℕ) (rec : Rec) (hs : List Chain) (l : SwitchLaid) → LaidOut s rec hs l → (def : ℕ) (x : Body)
    → Memᴰ x l.bodies → BodyStands (switch_code def l) (end_at def l) x
unfolding default_code end_at
body-stands s rec hs l L zero x m =
    bodies-stand-each s rec hs (switch_code zero l) (end_at zero l) l.bodies_place l.bodies L.bodies-lowered
    (stands-left _ (ins Unit over_subject no_pos ∷ []) (bodies-stand zero l L.places))
    x m
body-stands s rec hs l L (suc k) x m =
    fall-stand-each s rec hs (switch_code (suc k) l) (end_at (suc k) l) l.bodies_place l.bodies L.bodies-lowered refl
    (bodies-stand (suc k) l L.places) x m

-- the Unit of a missing default
pub missing-stands : (l : SwitchLaid) → Laid l → Stands (switch_code 0 l) (default_at 0 l) (ins Unit over_subject no_pos ∷ [])
unfolding default_code default_at
missing-stands l h =
    let all = bodies-stand 0 l h in
    let first : Stands (switch_code 0 l) l.bodies_place (bodies_code (end_at 0 l) l.bodies) =
    stands-left _ (ins Unit over_subject no_pos ∷ []) all in
    stands_at (ap (λ (n : ℕ). l.bodies_place + n) (bodies-length (end_at 0 l) l.bodies)) (stands-next first all)
