-- The guards and bodies of a switch are lowered where the layout says: each chain, each guard and each body stands at its place, and its
-- code is what the lowering of its node gives there.
use Prim.Native.Nat.{ℕ, zero, suc, ◌+◌, ◌<◌}
use mathlib.Core.Path.{◌≡◌, refl}
use mathlib.Core.Bool.{Bool, true, false, ◌||◌}
use mathlib.Core.List.{List, [], ◌∷◌}
use native.Mathlib.Omega.{arith}
use lib.Dec.{eqb}
use lib.ListN.{length}
use borrow.Author.Tests.{eqb-true}
use Rattle.bytecode.specs.declared.Chain.{Chain}
use Rattle.lowering.specs.Code.{Code}
use Rattle.lowering.specs.Pools.{Pools, emits}
use Rattle.lowering.specs.Out.{Rec}
use Rattle.lowering.specs.SwitchSheet.{guard_of, body_of}
use Rattle.lowering.specs.Arms.{Try, End, taken, declined, idle, Entry, to_body, to_chain, to_fallback, Guard, never, always, tried}
use Rattle.lowering.specs.Arms.{guard_kind, try_at, tries_of, entry_from, tries_extent, entry_extent, Arm, arms_extent, arm_chains, drop_end}
use Rattle.lowering.specs.Arms.{drop_entry, drop_idle_jump}
use Rattle.lowering.specs.Bodies.{Body, wanted, lay_bodies}
use Rattle.lowering.proofs.Meets.{Grows, grows-refl, grows-trans, Meets}

-- c is the lowering of node j at place b and depth d; hs are all chains at the end
pub record Lowered (rec : Rec) (hs : List Chain) (j b d : ℕ) (c : Code) : Type 0 where
  pub pools : Pools
  pub code_is : c ≡ (rec j b d pools).code
  pub grown : Grows (rec j b d pools).pools.chains hs

-- the three answers for the first block of a list
module _ (s : List ℕ) (rec : Rec) (k : ℕ) (ks : List ℕ) (b : ℕ) (p : Pools) where
  pub tries-never : guard_kind s (guard_of s k) ≡ never → tries_of s rec (k ∷ ks) b p ≡ tries_of s rec ks b p
  unfolding tries_of
  tries-never h = rw (h, tries_of)

  pub tries-always : guard_kind s (guard_of s k) ≡ always → tries_of s rec (k ∷ ks) b p ≡ record { tries = []; end = taken k; pools = p }
  unfolding tries_of
  tries-always h = rw (h, tries_of)

  pub tries-tried : guard_kind s (guard_of s k) ≡ tried
      → tries_of s rec (k ∷ ks) b p ≡ try_at s k b (rec (guard_of s k) b 1 p)
      (tries_of s rec ks (b + length (rec (guard_of s k) b 1 p).code + 1) (emits 1 (rec (guard_of s k) b 1 p).pools))
  unfolding tries_of
  tries-tried h = rw (h, tries_of)

-- the two answers for a block
module _ (s : List ℕ) (rec : Rec) (arms : List Arm) (def n k b : ℕ) (p : Pools) where
  pub bodies-lay : (eqb def (suc k) || wanted k arms) ≡ true
      → lay_bodies s rec arms def (suc n) k b p
      ≡ record {
        bodies =
            record { block = k; place = b; code = (rec (body_of s k) b 1 p).code }
            ∷ (lay_bodies s rec arms def n (suc k) (b + length (rec (body_of s k) b 1 p).code + 1)
            (emits 1 (rec (body_of s k) b 1 p).pools)).bodies;
        pools =
            (lay_bodies s rec arms def n (suc k) (b + length (rec (body_of s k) b 1 p).code + 1)
            (emits 1 (rec (body_of s k) b 1 p).pools)).pools;
      }
  unfolding lay_bodies
  bodies-lay h = rw (h, lay_bodies)

  pub bodies-skip : (eqb def (suc k) || wanted k arms) ≡ false
      → lay_bodies s rec arms def (suc n) k b p ≡ lay_bodies s rec arms def n (suc k) b p
  unfolding lay_bodies
  bodies-skip h = rw (h, lay_bodies)

-- the two answers for the last jump
module _ (a : Arm) (arms : List Arm) where
  pub drop_here : eqb (arms_extent arms) 0 ≡ true
      → drop_idle_jump (a ∷ arms) ≡ record { blocks = a.blocks; entry = drop_entry a.entry } ∷ arms
  unfolding drop_idle_jump
  drop_here h = rw (h, drop_idle_jump)

  pub drop-later : eqb (arms_extent arms) 0 ≡ false → drop_idle_jump (a ∷ arms) ≡ a ∷ drop_idle_jump arms
  unfolding drop_idle_jump
  drop-later h = rw (h, drop_idle_jump)

-- ---- chains are only added

module _ (s : List ℕ) (rec : Rec) (M : Meets rec) where
  tries-grow : (ks : List ℕ) (b : ℕ) (p : Pools) → Grows p.chains (tries_of s rec ks b p).pools.chains
  unfolding tries_of emits try_at
  tries-grow [] b p = grows-refl p.chains
  tries-grow (k ∷ ks) b p = by (guard_kind s (guard_of s k)) refl (tries-grow ks)
    where
      by : (g : Guard) → guard_kind s (guard_of s k) ≡ g
          → ((b' : ℕ) (p' : Pools) → Grows p'.chains (tries_of s rec ks b' p').pools.chains)
          → Grows p.chains (tries_of s rec (k ∷ ks) b p).pools.chains
      by never h f = rw (tries-never s rec k ks b p h) (f b p)
      by always h f = rw (tries-always s rec k ks b p h) (grows-refl p.chains)
      by tried h f = rw (tries-tried s rec k ks b p h) (grows-trans (M.grows (guard_of s k) b 1 p) (f _ _))

  pub arms-grow : (ls : List (List ℕ)) (b : ℕ) (p : Pools) → Grows p.chains (arm_chains s rec ls b p).pools.chains
  unfolding arm_chains emits
  arms-grow [] b p = grows-refl p.chains
  arms-grow (l ∷ ls) b p = grows-trans (tries-grow l b p) (arms-grow ls _ _)

  pub bodies-grow : (arms : List Arm) (def n k b : ℕ) (p : Pools) → Grows p.chains (lay_bodies s rec arms def n k b p).pools.chains
  unfolding lay_bodies emits
  bodies-grow arms def zero k b p = grows-refl p.chains
  bodies-grow arms def (suc n) k b p = by (eqb def (suc k) || wanted k arms) refl (bodies-grow arms def n (suc k))
    where
      by : (t : Bool) → (eqb def (suc k) || wanted k arms) ≡ t
          → ((b' : ℕ) (p' : Pools) → Grows p'.chains (lay_bodies s rec arms def n (suc k) b' p').pools.chains)
          → Grows p.chains (lay_bodies s rec arms def (suc n) k b p).pools.chains
      by true h f = rw (bodies-lay s rec arms def n k b p h) (grows-trans (M.grows (body_of s k) b 1 p) (f _ _))
      by false h f = rw (bodies-skip s rec arms def n k b p h) (f b p)

-- ---- which guards of a list are tried, and how its chain ends

pub data Chosen (s : List ℕ) : List ℕ → List Try → End → Type 0 where
  none_left : Chosen s [] [] declined
  falls-on : Chosen s [] [] idle
  passed : {k : ℕ} {ks : List ℕ} {ts : List Try} {e : End} → guard_kind s (guard_of s k) ≡ never → Chosen s ks ts e → Chosen s (k ∷ ks) ts e
  settled : {k : ℕ} {ks : List ℕ} → guard_kind s (guard_of s k) ≡ always → Chosen s (k ∷ ks) [] (taken k)
  asked : {t : Try} {ks : List ℕ} {ts : List Try} {e : End} → guard_kind s (guard_of s t.block) ≡ tried → Chosen s ks ts e
      → Chosen s (t.block ∷ ks) (t ∷ ts) e

tries-chosen : (s : List ℕ) (rec : Rec) (ks : List ℕ) (b : ℕ) (p : Pools)
    → Chosen s ks (tries_of s rec ks b p).tries (tries_of s rec ks b p).end
unfolding tries_of try_at
tries-chosen s rec [] b p = none_left
tries-chosen s rec (k ∷ ks) b p = by (guard_kind s (guard_of s k)) refl (tries-chosen s rec ks)
  where
    by : (g : Guard) → guard_kind s (guard_of s k) ≡ g
        → ((b' : ℕ) (p' : Pools) → Chosen s ks (tries_of s rec ks b' p').tries (tries_of s rec ks b' p').end)
        → Chosen s (k ∷ ks) (tries_of s rec (k ∷ ks) b p).tries (tries_of s rec (k ∷ ks) b p).end
    by never h f = rw (tries-never s rec k ks b p h) (passed h (f b p))
    by always h f = rw (tries-always s rec k ks b p h) (settled h)
    by tried h f = rw (tries-tried s rec k ks b p h) (asked h (f _ _))

-- a chain whose jump at the end is dropped is chosen alike
drop-chosen : {s ks : List ℕ} {ts : List Try} {e : End} → Chosen s ks ts e → Chosen s ks ts (drop_end e)
unfolding drop_end
drop-chosen none_left = falls-on
drop-chosen falls-on = falls-on
drop-chosen (passed h c) = passed h (drop-chosen c)
drop-chosen (settled h) = settled h
drop-chosen (asked h c) = asked h (drop-chosen c)

idle-chosen : {s ks : List ℕ} {ts : List Try} → Chosen s ks ts idle → Chosen s ks ts declined
idle-chosen falls-on = none_left
idle-chosen (passed h c) = passed h (idle-chosen c)
idle-chosen (asked h c) = asked h (idle-chosen c)

-- ---- where guards, chains and bodies stand

module _ (s : List ℕ) (rec : Rec) (hs : List Chain) where
  pub record TryAt (b : ℕ) (t : Try) : Type 0 where
    pub place_is : t.place ≡ b
    pub lowered : Lowered rec hs (guard_of s t.block) b 1 t.code

  abbrev pub TriesAt : ℕ → List Try → Type 0
  TriesAt b [] = Prim.Unit {0}
  TriesAt b (t ∷ ts) = TryAt b t × TriesAt (b + length t.code + 1) ts

  pub record ChainAt (b : ℕ) (ks : List ℕ) (p : ℕ) (ts : List Try) (e : End) : Type 0 where
    pub place_is : p ≡ b
    pub some-try : 0 < tries_extent ts
    pub tries : TriesAt b ts
    pub chosen : Chosen s ks ts e

  -- the entry for a list of blocks, with its chain from place b on, if it has one
  abbrev pub EntryAt : ℕ → List ℕ → Entry → Type 0
  EntryAt b ks (to_body k) = Chosen s ks [] (taken k)
  EntryAt b ks (to_chain p ts e) = ChainAt b ks p ts e
  EntryAt b ks to_fallback = Chosen s ks [] declined

  abbrev pub ArmsAt : ℕ → List Arm → Type 0
  ArmsAt b [] = Prim.Unit {0}
  ArmsAt b (a ∷ arms) = EntryAt b a.blocks a.entry × ArmsAt (b + entry_extent a.entry) arms

  pub record BodyAt (b : ℕ) (x : Body) : Type 0 where
    pub place_is : x.place ≡ b
    pub lowered : Lowered rec hs (body_of s x.block) b 1 x.code

  abbrev pub BodiesAt : ℕ → List Body → Type 0
  BodiesAt b [] = Prim.Unit {0}
  BodiesAt b (x ∷ xs) = BodyAt b x × BodiesAt (b + length x.code + 1) xs

  module _ (M : Meets rec) where
    tries-at : (ks : List ℕ) (b : ℕ) (p : Pools) → Grows (tries_of s rec ks b p).pools.chains hs
        → TriesAt b (tries_of s rec ks b p).tries
    unfolding tries_of try_at emits
    tries-at [] b p g = tt
    tries-at (k ∷ ks) b p g = by (guard_kind s (guard_of s k)) refl (tries-at ks) g
      where
        by : (v : Guard) → guard_kind s (guard_of s k) ≡ v
            → ((b' : ℕ) (p' : Pools) → Grows (tries_of s rec ks b' p').pools.chains hs → TriesAt b' (tries_of s rec ks b' p').tries)
            → Grows (tries_of s rec (k ∷ ks) b p).pools.chains hs → TriesAt b (tries_of s rec (k ∷ ks) b p).tries
        by never h f = rw (tries-never s rec k ks b p h) (f b p)
        by always h f = rw (tries-always s rec k ks b p h) (λ g'. tt)
        by tried h f = rw (tries-tried s rec k ks b p h)
            (λ g'.
            let first : Lowered rec hs (guard_of s k) b 1 (rec (guard_of s k) b 1 p).code =
            record { pools = p; code_is = refl; grown = grows-trans (tries-grow s rec M ks _ _) g' } in
            (record { place_is = refl; lowered = first }, f _ _ g'))

    entry_at : (ks : List ℕ) (b : ℕ) (ts : List Try) (e : End) → TriesAt b ts → Chosen s ks ts e → EntryAt b ks (entry_from b ts e)
    unfolding entry_from tries_extent
    entry_at ks b [] (taken k) t c = c
    entry_at ks b [] declined t c = c
    entry_at ks b [] idle t c = idle-chosen c
    entry_at ks b (x ∷ ts) e t c = record { place_is = refl; some-try = omega arith; tries = t; chosen = c }

    pub arms_at : (ls : List (List ℕ)) (b : ℕ) (p : Pools) → Grows (arm_chains s rec ls b p).pools.chains hs
        → ArmsAt b (arm_chains s rec ls b p).arms
    unfolding arm_chains emits
    arms_at [] b p g = tt
    arms_at (l ∷ ls) b p g =
        let t = tries_of s rec l b p in (
          entry_at l b t.tries t.end (tries-at l b p (grows-trans (arms-grow s rec M ls _ _) g)) (tries-chosen s rec l b p),
          arms_at ls _ _ g,
        )

    pub bodies-at : (arms : List Arm) (def n k b : ℕ) (p : Pools) → Grows (lay_bodies s rec arms def n k b p).pools.chains hs
        → BodiesAt b (lay_bodies s rec arms def n k b p).bodies
    unfolding lay_bodies emits
    bodies-at arms def zero k b p g = tt
    bodies-at arms def (suc n) k b p g = by (eqb def (suc k) || wanted k arms) refl (bodies-at arms def n (suc k)) g
      where
        by : (t : Bool) → (eqb def (suc k) || wanted k arms) ≡ t
            → ((b' : ℕ) (p' : Pools) → Grows (lay_bodies s rec arms def n (suc k) b' p').pools.chains hs
            → BodiesAt b' (lay_bodies s rec arms def n (suc k) b' p').bodies)
            → Grows (lay_bodies s rec arms def (suc n) k b p).pools.chains hs → BodiesAt b (lay_bodies s rec arms def (suc n) k b p).bodies
        by true h f = rw (bodies-lay s rec arms def n k b p h)
            (λ g'.
            let first : Lowered rec hs (body_of s k) b 1 (rec (body_of s k) b 1 p).code =
            record { pools = p; code_is = refl; grown = grows-trans (bodies-grow s rec M arms def n (suc k) _ _) g' } in
            (record { place_is = refl; lowered = first }, f _ _ g'))
        by false h f = rw (bodies-skip s rec arms def n k b p h) (f b p)

  -- an entry without code stands anywhere
  idle-entry-at : (b b' : ℕ) (ks : List ℕ) (e : Entry) → entry_extent e ≡ 0 → EntryAt b ks e → EntryAt b' ks e
  unfolding entry_extent
  idle-entry-at b b' ks (to_body k) z h = h
  idle-entry-at b b' ks (to_chain p ts e) z h = absurd (omega arith)
  idle-entry-at b b' ks to_fallback z h = h

  idle-at : (b b' : ℕ) (arms : List Arm) → arms_extent arms ≡ 0 → ArmsAt b arms → ArmsAt b' arms
  unfolding arms_extent
  idle-at b b' [] z h = tt
  idle-at b b' (a ∷ arms) z h = (
    idle-entry-at b b' a.blocks a.entry (omega arith) h.0,
    idle-at (b + entry_extent a.entry) (b' + entry_extent a.entry) arms (omega arith) h.1,
  )

  drop-entry-at : (b : ℕ) (ks : List ℕ) (e : Entry) → EntryAt b ks e → EntryAt b ks (drop_entry e)
  unfolding drop_entry
  drop-entry-at b ks (to_body k) h = h
  drop-entry-at b ks (to_chain p ts e) h =
      record { place_is = h.place_is; some-try = h.some-try; tries = h.tries; chosen = drop-chosen h.chosen }
  drop-entry-at b ks to_fallback h = h

  -- dropping the last jump moves no chain
  pub drop_at : (b : ℕ) (arms : List Arm) → ArmsAt b arms → ArmsAt b (drop_idle_jump arms)
  unfolding drop_idle_jump
  drop_at b [] h = tt
  drop_at b (a ∷ arms) h = by (eqb (arms_extent arms) 0) refl (drop_at (b + entry_extent a.entry) arms h.1)
    where
      by : (t : Bool) → eqb (arms_extent arms) 0 ≡ t → ArmsAt (b + entry_extent a.entry) (drop_idle_jump arms)
          → ArmsAt b (drop_idle_jump (a ∷ arms))
      by true q r =
          rw (drop_here a arms q) (
            drop-entry-at b a.blocks a.entry h.0,
            idle-at (b + entry_extent a.entry) (b + entry_extent (drop_entry a.entry)) arms (eqb-true (arms_extent arms) 0 q) h.1,
          )
      by false q r = rw (drop-later a arms q) (h.0, r)
