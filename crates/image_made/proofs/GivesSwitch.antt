-- The guard chains, the bodies and the case constants of a switch give good pools and instructions that name what is there.
use Prim.Native.Nat.{ℕ, zero, suc, ◌+◌, ◌≤◌, ◌<◌}
use mathlib.Core.Path.{◌≡◌, refl, sym, subst}
use mathlib.Core.Bool as Truth
use mathlib.Core.Bool.{true, false, ◌||◌}
use mathlib.Core.List.Memᴰ
use mathlib.Core.List.{List, [], ◌∷◌, ◌++◌, map, Memᴰ}
use native.Mathlib.Omega.{arith}
use lib.Dec.{eqb}
use lib.ListN.{length}
use Rattle.sheet.specs.Node.{position, child}
use Rattle.switch_split.specs.Split as Split
use Rattle.switch_split.specs.Split.{split}
use Rattle.bytecode.specs.declared.Op.TheVariants as Ops
use Rattle.lowering.specs.Code.{Ins, ins, no_pos}
use Rattle.lowering.specs.Pools.{Pools, no_pools, emits, const_of, push_const}
use Rattle.lowering.specs.Out.{Rec}
use Rattle.lowering.specs.Nodes.{Valid}
use Rattle.lowering.specs.SwitchSheet.{block_count, default_block, subject, guard_of, body_of, cases_of, case_blocks, ranges_of}
use Rattle.lowering.specs.Arms.{Try, End, taken, declined, idle, Entry, to_body, to_chain, to_fallback, Guard, never, always, tried, guard_kind}
use Rattle.lowering.specs.Arms.{try_at, tries_of, entry_from, end_emits, Arm, arms_extent, arm_chains, distinct, drop_end, drop_entry, drop_idle_jump}
use Rattle.lowering.specs.Bodies.{Body, wanted, lay_bodies, body_at}
use Rattle.lowering.specs.SwitchLaid.{lay_cases, case_arms_of, lay_ranges, layout}
use Rattle.lowering.specs.SwitchCode.{over_subject, over_value, default_at, end_at, fallback_at, tries_code, end_code, entry_code, arms_code}
use Rattle.lowering.specs.SwitchCode.{ranges_code, bodies_code, bodies_fall, default_code, last_emits, switch_code}
use Rattle.lowering.specs.SwitchTables.{case_pools, range_table}
use Rattle.lowering.proofs.Lowered.{tries-never, tries-always, tries-tried, bodies-lay, bodies-skip, drop_here, drop-later}
use Rattle.lowering.proofs.SwitchPlaces.{ending_code}
use Rattle.lowering.proofs.SwitchEntries.{distinct-only}
use Rattle.lowering.proofs.SwitchBlocks.{Blocks, split-blocks}
use Rattle.image_made.proofs.Listed.{counts_for, OpOk, ConstOk, PoolsOk, CodeOk}
use Rattle.image_made.proofs.Gives.{all_append, all_left, all-right, Gives, GivesAll, gives_none, gives-seq, gives-behind}
use Rattle.image_made.proofs.Gives.{gives-code}
use Rattle.image_made.proofs.Gives.{gives-emits, gives-ins}
use Rattle.image_made.proofs.GivesPools.{const-pushed}
use Rattle.image_made.proofs.GivesExpression.{no-pools}

-- ---- code that is right stays so where jumps are dropped

module _ (s : List ℕ) (T : ℕ) (q : Pools) where
  abbrev Right : Ins → Type 0
  Right i = OpOk (counts_for s T q) i.op

  module _ (bodies : List Body) (fallback : ℕ) where
    -- the end of a guard chain is right, whatever it is
    end-ok : (e : End) → CodeOk s T q (end_code bodies fallback e)
    unfolding end_code
    end-ok (taken k) = (tt, tt)
    end-ok declined = (tt, tt)
    end-ok idle = tt

    drop-entry-ok : (e : Entry) → CodeOk s T q (entry_code bodies fallback e) → CodeOk s T q (entry_code bodies fallback (drop_entry e))
    unfolding entry_code drop_entry
    drop-entry-ok (to_body k) h = h
    drop-entry-ok (to_chain b ts e) h =
        let tries = tries_code bodies ts in
        let right = all_left Right tries (end_code bodies fallback e) h in
        all_append Right tries (end_code bodies fallback (drop_end e)) right (end-ok (drop_end e))
    drop-entry-ok to_fallback h = h

    abbrev ArmsOk : List Arm → Type 0
    ArmsOk arms = CodeOk s T q (arms_code bodies fallback arms)

    -- the jump that goes nowhere is dropped
    drop-ok : (arms : List Arm) → ArmsOk arms → ArmsOk (drop_idle_jump arms)
    unfolding arms_code drop_idle_jump
    drop-ok [] h = h
    drop-ok (a ∷ arms) h =
        let entry = entry_code bodies fallback a.entry in
        let others = arms_code bodies fallback arms in
        let rest = all-right Right entry others h in
        by (eqb (arms_extent arms) 0) refl (all_left Right entry others h) rest (drop-ok arms rest)
      where
        by : (t : Truth.Bool) → eqb (arms_extent arms) 0 ≡ t → CodeOk s T q (entry_code bodies fallback a.entry) → ArmsOk arms
            → ArmsOk (drop_idle_jump arms) → ArmsOk (drop_idle_jump (a ∷ arms))
        by true e first rest f =
            let dropped = entry_code bodies fallback (drop_entry a.entry) in
            rw (drop_here a arms e) (all_append Right dropped (arms_code bodies fallback arms) (drop-entry-ok a.entry first) rest)
        by false e first rest f =
            let entry = entry_code bodies fallback a.entry in
            rw (drop-later a arms e) (all_append Right entry (arms_code bodies fallback (drop_idle_jump arms)) first f)

    case-arms-ok : (es : List Split.Entry) (arms : List Arm) → ArmsOk arms → ArmsOk (case_arms_of es arms)
    unfolding case_arms_of
    case-arms-ok [] arms h = h
    case-arms-ok (e ∷ es) arms h = drop-ok arms h

  -- the last body falls through to the end
  fall-ok : (end : ℕ) (xs : List Body) → CodeOk s T q (bodies_code end xs) → CodeOk s T q (bodies_fall end xs)
  unfolding bodies_code bodies_fall
  fall-ok end [] h = h
  fall-ok end (x ∷ []) h = all_left Right x.code (ins (Ops.Jump end) over_value no_pos ∷ []) h
  fall-ok end (x ∷ y ∷ xs) h =
      let jump = ins (Ops.Jump end) over_value no_pos in
      let rest = jump ∷ bodies_code end (y ∷ xs) in
      let behind = all-right Right x.code rest h in
      all_append Right x.code (jump ∷ bodies_fall end (y ∷ xs)) (all_left Right x.code rest h) (tt, fall-ok end (y ∷ xs) behind.1)

  default_ok : (def end : ℕ) (xs : List Body) → CodeOk s T q (bodies_code end xs) → CodeOk s T q (default_code def end xs)
  unfolding default_code
  default_ok zero end xs h = all_append Right (bodies_code end xs) (ins Ops.Unit over_subject no_pos ∷ []) h (tt, tt)
  default_ok (suc k) end xs h = fall-ok end xs h

-- ---- the blocks whose guards are lowered

-- every block of the lists exists
abbrev Known : List ℕ → List (List ℕ) → Type 0
Known s ls = (l : List ℕ) → Memᴰ l ls → (k : ℕ) → Memᴰ k l → k < block_count s

-- for Cases; for ranges
case-lists : (s : List ℕ) → Blocks s → Known s (distinct (map (case_blocks s) (cases_of s)))
case-lists s B l m k n =
    let row = Memᴰ.of_map (case_blocks s) (cases_of s) (distinct-only (map (case_blocks s) (cases_of s)) l m) in
    B.cases-exist row.0 row.1 k (subst (Memᴰ k) (sym row.2) n)

abbrev blocks_in : Split.Entry → List ℕ
blocks_in e = e.blocks

range-lists : (s : List ℕ) → Blocks s → Known s (distinct (map blocks_in (split (ranges_of s))))
range-lists s B l m k n =
    let row = Memᴰ.of_map blocks_in (split (ranges_of s)) (distinct-only (map blocks_in (split (ranges_of s))) l m) in
    split-blocks (λ (i : ℕ). i < block_count s) (ranges_of s) B.ranges-exist row.0 row.1 k (subst (Memᴰ k) (sym row.2) n)

-- ---- chains and bodies, for any targets

module _ (s : List ℕ) (T : ℕ) (rec : Rec) (L : GivesAll s T rec) (guards : (k : ℕ) → k < block_count s → Valid s (guard_of s k))
    (bodies : List Body) (fallback : ℕ) where
  abbrev TriesGive : List ℕ → ℕ → Pools → Type 0
  TriesGive ks b p = Gives s T p (tries_code bodies (tries_of s rec ks b p).tries) (tries_of s rec ks b p).pools

  -- the guards of some blocks
  tries-give : (ks : List ℕ) (b : ℕ) (p : Pools) → ((k : ℕ) → Memᴰ k ks → k < block_count s) → PoolsOk s p → TriesGive ks b p
  unfolding tries_of tries_code try_at
  tries-give [] b p v G = gives_none G
  tries-give (k ∷ ks) b p v G =
      by (guard_kind s (guard_of s k)) refl (λ b' p'. tries-give ks b' p' (λ i m. v i (Memᴰ.tail m)))
    where
      by : (g : Guard) → guard_kind s (guard_of s k) ≡ g → ((b' : ℕ) (p' : Pools) → PoolsOk s p' → TriesGive ks b' p')
          → TriesGive (k ∷ ks) b p
      by never h f = rw (tries-never s rec k ks b p h) (f b p G)
      by always h f = rw (tries-always s rec k ks b p h) (gives_none G)
      by tried h f =
          let g = L.gives (guard_of s k) b 1 p (guards k (v k (Memᴰ.head refl))) G in
          let jump = gives-ins {T = T} (ins (Ops.JumpIfTrue (body_at k bodies)) over_value (position s (guard_of s k))) g.good tt in
          rw (tries-tried s rec k ks b p h) (gives-seq g (gives-seq jump (f _ _ jump.good)))

  -- a guard chain with its entry
  entry_gives : (b : ℕ) (p q : Pools) (ts : List Try) (e : End) → Gives s T p (tries_code bodies ts) q
      → Gives s T p (entry_code bodies fallback (entry_from b ts e)) (emits (end_emits (entry_from b ts e)) q)
  unfolding entry_from entry_code end_emits tries_code
  entry_gives b p q [] (taken k) g = gives-emits 0 g
  entry_gives b p q [] declined g = gives-emits 0 g
  entry_gives b p q [] idle g = gives-emits 0 g
  entry_gives b p q (t ∷ ts) e g =
      gives-emits 1 (gives-seq g (gives-code (gives_none g.good) (λ z. end-ok s T q bodies fallback e)))

  -- all guard chains
  arms-give : (ls : List (List ℕ)) (b : ℕ) (p : Pools) → Known s ls → PoolsOk s p
      → Gives s T p (arms_code bodies fallback (arm_chains s rec ls b p).arms) (arm_chains s rec ls b p).pools
  unfolding arm_chains arms_code
  arms-give [] b p v G = gives_none G
  arms-give (l ∷ ls) b p v G =
      let t = tries_of s rec l b p in
      let h = entry_gives b p t.pools t.tries t.end (tries-give l b p (v l (Memᴰ.head refl)) G) in
      gives-seq h (arms-give ls _ _ (λ x m. v x (Memᴰ.tail m)) h.good)

  -- the second Switch and the chains of the ranges
  ranges-give : (es : List Split.Entry) (b : ℕ) (p : Pools) → Known s (distinct (map blocks_in es))
      → 1 + length (range_table fallback es) ≤ T → PoolsOk s p
      → Gives s T p (ranges_code bodies fallback es (lay_ranges s rec es b p).arms) (lay_ranges s rec es b p).pools
  unfolding lay_ranges ranges_code range_table
  ranges-give [] b p v two G = gives_none G
  ranges-give (e ∷ es) b p v two G =
      let switch = gives-ins {T = T} (ins (Ops.Switch 1) over_subject no_pos) G (omega arith) in
      gives-seq switch (arms-give (distinct (map blocks_in (e ∷ es))) (b + 1) (emits 1 p) v switch.good)

module _ (s : List ℕ) (T : ℕ) (rec : Rec) (L : GivesAll s T rec) (arms : List Arm) (def end : ℕ) where
  abbrev BodiesGive : ℕ → ℕ → ℕ → Pools → Type 0
  BodiesGive n k b p = Gives s T p (bodies_code end (lay_bodies s rec arms def n k b p).bodies) (lay_bodies s rec arms def n k b p).pools

  -- the bodies of blocks
  bodies-give : (n k b : ℕ) (p : Pools) → ((i : ℕ) → i < n + k → Valid s (body_of s i)) → PoolsOk s p → BodiesGive n k b p
  unfolding lay_bodies bodies_code
  bodies-give zero k b p v G = gives_none G
  bodies-give (suc n) k b p v G =
      by (eqb def (suc k) || wanted k arms) refl (λ b' p'. bodies-give n (suc k) b' p' (λ i h. v i (omega arith)))
    where
      by : (t : Truth.Bool) → (eqb def (suc k) || wanted k arms) ≡ t → ((b' : ℕ) (p' : Pools) → PoolsOk s p' → BodiesGive n (suc k) b' p')
          → BodiesGive (suc n) k b p
      by true h f =
          let g = L.gives (body_of s k) b 1 p (v k (omega arith)) G in
          let jump = gives-ins {T = T} (ins (Ops.Jump end) over_value no_pos) g.good tt in
          rw (bodies-lay s rec arms def n k b p h) (gives-seq g (gives-seq jump (f _ _ jump.good)))
      by false h f = rw (bodies-skip s rec arms def n k b p h) (f b p G)

-- ---- the whole switch

module _ (s : List ℕ) (T : ℕ) (rec : Rec) (L : GivesAll s T rec) (B : Blocks s) (sub : Valid s subject)
    (guards : (k : ℕ) → k < block_count s → Valid s (guard_of s k)) (bodies : (k : ℕ) → k < block_count s → Valid s (body_of s k)) where
  -- code and pools of the switch
  pub switch-gives : (def : ℕ) → 1 + length (range_table (default_at def (layout s rec)) (layout s rec).splits) ≤ T
      → Gives s T no_pools (switch_code def (layout s rec)) (emits (last_emits def) (layout s rec).pools)
  unfolding layout lay_cases switch_code
  switch-gives def two =
      let l = layout s rec in
      let o = rec subject 0 0 no_pools in
      let c = lay_cases s rec o in
      let es = split (ranges_of s) in
      let r = lay_ranges s rec es l.dispatch c.pools in
      let fb = fallback_at def es l in
      let default = default_at def l in
      let end = end_at def l in
      let g₁ = L.gives subject 0 0 no_pools sub (no-pools s) in
      let g₂ = gives-ins {T = T} (ins (Ops.Switch 0) over_subject no_pos) g₁.good (omega arith) in
      let chains = arms-give s T rec L guards l.bodies fb _ (length o.code + 1) (emits 1 o.pools) (case-lists s B) g₂.good in
      let cases = arms_code l.bodies fb l.case_arms in
      let g₃ = gives-code {c' = cases} chains (case-arms-ok s T c.pools l.bodies fb es c.arms) in
      let g₄ = ranges-give s T rec L guards l.bodies default es l.dispatch c.pools (range-lists s B) two g₃.good in
      let arms = l.case_arms ++ r.arms in
      let valid : (i : ℕ) → i < block_count s + 0 → Valid s (body_of s i) = λ i h. bodies i (omega arith) in
      let laid = bodies-give s T rec L arms (default_block s) end (block_count s) 0 l.bodies_place r.pools valid g₄.good in
      let g₅ = gives-code {c' = default_code def end l.bodies} laid (default_ok s T l.pools def end l.bodies) in
      let g₆ = gives-code {T = T} {c' = ending_code} (gives_none laid.good) (λ z. (omega arith, (tt, tt))) in
      gives-emits (last_emits def) (gives-seq (gives-seq (gives-seq (gives-seq (gives-seq g₁ g₂) g₃) g₄) g₅) g₆)

-- ---- the constants of the Cases

-- each is added right
pub case-pools-give : (s : List ℕ) (T : ℕ) (cs : List ℕ) (p : Pools) → ((c : ℕ) → Memᴰ c cs → ConstOk s (const_of s (child c)))
    → PoolsOk s p → Gives s T p [] (case_pools s cs p)
unfolding case_pools
case-pools-give s T [] p v G = gives_none G
case-pools-give s T (c ∷ cs) p v G =
    let g = const-pushed s T p G (const_of s (child c)) (v c (Memᴰ.head refl)) in
    gives-behind g (case-pools-give s T cs (push_const s (const_of s (child c)) p) (λ x m. v x (Memᴰ.tail m)) g.good)
