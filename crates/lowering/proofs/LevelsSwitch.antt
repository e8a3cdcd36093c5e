-- Two lowerings of nodes that agree on a switch's subject, guards and bodies give the same program.
use Prim.Native.Nat.{ℕ, zero, suc, ◌+◌, ◌≤◌, ◌<◌}
use mathlib.Core.Path.{◌≡◌, refl, sym, ap, ◌∙◌, subst}
use mathlib.Core.Bool.{Bool, true, false, ◌||◌}
use mathlib.Core.List.Memᴰ
use mathlib.Core.List.{List, [], ◌∷◌, ◌++◌, map, Memᴰ}
use native.Mathlib.Omega.{arith}
use lib.Dec.{eqb}
use lib.ListN.{length}
use Rattle.switch_split.specs.Split as Split
use Rattle.switch_split.specs.Split.{split}
use Rattle.lowering.specs.Pools.{Pools, no_pools, emits}
use Rattle.lowering.specs.Out.{Out, Rec}
use Rattle.lowering.specs.SwitchSheet.{block_count, default_block, subject, guard_of, body_of, cases_of, case_blocks, ranges_of}
use Rattle.lowering.specs.Arms.{Guard, never, always, tried, guard_kind, Tries, try_at, taken, tries_of, entry_from, entry_extent}
use Rattle.lowering.specs.Arms.{end_emits, Arm, Arms, arm_chains, arms_extent, distinct}
use Rattle.lowering.specs.Bodies.{Bodies, wanted, lay_bodies}
use Rattle.lowering.specs.SwitchLaid.{lay_cases, case_arms_of, lay_ranges, ranges_extent, layout}
use Rattle.lowering.specs.Switch.{switch_of, switch}
use Rattle.lowering.proofs.SwitchEntries.{distinct-only}
use Rattle.lowering.proofs.SwitchBlocks.{Blocks, split-blocks}
use Rattle.lowering.proofs.LevelsSame.{Agree}

module _ (s : List ℕ) {P : ℕ → Type 0} {rec rec' : Rec} (A : Agree P rec rec') where
  tries-same : (ks : List ℕ) (b : ℕ) (p : Pools) → ((k : ℕ) → Memᴰ k ks → P (guard_of s k))
      → tries_of s rec ks b p ≡ tries_of s rec' ks b p
  unfolding tries_of
  tries-same [] b p h = refl
  tries-same (k ∷ ks) b p h =
      go (guard_kind s (guard_of s k)) (λ b p. tries-same ks b p (λ i m. h i (Memᴰ.tail m)))
    where
      rest : Rec → Out → Tries
      rest rec o = tries_of s rec ks (b + length o.code + 1) (emits 1 o.pools)

      by : Rec → Guard → Tries
      by rec g =
          elim g [
            | never ↦ tries_of s rec ks b p
            | always ↦ record { tries = []; end = taken k; pools = p }
            | tried ↦ let o = rec (guard_of s k) b 1 p in try_at s k b o (rest rec o)
          ]

      go : (g : Guard) → ((b : ℕ) (p : Pools) → tries_of s rec ks b p ≡ tries_of s rec' ks b p) → by rec g ≡ by rec' g
      go never more = more b p
      go always more = refl
      go tried more =
          let o = rec' (guard_of s k) b 1 p in
          ap (λ (o : Out). try_at s k b o (rest rec o)) (A.at (guard_of s k) b 1 p (h k (Memᴰ.head refl)))
          ∙ ap (try_at s k b o) (more (b + length o.code + 1) (emits 1 o.pools))

  arms_same : (ls : List (List ℕ)) (b : ℕ) (p : Pools)
      → ((l : List ℕ) → Memᴰ l ls → (k : ℕ) → Memᴰ k l → P (guard_of s k)) → arm_chains s rec ls b p ≡ arm_chains s rec' ls b p
  unfolding arm_chains
  arms_same [] b p h = refl
  arms_same (l ∷ ls) b p h =
      let t = tries_of s rec' l b p in
      let e = entry_from b t.tries t.end in
      ap (λ (t : Tries). with t (rest t)) (tries-same l b p (h l (Memᴰ.head refl)))
      ∙ ap (with t) (arms_same ls (b + entry_extent e) (emits (end_emits e) t.pools) (λ m n. h m (Memᴰ.tail n)))
    where
      rest : Tries → Arms
      rest t = let e = entry_from b t.tries t.end in arm_chains s rec ls (b + entry_extent e) (emits (end_emits e) t.pools)

      with : Tries → Arms → Arms
      with t r = record { arms = record { blocks = l; entry = entry_from b t.tries t.end } ∷ r.arms; pools = r.pools }

  bodies-same : (arms : List Arm) (def n k b : ℕ) (p : Pools) → ((i : ℕ) → k ≤ i → i < k + n → P (body_of s i))
      → lay_bodies s rec arms def n k b p ≡ lay_bodies s rec' arms def n k b p
  unfolding lay_bodies
  bodies-same arms def zero k b p h = refl
  bodies-same arms def (suc n) k b p h =
      go (eqb def (suc k) || wanted k arms) (λ b p. bodies-same arms def n (suc k) b p (λ i l m. h i (omega arith) (omega arith)))
    where
      rest : Rec → Out → Bodies
      rest rec o = lay_bodies s rec arms def n (suc k) (b + length o.code + 1) (emits 1 o.pools)

      with : Out → Bodies → Bodies
      with o r = record { bodies = record { block = k; place = b; code = o.code } ∷ r.bodies; pools = r.pools }

      by : Rec → Bool → Bodies
      by rec t = elim t [ true ↦ let o = rec (body_of s k) b 1 p in with o (rest rec o) | false ↦ lay_bodies s rec arms def n (suc k) b p ]

      go : (t : Bool) → ((b : ℕ) (p : Pools) → lay_bodies s rec arms def n (suc k) b p ≡ lay_bodies s rec' arms def n (suc k) b p)
          → by rec t ≡ by rec' t
      go true more =
          let o = rec' (body_of s k) b 1 p in
          ap (λ (o : Out). with o (rest rec o)) (A.at (body_of s k) b 1 p (h k (omega arith) (omega arith)))
          ∙ ap (with o) (more (b + length o.code + 1) (emits 1 o.pools))
      go false more = more b p

  module _ (B : Blocks s) (G : (k : ℕ) → k < block_count s → P (guard_of s k)) where
    cases_same : (o : Out) → lay_cases s rec o ≡ lay_cases s rec' o
    unfolding lay_cases
    cases_same o = arms_same (distinct lists) (length o.code + 1) (emits 1 o.pools) named
      where
        lists : List (List ℕ)
        lists = map (case_blocks s) (cases_of s)

        named : (l : List ℕ) → Memᴰ l (distinct lists) → (k : ℕ) → Memᴰ k l → P (guard_of s k)
        named l m k n =
            let row = Memᴰ.of_map (case_blocks s) (cases_of s) (distinct-only lists l m) in
            G k (B.cases-exist row.0 row.1 k (subst (Memᴰ k) (sym row.2) n))

    ranges-same : (es : List Split.Entry) (b : ℕ) (p : Pools)
        → ((e : Split.Entry) → Memᴰ e es → (k : ℕ) → Memᴰ k e.blocks → k < block_count s)
        → lay_ranges s rec es b p ≡ lay_ranges s rec' es b p
    unfolding lay_ranges
    ranges-same [] b p h = refl
    ranges-same (e ∷ es) b p h = arms_same (distinct lists) (b + 1) (emits 1 p) named
      where
        lists : List (List ℕ)
        lists = map (λ (x : Split.Entry). x.blocks) (e ∷ es)

        named : (l : List ℕ) → Memᴰ l (distinct lists) → (k : ℕ) → Memᴰ k l → P (guard_of s k)
        named l m k n =
            let row = Memᴰ.of_map (λ (x : Split.Entry). x.blocks) (e ∷ es) (distinct-only lists l m) in
            G k (h row.0 row.1 k (subst (Memᴰ k) (sym row.2) n))

    module _ (S : P subject) (D : (k : ℕ) → k < block_count s → P (body_of s k)) where
      layout-same : layout s rec ≡ layout s rec'
      unfolding layout
      layout-same =
          let es = split (ranges_of s) in
          let o = rec' subject 0 0 no_pools in
          let c = lay_cases s rec' o in
          let cs = case_arms_of es c.arms in
          let at-ranges = length o.code + 1 + arms_extent cs in
          let r = lay_ranges s rec' es at-ranges c.pools in
          let at-bodies = at-ranges + ranges_extent es r.arms in
          let known = split-blocks (λ (i : ℕ). i < block_count s) (ranges_of s) B.ranges-exist in
          cc (
            A.at subject 0 0 no_pools S,
            cases_same o,
            ranges-same es at-ranges c.pools known,
            bodies-same (cs ++ r.arms) (default_block s) (block_count s) 0 at-bodies r.pools (λ i l m. D i (omega arith)),
          )

      pub switch-same : switch s rec ≡ switch s rec'
      unfolding switch
      switch-same = ap (switch_of s (default_block s)) layout-same
