-- A pool by keys with its index: what a search needs (`pool-sought`, `pool-asked`), and that an entry that is not found is added: its key
-- behind the others, its link, its head (`pool-new`).
use Rattle.std.proofs.Common.{◌≡◌, ℕ, suc, ◌+◌, ◌*◌, ◌<◌, ◌≤◌, Bool, true, List, [], ◌∷◌, ◌++◌, length, get_or, set, sym, refl, ap, ◌∙◌}
use Rattle.std.proofs.Common.{subst, true≢false, arith, length-set}
use native.Mathlib.Decide.{dec_lt}
use lib.ListN.{get_or-append}
use lib.Seq.{get_or-append_seam}
use Rattle.lowering.proofs.FirstLaws.{first-within}
use Rattle.lowering.specs.Pools.{first_where}
use Rattle.scratch.specs.declared.Index.{Index}
use Rattle.scratch.specs.Places.{region}
use Rattle.scratch.proofs.RegionLaws.{region-length, region-behind, region-push}
use Rattle.scratch_index.specs.Indexed.{ranked, Indexed}
use Rattle.scratch_index.specs.Table.{tag_of, head_at, link_at, noted_by}
use Rattle.scratch_index.specs.Lookup.{bucket_by, tag_by, place_by, Sought}
use Rattle.scratch_index.specs.Pool.{Differ, Alike, Room, Pool}
use Rattle.scratch_index.proofs.PrevLaws.{prev-within}
use Rattle.scratch_index.proofs.DifferLaws.{differ-none, differ-snoc, differ-one, first-fails}
use Rattle.scratch_index.proofs.IndexedLaws.{noted, indexed-none, indexed-set, note-keeps}
use Rattle.scratch_index.proofs.TableLaws.{bucket-below, noted-is}

-- the words when the entry with key j is added as entry n
abbrev pub entered : (ℕ → ℕ) → (ℕ → ℕ) → Index → ℕ → ℕ → List ℕ → List ℕ
entered hash slot ix n j xs = noted_by (head_at ix (hash j)) (link_at ix (slot j)) (tag_of (hash j)) n (set xs (ix.at + n) j)

module _
    {same : ℕ → ℕ → Bool} {hash : ℕ → ℕ} {Used : ℕ → Type 0} {slot : ℕ → ℕ} {ix : Index} {cap n : ℕ} {xs : List ℕ}
    (p : Pool same hash Used slot ix cap n xs)
  where
    abbrev ks : List ℕ
    ks = region ix.at n xs

    pub pool-length : length (region ix.at n xs) ≡ n
    pool-length = region-length ix.at n xs (let r = p.room in let f = p.fit in omega arith)

    -- what a search needs for a test that no two different entries pass
    pub pool-asked :
        (P : ℕ → Bool) (h : ℕ) → ((i j : ℕ) → P i ≡ true → P j ≡ true → same i j ≡ true) → ((k : ℕ) → P k ≡ true → hash k ≡ h)
        → Sought P hash slot ix n h xs
    pool-asked P h one agrees =
        let r = p.room in
        let f = p.fit in
        record {
          room = omega arith;
          few = omega arith;
          some = r.some;
          index = p.index;
          once = record { once = differ-one same 0 P one ks p.differ };
          agrees = agrees;
        }

module _
    {same : ℕ → ℕ → Bool} {hash : ℕ → ℕ} (alike : Alike same hash) {Used : ℕ → Type 0} {slot : ℕ → ℕ} {ix : Index} {cap n : ℕ}
    {xs : List ℕ} (p : Pool same hash Used slot ix cap n xs)
  where
    -- what a search for the entry of key j needs
    pub pool-sought : (j : ℕ) → Sought (same j) hash slot ix n (hash j) xs
    pool-sought j =
        pool-asked p (same j) (hash j) (λ i k a b. alike.join i j k (alike.swap j i a) b) (λ k t. alike.hashed j k t)

    -- it is new
    module _
        (j : ℕ) (self : same j j ≡ true) (use-j : Used j) (new : n ≤ first_where (same j) (region ix.at n xs)) (space : n < cap)
      where
        abbrev keys : List ℕ
        keys = region ix.at n xs

        -- the words with its key, and in the end
        abbrev zs : List ℕ
        zs = set xs (ix.at + n) j

        abbrev ys : List ℕ
        ys = noted (head_at ix (hash j)) (link_at ix (slot j)) (tag_of (hash j)) (suc n) zs

        missed : first_where (same j) keys ≡ length keys
        missed =
            let m = pool-length p in
            let w = first-within (same j) keys in
            omega arith

        other : (e : ℕ) → e < length keys → place_by slot ix (get_or keys e 0) ≡ place_by slot ix j → ⊥
        other e l q =
            let m = pool-length p in
            let k = p.room.apart (get_or keys e 0) j (p.used e (omega arith)) use-j (omega arith) in
            let t : same j (get_or keys e 0) ≡ true = ap (same j) k ∙ self in
            true≢false (sym t ∙ first-fails (same j) 0 keys missed e l)

        key-written : Indexed (bucket_by hash ix) (tag_by hash) (place_by slot ix) ix.heads ix.count keys zs
        key-written =
            let r = p.room in
            indexed-set p.index (ix.at + n) j (λ b l q. omega arith) (λ e l q. omega arith)

        bucket-in : bucket_by hash ix j < ix.count
        bucket-in = bucket-below ix.count (hash j) (alike.word j) p.room.some

        note-is : entered hash slot ix n j xs ≡ ys
        note-is =
            let r = p.room in
            let h = key-written.heads (bucket_by hash ix j) bucket-in in
            let m = pool-length p in
            let w = prev-within (ranked (bucket_by hash ix) keys) (length keys) (bucket_by hash ix j) in
            noted-is (head_at ix (hash j)) (link_at ix (slot j)) (tag_of (hash j)) n zs (omega arith) (omega arith)

        noted-index :
            Indexed (bucket_by hash ix) (tag_by hash) (place_by slot ix) ix.heads ix.count (keys ++ (j ∷ [])) ys
        noted-index =
            let r = p.room in
            subst
            (λ (m : ℕ).
            Indexed (bucket_by hash ix) (tag_by hash) (place_by slot ix) ix.heads ix.count (keys ++ (j ∷ []))
            (noted (head_at ix (hash j)) (link_at ix (slot j)) (tag_of (hash j)) (suc m) zs))
            (pool-length p)
            (note-keeps key-written j other (r.slots j use-j) bucket-in (rw length-set r.heads))

        -- heads and links lie behind the keys
        noted-keys : region ix.at (n + 1) ys ≡ keys ++ (j ∷ [])
        unfolding noted
        noted-keys =
            let r = p.room in
            let f = p.fit in
            let v = get_or zs (head_at ix (hash j)) 0 + 524288 * tag_of (hash j) in
            region-behind ix.at (n + 1) (head_at ix (hash j)) (suc n) (set zs (link_at ix (slot j)) v) (omega arith)
            ∙ region-behind ix.at (n + 1) (link_at ix (slot j)) v zs (omega arith)
            ∙ region-push ix.at n (ix.at + n) j xs refl (omega arith)

        noted-length : length ys ≡ length xs
        unfolding noted
        noted-length = simp length-set

        noted-used : (e : ℕ) → e < n + 1 → Dec (e < n) → Used (get_or (keys ++ (j ∷ [])) e 0)
        noted-used e l (yes d) =
            let m = pool-length p in
            rw (get_or-append keys (j ∷ []) 0 e (omega arith)) (p.used e d)
        noted-used e l (no d) =
            let m = pool-length p in
            let z : e ≡ length keys = omega arith in
            rw (z, get_or-append_seam keys j [] 0) use-j

        pool-noted : Pool same hash Used slot ix cap (n + 1) ys
        pool-noted = record {
          room = subst (Room Used slot ix cap) (sym noted-length) p.room;
          fit = omega arith;
          index =
              subst
              (λ (l : List ℕ). Indexed (bucket_by hash ix) (tag_by hash) (place_by slot ix) ix.heads ix.count l ys)
              (sym noted-keys) noted-index;
          differ = subst (Differ same 0) (sym noted-keys) (differ-snoc same 0 j keys missed p.differ);
          used = λ e l. subst (λ (m : List ℕ). Used (get_or m e 0)) (sym noted-keys) (noted-used e l (dec_lt e n));
        }

        -- the words as the code leaves them: one entry more
        pub pool-new : Pool same hash Used slot ix cap (n + 1) (entered hash slot ix n j xs)
        pool-new = subst (Pool same hash Used slot ix cap (n + 1)) (sym note-is) pool-noted

        -- the keys then
        pub pool-pushed : region ix.at (n + 1) (entered hash slot ix n j xs) ≡ region ix.at n xs ++ (j ∷ [])
        pool-pushed = ap (region ix.at (n + 1)) note-is ∙ noted-keys

-- no entry, where all heads are 0
pub pool-none :
    (same : ℕ → ℕ → Bool) (hash : ℕ → ℕ) (Used : ℕ → Type 0) (slot : ℕ → ℕ) (ix : Index) (cap : ℕ) (xs : List ℕ)
    → Room Used slot ix cap (length xs) → ((b : ℕ) → b < ix.count → get_or xs (ix.heads + b) 0 ≡ 0)
    → Pool same hash Used slot ix cap 0 xs
unfolding region
pool-none same hash Used slot ix cap xs r h = record {
  room = r;
  fit = omega arith;
  index = indexed-none (bucket_by hash ix) (tag_by hash) (place_by slot ix) ix.heads ix.count xs h;
  differ = differ-none same 0;
  used = λ e l. absurd (omega arith);
}
