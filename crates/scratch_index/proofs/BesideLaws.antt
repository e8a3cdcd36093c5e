-- Other words change: a pool and its index stay where none of their words is written (`Outside`), for one word and for the three words that
-- another pool's new entry takes. And a pool stays where the hash of each of its keys does.
use Rattle.std.proofs.Common.{◌≡◌, ℕ, ◌+◌, ◌<◌, ◌≤◌, Bool, List, length, get_or, set, sym, ap, ◌∙◌, subst, ap₂, arith, length-set}
use Rattle.scratch.specs.declared.Index.{Index}
use Rattle.scratch.specs.Places.{region}
use Rattle.scratch.proofs.RegionLaws.{region-off}
use Rattle.scratch_index.specs.Prev.{prev}
use Rattle.scratch_index.specs.Indexed.{ranked, Indexed}
use Rattle.scratch_index.specs.Table.{bucket_of, tag_of, link_of, noted_by}
use Rattle.scratch_index.specs.Lookup.{bucket_by, tag_by, place_by}
use Rattle.scratch_index.specs.Pool.{Differ, Pool, Room}
use Rattle.scratch_index.proofs.PrevLaws.{prev-alike}
use Rattle.scratch_index.proofs.IndexedLaws.{indexed-set}
use Rattle.scratch_index.proofs.PoolLaws.{pool-length}

-- word i is none of the pool's
pub record Outside (Used : ℕ → Type 0) (slot : ℕ → ℕ) (ix : Index) (cap i : ℕ) : Type 0 where
  pub off-keys : (e : ℕ) → e < cap → ix.at + e ≡ i → ⊥
  pub off-heads : (b : ℕ) → b < ix.count → ix.heads + b ≡ i → ⊥
  pub off-slots : (k : ℕ) → Used k → ix.links + slot k ≡ i → ⊥

module _ {same : ℕ → ℕ → Bool} {hash : ℕ → ℕ} {Used : ℕ → Type 0} {slot : ℕ → ℕ} {ix : Index} {cap n : ℕ} where
  -- the keys are the same
  pub region-beside :
      {xs : List ℕ} → Pool same hash Used slot ix cap n xs → (i v : ℕ) → Outside Used slot ix cap i
      → region ix.at n (set xs i v) ≡ region ix.at n xs
  region-beside {xs} p i v o =
      let f = p.fit in
      region-off ix.at n i v xs (λ e l q. o.off-keys e (omega arith) q)

  -- one word
  pub pool-beside :
      {xs : List ℕ} → Pool same hash Used slot ix cap n xs → (i v : ℕ) → Outside Used slot ix cap i
      → Pool same hash Used slot ix cap n (set xs i v)
  pool-beside {xs} p i v o =
      let m = pool-length p in
      let keys = region-beside p i v o in
      let kept =
      indexed-set p.index i v o.off-heads
      (λ e l q. o.off-slots (get_or (region ix.at n xs) e 0) (p.used e (omega arith)) q) in
      record {
        room = subst (Room Used slot ix cap) (sym (length-set xs i v)) p.room;
        fit = p.fit;
        index =
            subst
            (λ (ks : List ℕ). Indexed (bucket_by hash ix) (tag_by hash) (place_by slot ix) ix.heads ix.count ks (set xs i v))
            (sym keys) kept;
        differ = subst (Differ same 0) (sym keys) p.differ;
        used = λ e l. subst (λ (ks : List ℕ). Used (get_or ks e 0)) (sym keys) (p.used e l);
      }

  -- a new entry of another pool: its key, its link and its head
  module _
      {xs : List ℕ} (p : Pool same hash Used slot ix cap n xs) (at j head link tag e : ℕ) (a : Outside Used slot ix cap at)
      (h : Outside Used slot ix cap head) (l : Outside Used slot ix cap link)
    where
      pub pool-other : Pool same hash Used slot ix cap n (noted_by head link tag e (set xs at j))
      unfolding noted_by
      pool-other = pool-beside (pool-beside (pool-beside p at j a) link _ l) head _ h

  -- another hash that is the same of all keys
  module _
      (more : ℕ → ℕ) {xs : List ℕ} (p : Pool same hash Used slot ix cap n xs)
      (stays : (e : ℕ) → e < n → more (get_or (region ix.at n xs) e 0) ≡ hash (get_or (region ix.at n xs) e 0))
    where
      buckets :
          (m b : ℕ) → m ≤ n
          → prev (ranked (bucket_by hash ix) (region ix.at n xs)) m b ≡ prev (ranked (bucket_by more ix) (region ix.at n xs)) m b
      buckets m b l =
          prev-alike (ranked (bucket_by hash ix) (region ix.at n xs)) (ranked (bucket_by more ix) (region ix.at n xs)) m b
          (λ e h. ap (bucket_of ix.count) (sym (stays e (omega arith))))

      pub pool-rehashed : Pool same more Used slot ix cap n xs
      pool-rehashed =
          let ks = region ix.at n xs in
          let m = pool-length p in
          record {
            room = p.room;
            fit = p.fit;
            index = record {
              heads = λ b l. p.index.heads b l ∙ buckets (length ks) b (omega arith);
              links = λ e l.
                  p.index.links e l
                  ∙ ap₂ link_of
                  (buckets e (bucket_by hash ix (get_or ks e 0)) (omega arith)
                  ∙ ap (λ (h : ℕ). prev (ranked (bucket_by more ix) ks) e (bucket_of ix.count h)) (sym (stays e (omega arith))))
                  (ap tag_of (sym (stays e (omega arith))));
              low = p.index.low;
            };
            differ = p.differ;
            used = p.used;
          }
