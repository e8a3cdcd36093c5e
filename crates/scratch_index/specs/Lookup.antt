-- A search as a contract: where the index holds, the first key that passes a test is found. `hash` and `slot` are functions of the keys,
-- n of which stand from `ix.at` on.
use Rattle.std.specs.Prelude.{◌≡◌, ℕ, ◌+◌, ◌<◌, ◌≤◌, Bool, true, false, Option, Some, List, length, ◌==◌, slice_index}
use Rattle.std.specs.Option.{unwrap_or}
use Rattle.lowering.specs.Pools.{first_where}
use Rattle.scratch.specs.declared.Index.{Index}
use Rattle.scratch.specs.Places.{region}
use Rattle.scratch_index.specs.Indexed.{Indexed}
use Rattle.scratch_index.specs.Table.{bucket_of, tag_of, link_at}

-- the bucket, the tag and the link's place of a key
abbrev pub bucket_by : (ℕ → ℕ) → Index → ℕ → ℕ
bucket_by hash ix k = bucket_of ix.count (hash k)

abbrev pub tag_by : (ℕ → ℕ) → ℕ → ℕ
tag_by hash k = tag_of (hash k)

abbrev pub place_by : (ℕ → ℕ) → Index → ℕ → ℕ
place_by slot ix k = link_at ix (slot k)

-- the index of n keys
abbrev pub IndexedAt : (ℕ → ℕ) → (ℕ → ℕ) → Index → ℕ → List ℕ → Type 0
IndexedAt hash slot ix n xs =
    Indexed (bucket_by hash ix) (tag_by hash) (place_by slot ix) ix.heads ix.count (region ix.at n xs) xs

-- at most one key passes
pub record Once (P : ℕ → Bool) (ks : List ℕ) : Type 0 where
  pub once : (i j : ℕ) → i < length ks → j < length ks → P (slice_index ks i) ≡ true → P (slice_index ks j) ≡ true → i ≡ j

-- what a search for what passes P, with hash h, needs
pub record Sought (P : ℕ → Bool) (hash slot : ℕ → ℕ) (ix : Index) (n h : ℕ) (xs : List ℕ) : Type 0 where
  pub room : ix.at + n ≤ length xs
  pub few : n < 524288
  pub some : 0 < ix.count
  pub index : IndexedAt hash slot ix n xs
  pub once : Once P (region ix.at n xs)
  pub agrees : (k : ℕ) → P k ≡ true → hash k ≡ h

-- the answer r
pub record Finds (P : ℕ → Bool) (hash slot : ℕ → ℕ) (ix : Index) (n h : ℕ) (xs : List ℕ) (r : ℕ) : Type 0 where
  pub found : Sought P hash slot ix n h xs → r ≡ first_where P (region ix.at n xs)

-- the answer o, if there is one: it is below n
pub record Seeks (P : ℕ → Bool) (hash slot : ℕ → ℕ) (ix : Index) (n h : ℕ) (xs : List ℕ) (o : Option ℕ) : Type 0 where
  pub found : Finds P hash slot ix n h xs (unwrap_or o n)
  pub there : Sought P hash slot ix n h xs → (r : ℕ) → o ≡ Some r → r < n

-- an entry is the one: the tag is looked at first
unfoldable pub hit_by : ℕ → ℕ → Bool → Bool
hit_by v tag p = elim (v == tag) [ true ↦ p | false ↦ false ]
