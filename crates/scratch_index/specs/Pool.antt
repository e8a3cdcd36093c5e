-- A pool by keys with its index, for any test of two keys. What a test and a hash must have in common is `Alike`, one law for each pool:
-- a change of equality changes that law only.
use Rattle.std.specs.Prelude.{◌≡◌, ℕ, ◌+◌, ◌<◌, ◌≤◌, Bool, true, false, List, length, slice_index, slice_index_or}
use Rattle.scratch.specs.declared.Index.{Index}
use Rattle.scratch.specs.Places.{region}
use Rattle.scratch_index.specs.Lookup.{IndexedAt}

-- no entry is the same as one before it
pub record Differ {A : Type 0} (same : A → A → Bool) (dflt : A) (xs : List A) : Type 0 where
  pub apart : (i j : ℕ) → i < j → j < length xs → same (slice_index_or xs j dflt) (slice_index_or xs i dflt) ≡ false

-- the test is symmetric and transitive, and what is the same has the same hash, which is a word. That an entry is the same as itself is
-- asked only of one that is added: of chains it holds only where each link has a step
pub record Alike (same : ℕ → ℕ → Bool) (hash : ℕ → ℕ) : Type 0 where
  pub swap : (i j : ℕ) → same i j ≡ true → same j i ≡ true
  pub join : (i j k : ℕ) → same i j ≡ true → same j k ≡ true → same i k ≡ true
  pub hashed : (i j : ℕ) → same i j ≡ true → hash j ≡ hash i
  pub word : (k : ℕ) → hash k < 4294967296

-- keys, links and heads, one behind the other, within len words; cap is how many keys have room, and keys in use have different slots
pub record Room (Used : ℕ → Type 0) (slot : ℕ → ℕ) (ix : Index) (cap len : ℕ) : Type 0 where
  pub small : cap < 524288
  pub some : 0 < ix.count
  pub keys : ix.at + cap ≤ ix.links
  pub links : ix.links ≤ ix.heads
  pub heads : ix.heads + ix.count ≤ len
  pub slots : (k : ℕ) → Used k → ix.links + slot k < ix.heads
  pub apart : (i j : ℕ) → Used i → Used j → slot i ≡ slot j → i ≡ j

-- n entries
pub record Pool
    (same : ℕ → ℕ → Bool) (hash : ℕ → ℕ) (Used : ℕ → Type 0) (slot : ℕ → ℕ) (ix : Index) (cap n : ℕ) (xs : List ℕ)
    : Type 0 where
  pub room : Room Used slot ix cap (length xs)
  pub fit : n ≤ cap
  pub index : IndexedAt hash slot ix n xs
  pub differ : Differ same 0 (region ix.at n xs)
  pub used : (e : ℕ) → e < n → Used (slice_index (region ix.at n xs) e)
