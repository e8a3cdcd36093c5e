-- The index of a pool in the words xs: a head for each bucket, and for each entry a link at the place of its key. Buckets, tags and
-- places are functions of the keys.
use Rattle.std.specs.Prelude.{◌≡◌, ℕ, ◌+◌, ◌<◌, List, length, slice_index}
use Rattle.scratch_index.specs.Prev.{prev}
use Rattle.scratch_index.specs.Table.{link_of}

-- the bucket of an entry by its rank
abbrev pub ranked : (ℕ → ℕ) → List ℕ → ℕ → ℕ
ranked bucket ks e = bucket (slice_index ks e)

-- of the keys ks, with H heads from hs on
pub record Indexed (bucket tag place : ℕ → ℕ) (hs H : ℕ) (ks xs : List ℕ) : Type 0 where
  pub heads : (b : ℕ) → b < H → slice_index xs (hs + b) ≡ prev (ranked bucket ks) (length ks) b
  pub links :
      (e : ℕ) → e < length ks
      → slice_index xs (place (slice_index ks e)) ≡ link_of (prev (ranked bucket ks) e (bucket (slice_index ks e))) (tag (slice_index ks e))
  pub low : (e : ℕ) → e < length ks → place (slice_index ks e) < hs
