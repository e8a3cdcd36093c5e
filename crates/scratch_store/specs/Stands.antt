-- An entry that is looked for in a pool, and put behind the others where it does not stand: from the words xs and n entries to the words ys
-- and m entries, with the answer r.
use Rattle.std.specs.Prelude.{◌≡◌, ℕ, ◌+◌, ◌%◌, ◌⊎◌, Bool, Some, None, List, slice_set}
use Rattle.scratch.specs.declared.Index.{Index}
use Rattle.scratch_index.specs.Table.{head_at, link_at, tag_of, noted_by}
use Rattle.scratch_index.specs.Lookup.{Seeks}

-- it stands
pub record Stood (P : ℕ → Bool) (hash slot : ℕ → ℕ) (ix : Index) (h : ℕ) (xs : List ℕ) (n : ℕ) (ys : List ℕ) (m r : ℕ) : Type 0 where
  pub seeks : Seeks P hash slot ix n h xs (Some r)
  pub words : ys ≡ xs
  pub count : m ≡ n

-- it is put there with key k
pub record Placed (P : ℕ → Bool) (hash slot : ℕ → ℕ) (ix : Index) (k h : ℕ) (xs : List ℕ) (n : ℕ) (ys : List ℕ) (m r : ℕ) : Type 0 where
  pub seeks : Seeks P hash slot ix n h xs None
  pub words : ys ≡ noted_by (head_at ix h) (link_at ix (slot k)) (tag_of h) n (slice_set xs (ix.at + n) k)
  pub count : m ≡ (n + 1) % 4294967296
  pub place : r ≡ n

abbrev pub Stands : (ℕ → Bool) → (ℕ → ℕ) → (ℕ → ℕ) → Index → ℕ → ℕ → List ℕ → ℕ → List ℕ → ℕ → ℕ → Type 0
Stands P hash slot ix k h xs n ys m r = Stood P hash slot ix h xs n ys m r ⊎ Placed P hash slot ix k h xs n ys m r
