-- Heads in the flat table: a column of them, each with a list that a key gives, and a column with the hashes of those lists.
use Rattle.std.specs.Prelude.{ℕ, ◌+◌, ◌<◌, ◌≡◌, Bool, ◌&&◌, eqb, List, map, set}
use Rattle.text.specs.Same.{same}
use Rattle.switch_tables.specs.Columns.{cell, column}
use Rattle.switch_tables.specs.Hash.{hash_of}
use Rattle.switch_tables.specs.Numbers.{number_in}

-- the lists of the first n heads
abbrev pub lists_by : (ℕ → List ℕ) → List ℕ → ℕ → ℕ → List (List ℕ)
lists_by key w at n = map key (column w at n)

-- their hashes are right
pub record Hashed (key : ℕ → List ℕ) (w : List ℕ) (at hashes n : ℕ) : Type 0 where
  pub hash_at : (q : ℕ) → q < n → cell w (hashes + q) ≡ hash_of (key (cell w (at + q)))

-- head q has the hash h and the list l
unfoldable pub met_at : (ℕ → List ℕ) → List ℕ → ℕ → ℕ → List ℕ → ℕ → ℕ → Bool
met_at key w at hashes l h q = eqb (cell w (hashes + q)) h && same l (key (cell w (at + q)))

-- list i, that of k, gets its number in the table w, which has so many heads: the table v, and how many heads there are then. Where no head
-- has its list, it is one more
pub data Numbered (key : ℕ → List ℕ) (numbers at hashes : ℕ) (w : List ℕ) (heads i k : ℕ) (v : List ℕ) (most : ℕ) : Type 0 where
  met : (q : ℕ) → q ≡ number_in (key k) (lists_by key w at heads) → q < heads → v ≡ set w (numbers + i) q → most ≡ heads
      → Numbered key numbers at hashes w heads i k v most
  first : heads ≡ number_in (key k) (lists_by key w at heads)
      → v ≡ set (set (set w (numbers + i) heads) (at + heads) k) (hashes + heads) (hash_of (key k)) → most ≡ heads + 1
      → Numbered key numbers at hashes w heads i k v most
