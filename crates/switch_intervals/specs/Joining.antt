-- One step of the loop that joins pieces to bands, in the table. Definitions; assume nothing.
use Rattle.std.specs.Prelude.{ℕ, ◌+◌, ◌-◌, ◌<◌, ◌≡◌, Bool, true, false, List, [], ltb, set, Option, None, Some}
use Rattle.text.specs.Same.{same}
use Rattle.switch_tables.specs.Columns.{band_first_at, band_last_at, band_hash_at}
use Rattle.switch_tables.specs.Hash.{hash_of}
use Rattle.switch_tables.specs.Table.{piece_in}

-- the band from piece `band` on ends before piece i, if it is open there: the table then, and how many bands there are
unfoldable pub closed_in : List ℕ → ℕ → ℕ → ℕ → List ℕ
closed_in w n band i = elim (ltb band i) [ true ↦ set (set w (band_first_at + n) band) (band_last_at + n) (i - 1) | false ↦ w ]

unfoldable pub closed_count : ℕ → ℕ → ℕ → ℕ
closed_count n band i = elim (ltb band i) [ true ↦ n + 1 | false ↦ n ]

-- piece i has the list of the band that is open
abbrev pub GoesOn : List ℕ → ℕ → ℕ → Type 0
GoesOn w band i = (band < i) × (piece_in w i ≡ piece_in w band)

-- piece i comes behind n bands: the table v, the bands k, and the piece `next` from which one is open then
pub data Stepped (w : List ℕ) (n band i : ℕ) (v : List ℕ) (k next : ℕ) : Type 0 where
  stayed : GoesOn w band i → v ≡ w → k ≡ n → next ≡ band → Stepped w n band i v k next
  ended : (GoesOn w band i → ⊥) → piece_in w i ≡ [] → v ≡ closed_in w n band i → k ≡ closed_count n band i → next ≡ i + 1
      → Stepped w n band i v k next
  opened : (GoesOn w band i → ⊥) → (piece_in w i ≡ [] → ⊥)
      → v ≡ set (closed_in w n band i) (band_hash_at + closed_count n band i) (hash_of (piece_in w i)) → k ≡ closed_count n band i → next ≡ i
      → Stepped w n band i v k next

-- a list is that of the piece from which a band is open
unfoldable pub goes : List ℕ → Option ℕ → List ℕ → Bool
goes w None l = false
goes w (Some b) l = same l (piece_in w b)
