-- The rows of document 01 on ranges, as one table with one theorem: the split of each list of ranges is the row's list of entries.
use Rattle.std.specs.Prelude.{ℕ, Bool, true, false, List, [], ◌∷◌}
use Rattle.switch_split.specs.Excess.{excess}
use Rattle.switch_split.specs.Range.{Range, range}
use Rattle.switch_split.specs.Split.{Entry}

-- the small number n, the least and the greatest integer
unfoldable pub small : ℕ → ℕ
small n = excess n 0

unfoldable pub least : ℕ
least = excess 0 0x8000_0000

unfoldable pub greatest : ℕ
greatest = excess 0xFFFF_FFFF 0x7FFF_FFFF

-- an entry from a to b with the blocks ks
unfoldable pub entry : ℕ → ℕ → Bool → List ℕ → Entry
entry a b i ks = record { from = a; to = b; inclusive = i; blocks = ks }

pub record Row : Type 0 where
  pub ranges : List Range
  pub entries : List Entry

unfoldable pub rows : List Row
rows =
    record {
      ranges = range (small 0) (small 0) true 0 ∷ range (small 0) (small 255) true 1 ∷ [];
      entries = entry (small 0) (small 0) true (0 ∷ 1 ∷ []) ∷ entry (small 0) (small 255) true (1 ∷ []) ∷ [];
    }
    ∷ record { ranges = range (small 5) (small 5) false 0 ∷ range (small 9) (small 3) true 1 ∷ []; entries = [] }
    ∷ record { ranges = range least greatest true 0 ∷ []; entries = entry least greatest true (0 ∷ []) ∷ [] }
    ∷ record {
      ranges = range (small 4) (small 6) false 0 ∷ range (small 5) (small 6) true 1 ∷ [];
      entries =
          entry (small 4) (small 5) false (0 ∷ [])
          ∷ entry (small 5) (small 6) false (0 ∷ 1 ∷ [])
          ∷ entry (small 6) (small 6) true (1 ∷ [])
          ∷ [];
    }
    ∷ []
