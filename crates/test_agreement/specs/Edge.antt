-- What the sheets of Refused10 and Refused11 share: their ranges, and a total with the tallies of two guards told beforehand.
use Rattle.std.specs.Prelude.{ℕ, zero, suc, ◌+◌, ◌^◌, false, List, [], ◌∷◌}
use Rattle.sheet.specs.Limits.{max_depth}
use Rattle.switch_split.specs.Range.{Range, range}
use Rattle.expr_count.specs.declared.tallies.Tally.{Tally}
use Rattle.expr_count.specs.Count.{Rec, tally}
use Rattle.switch_count.specs.Told.{told}

-- range i goes from i up to i + 33, in excess form
abbrev step : ℕ → ℕ → Range
step i block = range (2 ^ 63 + i) (2 ^ 63 + i + 33) false block

-- n ranges from range i on
abbrev steps : ℕ → ℕ → List Range
steps zero i = []
steps (suc n) i = step i 0 ∷ steps n (suc i)

-- 33 ranges, the first of them with block 1
unfoldable pub stairs : List Range
stairs = step 0 1 ∷ steps 32 1

-- the tallies of the nodes g and h
unfoldable pub both_told : List ℕ → ℕ → ℕ → Tally → Tally → Rec
unfolding told
both_told s g h a b = told h b (told g a (tally max_depth s))
