-- Memos: pairs (number + 1, answer), all of which are true. A name without mark has a number: its text, and its namespace above it.
use Rattle.std.specs.Prelude.{◌≡◌, ℕ, ◌+◌, ◌*◌, ◌/◌, ◌%◌, ◌<◌, ◌==◌, Bool, true, false, leb, Option, Some, None, List, length, slice_index}
use Rattle.std.specs.Prelude.{slice_set}
use Rattle.sheet.specs.Limits.{max_texts}
use Rattle.lowering.specs.Pools.{Name, first_where, same_name}
use Rattle.scratch.specs.Places.{memo_pairs}

-- from place ms on; `Right t p` says that p is the answer for number t
pub record Told (Right : ℕ → ℕ → Type 0) (ms : ℕ) (xs : List ℕ) : Type 0 where
  pub told : (i t : ℕ) → i < memo_pairs → slice_index xs (ms + 2 * i) ≡ t + 1 → Right t (slice_index xs (ms + 2 * i + 1))

-- the name with number u
abbrev pub numbered : ℕ → Name
numbered u = record { text = u % max_texts; mark = 0; namespace = u / max_texts }

-- the number of the name with text t, a mark where m says, in namespace w: none with a mark, or where the two have no room in a word, as the
-- last text has none as a namespace
unfoldable pub number_by : ℕ → Bool → ℕ → Option ℕ
number_by t m w =
    elim m [
      | true ↦ None
      | false ↦
          elim (leb max_texts t) [
            | true ↦ None
            | false ↦ elim (leb max_texts w) [ true ↦ None | false ↦ Some (t + max_texts * w) ]
          ]
    ]

-- which memo is that of number t, and where it stands
abbrev pub memo_of : ℕ → ℕ
memo_of t = (t + t / max_texts * 37) % memo_pairs

abbrev pub memo_at : ℕ → ℕ → ℕ
memo_at ms t = ms + 2 * memo_of t

-- what is told of number t, if anything is
unfoldable pub recalled : ℕ → ℕ → List ℕ → Option ℕ
recalled ms t xs =
    elim (slice_index xs (memo_at ms t) == t + 1) [ true ↦ Some (slice_index xs (memo_at ms t + 1)) | false ↦ None ]

-- what is told of a name, by its number
unfoldable pub told_by : ℕ → Option ℕ → List ℕ → Option ℕ
told_by ms None xs = None
told_by ms (Some t) xs = recalled ms t xs

-- number t has answer p
unfoldable pub remembered : ℕ → ℕ → ℕ → List ℕ → List ℕ
remembered ms t p xs = slice_set (slice_set xs (memo_at ms t) ((t + 1) % 4294967296)) (memo_at ms t + 1) p

-- the name with number t stands at place p
pub record NameAt (s : List ℕ) (ns : List Name) (t p : ℕ) : Type 0 where
  pub place : p ≡ first_where (same_name s (numbered t)) ns
  pub found : p < length ns
