-- Refusals 6 and 7, of a Switch: over the greatest count of blocks, cases, ranges or Refs in one case; two cases of equal kind and value.
-- Said of what reads the fields of nodes and the words, and then of a sheet.
use Rattle.std.specs.Prelude.{ℕ, zero, suc, ◌+◌, ◌-◌, ◌*◌, Bool, true, false, ◌&&◌, not, List, leb, eqb}
use Rattle.words.specs.Word.{word}
use Rattle.text.specs.Same.{same}
use Rattle.sheet.specs.Limits.{max_entries}
use Rattle.sheet.specs.Kinds.{string_kind, switch_kind}
use Rattle.sheet.specs.Sections.{Words}
use Rattle.sheet.specs.Node.{Fields, kind_at, count_at, a_at, b_at, field, child, next_by}
use Rattle.sheet.specs.Text.{text_by}
use Rattle.sheet.specs.Walk.{siblings_by, skip_by}

-- node 0 is a Switch
unfoldable pub is_switch_by : Fields → Bool
is_switch_by g = eqb (g 0 kind_at) switch_kind

-- its children before the Cases: the subject and K pairs of guard and body
abbrev pub before_cases_by : Fields → ℕ
before_cases_by g = 1 + 2 * g 0 a_at

-- its Cases
abbrev pub case_count_by : Fields → ℕ
case_count_by g = g 0 b_at

-- its Ranges are the children left
abbrev pub range_count_by : Fields → ℕ
range_count_by g = g 0 count_at - (before_cases_by g + case_count_by g)

-- the first Case, if there is one
unfoldable pub first_case_by : Fields → ℕ
unfolding skip_by
first_case_by g = skip_by g (before_cases_by g) (child 0)

-- a Case's value, then its Refs
unfoldable pub refs_by : Fields → ℕ → Bool
refs_by g j = leb (g j count_at) (1 + max_entries)

-- few blocks, Cases and Ranges
unfoldable pub counts_by : Fields → Bool
counts_by g = leb (g 0 a_at) max_entries && leb (case_count_by g) max_entries && leb (range_count_by g) max_entries

-- nothing of refusal 6
unfoldable pub entries_by : Fields → Bool
entries_by g =
    elim (is_switch_by g) [
      | false ↦ true
      | true ↦
          elim (counts_by g) [ false ↦ false | true ↦ siblings_by (refs_by g) g (case_count_by g) (first_case_by g) ]
    ]

-- nodes m and n have equal kind and value: Int by its 64 bits, Char by its number, String by its bytes
unfoldable pub same_value_by : Fields → Words → List ℕ → ℕ → ℕ → Bool
same_value_by g w s m n =
    let u = g m in
    let v = g n in
    elim (eqb (u kind_at) (v kind_at)) [
      | false ↦ false
      | true ↦
          elim (eqb (u kind_at) string_kind) [
            | true ↦ same (text_by w s (u a_at)) (text_by w s (v a_at))
            | false ↦ eqb (u a_at) (v a_at) && eqb (u b_at) (v b_at)
          ]
    ]

-- the Cases p and q differ
unfoldable pub apart_by : Fields → Words → List ℕ → ℕ → ℕ → Bool
apart_by g w s p q = not (same_value_by g w s (child p) (child q))

-- m Cases from p on differ, each from each
unfoldable pub distinct_by : Fields → Words → List ℕ → ℕ → ℕ → Bool
distinct_by g w s zero p = true
distinct_by g w s (suc m) p =
    elim (siblings_by (apart_by g w s p) g m (next_by g p)) [ true ↦ distinct_by g w s m (next_by g p) | false ↦ false ]

-- nothing of refusal 7
unfoldable pub cases_by : Fields → Words → List ℕ → Bool
cases_by g w s = elim (is_switch_by g) [ false ↦ true | true ↦ distinct_by g w s (case_count_by g) (first_case_by g) ]

-- ---- of a sheet

-- node 0 is a Switch
abbrev pub is_switch : List ℕ → Bool
is_switch s = is_switch_by (field s)

-- its children before the Cases
abbrev pub before_cases : List ℕ → ℕ
before_cases s = before_cases_by (field s)

-- its Cases
abbrev pub case_count : List ℕ → ℕ
case_count s = case_count_by (field s)

-- its Ranges
abbrev pub range_count : List ℕ → ℕ
range_count s = range_count_by (field s)

-- `unfolding first_case` opens both
unfoldable abbrev pub first_case : List ℕ → ℕ
unfolding first_case_by
first_case s = first_case_by (field s)

-- Case j has few Refs
abbrev pub refs_ok : List ℕ → ℕ → Bool
refs_ok s = refs_by (field s)

-- few blocks, Cases and Ranges
abbrev pub counts_ok : List ℕ → Bool
counts_ok s = counts_by (field s)

-- nothing of refusal 6
abbrev pub entries_ok : List ℕ → Bool
entries_ok s = entries_by (field s)

-- nodes v and w have equal kind and value
abbrev pub same_value : List ℕ → ℕ → ℕ → Bool
same_value s = same_value_by (field s) (word s) s

-- the Cases p and q differ
abbrev pub apart : List ℕ → ℕ → ℕ → Bool
apart s = apart_by (field s) (word s) s

-- m Cases from p on differ, each from each
abbrev pub distinct : List ℕ → ℕ → ℕ → Bool
distinct s = distinct_by (field s) (word s) s

-- nothing of refusal 7
abbrev pub cases_ok : List ℕ → Bool
cases_ok s = cases_by (field s) (word s) s
