-- The test of a local by a text's length, as the code reads it.
use Rattle.std.specs.Prelude.{ℕ, ◌+◌, Bool, true, false, List, [], eqb, get_or, take, drop}
use Rattle.text.specs.Same.{same}
use Rattle.words.specs.Word.{word, front}
use Rattle.sheet.specs.Text.{text_start}

-- the text number of a local's name, where the locals start at word at
unfoldable pub text_by : List ℕ → ℕ → ℕ → ℕ
text_by s at left = word s (at + left)

-- its text has length n, by the lengths from word ls on, and the bytes of the name, by those from byte bs on
unfoldable pub named_by : List ℕ → List ℕ → ℕ → ℕ → ℕ → ℕ → ℕ → Bool
named_by s name n at ls bs left =
    elim (eqb (word s (ls + text_by s at left)) n) [
      | true ↦ same (take n (drop (bs + text_start s (text_by s at left)) s)) name
      | false ↦ false
    ]

-- word i of words that were cut out of the sheet, four bytes each
unfoldable pub cut_word : List (List ℕ) → ℕ → ℕ
cut_word ws i = front (get_or ws i [])

-- the same test by the text numbers of the locals' names and by the texts' lengths, both cut out of the sheet
unfoldable pub cut_by : List ℕ → List ℕ → ℕ → List (List ℕ) → List (List ℕ) → ℕ → ℕ → Bool
cut_by s name n locals lengths bs left =
    let k = cut_word locals left in
    elim (eqb (cut_word lengths k) n) [
      | true ↦ same (take n (drop (bs + text_start s k) s)) name
      | false ↦ false
    ]
