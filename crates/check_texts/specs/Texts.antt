-- Refusal 3: a text outside its bytes, or malformed. It covers every text of a sheet, used or not. Said of what reads the words, and then
-- of a sheet.
use Rattle.std.specs.Prelude.{ℕ, ◌+◌, Bool, true, false, List, leb}
use Rattle.words.specs.Word.{word}
use Rattle.words.specs.Count.{all_below}
use Rattle.text.specs.Utf8.{utf8}
use Rattle.sheet.specs.Sections.{Words, text_count_by, byte_count_by}
use Rattle.sheet.specs.Text.{text_start_by, text_length_by, bytes_by}

-- text t lies within the B text bytes, and is well-formed UTF-8
unfoldable pub text_ok_by : Words → List ℕ → ℕ → Bool
text_ok_by w s t =
    let start = text_start_by w t in
    let len = text_length_by w t in
    elim (leb (start + len) (byte_count_by w)) [ true ↦ utf8 (bytes_by w s start len) | false ↦ false ]

-- so is every text
unfoldable pub texts_by : Words → List ℕ → Bool
texts_by w s = all_below (text_count_by w) (text_ok_by w s)

-- ---- of a sheet

-- text t is right
abbrev pub text_ok : List ℕ → ℕ → Bool
text_ok s = text_ok_by (word s) s

-- nothing of refusal 3
abbrev pub texts_ok : List ℕ → Bool
texts_ok s = texts_by (word s) s
