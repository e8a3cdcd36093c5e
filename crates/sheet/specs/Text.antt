-- The texts of a sheet. Text t is a part of the sheet's own text bytes.
use Rattle.std.specs.Prelude.{ℕ, ◌+◌, ◌*◌, List, take, drop}
use Rattle.words.specs.Word.{word}
use Rattle.sheet.specs.Sections.{Words, starts_at_by, lengths_at_by, bytes_at_by}

-- where text t starts among the text bytes, and its length
unfoldable pub text_start_by : Words → ℕ → ℕ
text_start_by w t = w (starts_at_by w + t)

unfoldable pub text_length_by : Words → ℕ → ℕ
text_length_by w t = w (lengths_at_by w + t)

abbrev pub text_start : List ℕ → ℕ → ℕ
text_start s t = text_start_by (word s) t

abbrev pub text_length : List ℕ → ℕ → ℕ
text_length s t = text_length_by (word s) t

-- `len` of the text bytes, from `start` on
abbrev pub bytes_by : Words → List ℕ → ℕ → ℕ → List ℕ
bytes_by w s start len = take len (drop (4 * bytes_at_by w + start) s)

-- the bytes of text t
unfoldable pub text_by : Words → List ℕ → ℕ → List ℕ
text_by w s t = bytes_by w s (text_start_by w t) (text_length_by w t)

-- of a sheet; `unfolding text` opens both
unfoldable abbrev pub text : List ℕ → ℕ → List ℕ
unfolding text_by
text s t = text_by (word s) s t
