-- Numbers that equal values of cases have in common. Cases whose numbers differ differ; of others nothing is said.
use Rattle.std.specs.Prelude.{ℕ, ◌+◌, ◌-◌, ◌*◌, true, false, List, leb, eqb, length, take, drop}
use Rattle.words.specs.Word.{byte_of, word}
use Rattle.sheet.specs.Kinds.{string_kind}
use Rattle.sheet.specs.Node.{kind, field_a, field_b}
use Rattle.sheet.specs.Text.{text}

-- of a text: its first four bytes and its last four, or the three that there are
unfoldable pub text_key : List ℕ → ℕ
text_key x =
    elim (leb 4 (length x)) [
      | false ↦ byte_of x 0 + 256 * byte_of x 1 + 65536 * byte_of x 2
      | true ↦ word x 0 + 4294967296 * word (take 4 (drop (length x - 4) x)) 0
    ]

-- of a node: its text's, or its two words
unfoldable pub value_key : List ℕ → ℕ → ℕ
value_key s v =
    elim (eqb (kind s v) string_kind) [
      | true ↦ text_key (text s (field_a s v))
      | false ↦ field_a s v + 4294967296 * field_b s v
    ]
