-- The nodes of a sheet. A node is kind, span (the nodes of its subtree), count (its children), a, b, c, namespace (its text plus 1, or 0)
-- and the namespace's position; its children follow it in order.
-- Node numbers are 32-bit words, so the next sibling's number is taken modulo 2 ^ 32; in a sheet of the right shape nothing wraps.
use Rattle.std.specs.Prelude.{ℕ, ◌+◌, ◌*◌, ◌%◌, List}
use Rattle.words.specs.Word.{word}
use Rattle.sheet.specs.Limits.{header_words, node_words, word_range}
use Rattle.sheet.specs.Sections.{Words, positions_at, locals_at_by}

-- what reads word f of node n
abbrev pub Fields : Type 0
Fields = ℕ → ℕ → ℕ

-- which word of a node is which
abbrev pub kind_at : ℕ
kind_at = 0

abbrev pub span_at : ℕ
span_at = 1

abbrev pub count_at : ℕ
count_at = 2

abbrev pub a_at : ℕ
a_at = 3

abbrev pub b_at : ℕ
b_at = 4

abbrev pub c_at : ℕ
c_at = 5

abbrev pub namespace_at : ℕ
namespace_at = 6

abbrev pub namespace_pos_at : ℕ
namespace_pos_at = 7

-- word f of node n
unfoldable pub field : List ℕ → ℕ → ℕ → ℕ
field s n f = word s (header_words + node_words * n + f)

abbrev pub kind : List ℕ → ℕ → ℕ
kind s n = field s n kind_at

abbrev pub span : List ℕ → ℕ → ℕ
span s n = field s n span_at

abbrev pub count : List ℕ → ℕ → ℕ
count s n = field s n count_at

abbrev pub field_a : List ℕ → ℕ → ℕ
field_a s n = field s n a_at

abbrev pub field_b : List ℕ → ℕ → ℕ
field_b s n = field s n b_at

abbrev pub field_c : List ℕ → ℕ → ℕ
field_c s n = field s n c_at

-- the namespace's text plus 1, or 0; `namespace` (Namespace) says which of them count
abbrev pub namespace_word : List ℕ → ℕ → ℕ
namespace_word s n = field s n namespace_at

abbrev pub namespace_pos : List ℕ → ℕ → ℕ
namespace_pos s n = field s n namespace_pos_at

-- the position of node n: line times 65,536, plus column
unfoldable pub position : List ℕ → ℕ → ℕ
position s n = word s (positions_at s + n)

-- the text number of local l
unfoldable pub local_text_by : Words → ℕ → ℕ
local_text_by w l = w (locals_at_by w + l)

-- of a sheet; `unfolding local_text` opens both
unfoldable abbrev pub local_text : List ℕ → ℕ → ℕ
unfolding local_text_by
local_text s l = local_text_by (word s) l

-- the first child of n, if it has one
unfoldable pub child : ℕ → ℕ
child n = (n + 1) % word_range

-- the sibling after n
unfoldable pub next_by : Fields → ℕ → ℕ
next_by g n = (n + g n span_at) % word_range

-- of a sheet
abbrev pub next : List ℕ → ℕ → ℕ
next s n = next_by (field s) n
