-- Refusal 8: a kind that is known only to be refused; an FnCall `curry` with over one argument. Said of what reads the fields of nodes and
-- the words, and then of a sheet.
use Rattle.std.specs.Prelude.{ℕ, Bool, true, false, ◌&&◌, not, List, leb, ltb, eqb}
use Rattle.words.specs.Word.{word}
use Rattle.words.specs.Count.{all_below}
use Rattle.text.specs.Keyword.{is_curry}
use Rattle.sheet.specs.Kinds.{fn_call_kind, map_kind, last_kind}
use Rattle.sheet.specs.Sections.{Words, node_count_by}
use Rattle.sheet.specs.Node.{Fields, kind_at, count_at, a_at, field, kind, count, field_a}
use Rattle.sheet.specs.Text.{text_by}

-- Map, block, DynamicConstant
unfoldable pub refused_kind : ℕ → Bool
refused_kind k = leb map_kind k && leb k last_kind

-- a node of kind k with m children is an FnCall `curry`, named by text a, that binds more than its function pointer
unfoldable pub long_curry_by : Words → List ℕ → ℕ → ℕ → ℕ → Bool
long_curry_by w s k m a = elim (eqb k fn_call_kind && ltb 1 m) [ true ↦ is_curry (text_by w s a) | false ↦ false ]

-- node n is neither
unfoldable pub supported_by : Fields → Words → List ℕ → ℕ → Bool
supported_by g w s n =
    let v = g n in
    let k = v kind_at in
    not (refused_kind k) && not (long_curry_by w s k (v count_at) (v a_at))

-- nothing of refusal 8
unfoldable pub support_by : Fields → Words → List ℕ → Bool
support_by g w s = all_below (node_count_by w) (supported_by g w s)

-- ---- of a sheet

-- node n is an FnCall `curry` that binds more than its function pointer
abbrev pub long_curry : List ℕ → ℕ → Bool
long_curry s n = long_curry_by (word s) s (kind s n) (count s n) (field_a s n)

-- node n can be lowered
abbrev pub supported : List ℕ → ℕ → Bool
supported s = supported_by (field s) (word s) s

-- nothing of refusal 8
abbrev pub supported_ok : List ℕ → Bool
supported_ok s = support_by (field s) (word s) s
