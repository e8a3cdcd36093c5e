-- Refusal 4: a text or block number that does not exist. Said of what reads the fields of nodes and the words, and then of a sheet.
use Rattle.std.specs.Prelude.{ℕ, Bool, ◌&&◌, ◌||◌, not, List, leb, ltb, eqb}
use Rattle.words.specs.Word.{word}
use Rattle.words.specs.Count.{all_below}
use Rattle.sheet.specs.Kinds.{string_kind, variable_kind, property_kind, method_call_kind, fn_call_kind, switch_kind, range_kind, ref_kind}
use Rattle.sheet.specs.Sections.{Words, node_count_by, text_count_by, local_count_by, text_count}
use Rattle.sheet.specs.Node.{Fields, kind_at, a_at, b_at, c_at, namespace_at, field, field_a, local_text_by}

-- the kinds whose a is a text: String, Variable, Property, MethodCall, FnCall
unfoldable pub names_text : ℕ → Bool
names_text k = eqb k string_kind || eqb k variable_kind || eqb k property_kind || eqb k method_call_kind || eqb k fn_call_kind

-- of a node of kind k with fields a, b and c and the namespace's word x, among X texts and K blocks: the namespace's text plus 1, the
-- name, a Property's getter and setter, a Switch's default block plus 1, a Range's block and a Ref's block exist
unfoldable pub exist : ℕ → ℕ → ℕ → ℕ → ℕ → ℕ → ℕ → Bool
exist X K k a b c x =
    leb x X
    && (not (names_text k) || ltb a X)
    && (not (eqb k property_kind) || (ltb b X && ltb c X))
    && (not (eqb k switch_kind) || leb c K)
    && (not (eqb k range_kind) || ltb b K)
    && (not (eqb k ref_kind) || ltb a K)

-- the numbers in node n exist, among X texts and K blocks
unfoldable pub number_by : Fields → ℕ → ℕ → ℕ → Bool
number_by g X K n = let v = g n in exist X K (v kind_at) (v a_at) (v b_at) (v c_at) (v namespace_at)

-- the name of local l exists
unfoldable pub local_by : Words → ℕ → Bool
local_by w l = ltb (local_text_by w l) (text_count_by w)

-- those of all nodes; the blocks are those of the Switch at node 0
unfoldable pub node_numbers_by : Fields → Words → Bool
node_numbers_by g w =
    let X = text_count_by w in
    let K = g 0 a_at in
    all_below (node_count_by w) (number_by g X K)

-- those of all locals
unfoldable pub locals_by : Words → Bool
locals_by w = all_below (local_count_by w) (local_by w)

-- nothing of refusal 4
unfoldable pub numbers_by : Fields → Words → Bool
numbers_by g w = node_numbers_by g w && locals_by w

-- ---- of a sheet

-- K, the blocks of the Switch at node 0
abbrev pub block_count : List ℕ → ℕ
block_count s = field_a s 0

-- the numbers in node n exist, among X texts and K blocks
abbrev pub number_among : List ℕ → ℕ → ℕ → ℕ → Bool
number_among s = number_by (field s)

-- among those of the sheet
abbrev pub number_ok : List ℕ → ℕ → Bool
number_ok s = number_among s (text_count s) (block_count s)

-- the name of local l exists
abbrev pub local_ok : List ℕ → ℕ → Bool
local_ok s = local_by (word s)

-- the numbers in all nodes exist
abbrev pub node_numbers_ok : List ℕ → Bool
node_numbers_ok s = node_numbers_by (field s) (word s)

-- the names of all locals exist
abbrev pub locals_ok : List ℕ → Bool
locals_ok s = locals_by (word s)

-- nothing of refusal 4
abbrev pub numbers_ok : List ℕ → Bool
numbers_ok s = numbers_by (field s) (word s)
