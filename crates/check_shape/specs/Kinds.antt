-- What each node kind may hold: its count of children, its fields, and the kinds of its children.
use Rattle.std.specs.Prelude.{ℕ, ◌+◌, ◌*◌, Bool, true, false, ◌&&◌, ◌||◌, List, [], ◌∷◌, leb, ltb, eqb, get_or}
use Rattle.sheet.specs.Kinds.{bool_kind, int_kind, char_kind, string_kind, coalesce_kind, switch_kind, case_kind, range_kind, ref_kind}
use Rattle.sheet.specs.Kinds.{map_kind, last_kind}

-- any 32-bit word
abbrev pub any : ℕ
any = 0xffff_ffff

-- For each kind from 0 on: the least and the greatest count of children, and the greatest a, b and c. Kind 0 is no kind.
abbrev pub bounds : List ℕ
bounds =
    1 ∷ 0 ∷ 0 ∷ 0 ∷ 0
    ∷ 0 ∷ 0 ∷ 1 ∷ 0 ∷ 0  -- 1 Bool
    ∷ 0 ∷ 0 ∷ 0 ∷ 0 ∷ 0  -- 2 Unit
    ∷ 0 ∷ 0 ∷ any ∷ any ∷ 0  -- 3 Int
    ∷ 0 ∷ 0 ∷ any ∷ any ∷ 0  -- 4 Float
    ∷ 0 ∷ 0 ∷ any ∷ 0 ∷ 0  -- 5 Char
    ∷ 0 ∷ 0 ∷ any ∷ 0 ∷ 0  -- 6 String
    ∷ 0 ∷ any ∷ 0 ∷ 0 ∷ 0  -- 7 Interpolated
    ∷ 0 ∷ any ∷ 0 ∷ 0 ∷ 0  -- 8 Array
    ∷ 0 ∷ 0 ∷ any ∷ 0 ∷ 0  -- 9 Variable
    ∷ 0 ∷ 0 ∷ 0 ∷ 0 ∷ 0  -- 10 This
    ∷ 0 ∷ 0 ∷ any ∷ any ∷ any  -- 11 Property
    ∷ 0 ∷ any ∷ any ∷ 0 ∷ 0  -- 12 MethodCall
    ∷ 0 ∷ any ∷ any ∷ 1 ∷ 65535  -- 13 FnCall
    ∷ 2 ∷ 2 ∷ 3 ∷ 0 ∷ 0  -- 14 Dot
    ∷ 2 ∷ 2 ∷ 3 ∷ 0 ∷ 0  -- 15 Index
    ∷ 1 ∷ any ∷ 0 ∷ 0 ∷ 0  -- 16 And
    ∷ 1 ∷ any ∷ 0 ∷ 0 ∷ 0  -- 17 Or
    ∷ 1 ∷ any ∷ 0 ∷ 0 ∷ 0  -- 18 Coalesce
    ∷ 1 ∷ any ∷ any ∷ any ∷ any  -- 19 Switch
    ∷ 1 ∷ any ∷ 0 ∷ 0 ∷ 0  -- 20 Case
    ∷ 2 ∷ 2 ∷ 1 ∷ any ∷ 0  -- 21 Range
    ∷ 0 ∷ 0 ∷ any ∷ 0 ∷ 0  -- 22 Ref
    ∷ 0 ∷ 0 ∷ 0 ∷ 0 ∷ 0  -- 23 Map
    ∷ 0 ∷ 0 ∷ 0 ∷ 0 ∷ 0  -- 24 block
    ∷ 0 ∷ 0 ∷ 0 ∷ 0 ∷ 0  -- 25 DynamicConstant
    ∷ []

-- what reads bound f of kind k
abbrev pub Bounds : Type 0
Bounds = ℕ → ℕ → ℕ

-- the bounds of a kind, and which is which
abbrev pub bound_words : ℕ
bound_words = 5

abbrev pub least_count : ℕ
least_count = 0

abbrev pub most_count : ℕ
most_count = 1

abbrev pub most_a : ℕ
most_a = 2

abbrev pub most_b : ℕ
most_b = 3

abbrev pub most_c : ℕ
most_c = 4

-- bound f of kind k
unfoldable pub bound : ℕ → ℕ → ℕ
bound k f = get_or bounds (bound_words * k + f) 0

-- a Unicode scalar value
unfoldable pub scalar : ℕ → Bool
scalar x = ltb x 0xd800 || (ltb 0xdfff x && ltb x 0x11_0000)

-- a kind that may stand where an expression is wanted
unfoldable pub expression : ℕ → Bool
expression k = (leb bool_kind k && leb k coalesce_kind) || (leb map_kind k && leb k last_kind)

-- a kind that may be a Case's value: Int, Char or String
unfoldable pub case_value : ℕ → Bool
case_value k = eqb k int_kind || eqb k char_kind || eqb k string_kind

-- in a Switch of K blocks and b cases: the subject, K pairs of guard and body, then the Cases, then the Ranges
unfoldable pub switch_child : ℕ → ℕ → ℕ → ℕ → Bool
switch_child K b i k =
    elim (leb i (2 * K)) [
      | true ↦ expression k
      | false ↦
          elim (leb i (2 * K + b)) [ true ↦ eqb k case_kind | false ↦ eqb k range_kind ]
    ]

-- in a Case: its value, then Refs
unfoldable pub case_child : ℕ → ℕ → Bool
case_child i k = elim (eqb i 0) [ true ↦ case_value k | false ↦ eqb k ref_kind ]

-- kind k may stand as child i of a node of kind p whose fields are a and b
unfoldable pub child_kind : ℕ → ℕ → ℕ → ℕ → ℕ → Bool
child_kind p a b i k =
    elim (eqb p switch_kind) [
      | true ↦ switch_child a b i k
      | false ↦
          elim (eqb p case_kind) [
            | true ↦ case_child i k
            | false ↦
                elim (eqb p range_kind) [ true ↦ eqb k int_kind | false ↦ expression k ]
          ]
    ]
