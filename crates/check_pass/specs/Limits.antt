-- The bounds of each kind in a sheet of x texts and K blocks, and what a node's words show of it by themselves.
use Rattle.std.specs.Prelude.{ℕ, ◌+◌, ◌*◌, ◌-◌, ◌≤◌, ◌≡◌, true, false, ◌&&◌, List, [], ◌∷◌, ltb, eqb, get_or}
use Rattle.text.specs.Keyword.{is_curry}
use Rattle.sheet.specs.Sections.{text_count}
use Rattle.sheet.specs.Text.{text}
use Rattle.sheet.specs.Kinds.{char_kind, fn_call_kind, last_kind}
use Rattle.check_shape.specs.declared.Bounds.{Bounds}
use Rattle.check_shape.specs.Kinds.{bound_words, most_count, most_a, most_b, most_c, any, scalar}
use Rattle.check_shape.specs.Shape.{space_rule}

-- 1 where there are none
abbrev pub none : ℕ → ℕ
none x = 1 - x

-- the last of x numbers
abbrev pub last : ℕ → ℕ
last x = x - 1

-- any 32-bit word, 0 where there are none
unfoldable pub any_of : ℕ → ℕ
any_of x = elim (eqb x 0) [ true ↦ 0 | false ↦ any ]

-- a row by its numbers
abbrev pub row_ : ℕ → ℕ → ℕ → ℕ → ℕ → Bounds
row_ l m a b c = record { least = l; most = m; a = a; b = b; c = c }

-- The bounds of each kind where only the texts are told, x of them: those of kinds that name a block are open.
abbrev pub name_rows : ℕ → List Bounds
name_rows x =
    row_ 1 0 0 0 0 ∷ row_ 0 0 1 0 0 ∷ row_ 0 0 0 0 0 ∷ row_ 0 0 any any 0 ∷ row_ 0 0 any any 0
    ∷ row_ 0 0 any 0 0 ∷ row_ (none x) 0 (last x) 0 0 ∷ row_ 0 any 0 0 0 ∷ row_ 0 any 0 0 0 ∷ row_ (none x) 0 (last x) 0 0
    ∷ row_ 0 0 0 0 0 ∷ row_ (none x) 0 (last x) (last x) (last x) ∷ row_ (none x) (any_of x) (last x) 0 0
    ∷ row_ (none x) (any_of x) (last x) 1 65535 ∷ row_ 2 2 3 0 0 ∷ row_ 2 2 3 0 0 ∷ row_ 1 any 0 0 0 ∷ row_ 1 any 0 0 0
    ∷ row_ 1 any 0 0 0 ∷ row_ 1 any any any any ∷ row_ 1 any 0 0 0 ∷ row_ 2 2 1 any 0 ∷ row_ 0 0 any 0 0 ∷ row_ 1 0 0 0 0
    ∷ row_ 1 0 0 0 0 ∷ row_ 1 0 0 0 0 ∷ []

-- For each kind: the least and the greatest count of children, and the greatest a, b and c. As the kinds' bounds; but what names a text
-- or a block is below their number, and a row is empty where there is none, and of a kind that is refused.
abbrev pub limits : ℕ → ℕ → List ℕ
limits x K =
    1 ∷ 0 ∷ 0 ∷ 0 ∷ 0
    ∷ 0 ∷ 0 ∷ 1 ∷ 0 ∷ 0  -- 1 Bool
    ∷ 0 ∷ 0 ∷ 0 ∷ 0 ∷ 0  -- 2 Unit
    ∷ 0 ∷ 0 ∷ any ∷ any ∷ 0  -- 3 Int
    ∷ 0 ∷ 0 ∷ any ∷ any ∷ 0  -- 4 Float
    ∷ 0 ∷ 0 ∷ any ∷ 0 ∷ 0  -- 5 Char
    ∷ none x ∷ 0 ∷ last x ∷ 0 ∷ 0  -- 6 String
    ∷ 0 ∷ any ∷ 0 ∷ 0 ∷ 0  -- 7 Interpolated
    ∷ 0 ∷ any ∷ 0 ∷ 0 ∷ 0  -- 8 Array
    ∷ none x ∷ 0 ∷ last x ∷ 0 ∷ 0  -- 9 Variable
    ∷ 0 ∷ 0 ∷ 0 ∷ 0 ∷ 0  -- 10 This
    ∷ none x ∷ 0 ∷ last x ∷ last x ∷ last x  -- 11 Property
    ∷ none x ∷ any_of x ∷ last x ∷ 0 ∷ 0  -- 12 MethodCall
    ∷ none x ∷ any_of x ∷ last x ∷ 1 ∷ 65535  -- 13 FnCall
    ∷ 2 ∷ 2 ∷ 3 ∷ 0 ∷ 0  -- 14 Dot
    ∷ 2 ∷ 2 ∷ 3 ∷ 0 ∷ 0  -- 15 Index
    ∷ 1 ∷ any ∷ 0 ∷ 0 ∷ 0  -- 16 And
    ∷ 1 ∷ any ∷ 0 ∷ 0 ∷ 0  -- 17 Or
    ∷ 1 ∷ any ∷ 0 ∷ 0 ∷ 0  -- 18 Coalesce
    ∷ 1 ∷ any ∷ any ∷ any ∷ K  -- 19 Switch
    ∷ 1 ∷ any ∷ 0 ∷ 0 ∷ 0  -- 20 Case
    ∷ (2 + none K) ∷ 2 ∷ 1 ∷ last K ∷ 0  -- 21 Range
    ∷ none K ∷ 0 ∷ last K ∷ 0 ∷ 0  -- 22 Ref
    ∷ 1 ∷ 0 ∷ 0 ∷ 0 ∷ 0  -- 23 Map
    ∷ 1 ∷ 0 ∷ 0 ∷ 0 ∷ 0  -- 24 block
    ∷ 1 ∷ 0 ∷ 0 ∷ 0 ∷ 0  -- 25 DynamicConstant
    ∷ []

-- count and fields are within the row of kind k in the table t
pub record Row (t : List ℕ) (k m a b c : ℕ) : Type 0 where
  pub kind : k ≤ last_kind
  pub least : get_or t (bound_words * k) 0 ≤ m
  pub most : m ≤ get_or t (bound_words * k + most_count) 0
  pub most-a : a ≤ get_or t (bound_words * k + most_a) 0
  pub most-b : b ≤ get_or t (bound_words * k + most_b) 0
  pub most-c : c ≤ get_or t (bound_words * k + most_c) 0

-- no FnCall `curry` with over one argument
abbrev pub Called : List ℕ → ℕ → ℕ → ℕ → Type 0
Called s k m a = (eqb k fn_call_kind && ltb 1 m) ≡ true → is_curry (text s a) ≡ false

-- the namespace's word and the word of its position may be x and y, where the kind is k
pub record Spaced (s : List ℕ) (k x y : ℕ) : Type 0 where
  pub rule : space_rule k x y ≡ true
  pub there : x ≤ text_count s

-- what the words of a node other than the root show by themselves
pub record Own (t s : List ℕ) (k m a b c x y : ℕ) : Type 0 where
  pub row : Row t k m a b c
  pub char : k ≡ char_kind → scalar a ≡ true
  pub called : Called s k m a
  pub spaced : Spaced s k x y
