-- The ranges of a switch as the sheet has them, with the block of each, and which integers a range contains. Integers are in excess form.
use Rattle.std.specs.Prelude.{ℕ, Bool, true, false, ◌&&◌, List, [], ◌∷◌, leb, ltb}

pub record Range : Type 0 where
  pub from : ℕ
  pub to : ℕ
  pub inclusive : Bool
  pub block : ℕ

-- a..b, or a..=b, with its block
abbrev pub range : ℕ → ℕ → Bool → ℕ → Range
range a b i k = record { from = a; to = b; inclusive = i; block = k }

-- x is not below a, and below b or, if inclusive, not above b
unfoldable pub inside : ℕ → ℕ → Bool → ℕ → Bool
inside a b true x = leb a x && leb x b
inside a b false x = leb a x && ltb x b

abbrev pub contains : Range → ℕ → Bool
contains r x = inside r.from r.to r.inclusive x

-- the blocks of the ranges that pass a test, in source order
unfoldable pub blocks_where : (Range → Bool) → List Range → List ℕ
blocks_where f [] = []
blocks_where f (r ∷ rs) = elim (f r) [ true ↦ r.block ∷ blocks_where f rs | false ↦ blocks_where f rs ]

-- the source rule: the blocks of all ranges that contain x
abbrev pub containing : List Range → ℕ → List ℕ
containing rs x = blocks_where (λ r. contains r x) rs
