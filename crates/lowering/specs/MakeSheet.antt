-- A sheet from its parts, for worked examples: nodes as their words, their positions, texts as bytes, locals as text numbers.
use Rattle.std.specs.Prelude.{ℕ, ◌+◌, ◌*◌, ◌/◌, ◌%◌, ◌-◌, ◌^◌, List, [], ◌∷◌, ◌++◌, map, length, replicate}

-- nodes by their words
pub record Sheet : Type 0 where
  pub nodes : List (List ℕ)
  pub positions : List ℕ
  pub texts : List (List ℕ)
  pub locals : List ℕ

-- the words of a node, with its namespace's text plus 1 and position
abbrev pub node_in : ℕ → ℕ → ℕ → ℕ → ℕ → ℕ → ℕ → ℕ → List ℕ
node_in kind span count a b c namespace pos = kind ∷ span ∷ count ∷ a ∷ b ∷ c ∷ namespace ∷ pos ∷ []

-- without a namespace
abbrev pub node : ℕ → ℕ → ℕ → ℕ → ℕ → ℕ → List ℕ
node kind span count a b c = node_in kind span count a b c 0 0

-- the bytes of words, the lowest first
unfoldable pub bytes_of : List ℕ → List ℕ
bytes_of [] = []
bytes_of (w ∷ ws) = w % 256 ∷ w / 256 % 256 ∷ w / 65536 % 256 ∷ w / 2 ^ 24 ∷ bytes_of ws

unfoldable pub joined : List (List ℕ) → List ℕ
joined [] = []
joined (x ∷ xs) = x ++ joined xs

-- where each text starts, the first at n
unfoldable pub starts_from : ℕ → List (List ℕ) → List ℕ
starts_from n [] = []
starts_from n (x ∷ xs) = n ∷ starts_from (n + length x) xs

-- zeros up to a word
unfoldable pub pad : ℕ → List ℕ
pad n = replicate ((n + 3) / 4 * 4 - n) 0

unfoldable pub sheet : Sheet → List ℕ
sheet r =
    let bytes = joined r.texts in
    bytes_of
    (length r.nodes
    ∷ length r.texts
    ∷ length bytes
    ∷ length r.locals
    ∷ joined r.nodes
    ++ r.positions
    ++ starts_from 0 r.texts
    ++ map (λ (t : List ℕ). length t) r.texts)
    ++ bytes
    ++ pad (length bytes)
    ++ bytes_of r.locals
