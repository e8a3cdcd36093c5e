-- Sheets built from trees, for the rows: a tree becomes nodes, and nodes, texts and locals become the sheet's bytes. Positions are 0.
use Rattle.std.specs.Prelude.{ℕ, zero, suc, ◌+◌, ◌*◌, ◌-◌, ◌/◌, ◌%◌, List, [], ◌∷◌, ◌++◌, length, replicate}

-- the words of a node
abbrev pub NodeWords : Type 0
NodeWords = List ℕ

-- kind, span, count, a, b, c, the namespace's text plus 1 and its position
abbrev pub spaced_of : ℕ → ℕ → ℕ → ℕ → ℕ → ℕ → ℕ → ℕ → NodeWords
spaced_of k span count a b c x y = k ∷ span ∷ count ∷ a ∷ b ∷ c ∷ x ∷ y ∷ []

-- without a namespace
abbrev pub node_of : ℕ → ℕ → ℕ → ℕ → ℕ → ℕ → NodeWords
node_of k span count a b c = spaced_of k span count a b c 0 0

-- a node without children
abbrev pub leaf : ℕ → ℕ → ℕ → ℕ → List NodeWords
leaf k a b c = node_of k 1 0 a b c ∷ []

abbrev pub concat : List (List NodeWords) → List NodeWords
concat [] = []
concat (t ∷ ts) = t ++ concat ts

-- a node over its children, with namespace and position
abbrev pub spaced : ℕ → ℕ → ℕ → ℕ → ℕ → ℕ → List (List NodeWords) → List NodeWords
spaced k a b c x y ts = let below = concat ts in spaced_of k (suc (length below)) (length ts) a b c x y ∷ below

-- without them
abbrev pub node : ℕ → ℕ → ℕ → ℕ → List (List NodeWords) → List NodeWords
node k a b c ts = spaced k a b c 0 0 ts

-- n copies of a tree
abbrev pub copies : ℕ → List NodeWords → List (List NodeWords)
copies n t = replicate n t

-- n nodes of kind And, each the only child of the one before it, over a tree
abbrev pub nest : ℕ → List NodeWords → List NodeWords
nest zero t = t
nest (suc n) t = node 16 0 0 0 (nest n t ∷ [])

-- the words of all nodes
abbrev pub words_of : List NodeWords → List ℕ
words_of [] = []
words_of (n ∷ ns) = n ++ words_of ns

-- where each text starts, from `at` on
abbrev pub starts_from : ℕ → List (List ℕ) → List ℕ
starts_from at [] = []
starts_from at (t ∷ ts) = at ∷ starts_from (at + length t) ts

abbrev pub lengths : List (List ℕ) → List ℕ
lengths [] = []
lengths (t ∷ ts) = length t ∷ lengths ts

abbrev pub joined : List (List ℕ) → List ℕ
joined [] = []
joined (t ∷ ts) = t ++ joined ts

-- the bytes of words, the lowest first
abbrev pub bytes : List ℕ → List ℕ
bytes [] = []
bytes (w ∷ ws) = w % 256 ∷ w / 256 % 256 ∷ w / 65536 % 256 ∷ w / 16777216 % 256 ∷ bytes ws

-- zeros to the end of the last word
abbrev pub padding : ℕ → List ℕ
padding n = replicate ((n + 3) / 4 * 4 - n) 0

-- a sheet with its text table given: starts and lengths, bytes, padding
abbrev pub sheet_with : List NodeWords → List ℕ → List ℕ → List ℕ → List ℕ → List ℕ → List ℕ
sheet_with ns starts lens text pad locals =
    bytes (length ns ∷ length starts ∷ length text ∷ length locals ∷ [])
    ++ bytes (words_of ns)
    ++ bytes (replicate (length ns) 0)
    ++ bytes starts
    ++ bytes lens
    ++ text
    ++ pad
    ++ bytes locals

-- a sheet of a tree, texts one behind the other, and locals
abbrev pub sheet_of : List NodeWords → List (List ℕ) → List ℕ → List ℕ
sheet_of ns ts locals =
    let text = joined ts in
    sheet_with ns (starts_from 0 ts) (lengths ts) text (padding (length text)) locals
