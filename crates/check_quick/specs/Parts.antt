-- A byte string as a list of words, and a list as the parts of k elements that it has one behind the other, so that a node is found by a
-- walk over nodes and not over bytes.
use Rattle.std.specs.Prelude.{ℕ, List, [], ◌∷◌, get_or, drop}
use Rattle.words.specs.Word.{from_bytes}

-- the words of bytes; a word that is not there whole is dropped
unfoldable pub words_of : List ℕ → List ℕ
words_of [] = []
words_of (a ∷ []) = []
words_of (a ∷ b ∷ []) = []
words_of (a ∷ b ∷ c ∷ []) = []
words_of (a ∷ b ∷ c ∷ d ∷ r) = from_bytes a b c d ∷ words_of r

-- the list from each k-th element on; `most` is a list that is not shorter
unfoldable pub parts : ℕ → List ℕ → List ℕ → List (List ℕ)
parts k [] l = []
parts k (m ∷ most) [] = []
parts k (m ∷ most) (x ∷ l) = (x ∷ l) ∷ parts k most (drop k (x ∷ l))

-- element f of part n; the part is looked up once for all f
abbrev pub among : List (List ℕ) → ℕ → ℕ → ℕ
among ps n = let part = get_or ps n [] in λ f. get_or part f 0
