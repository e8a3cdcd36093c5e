-- A tree of maxima in a list. Leaf j of a tree of `size` leaves is word size + j; node k, from 1 to size - 1, has the greater of words
-- 2 k and 2 k + 1.
use Rattle.std.specs.Prelude.{ℕ, ◌+◌, ◌*◌, ◌-◌, ◌≤◌, ◌<◌, max, ◌≡◌, Bool, List, leb, length, get_or}
use Rattle.words.specs.Count.{all_below}

abbrev pub leaf : List ℕ → ℕ → ℕ → ℕ
leaf t size j = get_or t (size + j) 0

pub record Tree (t : List ℕ) (size : ℕ) : Type 0 where
  pub room : 2 * size ≤ length t
  pub greater : (k : ℕ) → 0 < k → k < size → get_or t k 0 ≡ max (get_or t (2 * k) 0) (get_or t (2 * k + 1) 0)

-- the tree t over the leaves of t₀
pub record Built (t₀ t : List ℕ) (size : ℕ) : Type 0 where
  pub tree : Tree t size
  pub leaves : (j : ℕ) → leaf t size j ≡ leaf t₀ size j

-- leaves a to b - 1 are at most x
unfoldable pub leaves_up_to : List ℕ → ℕ → ℕ → ℕ → ℕ → Bool
leaves_up_to t size a b x = all_below (b - a) (λ j. leb (leaf t size (a + j)) x)
