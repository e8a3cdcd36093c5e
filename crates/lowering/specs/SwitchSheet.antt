-- The Switch at node 0: its children are the subject, a guard and a body for each block, the Cases, then the Ranges.
use Rattle.std.specs.Prelude.{ℕ, zero, suc, ◌+◌, ◌*◌, ◌-◌, List, [], ◌∷◌, map, eqb}
use Rattle.sheet.specs.Node.{count, field_a, field_b, field_c, child, next}
use Rattle.sheet.specs.Walk.{skip}
use Rattle.switch_split.specs.Excess.{excess}
use Rattle.switch_split.specs.Range.{Range}

abbrev pub block_count : List ℕ → ℕ
block_count s = field_a s 0

-- the default block plus 1, or 0
abbrev pub default_block : List ℕ → ℕ
default_block s = field_c s 0

abbrev pub subject : ℕ
subject = child 0

-- n siblings from j on
unfoldable pub nodes_from : List ℕ → ℕ → ℕ → List ℕ
nodes_from s zero j = []
nodes_from s (suc n) j = j ∷ nodes_from s n (next s j)

unfoldable pub guard_of : List ℕ → ℕ → ℕ
guard_of s k = skip s (1 + 2 * k) subject

unfoldable pub body_of : List ℕ → ℕ → ℕ
body_of s k = skip s (2 + 2 * k) subject

-- the Cases and the Ranges start behind the blocks
unfoldable pub cases_of : List ℕ → List ℕ
cases_of s = nodes_from s (field_b s 0) (skip s (1 + 2 * block_count s) subject)

unfoldable pub range_nodes : List ℕ → List ℕ
range_nodes s =
    let before = 1 + 2 * block_count s + field_b s 0 in
    nodes_from s (count s 0 - before) (skip s before subject)

-- the blocks of Case c, in the order of its Refs
unfoldable pub case_blocks : List ℕ → ℕ → List ℕ
case_blocks s c = map (λ r. field_a s r) (nodes_from s (count s c - 1) (next s (child c)))

abbrev pub int_at : List ℕ → ℕ → ℕ
int_at s j = excess (field_a s j) (field_b s j)

unfoldable pub range_of : List ℕ → ℕ → Range
range_of s r =
    record {
      from = int_at s (child r);
      to = int_at s (next s (child r));
      inclusive = eqb (field_a s r) 1;
      block = field_b s r;
    }

unfoldable pub ranges_of : List ℕ → List Range
ranges_of s = map (range_of s) (range_nodes s)
