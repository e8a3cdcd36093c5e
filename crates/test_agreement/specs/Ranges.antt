-- The ranges of a Switch with the fields of its nodes read as in the quick check, for long sheets.
use Rattle.std.specs.Prelude.{ℕ, zero, suc, ◌+◌, ◌*◌, ◌-◌, List, [], ◌∷◌, map, eqb, drop}
use Rattle.sheet.specs.Limits.{header_words, node_words}
use Rattle.sheet.specs.Node.{Fields, count_at, a_at, b_at, child, next_by}
use Rattle.sheet.specs.Walk.{skip_by}
use Rattle.check_quick.specs.Parts.{words_of, parts, among}
use Rattle.switch_split.specs.Excess.{shifted, excess}
use Rattle.switch_split.specs.Range.{Range}
use Rattle.lowering.specs.SwitchSheet.{subject}

unfoldable pub nodes_from : Fields → ℕ → ℕ → List ℕ
nodes_from g zero j = []
nodes_from g (suc n) j = j ∷ nodes_from g n (next_by g j)

unfoldable pub range_of : Fields → ℕ → Range
range_of g r =
    let from = g (child r) in
    let to = g (next_by g (child r)) in
    let own = g r in
    record {
      from = excess (from a_at) (from b_at);
      to = excess (to a_at) (to b_at);
      inclusive = eqb (own a_at) 1;
      block = own b_at;
    }

unfoldable pub ranges_by : Fields → List Range
ranges_by g =
    let before = 1 + 2 * g 0 a_at + g 0 b_at in
    map (range_of g) (nodes_from g (g 0 count_at - before) (skip_by g before subject))

-- whoever says `unfolding quick_ranges` has all that is computed unfolded
unfoldable pub quick_ranges : List ℕ → List Range
unfolding words_of parts child next_by skip_by shifted excess nodes_from range_of ranges_by
quick_ranges s = let ws = words_of s in let nodes = parts node_words ws (drop header_words ws) in ranges_by (among nodes)
