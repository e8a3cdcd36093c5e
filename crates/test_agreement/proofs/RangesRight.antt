-- The ranges that are read as in the quick check are the ranges of the Switch.
use Prim.Native.Nat.{ℕ, zero, suc, ◌+◌, ◌*◌, ◌-◌}
use mathlib.Core.Path.{◌≡◌, refl, ap, ◌∙◌}
use mathlib.Core.List.{List, ◌∷◌, map}
use Rattle.sheet.specs.Node.{count_at, a_at, b_at, field, next_by}
use Rattle.sheet.specs.Walk.{skip_by}
use Rattle.check_quick.proofs.QuickLaws.{fields-are}
use Rattle.lowering.specs.SwitchSheet.{subject, ranges_of}
use Rattle.lowering.specs.SwitchSheet as SwitchSheet
use Rattle.test_agreement.specs.Ranges.{nodes_from, range_of, ranges_by, quick_ranges}

module _ (s : List ℕ) where
  nodes-is : (n j : ℕ) → nodes_from (field s) n j ≡ SwitchSheet.nodes_from s n j
  unfolding nodes_from SwitchSheet.nodes_from
  nodes-is zero j = refl
  nodes-is (suc n) j = ap {B = List ℕ} (λ r. j ∷ r) (nodes-is n (next_by (field s) j))

  ranges-is : ranges_by (field s) ≡ ranges_of s
  unfolding ranges_by range_of ranges_of SwitchSheet.range_of SwitchSheet.range_nodes skip_by
  ranges-is =
      let before = 1 + 2 * field s 0 a_at + field s 0 b_at in
      ap (map (SwitchSheet.range_of s)) (nodes-is (field s 0 count_at - before) (skip_by (field s) before subject))

pub quick-ranges : (s : List ℕ) → quick_ranges s ≡ ranges_of s
unfolding quick_ranges
quick-ranges s = (λ i. ranges_by (λ n f. fields-are s n f i)) ∙ ranges-is s
