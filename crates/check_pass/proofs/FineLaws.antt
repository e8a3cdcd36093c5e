-- What the pass shows, by itself and with the root's test.
use Prim.Native.Nat.{ℕ, ◌<◌}
use mathlib.Core.Path.{◌≡◌, ◌∙◌}
use mathlib.Core.Bool.{true, and-eq-true_iff}
use mathlib.Core.List.{List}
use Rattle.words.proofs.CountLaws.{all-at, all_of}
use Rattle.sheet.specs.Sections.{node_count}
use Rattle.check_shape.specs.Shape.{nodes_by, root_ok}
use Rattle.check_shape.proofs.ShapeLaws.{shape-root}
use Rattle.check_depth.specs.Depth.{depth_by}
use Rattle.check_numbers.specs.Numbers.{node_numbers_by, number_ok}
use Rattle.check_support.specs.Support.{support_by, supported}
use Rattle.check_pass.specs.Fine.{Fine, own, Passed}

pub fine_of : (s : List ℕ) → root_ok s ≡ true → Passed s → Fine s
unfolding nodes_by depth_by node_numbers_by support_by own
fine_of s root p =
    let both : (k : ℕ) → k < node_count s → (number_ok s k ≡ true) × (supported s k ≡ true) =
    λ k l. (and-eq-true_iff (number_ok s k) (supported s k)).0 (all-at (own s) (node_count s) k p.each l) in
    record {
      shape = shape-root s root ∙ p.nodes;
      depth = p.deep;
      numbers = all_of (number_ok s) (node_count s) (λ k l. (both k l).0);
      support = all_of (supported s) (node_count s) (λ k l. (both k l).1);
    }
