-- Laws of the pass. Each says: if what is left after a step holds, so does what was left before it.
use Prim.Native.Nat.{ℕ, ◌+◌, ◌-◌, ◌^◌, ◌<◌, ◌≤◌}
use mathlib.Core.Path.{◌≡◌, ap, sym, ◌∙◌}
use mathlib.Core.Bool.{true}
use mathlib.Core.List.{List}
use native.Mathlib.Nat.{sub-zero}
use native.Mathlib.Omega.{arith}
use borrow.Author.Tests.{eq-eqb}
use Rattle.sheet.specs.Sections.{node_count}
use Rattle.sheet.specs.Node.{kind, count, field_a, field_b, child, next_by, next}
use Rattle.sheet.specs.Walk.{siblings}
use Rattle.sheet.proofs.WalkLaws.{siblings-more, siblings-done}
use Rattle.check_shape.specs.Shape.{child_fits, tiles, self_ok, node_ok}
use Rattle.check_shape.proofs.ShapeLaws.{fits-end, node-self, tiles_more, tiles-done}
use Rattle.check_depth.specs.Depth.{within}
use Rattle.check_depth.proofs.DepthLaws.{within-some}
use Rattle.check_pass.proofs.Places.{end, Rest}

child-is : (n : ℕ) → n + 1 < 2 ^ 32 → child n ≡ n + 1
unfolding child
child-is n h = omega arith

next-is : (s : List ℕ) (n : ℕ) → end s n < 2 ^ 32 → next s n ≡ end s n
unfolding next_by
next-is s n h = omega arith

module _ (s : List ℕ) (small : node_count s < 2 ^ 32) where
  -- all children are passed, and the next node is the end
  pub rest-done : (d p i j : ℕ) → count s p ≤ i → j ≡ end s p → Rest s d p i j
  rest-done d p i j h e = record {
    tiled = tiles-done s p (end s p) (count s p) i j h ∙ eq-eqb j (end s p) e;
    deep = siblings-done (within (63 - d) s) s (count s p) i j h;
  }

  -- a child is passed
  pub rest-child : (d p i j : ℕ) → i < count s p → child_fits s (kind s p) (field_a s p) (field_b s p) (end s p) i j ≡ true
      → end s p ≤ node_count s
      → within (63 - d) s j ≡ true → Rest s d p (i + 1) (end s j) → Rest s d p i j
  rest-child d p i j h f l w r =
      let small-end : end s j < 2 ^ 32 = omega (arith, fits-end s (kind s p) (field_a s p) (field_b s p) (end s p) i j f) in
      record {
        tiled = tiles_more s p (end s p) (count s p) i j h f ∙ r.tiled;
        deep =
            siblings-more (within (63 - d) s) s (count s p) i j h w
            ∙ (ap (λ x. siblings (within (63 - d) s) s (count s p - (i + 1)) x) (next-is s j small-end) ∙ r.deep);
      }

  -- a node whose whole is left is right, and within its levels
  pub rest-node : (d n : ℕ) → self_ok s n (node_count s) ≡ true → Rest s d n 0 (n + 1) → node_ok s n ≡ true
  rest-node d n h r =
      node-self s n h ∙ (ap (λ l. tiles l s n (end s n) 0 (n + 1)) (sym (sub-zero (count s n))) ∙ r.tiled)

  pub rest-within : (d l n : ℕ) → n + 1 < 2 ^ 32 → d ≤ 63 → l + d ≡ 64 → Rest s d n 0 (n + 1) → within l s n ≡ true
  rest-within d l n f g e r =
      let less : l - 1 ≡ 63 - d = omega arith in
      within-some l s n (λ z. omega arith)
      ∙ (ap (λ k. siblings (within k s) s (count s n) (child n)) less
      ∙ (ap (λ j. siblings (within (63 - d) s) s (count s n) j) (child-is n f)
      ∙ (ap (λ c. siblings (within (63 - d) s) s c (n + 1)) (sym (sub-zero (count s n))) ∙ r.deep)))
