-- Laws of the shape, in the forms that the loops need.
use Prim.Native.Nat.{ℕ, suc, ◌+◌, ◌-◌, ◌<◌, ◌≤◌}
use mathlib.Core.Path.{◌≡◌, ap, sym, ◌∙◌}
use mathlib.Core.Bool.{Bool, true, false, ◌&&◌, and-eq-true_iff}
use mathlib.Core.List.{List}
use native.Mathlib.Omega.{arith}
use native.Mathlib.Numerals.{add-one}
use lib.Dec.{eqb, leb}
use borrow.Author.Tests.{leb-true}
use Rattle.laws.proofs.Numbers.{left_one}
use Rattle.sheet.specs.Sections.{node_count}
use Rattle.sheet.specs.Node.{kind, span, count, field_a, field_b, field_c, namespace_word, namespace_pos}
use Rattle.check_shape.specs.Kinds.{child_kind}
use Rattle.check_shape.specs.Shape.{within_bounds, own_rule, space_rule, self_by, child_words, tiles_by, node_by, shape_by}
use Rattle.check_shape.specs.Shape.{child_fits, child_ok, tiles, self_ok, node_ok, root_ok, nodes_ok, shape_ok}

-- a child that fits ends at e or before
pub fits-end : (s : List ℕ) (p a b e i j : ℕ) → child_fits s p a b e i j ≡ true → j + span s j ≤ e
unfolding child_words
fits-end s p a b e i j h =
    let l = ((and-eq-true_iff (leb 1 (span s j) && leb (j + span s j) e) (child_kind p a b i (kind s j))).0 h).0 in
    leb-true _ _ ((and-eq-true_iff (leb 1 (span s j)) (leb (j + span s j) e)).0 l).1

-- node n has a kind, and a count, fields and a namespace that fit it
abbrev fields_ok : List ℕ → ℕ → Bool
fields_ok s n =
    within_bounds (kind s n) (count s n) (field_a s n) (field_b s n) (field_c s n)
    && own_rule (kind s n) (count s n) (field_a s n) (field_b s n)
    && space_rule (kind s n) (namespace_word s n) (namespace_pos s n)

-- a node that is right by itself ends within the m nodes
pub self-end : (s : List ℕ) (n m : ℕ) → self_ok s n m ≡ true → n + span s n ≤ m
unfolding self_by
self-end s n m h = leb-true _ _ ((and-eq-true_iff (fields_ok s n && leb 1 (span s n)) (leb (n + span s n) m)).0 h).1

-- and has one node at least
pub self-some : (s : List ℕ) (n m : ℕ) → self_ok s n m ≡ true → 1 ≤ span s n
unfolding self_by
self-some s n m h =
    let l = ((and-eq-true_iff (fields_ok s n && leb 1 (span s n)) (leb (n + span s n) m)).0 h).0 in
    leb-true _ _ ((and-eq-true_iff (fields_ok s n) (leb 1 (span s n))).0 l).1

pub node-self : (s : List ℕ) (n : ℕ) → self_ok s n (node_count s) ≡ true → node_ok s n ≡ tiles (count s n) s n (n + span s n) 0 (n + 1)
unfolding node_by
node-self s n h = rw (h, node_by)

pub node-fails : (s : List ℕ) (n : ℕ) → self_ok s n (node_count s) ≡ false → node_ok s n ≡ false
unfolding node_by
node-fails s n h = rw (h, node_by)

pub shape-root : (s : List ℕ) → root_ok s ≡ true → shape_ok s ≡ nodes_ok s
unfolding shape_by
shape-root s h = rw (h, shape_by)

pub shape-fails : (s : List ℕ) → root_ok s ≡ false → shape_ok s ≡ false
unfolding shape_by
shape-fails s h = rw (h, shape_by)

-- The walk over the children of n: m in all, of which i are passed, with node j next.
module _ (s : List ℕ) (n e : ℕ) where
  tile-step : (l i j : ℕ) → child_ok s n e i j ≡ true → tiles (suc l) s n e i j ≡ tiles l s n e (suc i) (j + span s j)
  unfolding tiles_by
  tile-step l i j h = rw (h, tiles_by)

  tile-stop : (l i j : ℕ) → child_ok s n e i j ≡ false → tiles (suc l) s n e i j ≡ false
  unfolding tiles_by
  tile-stop l i j h = rw (h, tiles_by)

  pub tiles_more : (m i j : ℕ) → i < m → child_fits s (kind s n) (field_a s n) (field_b s n) e i j ≡ true
      → tiles (m - i) s n e i j ≡ tiles (m - (i + 1)) s n e (i + 1) (j + span s j)
  tiles_more m i j h f =
      ap (λ l. tiles l s n e i j) (left_one m i h)
      ∙ tile-step (m - (i + 1)) i j f
      ∙ ap (λ k. tiles (m - (i + 1)) s n e k (j + span s j)) (sym (add-one i))

  pub tiles-fails : (m i j : ℕ) → i < m → child_fits s (kind s n) (field_a s n) (field_b s n) e i j ≡ false
      → tiles (m - i) s n e i j ≡ false
  tiles-fails m i j h f = ap (λ l. tiles l s n e i j) (left_one m i h) ∙ tile-stop (m - (i + 1)) i j f

  pub tiles-done : (m i j : ℕ) → m ≤ i → tiles (m - i) s n e i j ≡ eqb j e
  unfolding tiles_by
  tiles-done m i j h = let z : m - i ≡ 0 = omega arith in ap (λ l. tiles l s n e i j) z
