-- Laws of the shape on what the code has read, each in the form of one answer.
use Prim.Native.Nat.{ℕ, ◌+◌, ◌-◌, ◌<◌, ◌≤◌}
use mathlib.Core.Path.{◌≡◌, refl, ap, ap₂, sym, ◌∙◌}
use mathlib.Core.Bool.{Bool, true, false, ◌&&◌, ◌||◌}
use mathlib.Core.List.{List}
use native.Mathlib.Nat.{sub-zero}
use native.Mathlib.Omega.{arith}
use mir.Syntax.{w32}
use mir.Val.{Fits}
use lib.Dec.{leb, eqb}
use Rattle.std.proofs.Math.Bool.{and_assoc}
use Rattle.sheet.specs.Sections.{node_count}
use Rattle.sheet.specs.Node.{kind, span, count, field_a, field_b, field_c, namespace_word, namespace_pos}
use Rattle.sheet.specs.Kinds.{switch_kind, last_kind}
use Rattle.check_shape.specs.Kinds.{least_count, most_count, most_a, most_b, most_c, bound, expression, child_kind}
use Rattle.check_shape.specs.declared.Bounds.{Bounds}
use Rattle.check_shape.specs.Rows.{holds}
use Rattle.check_shape.specs.Shape.{within_bounds_by, self_by, child_words, root_by}
use Rattle.check_shape.specs.Shape.{within_bounds, own_rule, space_rule, child_fits, tiles, self_fits, self_ok, node_ok, root_ok}
use Rattle.check_shape.proofs.ShapeLaws.{fits-end, self-end, self-some, node-self, node-fails, tiles_more, tiles-fails, tiles-done}

-- what is no greater than a word is a word
pub fits_below : {x y : ℕ} → Fits w32 y → x ≤ y → Fits w32 x
fits_below f h = omega arith

-- the tests of a node's bounds, as they were read from the table
joined : (p l u x y z : Bool) → (p && (l && u && x && y && z)) ≡ (p && l && u && x && y && z)
joined true l u x y z = refl
joined false l u x y z = refl

pub bounds-read : (k m a b c : ℕ) {t : Bounds} {r : Bool}
    → t.least ≡ bound k least_count → t.most ≡ bound k most_count → t.a ≡ bound k most_a → t.b ≡ bound k most_b → t.c ≡ bound k most_c
    → r ≡ holds t m a b c → (leb 1 k && leb k last_kind && r) ≡ within_bounds k m a b c
unfolding within_bounds_by holds
bounds-read k m a b c {t} hl hu hx hy hz h =
    ap (λ r. leb 1 k && leb k last_kind && r) h
    ∙ (joined (leb 1 k && leb k last_kind) (leb t.least m) (leb m t.most) (leb a t.a) (leb b t.b) (leb c t.c)
    ∙ cc)

-- the tests of a node's kind, span, fields and namespace
pub own_read : (n k w m a b c x y total : ℕ) {p q r e : Bool} → p ≡ within_bounds k m a b c → q ≡ own_rule k m a b
    → r ≡ space_rule k x y → e ≡ (leb 1 w && leb (n + w) total) → (p && q && r && e) ≡ self_fits n k w m a b c x y total
unfolding self_by
own_read n k w m a b c x y total {p} {q} {r} hp hq hr he =
    ap (λ e. p && q && r && e) he
    ∙ (sym (and_assoc (p && q && r) (leb 1 w) (leb (n + w) total))
    ∙ ap₂ (λ o r. o && r && leb 1 w && leb (n + w) total) (ap₂ ◌&&◌ hp hq) hr)

-- the tests of child j, as its span and kind were read
pub fits_read : (s : List ℕ) (p a b e i j : ℕ) {w k : ℕ} {f r : Bool} → w ≡ span s j → k ≡ kind s j → f ≡ (leb 1 w && leb (j + w) e)
    → r ≡ child_kind p a b i k → (f && r) ≡ child_fits s p a b e i j
unfolding child_words
fits_read s p a b e i j hw hk hf h = cc

-- the tests of the root, as its kind and span were read
pub root-read : (s : List ℕ) {k w m : ℕ} {r : Bool}
    → k ≡ kind s 0 → r ≡ expression k → w ≡ span s 0 → m ≡ node_count s
    → ((r || eqb k switch_kind) && eqb w m) ≡ root_ok s
unfolding root_by
root-read s hk h hw hm = cc

-- A node's own test r, on its fields as they were read.
module _ (s : List ℕ) (n total : ℕ) where
  pub self-read : {k w m a b c x y : ℕ} {r : Bool} → k ≡ kind s n → w ≡ span s n → m ≡ count s n → a ≡ field_a s n → b ≡ field_b s n
      → c ≡ field_c s n → x ≡ namespace_word s n → y ≡ namespace_pos s n → r ≡ self_fits n k w m a b c x y total → r ≡ self_ok s n total
  self-read hk hw hm ha hb hc hx hy h = cc

  -- the end of what was read is a node number, behind n
  pub read-end : {w : ℕ} → Fits w32 total → w ≡ span s n → self_ok s n total ≡ true → Fits w32 (n + w)
  read-end f e h = omega (arith, self-end s n total h)

  pub read_some : {w : ℕ} → w ≡ span s n → self_ok s n total ≡ true → n + 1 ≤ n + w
  read_some e h = omega (arith, self-some s n total h)

  pub node-tiles : {w : ℕ} {r : Bool} → total ≡ node_count s → w ≡ span s n → self_ok s n total ≡ true
      → r ≡ tiles (count s n) s n (n + w) 0 (n + 1) → r ≡ node_ok s n
  node-tiles {w} t e h q =
      q
      ∙ ap (λ x. tiles (count s n) s n (n + x) 0 (n + 1)) e
      ∙ sym (node-self s n (ap (self_ok s n) (sym t) ∙ h))

  pub node-not : total ≡ node_count s → self_ok s n total ≡ false → false ≡ node_ok s n
  node-not t h = sym (node-fails s n (ap (self_ok s n) (sym t) ∙ h))

-- The walk over the m children of n, of which i are passed, with node j next: what is left equals the whole.
module _ (s : List ℕ) (n e m : ℕ) where
  -- a child's test r, on n's fields as they were read
  pub child-read : (i j : ℕ) {p a b : ℕ} {r : Bool} → p ≡ kind s n → a ≡ field_a s n → b ≡ field_b s n → r ≡ child_fits s p a b e i j
      → r ≡ child_fits s (kind s n) (field_a s n) (field_b s n) e i j
  child-read i j hp ha hb h = cc

  pub walk-starts : m ≡ count s n → tiles (m - 0) s n e 0 (n + 1) ≡ tiles (count s n) s n e 0 (n + 1)
  walk-starts h = ap (λ l. tiles l s n e 0 (n + 1)) (sub-zero m ∙ h)

  module _ (i j : ℕ) {w : ℕ} (read : w ≡ span s j) (fits : child_fits s (kind s n) (field_a s n) (field_b s n) e i j ≡ true) where
    pub walk_end : j + w ≤ e
    walk_end = omega (arith, fits-end s (kind s n) (field_a s n) (field_b s n) e i j fits)

    pub walk_more : {r : Bool} → i < m → tiles (m - i) s n e i j ≡ r → tiles (m - (i + 1)) s n e (i + 1) (j + w) ≡ r
    walk_more h q =
        ap (λ x. tiles (m - (i + 1)) s n e (i + 1) (j + x)) read
        ∙ sym (tiles_more s n e m i j h fits)
        ∙ q

  pub walk-fails : (i j : ℕ) {r : Bool} → i < m → child_fits s (kind s n) (field_a s n) (field_b s n) e i j ≡ false
      → tiles (m - i) s n e i j ≡ r → false ≡ r
  walk-fails i j h f q = sym (tiles-fails s n e m i j h f) ∙ q

  pub walk-done : (i j : ℕ) {r : Bool} → m ≤ i → tiles (m - i) s n e i j ≡ r → eqb j e ≡ r
  walk-done i j h q = sym (tiles-done s n e m i j h) ∙ q
