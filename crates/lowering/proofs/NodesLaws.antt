-- Node 0 of a checked sheet is one of its nodes, and so is every child of one: node numbers do not wrap there.
use Prim.Native.Nat.{ℕ, zero, suc, ◌+◌, ◌*◌, ◌-◌, ◌≤◌, ◌<◌}
use mathlib.Core.Path.{◌≡◌, refl, sym, ◌∙◌, subst}
use mathlib.Core.Bool.{Bool, true, false, and-eq-true_iff, true≢false}
use mathlib.Core.List.{List}
use native.Mathlib.Omega.{arith}
use native.Mathlib.Nat.{mod-eq_of_lt}
use borrow.Author.Tests.{leb-true, eq-eqb}
use Rattle.words.proofs.CountLaws.{all-at}
use Rattle.sheet.specs.Limits.{max_nodes}
use Rattle.sheet.specs.Sections.{node_count}
use Rattle.sheet.specs.Node.{kind, span, count, field_a, field_b, child, next_by, next}
use Rattle.sheet.specs.Walk.{skip}
use Rattle.sheet.proofs.WalkLaws.{skip-add}
use Rattle.check_sizes.specs.Sizes.{limits_ok, sizes_ok}
use Rattle.sheet.specs.Kinds.{last_kind}
use Rattle.check_shape.specs.Kinds.{bound}
use Rattle.check_shape.specs.Shape.{within_bounds_by, own_rule, child_words, tiles_by, self_by, nodes_by}
use Rattle.check_shape.specs.Shape.{child_ok, tiles, self_ok, node_ok, root_ok, nodes_ok, shape_ok}
use Rattle.check_shape.proofs.ShapeLaws.{self-end, node-self, node-fails, shape-root, shape-fails}
use Rattle.lowering.specs.Kinds.{switch_kind}
use Rattle.lowering.specs.SwitchSheet.{block_count, subject, guard_of, body_of}
use Rattle.lowering.specs.Nodes.{Valid, Row, Right}

pub row_first : {s : List ℕ} {n j : ℕ} → Row s (suc n) j → Valid s j
unfolding skip
row_first r = r.each 0 (omega arith)

pub row-rest : {s : List ℕ} {n j : ℕ} → Row s (suc n) j → Row s n (next s j)
unfolding skip
row-rest r = record { each = λ i h. r.each (suc i) (omega arith) }

pub row-none : {s : List ℕ} {j : ℕ} → Row s 0 j
row-none = record { each = λ i h. absurd (omega arith) }

pub row_cons : {s : List ℕ} {n j : ℕ} → Valid s j → Row s n (next s j) → Row s (suc n) j
unfolding skip
row_cons {s} {n} {j} v r = record { each = go }
  where
    go : (i : ℕ) → i < suc n → Valid s (skip s i j)
    go zero h = v
    go (suc i) h = r.each i (omega arith)

pub row-less : {s : List ℕ} {m n j : ℕ} → m ≤ n → Row s n j → Row s m j
row-less h r = record { each = λ i l. r.each i (omega arith) }

-- the siblings behind k of them
row-skip : (s : List ℕ) (k n j : ℕ) → Row s (k + n) j → Row s n (skip s k j)
row-skip s k n j r = record { each = λ i h. subst (Valid s) (skip-add s k i j) (r.each (k + i) (omega arith)) }

-- all siblings but the first, if there is one
pub row-others : (s : List ℕ) (n j : ℕ) → Row s n j → Row s (n - 1) (next s j)
row-others s zero j r = row-none
row-others s (suc n) j r = row-less (omega arith) (row-rest r)

sizes-right : (s : List ℕ) → sizes_ok s ≡ true → (1 ≤ node_count s) × (node_count s ≤ max_nodes)
unfolding sizes_ok limits_ok
sizes-right s h = let k = simp and-eq-true_iff at h in omega (arith, leb-true)

shape-nodes : (s : List ℕ) → shape_ok s ≡ true → nodes_ok s ≡ true
shape-nodes s h = by (root_ok s) refl
  where
    by : (t : Bool) → root_ok s ≡ t → nodes_ok s ≡ true
    by true e = sym (shape-root s e) ∙ h
    by false e = absurd (true≢false (sym h ∙ shape-fails s e))

pub right : (s : List ℕ) → sizes_ok s ≡ true → shape_ok s ≡ true → Right s
unfolding nodes_by
right s h g =
    let b = sizes-right s h in record { some = b.0; few = b.1; nodes = λ j l. all-at (node_ok s) (node_count s) j (shape-nodes s g) l }

-- a Switch has a subject, its blocks and its cases
own-switch : (k m a b : ℕ) → k ≡ switch_kind → own_rule k m a b ≡ true → 1 + 2 * a + b ≤ m
unfolding own_rule
own-switch k m a b e h = let l = rw (eq-eqb k switch_kind e) at (simp and-eq-true_iff at h).1 in leb-true (1 + 2 * a + b) m l

-- Facts of node j, from the check of its own fields
module _ (s : List ℕ) (C : Right s) where
  pub node-own : (j : ℕ) → Valid s j → self_ok s j (node_count s) ≡ true
  node-own j v = by (self_ok s j (node_count s)) refl
    where
      by : (t : Bool) → self_ok s j (node_count s) ≡ t → self_ok s j (node_count s) ≡ true
      by true e = e
      by false e = absurd (true≢false (sym (C.nodes j v) ∙ node-fails s j e))

  node-tiles : (j : ℕ) → Valid s j → tiles (count s j) s j (j + span s j) 0 (j + 1) ≡ true
  node-tiles j v = sym (node-self s j (node-own j v)) ∙ C.nodes j v

  -- the kind, and the least count of children for it
  pub node-bounds : (j : ℕ) → Valid s j → (kind s j ≤ last_kind) × (bound (kind s j) 0 ≤ count s j)
  unfolding self_by within_bounds_by
  node-bounds j v = let k = simp and-eq-true_iff at (node-own j v) in omega (arith, leb-true)

  -- nothing wraps
  pub next-is : (j : ℕ) → j + span s j ≤ node_count s → next s j ≡ j + span s j
  unfolding next_by
  next-is j h = let l = C.few in mod-eq_of_lt (omega arith)

  pub child-is : (j : ℕ) → Valid s j → child j ≡ j + 1
  unfolding child
  child-is j v = let l = C.few in mod-eq_of_lt (omega arith)

  pub tiles-goes : (m n e i j : ℕ) → child_ok s n e i j ≡ true → tiles (suc m) s n e i j ≡ tiles m s n e (suc i) (j + span s j)
  unfolding tiles_by
  tiles-goes m n e i j h = rw (h, tiles_by)

  pub tiles-ends : (m n e i j : ℕ) → child_ok s n e i j ≡ false → tiles (suc m) s n e i j ≡ false
  unfolding tiles_by
  tiles-ends m n e i j h = rw (h, tiles_by)

  -- a child has one node at least, and ends at e or before
  child-lies : (n e i j : ℕ) → child_ok s n e i j ≡ true → (1 ≤ span s j) × (j + span s j ≤ e)
  unfolding child_words
  child-lies n e i j h = let k = simp and-eq-true_iff at h in omega (arith, leb-true)

  -- m children that tile nodes up to e
  tiles-row : (m n e i j : ℕ) → e ≤ node_count s → tiles m s n e i j ≡ true → Row s m j
  tiles-row zero n e i j l h = row-none
  tiles-row (suc m) n e i j l h = by (child_ok s n e i j) refl (tiles-row m n e (suc i) (next s j) l)
    where
      by : (t : Bool) → child_ok s n e i j ≡ t → (tiles m s n e (suc i) (next s j) ≡ true → Row s m (next s j)) → Row s (suc m) j
      by true c more =
          let k = child-lies n e i j c in
          row_cons (omega arith) (more (rw (next-is j (omega arith)) (sym (tiles-goes m n e i j c) ∙ h)))
      by false c more = absurd (true≢false (sym h ∙ tiles-ends m n e i j c))

  pub children : (j : ℕ) → Valid s j → Row s (count s j) (child j)
  children j v =
      rw (child-is j v)
      (tiles-row (count s j) j (j + span s j) 0 (j + 1) (self-end s j (node_count s) (node-own j v)) (node-tiles j v))

  pub child-valid : (j : ℕ) → Valid s j → 1 ≤ count s j → Valid s (child j)
  child-valid j v h = row_first {n = 0} (row-less h (children j v))

  pub root-valid : Valid s 0
  root-valid = C.some

  -- the children of the Switch at node 0
  module _ (e : kind s 0 ≡ switch_kind) where
    pub switch-count : 1 + 2 * block_count s + field_b s 0 ≤ count s 0
    unfolding self_by
    switch-count =
        let k = simp and-eq-true_iff at (node-own 0 root-valid) in
        own-switch (kind s 0) (count s 0) (field_a s 0) (field_b s 0) e k.0.0.0.1

    switch-child : (i : ℕ) → i < 1 + 2 * block_count s → Valid s (skip s i subject)
    switch-child i h = let l = switch-count in (children 0 root-valid).each i (omega arith)

    pub subject-valid : Valid s subject
    unfolding skip
    subject-valid = switch-child 0 (omega arith)

    pub guard-valid : (k : ℕ) → k < block_count s → Valid s (guard_of s k)
    unfolding guard_of
    guard-valid k h = switch-child (1 + 2 * k) (omega arith)

    pub body-valid : (k : ℕ) → k < block_count s → Valid s (body_of s k)
    unfolding body_of
    body-valid k h = switch-child (2 + 2 * k) (omega arith)

    pub cases-row : Row s (field_b s 0) (skip s (1 + 2 * block_count s) subject)
    cases-row =
        let l = switch-count in
        row-skip s (1 + 2 * block_count s) (field_b s 0) subject (row-less (omega arith) (children 0 root-valid))

    pub ranges-row : Row s (count s 0 - (1 + 2 * block_count s + field_b s 0)) (skip s (1 + 2 * block_count s + field_b s 0) subject)
    ranges-row =
        let l = switch-count in
        let before = 1 + 2 * block_count s + field_b s 0 in
        row-skip s before (count s 0 - before) subject (row-less (omega arith) (children 0 root-valid))
