-- In a checked sheet every block that the switch names exists: the Cases, their Refs and the Ranges are nodes of these kinds.
use Prim.Native.Nat.{ℕ, zero, suc, ◌+◌, ◌*◌, ◌-◌, ◌≤◌, ◌<◌}
use mathlib.Core.Path.{◌≡◌, refl, sym, ap, ◌∙◌, subst}
use mathlib.Core.Bool.{Bool, true, false, and-eq-true_iff, true≢false}
use mathlib.Core.Logic.{⊎_elim}
use mathlib.Core.List.Memᴰ
use mathlib.Core.List.{List, Memᴰ}
use native.Mathlib.Omega.{arith}
use native.Mathlib.Nat.{add-zero}
use borrow.Author.Tests.{leb-true, ltb-true, eqb-true, eq-eqb, ne_eqb, le-leb, lt-leb}
use Rattle.words.proofs.CountLaws.{all-at}
use Rattle.sheet.specs.Sections.{node_count, text_count}
use Rattle.sheet.specs.Node.{kind, span, count, field_a, field_b, field_c, child, next, namespace_word}
use Rattle.sheet.specs.Walk.{skip}
use Rattle.sheet.proofs.WalkLaws.{skip-add}
use Rattle.check_shape.specs.Kinds.{switch_child, case_child, child_kind, case_value}
use Rattle.check_shape.specs.Shape.{child_words, child_ok, tiles}
use Rattle.check_shape.proofs.ShapeLaws.{self-end, node-self}
use Rattle.check_numbers.specs.Numbers.{exist, number_by, number_ok, node_numbers_by, numbers_by, numbers_ok}
use Rattle.switch_split.specs.Range.{Range}
use Rattle.lowering.specs.Kinds.{switch_kind}
use Rattle.lowering.specs.SwitchSheet.{block_count, subject, nodes_from, cases_of, case_blocks, range_nodes, range_of, ranges_of}
use Rattle.lowering.specs.Nodes.{Valid, Right}
use Rattle.lowering.proofs.NodesLaws.{
  node-own,
  next-is,
  child-is,
  children,
  root-valid,
  switch-count,
  cases-row,
  ranges-row,
  tiles-goes,
  tiles-ends,
}
use Rattle.lowering.proofs.SwitchBlocks.{Blocks}

-- ---- the kinds of children

module _ (s : List ℕ) (C : Right s) where
  -- a child ends at e or before, and its kind fits
  child-fits : (n e i j : ℕ) → child_ok s n e i j ≡ true
      → (j + span s j ≤ e) × (child_kind (kind s n) (field_a s n) (field_b s n) i (kind s j) ≡ true)
  unfolding child_words
  child-fits n e i j h = let k = simp and-eq-true_iff at h in (leb-true (j + span s j) e k.0.1, k.1)

  tiles-kinds : (m n e i j : ℕ) → e ≤ node_count s → tiles m s n e i j ≡ true → (q : ℕ) → q < m
      → child_kind (kind s n) (field_a s n) (field_b s n) (i + q) (kind s (skip s q j)) ≡ true
  unfolding skip
  tiles-kinds zero n e i j l h q lt = absurd (omega arith)
  tiles-kinds (suc m) n e i j l h q lt = by (child_ok s n e i j) refl (tiles-kinds m n e (suc i) (next s j) l) q lt
    where
      by : (t : Bool) → child_ok s n e i j ≡ t
          → (tiles m s n e (suc i) (next s j) ≡ true → (q' : ℕ) → q' < m
          → child_kind (kind s n) (field_a s n) (field_b s n) (suc i + q') (kind s (skip s q' (next s j))) ≡ true)
          → (q' : ℕ) → q' < suc m → child_kind (kind s n) (field_a s n) (field_b s n) (i + q') (kind s (skip s q' j)) ≡ true
      by true c more zero lt' =
          subst (λ (x : ℕ). child_kind (kind s n) (field_a s n) (field_b s n) x (kind s j) ≡ true) (sym (add-zero i)) (child-fits n e i j c).1
      by true c more (suc q') lt' =
          let k = (child-fits n e i j c).0 in
          let x : suc i + q' ≡ i + suc q' = omega arith in
          subst (λ (y : ℕ). child_kind (kind s n) (field_a s n) (field_b s n) y (kind s (skip s q' (next s j))) ≡ true) x
          (more (subst (λ (y : ℕ). tiles m s n e (suc i) y ≡ true) (sym (next-is s C j (omega arith)))
          (sym (tiles-goes s C m n e i j c) ∙ h)) q' (omega arith))
      by false c more q' lt' = absurd (true≢false (sym h ∙ tiles-ends s C m n e i j c))

  -- child i of node j
  pub child-kind : (j : ℕ) → Valid s j → (i : ℕ) → i < count s j
      → child_kind (kind s j) (field_a s j) (field_b s j) i (kind s (skip s i (child j))) ≡ true
  child-kind j v i lt =
      let t : tiles (count s j) s j (j + span s j) 0 (j + 1) ≡ true = sym (node-self s j (node-own s C j v)) ∙ C.nodes j v in
      let k = tiles-kinds (count s j) j (j + span s j) 0 (j + 1) (self-end s j (node_count s) (node-own s C j v)) t i lt in
      let z : 0 + i ≡ i = omega arith in
      subst (λ (x : ℕ). child_kind (kind s j) (field_a s j) (field_b s j) i (kind s (skip s i x)) ≡ true) (sym (child-is s C j v))
      (subst (λ (x : ℕ). child_kind (kind s j) (field_a s j) (field_b s j) x (kind s (skip s i (j + 1))) ≡ true) z k)

-- in a Switch of K blocks and b cases, the Cases come behind the blocks, then the Ranges
pub switch-case : (p K b i k : ℕ) → p ≡ 19 → 2 * K < i → i ≤ 2 * K + b → child_kind p K b i k ≡ true → k ≡ 20
unfolding child_kind switch_child
switch-case p K b i k e l m h = eqb-true k 20 (rw (eq-eqb p 19 e, lt-leb i (2 * K) l, le-leb i (2 * K + b) m, child_kind, switch_child) at h)

-- and each of the Ranges is one
pub switch-range : (p K b i k : ℕ) → p ≡ 19 → 2 * K + b < i → child_kind p K b i k ≡ true → k ≡ 21
unfolding child_kind switch_child
switch-range p K b i k e l h =
    eqb-true k 21 (rw (eq-eqb p 19 e, lt-leb i (2 * K) (omega arith), lt-leb i (2 * K + b) l, child_kind, switch_child) at h)

-- in a Case, Refs come behind its value
pub case-ref : (p a b i k : ℕ) → p ≡ 20 → 0 < i → child_kind p a b i k ≡ true → k ≡ 22
unfolding child_kind case_child
case-ref p a b i k e l h =
    let h' : child_kind 20 a b i k ≡ true = subst (λ (n : ℕ). child_kind n a b i k ≡ true) e h in
    eqb-true k 22 (rw (ne_eqb i 0 (λ z. omega arith), case_child) at h')

-- and its value is first
pub value-kind : (p a b k : ℕ) → p ≡ 20 → child_kind p a b 0 k ≡ true → case_value k ≡ true
unfolding child_kind case_child
value-kind p a b k e h = subst (λ (n : ℕ). child_kind n a b 0 k ≡ true) e h

-- ---- numbers that exist

-- the block of a Ref
pub ref-exists : (X K k a b c x : ℕ) → k ≡ 22 → exist X K k a b c x ≡ true → a < K
unfolding exist
ref-exists X K k a b c x e h = let l = rw (eq-eqb k 22 e) at (simp and-eq-true_iff at h).1 in ltb-true a K l

-- of a Range
pub range-exists : (X K k a b c x : ℕ) → k ≡ 21 → exist X K k a b c x ≡ true → b < K
unfolding exist
range-exists X K k a b c x e h = let l = rw (eq-eqb k 21 e) at (simp and-eq-true_iff at h).0.1 in ltb-true b K l

-- and of the default
default-exist : (X K k a b c x : ℕ) → k ≡ 19 → exist X K k a b c x ≡ true → c ≤ K
unfolding exist
default-exist X K k a b c x e h = let l = rw (eq-eqb k 19 e) at (simp and-eq-true_iff at h).0.0.1 in leb-true c K l

-- a sibling is so many places behind the first
nodes-at : (s : List ℕ) (n j x : ℕ) → Memᴰ x (nodes_from s n j) → (q : ℕ) × (q < n) × (x ≡ skip s q j)
unfolding nodes_from skip
nodes-at s zero j x m = absurd (Memᴰ.not-nil m)
nodes-at s (suc n) j x m =
    ⊎_elim (λ e. (0, omega arith, e)) (λ k. let r = nodes-at s n (next s j) x k in (suc r.0, (let l = r.1 in omega arith), r.2))
    (Memᴰ.cases_cons m)

-- ---- the blocks of a switch

module _ (s : List ℕ) (C : Right s) (n : numbers_ok s ≡ true) (e : kind s 0 ≡ switch_kind) where
  -- the numbers of node j
  pub number_at : (j : ℕ) → Valid s j → exist (text_count s) (block_count s) (kind s j) (field_a s j) (field_b s j) (field_c s j) (namespace_word s j)
      ≡ true
  unfolding numbers_by node_numbers_by number_by
  number_at j v = all-at (number_ok s) (node_count s) j (simp and-eq-true_iff at n).0 v

  -- child i of the Switch
  pub switch-kind : (i : ℕ) → i < count s 0 → child_kind (kind s 0) (block_count s) (field_b s 0) i (kind s (skip s i subject)) ≡ true
  switch-kind = child-kind s C 0 (root-valid s C)

  pub case-node : (c : ℕ) → Memᴰ c (cases_of s) → Valid s c × (kind s c ≡ 20)
  unfolding cases_of
  case-node c m =
      let K = block_count s in
      let b = field_b s 0 in
      let r = nodes-at s b (skip s (1 + 2 * K) subject) c m in
      let lt = r.1 in
      let l = switch-count s C e in
      let at : c ≡ skip s (1 + 2 * K + r.0) subject = r.2 ∙ sym (skip-add s (1 + 2 * K) r.0 subject) in (
        subst (Valid s) (sym r.2) ((cases-row s C e).each r.0 lt),
        ap (kind s) at ∙ switch-case (kind s 0) K b (1 + 2 * K + r.0) (kind s (skip s (1 + 2 * K + r.0) subject)) e (omega arith)
            (omega arith) (switch-kind (1 + 2 * K + r.0) (omega arith)),
      )

  range-node : (x : ℕ) → Memᴰ x (range_nodes s) → Valid s x × (kind s x ≡ 21)
  unfolding range_nodes
  range-node x m =
      let K = block_count s in
      let b = field_b s 0 in
      let before = 1 + 2 * K + b in
      let r = nodes-at s (count s 0 - before) (skip s before subject) x m in
      let lt = r.1 in
      let l = switch-count s C e in
      let at : x ≡ skip s (before + r.0) subject = r.2 ∙ sym (skip-add s before r.0 subject) in (
        subst (Valid s) (sym r.2) ((ranges-row s C e).each r.0 lt),
        ap (kind s) at ∙ switch-range (kind s 0) K b (before + r.0) (kind s (skip s (before + r.0) subject)) e (omega arith)
            (switch-kind (before + r.0) (omega arith)),
      )

  -- a Ref of a Case
  ref-node : (c : ℕ) → Valid s c → kind s c ≡ 20 → (x : ℕ) → Memᴰ x (nodes_from s (count s c - 1) (next s (child c)))
      → Valid s x × (kind s x ≡ 22)
  unfolding skip
  ref-node c v k x m =
      let r = nodes-at s (count s c - 1) (next s (child c)) x m in
      let lt = r.1 in
      let at : x ≡ skip s (suc r.0) (child c) = r.2 in (
        subst (Valid s) (sym at) ((children s C c v).each (suc r.0) (omega arith)),
        ap (kind s) at ∙ case-ref (kind s c) (field_a s c) (field_b s c) (suc r.0) (kind s (skip s (suc r.0) (child c))) k (omega arith)
            (child-kind s C c v (suc r.0) (omega arith)),
      )

  pub checked-blocks : Blocks s
  unfolding case_blocks ranges_of range_of
  checked-blocks = record {
    default-exists =
        default-exist (text_count s) (block_count s) (kind s 0) (field_a s 0) (field_b s 0) (field_c s 0) (namespace_word s 0) e (number_at 0 (root-valid s C));
    cases-exist = λ c m k h.
        let v = case-node c m in
        let r = Memᴰ.of_map (λ (x : ℕ). field_a s x) (nodes_from s (count s c - 1) (next s (child c))) h in
        let w = ref-node c v.0 v.1 r.0 r.1 in
        subst (λ (i : ℕ). i < block_count s) r.2
        (ref-exists (text_count s) (block_count s) (kind s r.0) (field_a s r.0) (field_b s r.0) (field_c s r.0) (namespace_word s r.0) w.1
        (number_at r.0 w.0));
    ranges-exist = λ x m.
        let r = Memᴰ.of_map (range_of s) (range_nodes s) m in
        let w = range-node r.0 r.1 in
        subst (λ (y : Range). y.block < block_count s) r.2
        (range-exists (text_count s) (block_count s) (kind s r.0) (field_a s r.0) (field_b s r.0) (field_c s r.0) (namespace_word s r.0) w.1
        (number_at r.0 w.0));
  }
