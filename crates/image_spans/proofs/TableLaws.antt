-- A table's targets are all above p just where the least is; the tree tells it of the rows.
use Prim.Native.Nat.{ℕ, zero, suc, ◌+◌, ◌-◌, ◌/◌, ◌≤◌, ◌<◌, min}
use mathlib.Core.Path.{◌≡◌, refl, sym, ap, ap₂, ◌∙◌}
use mathlib.Core.Bool.{Bool, true, false, ◌&&◌, and-true, and_assoc}
use mathlib.Core.List.{List}
use native.Mathlib.Omega.{arith}
use borrow.Author.Tests.{ltb-true, ltb-false, lt-ltb, le-ltb, le-leb, lt-leb, eq-eqb, ne_eqb, eqb-true, eqb-false}
use lib.Dec.{eqb, ltb, leb}
use lib.ListN.{length}
use Rattle.words.specs.Count.{all_below}
use Rattle.words.proofs.CountLaws.{all_none, all-suc, all_same}
use Rattle.lowering.specs.Words.{switch_word}
use Rattle.lowering.specs.Run.{row_target}
use Rattle.image_rule.specs.Rules.{cases, tables, rows_there}
use Rattle.image_rule.specs.Test.{least, least_target}
use Rattle.image_read.specs.Targets.{target_of}
use Rattle.image_read.specs.Pools.{kind_of, rows_of, rows_before}
use Rattle.image_read.specs.declared.Rows.{Rows}
use Rattle.image_read.proofs.TargetLaws.{target-range, row-target}
use Rattle.image_maxima.specs.Tree.{leaf, Tree, leaves_up_to}
use Rattle.image_spans.specs.Premises.{RowsLie}
use Rattle.image_spans.specs.Leaves.{turned, row_count, TargetTree}
use Rattle.image_spans.proofs.ChainLaws.{run-leaves}

-- the order of targets and of leaves
turned-above : (p x : ℕ) → p < 4294967295 → leb (turned x) (4294967294 - p) ≡ ltb p x
turned-above p x h = by (ltb p x) refl
  where
    by : (b : Bool) → ltb p x ≡ b → leb (turned x) (4294967294 - p) ≡ ltb p x
    by true e = le-leb (turned x) (4294967294 - p) (omega (arith, ltb-true p x e)) ∙ sym e
    by false e = lt-leb (turned x) (4294967294 - p) (omega (arith, ltb-false p x e)) ∙ sym e

below-min : (p a b : ℕ) → ltb p (min a b) ≡ (ltb p a && ltb p b)
below-min p a b = by (ltb p a) refl (ltb p b) refl
  where
    by : (c : Bool) → ltb p a ≡ c → (d : Bool) → ltb p b ≡ d → ltb p (min a b) ≡ (ltb p a && ltb p b)
    by true e true g = rw (e, g) (lt-ltb p (min a b) (omega (arith, ltb-true p a e, ltb-true p b g)))
    by true e false g = rw (e, g) (le-ltb p (min a b) (omega (arith, ltb-false p b g)))
    by false e d g = rw e (le-ltb p (min a b) (omega (arith, ltb-false p a e)))

-- p is below the least just where it is below the default and each row
below-least : (f : ℕ → ℕ) (d k p : ℕ) → ltb p (least f d k) ≡ (ltb p d && all_below k (λ r. ltb p (f r)))
unfolding least
below-least f d zero p = rw (all_none (λ r. ltb p (f r))) (sym (and-true (ltb p d)))
below-least f d (suc k) p =
    below-min p (least f d k) (f k)
    ∙ ap (λ (b : Bool). b && ltb p (f k)) (below-least f d k p)
    ∙ and_assoc (ltb p d) (all_below k (λ r. ltb p (f r))) (ltb p (f k))
    ∙ ap (λ (b : Bool). ltb p d && b) (sym (all-suc (λ r. ltb p (f r)) k))

-- cases come first among the leaves, ranges behind them
before-first : (kind n : ℕ) → kind ≡ 0 → 0 ≡ rows_before kind n
unfolding rows_before
before-first kind n z = rw (eq-eqb kind 0 z, rows_before) refl

before-second : (kind n : ℕ) → (kind ≡ 0 → ⊥) → n ≡ rows_before kind n
unfolding rows_before
before-second kind n z = rw (ne_eqb kind 0 z, rows_before) refl

-- where the rows of table i are among the leaves
abbrev first_leaf : List ℕ → ℕ → ℕ
first_leaf w i = rows_before (switch_word w i 0) (cases w) + switch_word w i 1

-- the rows of a table lie among the leaves
rows_inside : {w : List ℕ} → RowsLie w → (i : ℕ) → i < tables w → first_leaf w i + switch_word w i 2 ≤ row_count w
unfolding rows_before rows_there
rows_inside {w} lie i h = by (eqb (switch_word w i 0) 0) refl
  where
    by : (b : Bool) → eqb (switch_word w i 0) 0 ≡ b → first_leaf w i + switch_word w i 2 ≤ row_count w
    by true e = rw (e, rows_before) (omega (arith, rw (e, rows_there) at (lie.runs i h)))
    by false e = rw (e, rows_before) (omega (arith, rw (e, rows_there) at (lie.runs i h)))

module _ {w t : List ℕ} (T : TargetTree w t) (i : ℕ) (h : i < tables w) where
  -- leaf of row r
  row-leaf : (r : ℕ) → r < switch_word w i 2 → leaf t (row_count w) (first_leaf w i + r) ≡ turned (row_target w i r)
  unfolding rows_before rows_there
  row-leaf r b = by (eqb (switch_word w i 0) 0) refl
    where
      by : (c : Bool) → eqb (switch_word w i 0) 0 ≡ c → leaf t (row_count w) (first_leaf w i + r) ≡ turned (row_target w i r)
      by true e =
          let z = eqb-true (switch_word w i 0) 0 e in
          let at : first_leaf w i + r ≡ switch_word w i 1 + r = omega (arith, before-first (switch_word w i 0) (cases w) z) in
          ap (leaf t (row_count w)) at
          ∙ T.first (switch_word w i 1 + r) (omega (arith, rw (e, rows_there) at (T.lie.runs i h)))
          ∙ ap turned (ap (λ (k : ℕ). target_of w k (switch_word w i 1 + r)) (sym z) ∙ sym (row-target w i r))
      by false e =
          let z = eqb-false (switch_word w i 0) 0 e in
          let at : first_leaf w i + r ≡ cases w + (switch_word w i 1 + r) = omega (arith, before-second (switch_word w i 0) (cases w) z) in
          ap (leaf t (row_count w)) at
          ∙ T.second (switch_word w i 1 + r) (omega (arith, rw (e, rows_there) at (T.lie.runs i h)))
          ∙ ap turned
          (target-range w 1 (switch_word w i 1 + r) refl
          ∙ sym (target-range w (switch_word w i 0) (switch_word w i 1 + r) e)
          ∙ sym (row-target w i r))

-- the leaves before the rows of a table, by its pool
before_pool : (kind n : ℕ) → rows_before (kind_of (rows_of kind)) n ≡ rows_before kind n
unfolding rows_before kind_of rows_of
before_pool kind n = by (eqb kind 0) refl
  where
    by : (b : Bool) → eqb kind 0 ≡ b → rows_before (kind_of (rows_of kind)) n ≡ rows_before kind n
    by true e = rw (e, rows_of, rows_before) refl
    by false e = rw (e, rows_of, rows_before) refl

-- the answer of table i, from the words that were read, `a` leaves before those of its pool
pub table-aims :
    {w t : List ℕ} (p i n kind a b k d : ℕ) {pool : Rows} (r : Bool)
    → n ≡ cases w
    → kind ≡ switch_word w i 0
    → pool ≡ rows_of kind
    → a ≡ rows_before (kind_of pool) n
    → b ≡ switch_word w i 1
    → k ≡ switch_word w i 2
    → d ≡ switch_word w i 3
    → (Tree t (length t / 2) → a + b + k ≤ length t / 2 → r ≡ leaves_up_to t (length t / 2) (a + b) (a + b + k) (4294967294 - p))
    → TargetTree w t
    → p < 4294967295
    → i < tables w
    → (ltb p d && r) ≡ ltb p (least_target w i)
unfolding least_target
table-aims {w} {t} p i n kind a b k d {pool} r en ekind epool ea eb ek ed says T small h =
    ap₂ ◌&&◌ (ap (ltb p) ed) rows ∙ sym (below-least (row_target w i) (switch_word w i 3) (switch_word w i 2) p)
  where
    before : a ≡ rows_before (switch_word w i 0) (cases w)
    before = ea ∙ rw (epool, en) (before_pool kind (cases w) ∙ ap (λ (x : ℕ). rows_before x (cases w)) ekind)

    first : a + b ≡ first_leaf w i
    first = rw (before, eb) refl

    rows : r ≡ all_below (switch_word w i 2) (λ j. ltb p (row_target w i j))
    rows =
        rw (T.half, first, ek) at says T.tree (rows_inside T.lie i h)
        ∙ run-leaves t (row_count w) (first_leaf w i) (switch_word w i 2) (4294967294 - p)
        ∙ all_same (λ j. leb (leaf t (row_count w) (first_leaf w i + j)) (4294967294 - p)) (λ j. ltb p (row_target w i j))
        (switch_word w i 2)
        (λ j q. ap (λ (x : ℕ). leb x (4294967294 - p)) (row-leaf T i h j q) ∙ turned-above p (row_target w i j) small)
