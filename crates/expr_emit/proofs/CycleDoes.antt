-- The members of the cycle, from what the calls in them do.
use Rattle.std.proofs.Common.{◌≡◌, ℕ, zero, suc, ◌+◌, ◌<◌, ◌≤◌, List, sym, refl, ap, ◌∙◌, subst, arith}
use Rattle.scratch_store.proofs.GrowingLaws.{growing-emit}
use Rattle.sheet.specs.Node.{count, position, child}
use Rattle.sheet.specs.Walk.{skip}
use Rattle.bytecode.specs.declared.Op.TheVariants.{MakeArray, InterpolateStart, InterpolateEnd}
use Rattle.lowering.specs.Limits.{max_elements}
use Rattle.lowering.specs.Nodes.{Right, Valid, Row}
use Rattle.lowering.proofs.NodesLaws.{children}
use Rattle.expr_count.specs.declared.operands.Operands.{Operands}
use Rattle.expr_count.specs.Operands.{all}
use Rattle.expr_model.specs.Made.{Made, emit, residual, lowered}
use Rattle.expr_model.specs.Construct.{Low, array, interpolated}
use Rattle.expr_model.proofs.WayLaws.{array-few, array-many}
use Rattle.expr_model.proofs.Growing.{lowered-grows}
use Rattle.scratch.specs.declared.Layout.{Layout}
use Rattle.scratch_store.specs.declared.State.{State}
use Rattle.scratch_store.specs.Does.{Growing, Does}
use Rattle.scratch_store.proofs.DoesLaws.{does-seq, does-same, does-none, growing-seq, growing-none}
use Rattle.expr_emit.specs.declared.after.After.{After}
use Rattle.expr_emit.specs.declared.after.After.TheVariants.{Nothing, CheckPlace, Append, Decide, Unless}
use Rattle.expr_emit.proofs.Doing.{does_at}
use Rattle.expr_emit.specs.Siblings.{after_one, rows}
use Rattle.expr_emit.proofs.SiblingsLaws.{rows-elements, rows-segments}

-- ---- siblings

pub skip_first : (s : List ℕ) (j : ℕ) → j ≡ skip s 0 j
unfolding skip
skip_first s j = refl

module _ {s : List ℕ} {l : Layout} (low : Low) (by : After) (n from : ℕ) where
  pub rows_start : (i : ℕ) → i ≡ 0 → (xs : List ℕ) (st : State) → Does s l xs st xs st (rows s low by i from)
  unfolding rows
  rows_start i e xs st = does_at (λ m. rows s low by m from) (sym e) (does-none xs st)

  pub rows-done : {xs ys : List ℕ} {st r : State} (i : ℕ) → i ≡ n → Does s l xs st ys r (rows s low by i from)
      → Does s l xs st ys r (rows s low by n from)
  rows-done i h d = does_at (λ m. rows s low by m from) h d

after-grows : (by : After) (i pos : ℕ) → Growing (after_one by i pos)
unfolding after_one
after-grows Nothing i pos = growing-none
after-grows CheckPlace i pos = growing-emit _ pos 0
after-grows Append i pos = growing-emit _ pos 0
after-grows (Decide stop to) i pos = growing-emit _ pos 0
after-grows (Unless to) i pos = growing-seq (growing-emit _ pos 0) (growing-emit _ pos 0)

pub low-grows : (levels : ℕ) (s : List ℕ) (j : ℕ) → Growing (lowered levels s j)
low-grows levels s j = record { each = lowered-grows levels s j }

rows_next : (s : List ℕ) (low : Low) (by : After) (i from : ℕ) (a : Made)
    → rows s low by (suc i) from a ≡ after_one by i (position s (skip s i from)) (low (skip s i from) (rows s low by i from a))
unfolding rows
rows_next s low by i from a = refl

pub rows_grow : (levels : ℕ) (s : List ℕ) (by : After) (n from : ℕ) → Growing (rows s (lowered levels s) by n from)
unfolding rows
rows_grow levels s by zero from = growing-none
rows_grow levels s by (suc n) from =
    growing-seq (rows_grow levels s by n from)
    (growing-seq (low-grows levels s (skip s n from)) (after-grows by n (position s (skip s n from))))

-- one more sibling, node j
pub rows_more : {s : List ℕ} {l : Layout} {ws xs ys zs : List ℕ} {st q t r : State} (levels : ℕ) (by : After) (n from i k j pos : ℕ) → i < n
    → k ≡ i
    → j ≡ skip s i from → pos ≡ position s j → Row s n from
    → Does s l ws st xs q (rows s (lowered levels s) by i from) → (Valid s j → Does s l xs q ys t (lowered levels s j))
    → Does s l ys t zs r (after_one by k pos) → Does s l ws st zs r (rows s (lowered levels s) by (i + 1) from)
rows_more {s} {l} {ws} {xs} {ys} {zs} {st} {q} {t} {r} levels by n from i k j pos h at_i at_j at-pos row before node behind =
    let v = subst (Valid s) (sym at_j) (row.each i h) in
    let at_place : pos ≡ position s (skip s i from) = at-pos ∙ ap (position s) at_j in
    let one : suc i ≡ i + 1 = omega arith in
    does_at (λ m. rows s (lowered levels s) by m from) one
    (does-same (rows s (lowered levels s) by (suc i) from) (λ a h. sym (rows_next s (lowered levels s) by i from a))
    (does-seq (growing-seq (low-grows levels s (skip s i from)) (after-grows by i (position s (skip s i from)))) before
    (does-seq (after-grows by i (position s (skip s i from)))
    (does_at (lowered levels s) at_j (node v))
    (does_at (after_one by i) at_place (does_at (λ m. after_one by m pos) at_i behind)))))

-- ---- array, interpolated string

module _ {s : List ℕ} {l : Layout} {xs ys zs : List ℕ} {st q r : State} (levels j : ℕ) (o : Operands) (pos : ℕ) where
  pub array-does : Right s → Valid s j → o ≡ all s j → o.n ≤ max_elements → pos ≡ position s j
      → (Right s → Row s o.n o.from → Does s l xs st ys q (rows s (lowered levels s) CheckPlace o.n o.from))
      → Does s l ys q zs r (emit (MakeArray o.n) pos 0) → Does s l xs st zs r (array s (lowered levels s) j)
  array-does C v is few pos-is d e =
      let row : Row s o.n o.from = subst (λ x. Row s x.n x.from) (sym is) (children s C j v) in
      let few' : count s j ≤ max_elements = subst (λ x. x.n ≤ max_elements) is few in
      does-same (array s (lowered levels s) j)
      (λ a h. ap (emit (MakeArray (count s j)) (position s j) 0) (rows-elements s (lowered levels s) (count s j) (child j) a)
      ∙ array-few s (lowered levels s) j a few')
      (does-seq (growing-emit (MakeArray (count s j)) (position s j) 0)
      (does_at (λ x. rows s (lowered levels s) CheckPlace x.n x.from) is (d C row))
      (does_at (λ x. emit (MakeArray x.n) (position s j) 0) is (does_at (λ p. emit (MakeArray o.n) p 0) pos-is e)))

pub array-kept : {s : List ℕ} {l : Layout} {xs ys : List ℕ} {st r : State} (levels j : ℕ) (o : Operands) → o ≡ all s j → max_elements < o.n
    → Does s l xs st ys r (residual j) → Does s l xs st ys r (array s (lowered levels s) j)
array-kept {s} levels j o is many d =
    let many' : max_elements < count s j = subst (λ x. max_elements < x.n) is many in
    does-same (array s (lowered levels s) j) (λ a h. array-many s (lowered levels s) j a many') d

pub interpolated-does : {s : List ℕ} {l : Layout} {ws xs ys zs : List ℕ} {st p q r : State} (levels j : ℕ) (o : Operands)
    → Right s → Valid s j → o ≡ all s j → Does s l ws st xs p (emit InterpolateStart 0 0)
    → (Right s → Row s o.n o.from → Does s l xs p ys q (rows s (lowered levels s) Append o.n o.from))
    → Does s l ys q zs r (emit InterpolateEnd 0 0)
    → Does s l ws st zs r (interpolated s (lowered levels s) j)
unfolding interpolated
interpolated-does {s} {l} {ws} {xs} {ys} {zs} {st} {p} {q} {r} levels j o C v is first d last =
    let row : Row s o.n o.from = subst (λ x. Row s x.n x.from) (sym is) (children s C j v) in
    let low = lowered levels s in
    let body : Does s l xs p ys q (rows s low Append (count s j) (child j)) =
    does_at (λ x. rows s low Append x.n x.from) is (d C row) in
    does-same (interpolated s low j)
    (λ a h. ap (emit InterpolateEnd 0 0) (rows-segments s low (count s j) (child j) (emit InterpolateStart 0 0 a)))
    (does-seq (growing-emit InterpolateEnd 0 0) (does-seq (rows_grow levels s Append (count s j) (child j)) first body) last)
