-- Counts that decide as the sheet's own do: these, cut off; or the greater of two between which they lie, where both are refused alike.
use Prim.Native.Nat.{ℕ, ◌≤◌, min}
use mathlib.Core.Path.{◌≡◌, refl, sym, ap, ◌∙◌}
use mathlib.Core.Bool.{Bool, true, false}
use mathlib.Core.List.{List}
use native.Mathlib.Omega.{arith}
use borrow.Author.Tests.{ne_eqb}
use Rattle.checks.specs.Checked.{verdict_number, Verdict}
use Rattle.sheet.specs.Limits.{max_depth}
use Rattle.sheet.specs.Sections.{node_count}
use Rattle.sheet.specs.Node.{kind}
use Rattle.lowering.specs.Kinds.{switch_kind}
use Rattle.expr_count.specs.declared.tallies.Tally.{Tally}
use Rattle.expr_count.specs.Limits.{cap}
use Rattle.expr_count.specs.Tally.{taken_back, capped}
use Rattle.expr_count.proofs.TallyLaws.{back-capped}
use Rattle.expr_count.specs.Count.{tally_by, tally}
use Rattle.expr_count.proofs.BoundLaws.{tally-least, tally-greatest}
use Rattle.switch_count.specs.Total.{total, switch_tally, switch_total}
use Rattle.switch_tables.specs.Planned.{entries}
use Rattle.needs.specs.Counts.{Counts, early, Decides}
use Rattle.needs.proofs.BoundLaws.{Less, less-of, switch-less}
use Rattle.needs.proofs.CountLaws.{Early, eval, many, short, none, early-is, early-capped, early-told, total-switch}

-- a count that is cut off decides alike
early-cut : (d : Bool) (e m n : ℕ) → early d e m n ≡ early d (min e cap) m n
early-cut d e m n = early-is (early-capped (early-told d e m n _ refl))

-- so does a count between two that do
early-between : {d : Bool} {e f g m n : ℕ} {k l : Verdict} → e ≤ f → f ≤ g → Early d e m n k → Early d g m n l
    → verdict_number k ≡ verdict_number l
    → Early d f m n l
early-between p q (eval h) (eval i) z = eval h
early-between p q (eval h) (many i j) z = absurd (omega arith)
early-between p q (eval h) (short i j o) z = absurd (omega arith)
early-between p q (eval h) (none i j o) z = absurd (omega arith)
early-between p q (many h r) (eval i) z = absurd (omega arith)
early-between p q (many h r) (many i j) z = many h (omega arith)
early-between p q (many h r) (short i j o) z = absurd (omega arith)
early-between p q (many h r) (none i j o) z = absurd (omega arith)
early-between p q (short h r a) (eval i) z = absurd (omega arith)
early-between p q (short h r a) (many i j) z = absurd (omega arith)
early-between p q (short h r a) (short i j o) z = short h (omega arith) (omega arith)
early-between p q (short h r a) (none i j o) z = absurd (omega arith)
early-between p q (none h r a) (eval i) z = absurd (omega arith)
early-between p q (none h r a) (many i j) z = absurd (omega arith)
early-between p q (none h r a) (short i j o) z = absurd (omega arith)
early-between p q (none h r a) (none i j o) z = none h (omega arith) (omega arith)

module _ (s : List ℕ) (m : ℕ) where
  -- the counts of the sheet, cut off
  pub exact-decides : {t : Tally} → Counts s t → Decides s m t
  unfolding capped taken_back
  exact-decides C = record {
    refusal_is = ap (λ (u : Tally). early u.defeated u.emitted m (node_count s)) C.is
        ∙ sym (early-cut (total s).defeated (total s).emitted m (node_count s));
    enough = let f = ap (λ (u : Tally). u.emitted) C.is in omega arith;
  }

  -- the greater of two between which they lie, where both are refused alike
  pub greater-decides : (a b t u : Tally) {nodes : ℕ} → Less a (total s) → Less (total s) b → taken_back t ≡ capped (taken_back a)
      → taken_back u ≡ capped (taken_back b) → nodes ≡ node_count s
      → verdict_number (early t.defeated t.emitted m nodes) ≡ verdict_number (early u.defeated u.emitted m nodes)
      → Decides s m u
  unfolding capped taken_back
  greater-decides a b t u {nodes = nodes} low high t-is u-is n-is same =
      let d = (total s).defeated in
      let e = (total s).emitted in
      let n = node_count s in
      let x = min a.emitted cap in
      let y = min b.emitted cap in
      let down : early t.defeated t.emitted m nodes ≡ early d x m n =
      ap (early t.defeated t.emitted m) n-is
      ∙ ap (λ (v : Tally). early v.defeated v.emitted m n) t-is
      ∙ ap (λ c. early c x m n) low.defeated in
      let up : early u.defeated u.emitted m n ≡ early d y m n =
      ap (λ (v : Tally). early v.defeated v.emitted m n) u-is ∙ ap (λ c. early c y m n) (sym high.defeated) in
      let g = low.emitted in
      let h = high.emitted in
      let alike =
      ap verdict_number (sym down) ∙ same ∙ ap verdict_number (ap (early u.defeated u.emitted m) n-is ∙ up) in
      let way =
      early-between {e = x} {f = min e cap} {g = y} (omega arith) (omega arith) (early-told d x m n _ refl) (early-told d y m n _ refl)
      alike in
      record {
        refusal_is = up ∙ early-is way ∙ sym (early-cut d e m n);
        enough = let f = ap (λ (v : Tally). v.emitted) u-is in omega arith;
      }

-- ---- with all Variables locals, and with none

-- the same by other locals
pub cut-back : (u : Tally) {t : Tally} → t ≡ capped u → taken_back t ≡ capped (taken_back u)
cut-back u e = ap taken_back e ∙ back-capped u

pub plain-between : (s : List ℕ) → (kind s 0 ≡ switch_kind → ⊥)
    → Less (tally_by (λ v. true) max_depth s 0) (total s) × Less (total s) (tally_by (λ v. false) max_depth s 0)
unfolding total
plain-between s h =
    rw (ne_eqb (kind s 0) switch_kind h, total)
    (less-of ((tally-least max_depth s).each 0), less-of ((tally-greatest max_depth s).each 0))

pub switch-between : (s : List ℕ) → kind s 0 ≡ switch_kind
    → Less (switch_tally s (tally_by (λ v. true) max_depth s) (entries s)) (total s)
    × Less (total s) (switch_tally s (tally_by (λ v. false) max_depth s) (entries s))
unfolding switch_total
switch-between s h =
    rw (total-switch s h) (
      switch-less s (tally_by (λ v. true) max_depth s) (tally max_depth s) (tally-least max_depth s) (entries s),
      switch-less s (tally max_depth s) (tally_by (λ v. false) max_depth s) (tally-greatest max_depth s) (entries s),
    )
