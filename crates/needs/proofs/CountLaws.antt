-- The refusals by counts, way by way, and the counts of a sheet by its kind.
use Prim.Native.Nat.{ℕ, ◌+◌, ◌*◌, ◌<◌, ◌≤◌, min}
use mathlib.Core.Path.{◌≡◌, refl, sym, ap, ◌∙◌, subst}
use mathlib.Core.Bool.{Bool, true, false}
use mathlib.Core.List.{List}
use native.Mathlib.Omega.{arith}
use lib.Dec.{ltb}
use borrow.Author.Tests.{lt-ltb, le-ltb, ltb-true, ltb-false, eq-eqb, ne_eqb}
use Rattle.refusals.specs.declared.Refusal.{Refusal}
use Rattle.refusals.specs.declared.Refusal.TheVariants.{Eval, Emitted, ScratchShort}
use Rattle.refusals.proofs.RefusalLaws.{number-some}
use Rattle.checks.specs.Checked.{verdict_number, Verdict}
use Rattle.std.specs.Prelude.{Ok, Err}
use Rattle.sheet.specs.Limits.{max_depth}
use Rattle.sheet.specs.Node.{kind}
use Rattle.expr_count.specs.declared.tallies.Tally.{Tally}
use Rattle.expr_count.specs.Limits.{cap}
use Rattle.expr_count.specs.Tally.{taken_back, capped}
use Rattle.expr_count.specs.Count.{tally}
use Rattle.lowering.specs.Limits.{max_emitted, scratch_per_emitted, scratch_per_node, scratch_besides}
use Rattle.lowering.specs.Kinds.{switch_kind}
use Rattle.switch_count.specs.Total.{total, switch_total}
use Rattle.needs.specs.Counts.{Counts, over, early}

-- ---- whatever is lent

-- the refusal is k: an `eval` is reached, too many instructions, or none of these
pub data Over (d : Bool) (e : ℕ) : Verdict → Type 0 where
  reached : d ≡ true → Over d e (Err Eval)
  above : d ≡ false → max_emitted < e → Over d e (Err Emitted)
  within : d ≡ false → e ≤ max_emitted → Over d e (Ok tt)

module _ {d : Bool} {e : ℕ} where
  pub over-is : {k : Verdict} → Over d e k → k ≡ over d e
  unfolding over
  over-is (reached h) = rw (h, over)
  over-is (above h g) = rw (h, lt-ltb max_emitted e g, over)
  over-is (within h g) = rw (h, le-ltb max_emitted e g, over)

  -- a count that is cut off is still over the limit
  over-capped : {k : Verdict} → Over d e k → Over d (min e cap) k
  over-capped (reached h) = reached h
  over-capped (above h g) = above h (omega arith)
  over-capped (within h g) = within h (omega arith)

  pub over-few : {k : Verdict} → Over d e k → k ≡ Ok tt → e ≤ max_emitted
  over-few (reached h) z = let n = ap verdict_number z in absurd (omega arith)
  over-few (above h g) z = let n = ap verdict_number z in absurd (omega arith)
  over-few (within h g) z = g

pub over-told : (d : Bool) (e : ℕ) (k : Verdict) → k ≡ over d e → Over d e k
over-told d e k k-is = by d refl (ltb max_emitted e) refl
  where
    at : {j : Verdict} → Over d e j → Over d e k
    at w = subst (Over d e) (over-is w ∙ sym k-is) w

    by : (a : Bool) → d ≡ a → (b : Bool) → ltb max_emitted e ≡ b → Over d e k
    by true h b p = at (reached h)
    by false h true p = at (above h (ltb-true max_emitted e p))
    by false h false p = at (within h (ltb-false max_emitted e p))

-- ---- with m words of scratch and n nodes

-- the refusal is k: an `eval` is reached, too many instructions, too little scratch, or none of these
pub data Early (d : Bool) (e m n : ℕ) : Verdict → Type 0 where
  eval : d ≡ true → Early d e m n (Err Eval)
  many : d ≡ false → max_emitted < e → Early d e m n (Err Emitted)
  short : d ≡ false → e ≤ max_emitted → m < scratch_per_emitted * e + scratch_per_node * n + scratch_besides
      → Early d e m n (Err ScratchShort)
  none : d ≡ false → e ≤ max_emitted → scratch_per_emitted * e + scratch_per_node * n + scratch_besides ≤ m → Early d e m n (Ok tt)

module _ {d : Bool} {e m n : ℕ} where
  pub early-is : {k : Verdict} → Early d e m n k → k ≡ early d e m n
  unfolding early
  early-is (eval h) = rw (h, early)
  early-is (many h g) = rw (h, lt-ltb max_emitted e g, early)
  early-is (short h g l) = rw (h, le-ltb max_emitted e g, lt-ltb m (scratch_per_emitted * e + scratch_per_node * n + scratch_besides) l, early)
  early-is (none h g l) = rw (h, le-ltb max_emitted e g, le-ltb m (scratch_per_emitted * e + scratch_per_node * n + scratch_besides) l, early)

  -- a count that is cut off is still over the limit
  pub early-capped : {k : Verdict} → Early d e m n k → Early d (min e cap) m n k
  early-capped (eval h) = eval h
  early-capped (many h g) = many h (omega arith)
  early-capped (short h g l) = short h (omega arith) (omega arith)
  early-capped (none h g l) = none h (omega arith) (omega arith)

  pub few-emitted : {k : Verdict} → Early d e m n k → k ≡ Ok tt → e ≤ max_emitted
  few-emitted (eval h) z = let n = ap verdict_number z in absurd (omega arith)
  few-emitted (many h g) z = let n = ap verdict_number z in absurd (omega arith)
  few-emitted (short h g l) z = g
  few-emitted (none h g l) z = g

pub early-told : (d : Bool) (e m n : ℕ) (k : Verdict) → k ≡ early d e m n → Early d e m n k
early-told d e m n k k-is = by d refl (ltb max_emitted e) refl (ltb m (scratch_per_emitted * e + scratch_per_node * n + scratch_besides)) refl
  where
    at : {j : Verdict} → Early d e m n j → Early d e m n k
    at w = subst (Early d e m n) (early-is w ∙ sym k-is) w

    by : (a : Bool) → d ≡ a → (b : Bool) → ltb max_emitted e ≡ b → (c : Bool)
        → ltb m (scratch_per_emitted * e + scratch_per_node * n + scratch_besides) ≡ c → Early d e m n k
    by true h b p c q = at (eval h)
    by false h true p c q = at (many h (ltb-true max_emitted e p))
    by false h false p true q =
        at (short h (ltb-false max_emitted e p) (ltb-true m (scratch_per_emitted * e + scratch_per_node * n + scratch_besides) q))
    by false h false p false q =
        at (none h (ltb-false max_emitted e p) (ltb-false m (scratch_per_emitted * e + scratch_per_node * n + scratch_besides) q))

-- ---- in the shapes of the code: k by the counts, w words of scratch

module _ {d : Bool} {e : ℕ} (m n : ℕ) where
  pub early-over : {k : Verdict} {r : Refusal} → Over d e k → k ≡ Err r → Err r ≡ early d e m n
  early-over (reached h) q = sym q ∙ early-is (eval h)
  early-over (above h g) q = sym q ∙ early-is (many h g)
  early-over {r = r} (within h g) q = let n = ap verdict_number q in absurd (omega (arith, number-some r))

  module _ {w : ℕ} (w-is : w ≡ scratch_per_emitted * e + scratch_per_node * n + scratch_besides) where
    pub early-short : {k : Verdict} → Over d e k → k ≡ Ok tt → m < w → Err ScratchShort ≡ early d e m n
    early-short (reached h) z l = let n = ap verdict_number z in absurd (omega arith)
    early-short (above h g) z l = let n = ap verdict_number z in absurd (omega arith)
    early-short (within h g) z l = early-is (short h g (omega arith))

    pub early-none : {k : Verdict} → Over d e k → k ≡ Ok tt → w ≤ m → Ok tt ≡ early d e m n
    early-none (reached h) z l = let n = ap verdict_number z in absurd (omega arith)
    early-none (above h g) z l = let n = ap verdict_number z in absurd (omega arith)
    early-none (within h g) z l = early-is (none h g (omega arith))

-- ---- by the counts as the code has them, cut off

module _ {s : List ℕ} {t : Tally} (C : Counts s t) where
  pub decided-over : (k : Verdict) → k ≡ over t.defeated t.emitted → Over (total s).defeated (total s).emitted k
  unfolding capped taken_back
  decided-over k k-is =
      let way = over-told (total s).defeated (total s).emitted _ refl in
      let same = k-is ∙ ap (λ (u : Tally). over u.defeated u.emitted) C.is in
      subst (Over _ _) (over-is (over-capped way) ∙ sym same) way

  pub emitted-is : t.emitted ≡ min (total s).emitted cap
  unfolding capped taken_back
  emitted-is = ap (λ (u : Tally). u.emitted) C.is

-- ---- the counts of a sheet, by its kind

pub plain-counted : (s : List ℕ) (t : Tally) → (kind s 0 ≡ switch_kind → ⊥) → t ≡ capped (tally max_depth s 0) → Counts s t
unfolding capped taken_back total
plain-counted s t h e = record { is = ap taken_back e ∙ rw (ne_eqb (kind s 0) switch_kind h, total) }

pub total-switch : (s : List ℕ) → kind s 0 ≡ switch_kind → total s ≡ switch_total s
unfolding total
total-switch s h = rw (eq-eqb (kind s 0) switch_kind h, total)

pub switch-counted : (s : List ℕ) (t : Tally) → kind s 0 ≡ switch_kind → taken_back t ≡ capped (taken_back (switch_total s)) → Counts s t
switch-counted s t h e = record { is = e ∙ ap (λ (u : Tally). capped (taken_back u)) (sym (total-switch s h)) }
