-- Laws of siblings that are lowered one after another: one more of them, and all of them.
use Rattle.std.proofs.Common.{◌≡◌, ℕ, zero, suc, Bool, List, refl, ap}
use Rattle.std.specs.Int.{from_bool}
use Rattle.sheet.specs.Node.{position}
use Rattle.sheet.specs.Walk.{skip}
use Rattle.bytecode.specs.declared.Op.TheVariants.{CheckSize, InterpolateAppend, SkipIfNotUnit, Pop}
use Rattle.lowering.specs.ShortCircuit.{jump_on}
use Rattle.expr_model.specs.Made.{Made, emit}
use Rattle.expr_model.specs.Construct.{Low, operands, elements, segments, decided, skipped}
use Rattle.expr_emit.specs.declared.after.After.TheVariants.{Nothing, CheckPlace, Append, Decide, Unless}
use Rattle.expr_emit.specs.Siblings.{after_one, rows}

module _ (s : List ℕ) (low : Low) where
  pub rows-operands : (n j : ℕ) (a : Made) → rows s low Nothing n j a ≡ operands s low n j a
  unfolding rows after_one operands
  rows-operands zero j a = refl
  rows-operands (suc n) j a = ap (low (skip s n j)) (rows-operands n j a)

  pub rows-elements : (n j : ℕ) (a : Made) → rows s low CheckPlace n j a ≡ elements s low n j a
  unfolding rows after_one elements
  rows-elements zero j a = refl
  rows-elements (suc n) j a = ap (λ (b : Made). emit (CheckSize n) (position s (skip s n j)) 0 (low (skip s n j) b)) (rows-elements n j a)

  pub rows-segments : (n j : ℕ) (a : Made) → rows s low Append n j a ≡ segments s low n j a
  unfolding rows after_one segments
  rows-segments zero j a = refl
  rows-segments (suc n) j a =
      ap (λ (b : Made). emit InterpolateAppend (position s (skip s n j)) 0 (low (skip s n j) b)) (rows-segments n j a)

  pub rows-decided : (stop : Bool) (to n j : ℕ) (a : Made) → rows s low (Decide stop to) n j a ≡ decided s low (jump_on (from_bool stop) to) n j a
  unfolding rows after_one decided
  rows-decided stop to zero j a = refl
  rows-decided stop to (suc n) j a =
      ap (λ (b : Made). emit (jump_on (from_bool stop) to) (position s (skip s n j)) 0 (low (skip s n j) b)) (rows-decided stop to n j a)

  pub rows-skipped : (to n j : ℕ) (a : Made) → rows s low (Unless to) n j a ≡ skipped s low to n j a
  unfolding rows after_one skipped
  rows-skipped to zero j a = refl
  rows-skipped to (suc n) j a =
      let v = skip s n j in
      ap (λ (b : Made). emit Pop (position s v) 0 (emit (SkipIfNotUnit to) (position s v) 0 (low v b))) (rows-skipped to n j a)
