-- What stands behind a sibling, case by case.
use Rattle.std.proofs.Common.{◌≡◌, ℕ, zero, suc, Bool, List, sym, subst}
use Rattle.std.specs.Int.{from_bool}
use Rattle.scratch_store.proofs.GrowingLaws.{growing-emit}
use Rattle.bytecode.specs.declared.Op.{Op}
use Rattle.bytecode.specs.declared.Op.TheVariants.{CheckSize, InterpolateAppend, SkipIfNotUnit, Pop}
use Rattle.lowering.specs.ShortCircuit.{jump_on}
use Rattle.expr_model.specs.Made.{emit}
use Rattle.scratch.specs.declared.Layout.{Layout}
use Rattle.scratch_store.specs.declared.State.{State}
use Rattle.scratch_store.specs.Does.{Does}
use Rattle.scratch_store.proofs.DoesLaws.{does-none, does-seq}
use Rattle.scratch_store.specs.Effects.{Narrow}
use Rattle.expr_emit.specs.declared.after.After.{After}
use Rattle.expr_emit.specs.declared.after.After.TheVariants.{Nothing, CheckPlace, Append, Decide, Unless}
use Rattle.expr_emit.proofs.Doing.{does_at}
use Rattle.expr_emit.specs.Siblings.{after_one}

jump-narrow : (stop to : ℕ) → Narrow (jump_on stop to)
unfolding jump_on
jump-narrow zero to = tt
jump-narrow (suc n) to = tt

module _ {s : List ℕ} {l : Layout} {xs ys : List ℕ} {st r : State} (by : After) (i pos : ℕ) where
  pub after_check : by ≡ CheckPlace → Does s l xs st ys r (emit (CheckSize i) pos 0) → Does s l xs st ys r (after_one by i pos)
  unfolding after_one
  after_check e d = does_at (λ (b : After). after_one b i pos) (sym e) d

  pub after-append : by ≡ Append → Does s l xs st ys r (emit InterpolateAppend pos 0) → Does s l xs st ys r (after_one by i pos)
  unfolding after_one
  after-append e d = does_at (λ (b : After). after_one b i pos) (sym e) d

  pub after-decide : (stop : Bool) (to : ℕ) (op : Op) → by ≡ Decide stop to → op ≡ jump_on (from_bool stop) to → (Narrow op → Does s l xs st ys r (emit op pos 0))
      → Does s l xs st ys r (after_one by i pos)
  unfolding after_one
  after-decide stop to op e o d =
      let jump = subst (λ (k : Op). Narrow k → Does s l xs st ys r (emit k pos 0)) o d in
      does_at (λ (b : After). after_one b i pos) (sym e) (jump (jump-narrow (from_bool stop) to))

  pub after-unless : (to : ℕ) → by ≡ Unless to → Does s l xs st ys r (after_one (Unless to) i pos) → Does s l xs st ys r (after_one by i pos)
  after-unless to e d = does_at (λ (b : After). after_one b i pos) (sym e) d

pub after_nothing : {s : List ℕ} {l : Layout} {xs : List ℕ} {st : State} (by : After) (i pos : ℕ) → by ≡ Nothing
    → Does s l xs st xs st (after_one by i pos)
unfolding after_one
after_nothing {s} {l} {xs} {st} by i pos e = subst (λ (b : After). Does s l xs st xs st (after_one b i pos)) (sym e) (does-none xs st)

pub unless-does : {s : List ℕ} {l : Layout} {xs ys zs : List ℕ} {st q r : State} (to i pos : ℕ)
    → Does s l xs st ys q (emit (SkipIfNotUnit to) pos 0) → Does s l ys q zs r (emit Pop pos 0)
    → Does s l xs st zs r (after_one (Unless to) i pos)
unfolding after_one
unless-does to i pos d e = does-seq (growing-emit Pop pos 0) d e
