-- The small parts: an instruction that is counted alone, jumps, a guard with its jump.
use Rattle.std.proofs.Common.{◌≡◌, ℕ, ◌+◌, ◌%◌, Bool, true, false, List, sym, refl, arith}
use Rattle.scratch_store.proofs.GrowingLaws.{growing-emit}
use Rattle.sheet.specs.Node.{position}
use Rattle.bytecode.specs.declared.Op.TheVariants.{Jump, JumpIfTrue}
use Rattle.lowering.specs.Code.{no_pos}
use Rattle.lowering.specs.Pools.{emits}
use Rattle.expr_chains.proofs.KeptLaws.{kept-emits}
use Rattle.expr_model.specs.Made.{Made, emit}
use Rattle.expr_model.specs.Construct.{Low}
use Rattle.scratch.specs.declared.Layout.{Layout}
use Rattle.scratch_store.specs.declared.State.{State}
use Rattle.scratch_store.specs.Holds.{Holds}
use Rattle.scratch_store.specs.Does.{Fits, Does}
use Rattle.scratch_store.proofs.DoesLaws.{does-same, does-seq, does-none}
use Rattle.scratch_store.proofs.FrameLaws.{pools-same, pools-counts}
use Rattle.switch_model.specs.Change.{dropped, jump_to}
use Rattle.switch_model.proofs.LoopLaws.{jump_kept}
use Rattle.expr_emit.proofs.Doing.{does_at}
use Rattle.std.specs.Prelude.{None, Some}
use Rattle.switch_emit.specs.Parts.{dropped_in, goes, end_arm, try_one}

-- ---- an instruction that is counted and has no code

dropped-holds : {s : List ℕ} {l : Layout} {xs : List ℕ} {st : State} {a : Made} → Fits l (dropped a) → Holds s l xs st a
    → Holds s l xs (dropped_in st) (dropped a)
unfolding dropped emits
dropped-holds {s} {l} {xs} {st} {a} f h =
    let c = h.counts in
    let e = c.emitted in
    let few = h.fit.few in
    let one : (st.emitted + 1) % 4294967296 ≡ st.emitted + 1 = let w = c.within in omega arith in
    record {
      fit = h.fit;
      counts = record {
        code = c.code;
        residuals = c.residuals;
        emitted = omega arith;
        depth = c.depth;
        deepest = c.deepest;
        standing = let z = c.standing in omega arith;
        kept = let z = c.kept in omega arith;
        low = let z = c.low in omega arith;
        within = omega arith;
      };
      laid = record { layout = h.laid.layout; steps = h.laid.steps; few = h.laid.few };
      emitted = record { code = h.emitted.code; positions = h.emitted.positions; residuals = h.emitted.residuals };
      pooled =
          pools-counts (dropped_in st) (record { consts = refl; tokens = refl; chains = refl; names = refl })
          (pools-same (record { consts = refl; tokens = refl; chains = refl; names = refl })
          (record { consts = refl; tokens = refl; names = refl; chains = λ ks k. kept-emits s 1 a.pools k }) h.pooled);
      index = h.index;
    }

-- what the place of a jump tells
goes-none : (drop : Bool) (place : ℕ) → goes drop place ≡ None → drop ≡ true
goes-none true place e = refl
goes-none false place e = cc

goes-some : (drop : Bool) (place to : ℕ) → goes drop place ≡ Some to → (drop ≡ false) × (place ≡ to)
goes-some true place to e = cc
goes-some false place to e = (refl, cc)

pub dropped-does : {s : List ℕ} {l : Layout} {xs : List ℕ} {r : State} (c : State) (to : ℕ) (drop : Bool) → goes drop to ≡ None
    → r ≡ dropped_in c → Does s l xs c xs r (jump_to drop to)
unfolding jump_to
dropped-does c to drop e q = rw (goes-none drop to e) (record { holds = λ a h f. rw q (dropped-holds f h) })

module _ {s : List ℕ} {l : Layout} {xs ys : List ℕ} {st r : State} where
  pub jump-does : (to place : ℕ) (drop : Bool) → goes drop place ≡ Some to → Does s l xs st ys r (emit (Jump to) no_pos 0)
      → Does s l xs st ys r (jump_to drop place)
  jump-does to place drop e d =
      let told = goes-some drop place to e in
      rw (told.0, told.1) (does-same (jump_to false to) (λ a h. sym (jump_kept to a)) d)

  -- the end of a chain
  pub end-jumps : (any drop : Bool) (to : ℕ) → any ≡ true → Does s l xs st ys r (jump_to drop to)
      → Does s l xs st ys r (end_arm any drop to)
  unfolding end_arm
  end-jumps any drop to e d = rw e d

pub end_none : {s : List ℕ} {l : Layout} {xs : List ℕ} {st : State} (any drop : Bool) (to : ℕ) → any ≡ false
    → Does s l xs st xs st (end_arm any drop to)
unfolding end_arm
end_none {xs = xs} {st} any drop to e = rw e (does-none xs st)

-- ---- a guard and its jump

pub try-does : {s : List ℕ} {l : Layout} (low : Low) (to g : ℕ) {xs ys zs : List ℕ} {st q r : State} (pos : ℕ) → pos ≡ position s g
    → Does s l xs st ys q (low g) → Does s l ys q zs r (emit (JumpIfTrue to) pos 0) → Does s l xs st zs r (try_one s low to g)
unfolding try_one
try-does {s} low to g pos e d j =
    does-same (try_one s low to g) (λ a k. refl)
    (does-seq (growing-emit (JumpIfTrue to) (position s g) 0) d (does_at (λ p. emit (JumpIfTrue to) p 0) e j))
