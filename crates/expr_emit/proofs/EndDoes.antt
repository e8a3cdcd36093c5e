-- Where the code of a node ends, the end of And and Or, and the constructs of siblings as rows.
use Rattle.std.specs.Int.{from_bool}
use Rattle.std.proofs.Common.{◌≡◌, ℕ, ◌+◌, ◌-◌, ◌%◌, ◌^◌, ◌≤◌, min, Bool, true, false, not, List, sym, refl, ap, ◌∙◌, subst, mod-eq_of_lt, arith}
use Rattle.scratch_store.proofs.GrowingLaws.{growing-emit, growing-depth}
use Rattle.bytecode.specs.declared.Op.TheVariants as ops
use Rattle.bytecode.specs.declared.Op.TheVariants.{Jump}
use Rattle.lowering.specs.Code.{no_pos}
use Rattle.expr_count.specs.declared.tallies.Tally.{Tally}
use Rattle.expr_count.specs.Limits.{cap}
use Rattle.expr_count.specs.Tally.{capped}
use Rattle.expr_count.specs.Count.{tally}
use Rattle.expr_model.specs.Made.{Made, place, emit, at_depth, lowered}
use Rattle.expr_model.proofs.TallyLaws.{tally-within}
use Rattle.expr_model.proofs.LoweredLaws.{lowered-emitted}
use Rattle.expr_model.proofs.Growing.{depth-grows}
use Rattle.scratch.specs.declared.Layout.{Layout}
use Rattle.scratch_store.specs.declared.State.{State}
use Rattle.scratch_store.specs.Holds.{Holds}
use Rattle.scratch_store.specs.States as states
use Rattle.scratch_store.proofs.ResidualLaws.{depth-holds}
use Rattle.scratch_store.proofs.HoldsLaws.{code_is, code-low, most-few}
use Rattle.scratch_store.specs.Does.{Fits, Growing, Does}
use Rattle.scratch_store.proofs.DoesLaws.{growing-seq}
use Rattle.expr_emit.specs.Decision.{decision}

-- ---- growth

pub decision-grows : (stop end d : ℕ) → Growing (decision stop end d)
unfolding decision
decision-grows stop end d =
    growing-seq (growing-seq (growing-seq (growing-emit (ops.Bool (1 - stop)) no_pos 0) (growing-emit (Jump end) no_pos 0)) (growing-depth d))
    (growing-emit (ops.Bool stop) no_pos 0)

-- ---- the end of And and Or

-- the other word of a bool
pub other-word : (b : Bool) → from_bool (not b) ≡ 1 - from_bool b
other-word true = refl
other-word false = refl

-- the depth, as the code sets it
pub held-at-depth :
    {s : List ℕ} {l : Layout} {xs : List ℕ} {r : State} {d : ℕ} {a : Made} (c : State) → r ≡ states.at_depth c d
    → d ≤ a.pools.emitted → Holds s l xs c a → Holds s l xs r (at_depth d a)
held-at-depth {s} {l} {xs} {d = d} {a} c e few h =
    subst (λ (q : State). Holds s l xs q (at_depth d a)) (sym e) (depth-holds d few h)

pub decision-holds : {s : List ℕ} {l : Layout} {xs ys zs ws : List ℕ} {st p q t r : State} (stop end d : ℕ) (a : Made)
    → d ≤ a.pools.emitted
    → Holds s l xs st a → Fits l (decision stop end d a)
    → Does s l xs st ys p (emit (ops.Bool (1 - stop)) 0 0) → Does s l ys p zs q (emit (Jump end) 0 0)
    → ((b : Made) → d ≤ b.pools.emitted → Holds s l zs q b → Holds s l zs t (at_depth d b))
    → Does s l zs t ws r (emit (ops.Bool stop) 0 0) → Holds s l ws r (decision stop end d a)
unfolding decision
decision-holds {l = l} stop end d a few h room first jump deep last =
    let x = emit (ops.Bool (1 - stop)) no_pos 0 a in
    let y = emit (Jump end) no_pos 0 x in
    let z = at_depth d y in
    let gx = (growing-emit (ops.Bool (1 - stop)) no_pos 0).each a in
    let gy = (growing-emit (Jump end) no_pos 0).each x in
    let gz = depth-grows d y in
    let gl = (growing-emit (ops.Bool stop) no_pos 0).each z in
    let most : (emit (ops.Bool stop) no_pos 0 z).pools.emitted ≤ l.most = room in
    last.holds z (deep y (omega arith) (jump.holds x (first.holds a h (omega arith)) (omega arith))) room

-- ---- where the code of a node ends

pub capped-len : (t u : Tally) → t ≡ capped u → t.len ≡ min u.len cap
unfolding capped
capped-len t u e = ap (λ (x : Tally). x.len) e

pub end-right : {s : List ℕ} {l : Layout} {xs : List ℕ} {st : State} {a : Made} (levels j : ℕ) → Holds s l xs st a
    → Fits l (lowered levels s j a)
    → (st.code + min (tally levels s j).len cap) % 2 ^ 32 ≡ place a + (tally levels s j).len
end-right {s} {l} {xs} {st} {a} levels j h room =
    let here = code_is h in
    let short = code-low h in
    let few = most-few h in
    let more = lowered-emitted levels s j a in
    let within = tally-within levels s j in
    let whole : st.code + min (tally levels s j).len cap ≡ place a + (tally levels s j).len = omega arith in
    ap (λ (n : ℕ). n % 2 ^ 32) whole ∙ mod-eq_of_lt (omega arith)
