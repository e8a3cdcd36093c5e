-- `check_texts::run` meets its contract. The loop's invariant: from i to r there are whole characters. Assumes nothing.
use Prim.Native.Nat.{◌≤◌, ◌+◌}
use mathlib.Core.Path.{sym}
use native.Mathlib.Omega.{arith}
use lib.ListN.{length}
use Rattle.text.proofs.ReadLaws.{read_fits}
use Rattle.text.proofs.RunLaws.{run_none, run-ascii, run-char}
use Rattle.check_texts.proofs.run.Goals.{In-Some}
use Rattle.check_texts.proofs.run.Goals as goal

-- the character lies within the bytes
fits :
    (c : In-Some) →
    (c.loop-r.r + c.in-Some.w ≤ length c.args.sheet.now)
fits c =
    read_fits c.args.sheet.now c.loop-r.r _ c.in-Some.ensures.length (omega arith)

pub loop-r-init : goal.loop-r-init
loop-r-init c = (omega arith, omega arith, run_none c.args.sheet.now c.args.i)

pub loop-r-preserved-then-sheet-r-lt128 : goal.loop-r-preserved-then-sheet-r-lt128
loop-r-preserved-then-sheet-r-lt128 c =
    let a = c.args in
    let more = run-ascii a.sheet.now a.i c.loop-r.r (omega arith) (omega arith) c.if-sheet-r-lt128.true c.loop-r.invariant.2 in
    (omega arith, omega arith, more)

pub returns-in-None : goal.returns-in-None
returns-in-None c =
    let inv = c.loop-r.invariant in
    record { passed = record { least = inv.0; most = inv.1; good = inv.2 }; stuck = λ h. sym c.in-None.ensures.length }

pub overflow_add-r-in-Some : goal.overflow_add-r-in-Some
overflow_add-r-in-Some c = omega (arith, fits c)

pub loop-r-smaller : goal.loop-r-smaller
loop-r-smaller c = omega (arith, c.in-Some.ensures.some)

pub loop-r-preserved : goal.loop-r-preserved
loop-r-preserved c =
    let a = c.args in
    let e = c.in-Some.ensures.length in
    let some = c.in-Some.ensures.some in
    (omega arith, fits c, run-char a.sheet.now a.i c.loop-r.r _ (omega arith) e (λ z. omega (arith, some)) c.loop-r.invariant.2)

pub returns : goal.returns
returns c =
    let inv = c.loop-r.invariant in
    record { passed = record { least = inv.0; most = inv.1; good = inv.2 }; stuck = λ h. absurd (omega arith) }
