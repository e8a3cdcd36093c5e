-- `replay_records::agreeing` meets its contract: one call more.
use Rattle.std.proofs.Common.{◌≡◌, ap, ◌+◌, arith}
use Rattle.std.specs.Int.{from_bool}
use Rattle.replay_records.proofs.AgreedLaws.{called, agreed-none, agreed-more, agreed-few, stopped}
use Rattle.std.proofs.lemmas.Result.{err_from_is_err_and}
use Rattle.replay_records.proofs.agreeing.Goals as goal
use Rattle.replay_records.proofs.agreeing.Goals.{then-branch, else-branch}

pub loop-init : goal.loop-init
loop-init g c = agreed-none _ _

pub loop-preserved : goal.loop-preserved
loop-preserved g c =
    let b = c.in_ok-compare.field-0 in
    let more : c.if-branch.same ≡ c.loop.same + from_bool b =
    elim c.if-branch.branch [
      | then-branch w ↦ omega (arith, w.same-is, ap from_bool w.if-branch.true)
      | else-branch w ↦ omega (arith, w.same-is, ap from_bool w.if-branch.false)
    ] in
    agreed-more b c.loop.invariant (called _ _ c.in_ok-compare.ensures) more

pub returns-in_err-compare-clause-err : goal.returns-in_err-compare-clause-err
returns-in_err-compare-clause-err g c =
    let p = err_from_is_err_and c.from_residual.result c.from_residual.ensures.1 in
    stopped p.1 p.2 c.loop-test.true c.loop.invariant (called _ _ c.in_err-compare.ensures)

pub returns-clause-bound : goal.returns-clause-bound
returns-clause-bound g c = let few = agreed-few c.loop.invariant in omega arith
