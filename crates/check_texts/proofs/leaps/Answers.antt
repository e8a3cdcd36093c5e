-- `check_texts::leaps` meets its contract: a mark that holds is a run, and a run may end where no tail byte stands. Assumes nothing.
use mathlib.Core.Path.{sym, ◌∙◌}
use mathlib.Core.Bool.{false≢true}
use native.Mathlib.Omega.{arith}
use Rattle.check_texts.proofs.MarkLaws.{run-stays, mark-run, mark-end, tail-cut}
use Rattle.check_texts.proofs.leaps.Goals as goal

pub returns-then-i-end : goal.returns-then-i-end
returns-then-i-end c =
    let a = c.args in
    λ h. run-stays a.b.now c.if-i-end.true (omega arith)

pub returns-then-e-v : goal.returns-then-e-v
returns-then-e-v c = λ h. absurd (false≢true h)

pub returns-then-end-i : goal.returns-then-end-i
returns-then-end-i c = λ h. absurd (false≢true h)

pub returns-then-far-end : goal.returns-then-far-end
returns-then-far-end c = λ h. absurd (false≢true h)

pub returns-then-b-far : goal.returns-then-b-far
returns-then-b-far c = λ h. absurd (false≢true h)

pub returns-then-far-end-2 : goal.returns-then-far-end-2
returns-then-far-end-2 c =
    λ h. mark-end c.requires.holds _ _ (omega arith) (omega arith) c.if-far-end-2.true (omega arith)

pub returns : goal.returns
returns c =
    let r = mark-run c.requires.holds c.args.i (omega arith) (omega arith) (omega arith) in
    λ h. tail-cut r (omega arith) (omega arith) (sym c.no_tail.ensures ∙ h)
