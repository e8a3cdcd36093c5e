-- `check_pass::walk` meets its contract. The loop's invariant is `State` (proofs/Passing); each need is one law of it.
use Rattle.check_shape.specs.Rows.{numbers}
use Rattle.check_pass.proofs.Passing.{State}
use Rattle.check_pass.proofs.walk.Given as goal

abbrev pub invariant-loop-n : goal.invariant-loop-n
invariant-loop-n l =
    State l.sheet l.total l.root.a l.root.b (numbers l.t) l.around l.at.top l.n l.at.d
