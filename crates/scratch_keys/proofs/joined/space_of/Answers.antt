-- `scratch_keys::joined::space_of` meets its contract.
use native.Mathlib.Omega.{arith}
use Rattle.scratch_keys.proofs.PiecesLaws.{space-none, space-some}
use Rattle.scratch_keys.proofs.joined.space_of.Goals as goal

pub returns-then-namespace-eq0 : goal.returns-then-namespace-eq0
returns-then-namespace-eq0 c = (space-none c.args.sheet.now c.args.namespace c.if-namespace-eq0.true, omega arith)

pub returns : goal.returns
returns c =
    let e = c.short_text.ensures in
    (space-some c.args.sheet.now c.args.namespace c.if-namespace-eq0.false e.0, e.1)
