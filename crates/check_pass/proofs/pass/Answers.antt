-- `check_pass::pass` meets its contract: what is known before the pass.
use mathlib.Core.Bool.{false≢true}
use Rattle.std.proofs.Common.{rules}
use Rattle.check_shape.specs.Rows.{numbers}
use Rattle.check_pass.specs.Sizes.{Sizes}
use Rattle.check_pass.proofs.StateLaws.{root-right}
use Rattle.check_pass.proofs.pass.Goals as goal

pub returns-then-sheet-total : goal.returns-then-sheet-total
returns-then-sheet-total c h = absurd (false≢true h)

pub returns-then-total-eq0 : goal.returns-then-total-eq0
returns-then-total-eq0 c h = absurd (false≢true h)

pub walk-requires-clause-root : goal.walk-requires-clause-root
walk-requires-clause-root c =
    let r = c.node-r.result in
    let sizes : Sizes c.args.sheet.now c.node_count-total.result r.a r.b (numbers c.limits-table.result) = search rules in
    root-right sizes c.node-r.ensures c.if-total-eq0.false c.row_ok-row.ensures c.own_rule.ensures c.call_ok.ensures
    c.space_ok.ensures c.if-r-total.true

pub returns : goal.returns
returns c h = absurd (false≢true h)
