-- `check_shape::shape_ok` meets its contract: the root first, then every node.
use Rattle.check_shape.proofs.ShapeLaws.{shape-root, shape-fails}
use mathlib.Core.Path.{sym, ◌∙◌}
use Rattle.check_shape.proofs.shape_ok.Goals as goal

pub returns-then-root_ok : goal.returns-then-root_ok
returns-then-root_ok c =
    let s = c.args.sheet.now in
    c.nodes_ok.ensures ∙ sym (shape-root s (sym c.root_ok.ensures ∙ c.if-root_ok.true))

pub returns : goal.returns
returns c =
    let s = c.args.sheet.now in
    sym (shape-fails s (sym c.root_ok.ensures ∙ c.if-root_ok.false))
