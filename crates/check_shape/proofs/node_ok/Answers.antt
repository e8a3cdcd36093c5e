-- `check_shape::node_ok` meets its contract: a node that is right by itself ends within the sheet, so its end is a node number.
use mathlib.Core.Path.{◌≡◌, sym, ◌∙◌}
use Rattle.check_shape.specs.Shape as shape
use Rattle.check_shape.proofs.ReadLaws.{self-read, read-end, read_some, node-tiles, node-not}
use Rattle.check_shape.proofs.node_ok.Goals.{After-self_ok}
use Rattle.check_shape.proofs.node_ok.Goals as goal

-- the node's own test is the sheet's
own : (c : After-self_ok) → c.self_ok.result ≡ shape.self_ok c.args.sheet.now c.args.n c.args.total
own c =
    let a = c.args in
    let v = c.read-v.ensures in
    self-read a.sheet.now a.n a.total v.kind v.span v.count v.a v.b v.c v.namespace v.namespace_pos c.self_ok.ensures

pub overflow_add-n : goal.overflow_add-n
overflow_add-n c =
    let a = c.args in
    read-end a.sheet.now a.n a.total c.ranges.total c.read-v.ensures.span
    (sym (own (goal.at.overflow_add-n c).After-self_ok) ∙ c.if-self_ok.true)

pub tiles-requires : goal.tiles-requires
tiles-requires c =
    let a = c.args in
    let v = c.read-v.ensures in
    record {
      p_value = (v.kind, v.count);
      a_value = (v.a, v.b);
      n_bound = read_some a.sheet.now a.n a.total v.span (sym (own (goal.at.tiles-requires c).After-self_ok) ∙ c.if-self_ok.true);
    }

pub returns-then-self_ok : goal.returns-then-self_ok
returns-then-self_ok c =
    let a = c.args in
    node-tiles a.sheet.now a.n a.total c.requires c.read-v.ensures.span
    (sym (own (goal.at.returns-then-self_ok c).After-self_ok) ∙ c.if-self_ok.true) c.tiles.ensures

pub returns : goal.returns
returns c =
    let a = c.args in
    node-not a.sheet.now a.n a.total c.requires (sym (own (goal.at.returns c).After-self_ok) ∙ c.if-self_ok.false)
