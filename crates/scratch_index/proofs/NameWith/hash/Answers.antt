-- `scratch_index::NameWith::hash` meets its contract: `!` is one step more.
use Rattle.scratch_index.proofs.NameLaws.{name-hash-on, name-hash-off}
use Rattle.scratch_index.proofs.NameWith.hash.Goals as goal

pub returns-then-self : goal.returns-then-self
returns-then-self c =
    let a = c.args in
    let it = a.self.now in
    name-hash-on it.sheet.now it.text it.marked it.namespace _ a.scratch.now c.sums_at.ensures c.prefix_fold-p.ensures
    c.fold_text-f.ensures c.if-self.true c.byte_step.ensures c.spread_out.ensures

pub returns : goal.returns
returns c =
    let a = c.args in
    let it = a.self.now in
    name-hash-off it.sheet.now it.text it.marked it.namespace _ a.scratch.now c.sums_at.ensures c.prefix_fold-p.ensures
    c.fold_text-f.ensures c.if-self.false c.spread_out-2.ensures
