-- `scratch_index::NameWith::prefix_fold` meets its contract: the separator is two steps more.
use Rattle.scratch_index.proofs.NameLaws.{prefix-none, prefix-some}
use Rattle.scratch_index.proofs.NameWith.prefix_fold.Goals as goal

pub returns-then-self-eq0 : goal.returns-then-self-eq0
returns-then-self-eq0 c =
    let it = c.args.self.now in
    prefix-none it.sheet.now it.namespace _ c.args.scratch.now c.if-self-eq0.true

pub returns : goal.returns
returns c =
    let it = c.args.self.now in
    prefix-some it.sheet.now it.namespace _ c.args.scratch.now c.if-self-eq0.false c.sums_at.ensures c.fold_text-f.ensures
    c.byte_step.ensures c.byte_step-2.ensures
