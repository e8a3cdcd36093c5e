-- `scratch_index::NameWith::same` meets its contract: where text and namespace are the same numbers, the marks tell; where the namespace
-- is, text and mark; else the joined bytes.
use Rattle.scratch_index.proofs.NameLaws.{name-alone, own-compared, name-compared}
use Rattle.scratch_index.proofs.NameWithWanted.same.Goals as goal

pub returns-then-self-d : goal.returns-then-self-d
returns-then-self-d c =
    let it = c.args.self.now in
    λ told. name-alone it.sheet.now it.text c.args.k it.marked it.namespace c.text_of-d.ensures c.namespace_of-w.ensures
    c.if-self-d.true c.is_marked.ensures

pub returns-then-self-w : goal.returns-then-self-w
returns-then-self-w c =
    let it = c.args.self.now in
    λ told. own-compared it.sheet.now it.text c.args.k it.marked it.namespace c.text_of-d.ensures c.namespace_of-w.ensures
    c.if-self-w.true c.text-wanted.ensures c.text.ensures c.same_marked.ensures

pub returns : goal.returns
returns c =
    let it = c.args.self.now in
    λ told. name-compared it.sheet.now it.text c.args.k it.marked it.namespace c.text_of-d.ensures c.namespace_of-w.ensures
    c.new-wanted.ensures c.is_marked-2.ensures c.new.ensures c.same.ensures
