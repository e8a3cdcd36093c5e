-- `scratch_index::Names::place` meets its contract: by a memo that knows it, else by a search.
use Rattle.std.proofs.Common.{false}
use Rattle.scratch_index.specs.Names.{name_hash}
use Rattle.scratch_index.proofs.NameLaws.{with-plain}
use Rattle.scratch_index.proofs.LookupLaws.{finds-at, finds-as}
use Rattle.scratch_index.proofs.HeldLaws.{name-by-number, name-searched, name-same}
use Rattle.scratch_index.proofs.Names.place.Goals as goal

pub returns-in-Some : goal.returns-in-Some
returns-in-Some c =
    let it = c.args.self.now in
    name-same it.sheet.now it.layout it.count it.scratch.now (with-plain it.sheet.now c.args.t)
    (name-by-number it.sheet.now it.layout it.count it.scratch.now c.args.t false 0 _ _ _ _ c.memos_at.ensures c.number.ensures
    c.told_by.ensures c.in-Some.is)

pub returns : goal.returns
returns c =
    let it = c.args.self.now in
    name-same it.sheet.now it.layout it.count it.scratch.now (with-plain it.sheet.now c.args.t)
    (name-searched it.sheet.now it.layout it.count it.scratch.now _ _ _ c.hash-h.ensures
    (finds-at c.name_index.ensures (finds-as c.unwrap_or.ensures (c.seek.ensures (name_hash it.sheet.now) it.count tt).found)))
