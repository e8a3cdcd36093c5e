-- `scratch_store::Store::push_name` meets its contract: the law of a name that stands, or is put behind the others.
use Rattle.std.proofs.Common.{refl}
use Rattle.scratch_index.proofs.NameLaws.{name-read}
use Rattle.scratch_store.proofs.AddsLaws.{name-adds}
use Rattle.scratch_store.proofs.DoesLaws.{adds-any}
use Rattle.scratch_index.specs.Names.{name_hash}
use Rattle.scratch_store.proofs.Store.push_name.Goals as goal

pub returns-clause-does : goal.returns-clause-does
returns-clause-does c =
    λ l text mark space.
    let it = c.args.self.now in
    let name = c.args.name in
    let s = name.sheet.now in
    adds-any refl
    (name-adds s it.state.layout it.scratch.now it.state c.args.k name.text c.hash-h.result name.marked name.namespace
    (name-read s c.args.k text mark space)
    (rw (← c.words.ensures) c.hash-h.ensures) (rw (← c.name_index.ensures) (c.stand.ensures (name_hash s) tt))) l
