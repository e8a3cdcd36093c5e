-- `scratch_store::Store::add_const` meets its contract: the law of a constant that stands, or is put behind the others.
use Rattle.std.proofs.Common.{refl}
use Rattle.scratch_store.proofs.AddsLaws.{const-adds}
use Rattle.scratch_store.proofs.DoesLaws.{adds-any}
use Rattle.scratch_index.specs.Consts.{const_hash}
use Rattle.scratch_store.proofs.Store.add_const.Goals as goal

pub returns-clause-does : goal.returns-clause-does
returns-clause-does c =
    let it = c.args.self.now in
    let s = c.args.sheet.now in
    adds-any refl
    (const-adds s it.state.layout it.scratch.now it.state c.args.j c.hash-h.result (rw (← c.words.ensures) c.hash-h.ensures)
    (rw (← c.const_index.ensures) (c.stand.ensures (const_hash s) tt)))
