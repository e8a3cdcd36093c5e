-- `scratch_store::Store::add_token` meets its contract: the law of a token that stands, or is put behind the others.
use Rattle.std.proofs.Common.{refl}
use Rattle.scratch_store.proofs.AddsLaws.{token-adds}
use Rattle.scratch_store.proofs.DoesLaws.{adds-any}
use Rattle.scratch_index.specs.Consts.{token_hash}
use Rattle.scratch_store.proofs.Store.add_token.Goals as goal

pub returns-clause-does : goal.returns-clause-does
returns-clause-does c =
    let it = c.args.self.now in
    let s = c.args.sheet.now in
    adds-any refl
    (token-adds s it.state.layout it.scratch.now it.state c.args.j _ c.hash-h.ensures
    (rw (← c.token_index.ensures) (c.stand.ensures (token_hash s) tt)))
