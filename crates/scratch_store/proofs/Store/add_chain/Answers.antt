-- `scratch_store::Store::add_chain` meets its contract: the law of a chain that stands, or is put behind the others.
use Rattle.std.proofs.Common.{refl}
use Rattle.scratch_store.proofs.AddsLaws.{chain-adds-old, chain-adds-new}
use Rattle.scratch_store.proofs.DoesLaws.{chain-any}
use Rattle.scratch_store.proofs.Store.add_chain.Goals as goal

pub returns-then-n-self-clause-does : goal.returns-then-n-self-clause-does
returns-then-n-self-clause-does c =
    let it = c.args.self.now in
    let s = c.args.sheet.now in
    chain-any refl
    (rw (c.link_count.ensures)
    (chain-adds-new s it.state.layout it.scratch.now _ it.state c.args.j c.chain_hash-h.result _ _ c.root_local-local.result
    (rw (← c.words.ensures) c.root_local-local.ensures) (rw (← c.words-2.ensures) c.chain_hash-h.ensures)
    (rw (← c.chain_index.ensures) c.stand-e.ensures) c.if-n-self.true))

pub returns-else-n-self-clause-does : goal.returns-else-n-self-clause-does
returns-else-n-self-clause-does c =
    let it = c.args.self.now in
    let s = c.args.sheet.now in
    chain-any refl
    (chain-adds-old s it.state.layout it.scratch.now _ it.state c.args.j c.chain_hash-h.result _ _ c.root_local-local.result
    (rw (← c.words.ensures) c.root_local-local.ensures) (rw (← c.words-2.ensures) c.chain_hash-h.ensures)
    (rw (← c.chain_index.ensures) c.stand-e.ensures) c.if-n-self.false)
