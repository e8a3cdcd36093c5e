-- `scratch_index::Names::chain_hash` meets its contract: its links, then its root.
use Rattle.scratch_index.proofs.ChainWalkLaws.{root-at, chain-read}
use Rattle.scratch_index.proofs.Names.chain_hash.Goals as goal

pub returns : goal.returns
returns c told =
    let a = c.args in
    let it = a.self.now in
    chain-read it.sheet.now it.layout it.count it.scratch.now a.j c.child.ensures c.links_hash-h.ensures
    (c.root_hash.ensures (root-at c.child.ensures told)) c.spread_out.ensures
