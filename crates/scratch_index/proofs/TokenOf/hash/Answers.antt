-- `scratch_index::TokenOf::hash` meets its contract.
use Rattle.scratch_index.proofs.ConstLaws.{token-read}
use Rattle.scratch_index.proofs.TokenOf.hash.Goals as goal

pub returns : goal.returns
returns c =
    let it = c.args.self.now in
    token-read it.sheet.now it.node c.field_c-t.ensures c.spread_out.ensures
