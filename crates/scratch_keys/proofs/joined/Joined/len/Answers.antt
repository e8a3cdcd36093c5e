-- `scratch_keys::joined::Joined::len` meets its contract.
use Rattle.scratch_keys.proofs.PiecesLaws.{pieces-length}
use Rattle.scratch_keys.proofs.joined.Joined.len.Goals as goal

pub returns : goal.returns
returns c = let it = c.args.self.now in pieces-length it.space.now it.separator.now it.text.now it.bang.now
