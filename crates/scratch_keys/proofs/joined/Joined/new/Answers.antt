-- `scratch_keys::joined::Joined::new` meets its contract.
use Rattle.scratch_keys.proofs.PiecesLaws.{pieces-name}
use Rattle.scratch_keys.proofs.joined.Joined.new.Goals as goal

pub returns : goal.returns
returns c =
    let a = c.args in
    pieces-name a.sheet.now a.namespace a.t a.marked c.space_of.ensures.0 c.separator_of.ensures.0 c.short_text.ensures.0
    c.bang_of.ensures.0
