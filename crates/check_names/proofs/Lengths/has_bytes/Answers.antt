-- `check_names::Lengths::has_bytes` meets its contract: the length that is read is the definition's.
use Rattle.check_names.proofs.ReadLaws.{bytes-read}
use Rattle.check_names.proofs.Lengths.has_bytes.Goals as goal

pub returns : goal.returns
returns c =
    let lengths = c.args.self.now in
    bytes-read lengths.sheet.now c.args.t lengths.place c.word_at.ensures
