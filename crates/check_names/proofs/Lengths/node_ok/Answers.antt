-- `check_names::Lengths::node_ok` meets its contract: a name is looked at where the node's kind has one.
use Rattle.check_names.proofs.ReadLaws.{named-read, unnamed-read}
use Rattle.check_names.proofs.Lengths.node_ok.Goals as goal

pub returns-then-has_name : goal.returns-then-has_name
returns-then-has_name c =
    named-read c.args.self.now.sheet.now c.args.n c.kind.ensures c.has_name.ensures c.field_a.ensures c.has_bytes.ensures c.if-has_name.true

pub returns : goal.returns
returns c = unnamed-read c.args.self.now.sheet.now c.args.n c.kind.ensures c.has_name.ensures c.if-has_name.false
