-- `check_pass::space_ok` meets its contract.
use Rattle.check_pass.proofs.WordLaws.{no-space, space-read}
use Rattle.check_pass.proofs.space_ok.Goals as goal

pub returns-then-v : goal.returns-then-v
returns-then-v c h = no-space _ _ c.if-v.true

pub returns : goal.returns
returns c h = let v = c.args.v in space-read _ v.kind v.namespace v.namespace_pos c.space_rule.ensures c.text_count.ensures h
