-- `check_switches::text_key` meets its contract: one law for each way.
use mathlib.Core.Path.{◌∙◌}
use Rattle.check_switches.proofs.KeyLaws.{few-key, long-key}
use Rattle.check_switches.proofs.text_key.Goals as goal

pub returns-then-n-lt4 : goal.returns-then-n-lt4
returns-then-n-lt4 c =
    let x = c.args.x.now in
    c.from.ensures
    ∙ c.from_le_bytes.ensures
    ∙ few-key x c.if-n-lt4.true c.byte.ensures c.byte-then-n-lt4.ensures c.byte-then-n-lt4-2.ensures

pub returns : goal.returns
returns c =
    let x = c.args.x.now in
    long-key x c.if-n-lt4.false c.word_at.ensures c.part.ensures c.word_at-2.ensures
