-- `words::word_at` meets its contract: past the last whole word the answer is 0.
use Rattle.std.proofs.Common.{arith, sym}
use Rattle.words.proofs.WordLaws.{word-past}
use Rattle.words.proofs.word_at.Goals as goal

pub returns : goal.returns
returns c = sym (word-past c.args.s.now c.args.i (omega arith))
