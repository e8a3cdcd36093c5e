-- `words::words_from` meets its contract.
use Rattle.words.proofs.CutLaws.{each-word, few-words}
use Rattle.words.proofs.words_from.Goals as goal

pub returns-clause-few : goal.returns-clause-few
returns-clause-few c = few-words c.args.s.now c.args.at c.args.n c.part.ensures c.as_chunks.ensures.front_len

pub returns-clause-each : goal.returns-clause-each
returns-clause-each c =
    let e = c.as_chunks.ensures in
    λ i l. each-word c.args.s.now c.args.at c.args.n c.part.ensures e.front e.front_len i l
