-- `scratch_store::ops::op_words` meets its contract: the two whose argc shares a word; the check finds the others.
use Rattle.scratch_store.proofs.EffectLaws.{call-words, call-ref-words}
use Rattle.scratch_store.proofs.ops.op_words.Goals as goal

pub returns-in-Call : goal.returns-in-Call
returns-in-Call c = call-words _ _ _ _ _ _ c.in-Call.is c.joined.ensures

pub returns-in-CallRef : goal.returns-in-CallRef
returns-in-CallRef c = call-ref-words _ _ _ _ _ c.in-CallRef.is c.call_ref.ensures
