-- `scratch_store::ops::call_ref` meets its contract by what the two calls ensure.
use Rattle.scratch_store.proofs.TableLaws.{call-ref-of}
use Rattle.scratch_store.proofs.ops.call_ref.Goals as goal

pub returns : goal.returns
returns c = call-ref-of _ _ _ _ _ c.receiver_words-w.ensures c.joined.ensures
