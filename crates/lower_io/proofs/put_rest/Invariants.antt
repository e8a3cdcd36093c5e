-- `lower_io::put_rest` meets its contract: what was written of the words so far.
use Rattle.std.proofs.Common.{take}
use Rattle.std.specs.Io.KnownBytes.{Appends}
use Rattle.std.specs.List.{flat_map}
use Rattle.lower_io.specs.Said.{word_text}
use Rattle.lower_io.proofs.put_rest.Given as goal

abbrev pub invariant-loop-word : goal.invariant-loop-word
invariant-loop-word g l =
    Appends (g.W.Write.contents l.initial.writer) (g.W.Write.contents l.writer) (flat_map word_text (take l.word-index l.words))
