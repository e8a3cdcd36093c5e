-- `check_texts::Texts::marked_ok` meets its contract. The loop's invariant: the texts from stretch k on are right. Assumes nothing.
use Prim.Native.Nat.{◌*◌}
use mathlib.Core.Path.{◌≡◌}
use lib.ListN.{length}
use Rattle.check_texts.specs.Marks.{blocks, stretch, Characters, Done}
use Rattle.check_texts.proofs.Texts.marked_ok.Given as goal

abbrev pub invariant-loop-k : goal.invariant-loop-k
invariant-loop-k l = (length l.marks ≡ blocks) × Characters l.b l.f.from l.f.to × Done l.fn.self.sheet.now (l.k * stretch)
