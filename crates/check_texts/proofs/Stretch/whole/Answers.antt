-- `check_texts::Stretch::whole` meets its contract: the run up to the end of the first block goes on by the block's mark. Assumes nothing.
use Prim.Native.Nat.{◌-◌, ◌/◌}
use mathlib.Core.Path.{refl}
use mathlib.Core.Bool.{false≢true}
use native.Mathlib.Omega.{arith}
use Rattle.check_texts.specs.Marks.{block}
use Rattle.check_texts.proofs.MarkLaws.{run_join, mark-at}
use Rattle.check_texts.proofs.Stretch.whole.Goals as goal

pub returns-then-start-self : goal.returns-then-start-self
returns-then-start-self c = λ h. absurd (false≢true h)

pub returns-then-k-ge-BLOCKS : goal.returns-then-k-ge-BLOCKS
returns-then-k-ge-BLOCKS c = λ h. absurd (false≢true h)

pub leaps-requires : goal.leaps-requires
leaps-requires c =
    let k = (c.args.start - c.args.self.now.base) / block in
    record { e_bound = (omega arith, omega arith); holds = mark-at c.args.self.now.marked k refl c.wide.ensures }

pub returns : goal.returns
returns c = λ h. run_join c.run-i.ensures.passed (c.leaps.ensures h)
