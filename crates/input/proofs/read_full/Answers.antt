-- `input::read_full` meets its contract: what each read gave stands behind what was there.
use Rattle.std.proofs.Common.{arith, refl, ◌∙◌}
use Rattle.std.proofs.KnownBytes.{Consumes-nil}
use borrow.Rule.Slice.PartMut.{same_len_mid}
use Rattle.input.proofs.ReadLaws.{read-more, read-none}
use Rattle.input.proofs.read_full.Goals as goal

pub loop-n-init : goal.loop-n-init
loop-n-init g c = (omega arith, refl, Consumes-nil _)

pub loop-n-preserved : goal.loop-n-preserved
loop-n-preserved g c =
    let w = c.loop-n in
    let long = same_len_mid _ _ w.buf c.read.new.buf c.read.auto.buf in (
      omega (arith, long, c.in_ok-got.ensures.bound.0, c.read.auto.buf),
      long ∙ w.invariant.1,
      read-more _ _ _ w.buf c.read.new.buf w.n _ _ w.invariant.0 c.in_ok-got.ensures.bound.0 w.invariant.2 c.in_ok-got.ensures.bytes.0,
    )

pub returns-then-got-eq0-clause-bytes : goal.returns-then-got-eq0-clause-bytes
returns-then-got-eq0-clause-bytes g c =
    let w = c.loop-n in
    read-none _ _ _ w.buf c.read.new.buf w.n _ _ w.invariant.0 c.in_ok-got.ensures.bound.0 c.if-got-eq0.true w.invariant.2
    c.in_ok-got.ensures.bytes.0
