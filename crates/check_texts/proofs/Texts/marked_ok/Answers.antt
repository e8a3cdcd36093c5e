-- `check_texts::Texts::marked_ok` meets its contract. The loop's invariant: the texts from stretch k on are right. Assumes nothing.
use Prim.Native.Nat.{ℕ}
use mathlib.Core.Path.{sym, subst}
use native.Mathlib.Omega.{arith}
use lib.ListN.{length-replicate}
use Rattle.check_texts.specs.Marks.{blocks, Done}
use Rattle.check_texts.proofs.TextsLaws.{done-start, done-late, done_more, done_all}
use Rattle.check_texts.proofs.Texts.marked_ok.Goals as goal

pub loop-k-init : goal.loop-k-init
loop-k-init c =
    let texts = c.args.self.now in
    let done = done-start texts.sheet.now texts.size texts.read.size_is c.requires in
    (length-replicate {A = ℕ} blocks 0, c.far_end-f.ensures, done-late done (omega arith))

pub keep-f-requires : goal.keep-f-requires
keep-f-requires c =
    record { base_bound = (omega (arith, c.args.self.now.read.small), c.loop-k.invariant.0); characters = c.loop-k.invariant.1 }

pub invariant_of-stretch : goal.invariant_of-stretch
invariant_of-stretch c =
    record { near = omega (arith, c.args.self.now.read.small); marked = c.keep-f.ensures.1 }

pub loop-k-preserved : goal.loop-k-preserved
loop-k-preserved c =
    let right = c.all_ok.ensures.right c.if-not-all_ok.false in
    let done = done_more right (subst (Done c.args.self.now.sheet.now) (omega arith) c.loop-k.invariant.2) in
    (c.keep-f.ensures.1.size, c.keep-f.ensures.0, done)

pub returns-then-not-all_ok : goal.returns-then-not-all_ok
returns-then-not-all_ok c = sym (c.all_ok.ensures.wrong c.if-not-all_ok.true)

pub returns : goal.returns
returns c = sym (done_all c.loop-k.invariant.2 (omega arith))
