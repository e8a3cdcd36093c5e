-- `check_numbers::blocks_less` meets its contract. Invariant: what is left decides.
use Rattle.std.proofs.Common.{rules, ltb, ◌∙◌}
use Rattle.std.specs.Slice.Iter.{chunks_rest}
use Rattle.words.specs.Word.{front}
use Rattle.check_numbers.proofs.LessLaws.{passed, failed, none-left}
use Rattle.check_numbers.proofs.blocks_less.Goals as goal

pub loop-block-preserved : goal.loop-block-preserved
loop-block-preserved c =
    let x = c.args.x in
    let steps = c.in-Some.ensures.steps in (
      search rules,
      tt,
      steps.0 ∙ c.loop-block.invariant.2,
      passed (λ w. ltb (front w) x) c.in-Some.block.now (chunks_rest c.next.new.self) steps.1.0 c.all_less.ensures c.if-not-all_less.false
          ∙ c.loop-block.invariant.3,
    )

pub returns-then-not-all_less : goal.returns-then-not-all_less
returns-then-not-all_less c =
    let x = c.args.x in
    failed (λ w. ltb (front w) x) c.in-Some.block.now (chunks_rest c.next.new.self) c.in-Some.ensures.steps.1.0 c.all_less.ensures c.if-not-all_less.true
    ∙ c.loop-block.invariant.3

pub returns : goal.returns
returns c =
    let x = c.args.x in
    none-left (λ w. ltb (front w) x) (chunks_rest c.loop-block.block-iterator) c.in-None.ensures.steps.1.0 ∙ c.loop-block.invariant.3
