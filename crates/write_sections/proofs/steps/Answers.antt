-- `write_sections::steps` meets its contract. Invariant: the steps of the first i chains are written, and the next stand at `at`. Where the
-- part has the length of them all, they are within it.
use Prim.Native.Nat.{◌≤◌, ◌+◌, ◌-◌, ◌*◌}
use mathlib.Core.Path.{refl, ◌∙◌}
use lib.ListN.{length}
use Rattle.write_sections.proofs.PutLaws.{written_none, put-length}
use Rattle.scratch_index.specs.Held.{names_held}
use Rattle.lowering.specs.Limits.{step_width}
use Rattle.lowering.specs.Pools.{steps_words}
use Rattle.expr_chains.specs.Steps.{steps_from}
use Rattle.expr_chains.specs.Kept.{step_count}
use Rattle.write_sections.proofs.ChainRows.{count-more}
use Rattle.write_sections.proofs.StepRows.{all-next, all-fits, all_end}
use native.Mathlib.Omega.{arith}
use Rattle.write_sections.proofs.steps.Goals as goal

pub loop-j-init : goal.loop-j-init
unfolding steps_words steps_from step_count
loop-j-init c = (refl, omega arith, refl, λ _ _. written_none c.args.out.now)

pub returns-then-out-e : goal.returns-then-out-e
returns-then-out-e c =
    let l = c.loop-j in
    let a = c.args in
    let it = a.names.now in
    let ns = names_held it.sheet.now it.layout it.count it.scratch.now in
    λ _ e. absurd (omega (
      arith,
      all-fits it.sheet.now ns a.js.now l.j-index l.at (omega arith) l.invariant.0,
      c.link_count.ensures,
      c.if-out-e.true,
      l.invariant.2,
    ))

pub loop-j-preserved : goal.loop-j-preserved
loop-j-preserved c =
    let l = c.loop-j in
    let a = c.args in
    let it = a.names.now in
    let ns = names_held it.sheet.now it.layout it.count it.scratch.now in
    let r = c.link_count.result in
    let within : l.at + step_width * r ≤ length l.out = c.if-out-e.false in (
      omega (arith, count-more it.sheet.now a.js.now l.j-index (omega arith), c.link_count.ensures),
      omega (arith, within, l.invariant.2),
      put-length l.out c.chain_steps.new.out l.at (l.at + step_width * r - l.at) (omega (arith, within))
          c.chain_steps.auto.out ∙ l.invariant.2,
      λ h e.
          all-next it.sheet.now ns a.js.now l.j-index l.at (l.at + step_width * r - l.at) _ e (omega arith) l.invariant.0
          (omega (arith, c.link_count.ensures)) (c.chain_steps.ensures h) refl (l.invariant.3 h e),
    )

pub returns : goal.returns
returns c =
    let a = c.args in
    let it = a.names.now in
    let ns = names_held it.sheet.now it.layout it.count it.scratch.now in
    λ h e. all_end it.sheet.now ns a.js.now c.loop-j.j-index e (omega arith) (c.loop-j.invariant.3 h e)
