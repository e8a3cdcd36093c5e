-- `write_sections::chains` meets its contract. Invariant: the first i rows are the chains of the first i nodes, and
-- first is how many steps they have.
use Prim.Native.Nat.{◌+◌}
use mathlib.Core.Path.{refl, sym, ap₂, ◌∙◌}
use Rattle.write_sections.specs.Written.{Written}
use Rattle.write_sections.proofs.PutLaws.{written_none}
use Rattle.scratch_index.specs.Held.{NamesHold, names_held}
use Rattle.lowering.specs.Image.{section}
use Rattle.expr_chains.specs.Steps.{chains_from}
use Rattle.expr_chains.specs.Kept.{step_count}
use Rattle.write_sections.proofs.ChainRows.{count-more, count-part, chain_next, chain-end}
use native.Mathlib.Omega.{arith}
use Rattle.write_sections.proofs.chains.Goals as goal

pub loop-i-init : goal.loop-i-init
unfolding section chains_from step_count
loop-i-init c = (refl, refl, λ _. written_none c.args.out.now)

pub overflow_add-first : goal.overflow_add-first
overflow_add-first c =
    let l = c.loop-i in
    let a = c.args in
    let it = a.names.now in
    omega (
      arith,
      count-more it.sheet.now a.js.now l.i (omega arith),
      count-part it.sheet.now a.js.now (l.i + 1),
      c.chain_at-c.ensures.0,
    )

pub loop-i-preserved : goal.loop-i-preserved
loop-i-preserved c =
    let l = c.loop-i in
    let a = c.args in
    let it = a.names.now in
    let ns = names_held it.sheet.now it.layout it.count it.scratch.now in
    let w : NamesHold it.sheet.now it.layout it.count it.scratch.now → Written _ _ _ = λ h.
    chain_next it.sheet.now ns a.js.now l.i l.first c.chain_at-c.result c.chain_words.result c.requires.out_len
    (omega arith) l.invariant.0 (c.chain_at-c.ensures.1 h) c.chain_words.ensures c.put.ensures
    (l.invariant.2 h) in (
      ap₂ ◌+◌ l.invariant.0 c.chain_at-c.ensures.0
          ∙ sym (count-more it.sheet.now a.js.now l.i (omega arith)),
      c.put.auto.out ∙ l.invariant.1,
      w,
    )

pub shape_of-out : goal.shape_of-out
shape_of-out c = c.loop-i.invariant.1

pub returns : goal.returns
returns c =
    let a = c.args in
    let it = a.names.now in
    let ns = names_held it.sheet.now it.layout it.count it.scratch.now in
    λ h. chain-end it.sheet.now ns a.js.now c.loop-i.i c.requires.out_len
    (omega arith) (c.loop-i.invariant.2 h)
