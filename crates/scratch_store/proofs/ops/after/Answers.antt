-- `scratch_store::ops::after` meets its contract: the depth by the effect of the kind.
use Rattle.std.proofs.Common.{ℕ, get_or, rules, arith, ap, ◌∙◌}
use Rattle.bytecode.specs.Coded.{count_of}
use Rattle.bytecode.specs.Effect.{popped}
use Rattle.scratch_store.proofs.TableLaws.{pops-fit, after-by}
use Rattle.scratch_store.proofs.ops.after.Goals as goal

pub overflow_add-pops : goal.overflow_add-pops
overflow_add-pops c =
    pops-fit (count_of c.effect_of-e.result.top) _ _ c.from-2.result c.popped.ensures
    (omega (arith, c.from.ensures, c.effect_of-e.type_inv))
    (search rules) (search rules) (omega (arith, c.from-2.ensures, c.ranges.n.fits))

pub returns : goal.returns
returns c =
    let w = c.args.w in
    let count = count_of c.effect_of-e.result.top in
    let on_top = c.popped.ensures ∙ ap (λ (n : ℕ). popped count (get_or w 1 0) (get_or w 2 0) n) c.from-2.ensures in
    rw (c.saturating_sub.ensures, c.from-3.ensures, c.from.ensures, c.from-4.ensures)
    (after-by w c.args.n c.args.d _ _ _ count c.effect_of-e.ensures.pops c.effect_of-e.ensures.pushes c.effect_of-e.ensures.top on_top)
