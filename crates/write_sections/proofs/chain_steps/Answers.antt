-- `write_sections::chain_steps` meets its contract. Invariant: the rows of the links passed are their steps, and
-- those of the links left are ahead.
use Rattle.std.proofs.Common.{◌≡◌, ℕ, ◌+◌, ◌*◌, length, refl, sym, ap, subst, ◌∙◌, arith}
use mathlib.Core.Logic.{inl}
use Rattle.expr_chains.proofs.LinkLaws.{links-most}
use Rattle.expr_rules.specs.Links.{links_left}
use Rattle.expr_rules.proofs.LinksLaws.{links-begin, links-turn, links-over}
use Rattle.lowering.specs.Pools.{steps_words}
use Rattle.lowering.specs.Limits.{step_width}
use Rattle.scratch_index.specs.Held.{NamesHold, names_held}
use Rattle.write_sections.specs.Written.{Written}
use Rattle.write_sections.proofs.PutLaws.{written_none}
use Rattle.write_sections.proofs.StepRows.{Ahead, step_rows, ahead-begins, links-few, ahead-within, ahead-goes, ahead-few, step-next}
use Rattle.write_sections.proofs.StepRows.{step-done}
use Rattle.write_sections.proofs.chain_steps.Goals as goal

pub loop-i-init-derived : goal.loop-i-init-derived
loop-i-init-derived c =
    let it = c.args.names.now in
    let s = it.sheet.now in
    let ns = names_held s it.layout it.count it.scratch.now in
    let gives = c.into_iter-i-iterator.ensures.into_iter_gives in
    let made = c.enumerate-i-items.ensures in
    let few = links-few s ns c.args.j c.into_iter-i-iterator.result.iter
    (ap links_left (ap (λ e. e.iter) gives ∙ made.source) ∙ c.links_of.ensures) in
    ((tt, tt, inl (omega (arith, few, ap (λ e. e.count) gives, made.count))), tt)

pub loop-i-init : goal.loop-i-init
unfolding steps_words
loop-i-init c =
    let a = c.args in
    let it = a.names.now in
    let s = it.sheet.now in
    let ns = names_held s it.layout it.count it.scratch.now in
    let gives = c.into_iter-i-iterator.ensures.into_iter_gives in
    let made = c.enumerate-i-items.ensures in
    let first = ahead-begins s ns a.j (links-begin (ap links_left (ap (λ e. e.iter) gives ∙ made.source) ∙ c.links_of.ensures)) in
    subst
    (λ (i : ℕ). Ahead s ns a.j i 0 c.into_iter-i-iterator.result.iter × (length a.out.now ≡ length a.out.now)
    × (NamesHold s it.layout it.count it.scratch.now → Written a.out.now a.out.now (step_rows s ns a.j i)))
    (sym (ap (λ e. e.count) gives ∙ made.count))
    (first, refl, λ _. written_none a.out.now)

pub overflow_mul-i : goal.overflow_mul-i
overflow_mul-i c =
    let it = c.args.names.now in
    let s = it.sheet.now in
    let ns = names_held s it.layout it.count it.scratch.now in
    let h = c.loop-i.invariant.0 in
    let steps = c.in-Some.ensures.steps in
    omega (arith, ahead-within s ns c.args.j h (links-turn c.next.new.self.iter h.left steps.0), links-most s c.args.j, steps.1)

pub put-requires : goal.put-requires
put-requires c =
    let l = c.loop-i in
    let it = c.args.names.now in
    let s = it.sheet.now in
    let ns = names_held s it.layout it.count it.scratch.now in
    let h = l.invariant.0 in
    let steps = c.in-Some.ensures.steps in
    omega (arith, ahead-within s ns c.args.j h (links-turn c.next.new.self.iter h.left steps.0), steps.1, l.invariant.1, c.requires)

pub overflow_add-k : goal.overflow_add-k
overflow_add-k c =
    let it = c.args.names.now in
    let s = it.sheet.now in
    let ns = names_held s it.layout it.count it.scratch.now in
    let h = c.loop-i.invariant.0 in
    let u = links-turn c.next.new.self.iter h.left c.in-Some.ensures.steps.0 in
    omega (arith, ahead-few s ns c.args.j h u (c.width-k.ensures _ u.says))

pub loop-i-preserved : goal.loop-i-preserved
loop-i-preserved c =
    let l = c.loop-i in
    let a = c.args in
    let it = a.names.now in
    let s = it.sheet.now in
    let ns = names_held s it.layout it.count it.scratch.now in
    let h = l.invariant.0 in
    let steps = c.in-Some.ensures.steps in
    let u = links-turn c.next.new.self.iter h.left steps.0 in
    let w : NamesHold s it.layout it.count it.scratch.now → Written _ _ _ = λ n.
    step-next s ns a.j h u _ _ _ c.requires (c.step_at.ensures u.says n) c.step_words.ensures
    (ap (λ (i : ℕ). step_width * i) steps.1) c.put.ensures (l.invariant.2 n) in
    subst
    (λ (i : ℕ). Ahead s ns a.j i (l.k + c.width-k.result) c.next.new.self.iter
    × (length c.put.new.out ≡ length a.out.now)
    × (NamesHold s it.layout it.count it.scratch.now → Written a.out.now c.put.new.out (step_rows s ns a.j i)))
    (sym steps.2)
    (ahead-goes s ns a.j h u (c.width-k.ensures _ u.says), c.put.auto.out ∙ l.invariant.1, w)

pub returns : goal.returns
returns c =
    let l = c.loop-i in
    let it = c.args.names.now in
    let s = it.sheet.now in
    let ns = names_held s it.layout it.count it.scratch.now in
    λ n. step-done s ns c.args.j c.requires l.invariant.0 (links-over l.i-iterator.iter c.in-None.ensures.steps.0.0) (l.invariant.2 n)
