-- `image_depths::on_top` meets its contract.
use mathlib.Core.Path.{◌∙◌, sym, ap}
use native.Mathlib.Omega.{arith}
use Rattle.bytecode.specs.Coded.{count_of}
use Rattle.bytecode.specs.Effect.{popped}
use Rattle.lowering.specs.Run.{chain_takes}
use Rattle.image_depths.proofs.CodeLaws.{popped-rest, popped-small}
use Rattle.image_depths.proofs.on_top.Goals as goal

pub returns-in-Operands-clause-value : goal.returns-in-Operands-clause-value
unfolding popped count_of
returns-in-Operands-clause-value c =
    let a = c.args in
    c.chain_takes.ensures.value ∙ ap (λ t. popped (count_of t) a.a a.b (chain_takes a.image.now.words.now a.a)) (sym c.in-Operands.is)

pub returns-in-Nothing : goal.returns-in-Nothing
returns-in-Nothing c =
    let a = c.args in
    let small = popped-small (count_of a.top) a.a a.b (omega (arith, c.ranges.a)) in record {
      value = c.popped.ensures ∙ popped-rest a.top a.a a.b _ c.in-Nothing.is;
      small = omega (arith, small, c.popped.ensures);
    }
