-- `write_front::Source::names` meets its contract.
use mathlib.Core.Path.{refl}
use Rattle.write_front.proofs.FrontLaws.{names-hold, names-listed}
use Rattle.write_front.proofs.Source.names.Goals as goal

pub returns : goal.returns
returns c =
    let it = c.args.self.now in
    record {
      sheet = refl;
      held = λ a g.
          (names-hold g, names-listed g);
    }
