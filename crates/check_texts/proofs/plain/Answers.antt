-- `check_texts::plain` meets its contract. Assumes nothing.
use mathlib.Core.Path.{subst}
use Rattle.std.specs.Bool.{MatchBool}
use Rattle.std.specs.Str.{IsAscii, IsNotAscii}
use Rattle.check_texts.proofs.plain.Goals as goal

pub returns : goal.returns
returns c h =
    let b = c.args.b.now in
    let cases = subst (λ r. MatchBool r (IsAscii b) (IsNotAscii b)) h c.is_ascii.ensures.cases in
    record { below = λ k l. cases k }
