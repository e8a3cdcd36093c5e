-- `check_texts::Stretch::all_ok` meets its contract: each text that is due is asked. Assumes nothing.
use Rattle.std.proofs.Common.{rules}
use Rattle.std.proofs.lemmas.Iterator.{YieldsList-from_range, cases_from_all}
use mathlib.Core.Path.{refl}
use mathlib.Core.Bool.{true, false}
use Prim.Native.Nat.{◌+◌}
use native.Mathlib.Omega.{arith}
use Rattle.check_texts.specs.Marks.{stretch, Due}
use Rattle.check_texts.proofs.TextsLaws.{due-chain}
use Rattle.check_texts.proofs.Stretch.all_ok.Goals as goal

pub returns : goal.returns
returns c =
    let texts = c.args.self.now.texts in
    let s = texts.sheet.now in
    let base = c.args.self.now.base in
    due-chain texts.count texts.read.count_is _
    (cases_from_all _ _ _ (λ t. Due s t base (base + stretch) true) (λ t. Due s t base (base + stretch) false) c.all.ensures.ran
    (YieldsList-from_range 0 texts.count texts.count refl (omega arith)) (λ t q k. search rules) (λ t q k. search rules))
