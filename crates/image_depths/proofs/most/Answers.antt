-- `image_depths::most` meets its contract: it is the greatest of the marks, or 0 where there is none.
use Prim.Native.Nat.{◌+◌}
use mathlib.Core.Path.{◌∙◌, ap, sym}
use Rattle.std.specs.Option.{unwrap_or}
use Rattle.std.proofs.lemmas.Iterator.{YieldsList-from_slice, YieldsList-from_take}
use Rattle.std.proofs.lemmas.Iterator.Adapters.{option_map_id}
use Rattle.std.proofs.lemmas.Iterator.Consumers.{YieldsList-from_copied, max_from_yields_List}
use Rattle.image_depths.proofs.CheckLaws.{most-reduced}
use Rattle.image_depths.proofs.most.Goals as goal

pub returns : goal.returns
returns c =
    let l = c.args.found.now in
    let n = c.args.n in
    let marks = YieldsList-from_copied (YieldsList-from_take (n + 1) (YieldsList-from_slice l (cc)) (cc)) in
    let greatest = sym (option_map_id c.max.result) ∙ max_from_yields_List _ _ c.max.ensures.ran marks in
    c.unwrap_or.ensures ∙ ap (λ r. unwrap_or r 0) greatest ∙ most-reduced l n
