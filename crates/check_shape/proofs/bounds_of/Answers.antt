-- `check_shape::bounds_of` meets its contract: the table is the definition's.
use mathlib.Core.Path.{◌≡◌, ap, ◌∙◌}
use native.Mathlib.Omega.{arith}
use lib.ListN.{get_or}
use Rattle.std.specs.Option.{unwrap_or}
use Rattle.check_shape.specs.Kinds.{bounds}
use Rattle.check_shape.proofs.RowLaws.{leaf, rows_of, bound-row}
use Rattle.check_shape.proofs.bounds_of.Goals as goal

pub returns : goal.returns
returns c =
    let k = c.args.k in
    let same : c.unwrap_or.result ≡ get_or (rows_of bounds) k leaf =
    c.unwrap_or.ensures ∙ ap (λ o. unwrap_or o leaf) c.copied.ensures ∙ c.get.ensures.lookup.4 (omega arith) leaf in
    record {
      least = bound-row k same 0 (omega arith);
      most = bound-row k same 1 (omega arith);
      a = bound-row k same 2 (omega arith);
      b = bound-row k same 3 (omega arith);
      c = bound-row k same 4 (omega arith);
    }
