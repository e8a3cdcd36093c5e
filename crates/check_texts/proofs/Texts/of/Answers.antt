-- `check_texts::Texts::of` meets its contract: what was read is the sheet's.
use native.Mathlib.Omega.{arith}
use Rattle.check_texts.proofs.TextsLaws.{text-bytes}
use Rattle.check_texts.proofs.Texts.of.Goals as goal

pub invariant_of-result : goal.invariant_of-result
invariant_of-result c = record {
  read = record {
    count_is = c.text_count-count.ensures;
    starts_at_is = omega (arith, c.lengths_at-lengths.ensures.0, c.text_count-count.ensures);
    lengths_at_is = c.lengths_at-lengths.ensures.0;
    size_is = c.byte_count-size.ensures;
    bytes_are = text-bytes c.args.sheet.now _ _ _ c.byte_count-size.ensures c.bytes_at.ensures.0 c.part.ensures;
    near = c.lengths_at-lengths.ensures.1;
    small = omega (arith, c.byte_count-size.type_inv);
  };
}
