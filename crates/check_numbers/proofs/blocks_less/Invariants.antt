use Rattle.std.proofs.Common.{◌≡◌, ltb}
use Rattle.std.specs.List.{list_all}
use Rattle.std.specs.Slice.Iter.{chunks_rest, chunks_size}
use Rattle.words.specs.Word.{front}
use Rattle.check_numbers.proofs.blocks_less.Given as goal

abbrev pub invariant-loop-block : goal.invariant-loop-block
invariant-loop-block l =
    (goal.iterator-loop-block).can_next l.block-iterator
    × (goal.iterator-loop-block).is_finite l.block-iterator
    × (chunks_size l.block-iterator ≡ 64)
    × (list_all (λ w. ltb (front w) l.fn.x) (chunks_rest l.block-iterator) ≡ list_all (λ w. ltb (front w) l.fn.x) l.fn.numbers)
