-- `scratch_index::head` meets its contract: the product of two words fits 64 bits.
use Rattle.std.proofs.Common.{arith, rules}
use Rattle.scratch_folds.proofs.PowerLaws.{product-fits}
use Rattle.scratch_index.specs.Table.{bucket_of}
use Rattle.scratch_index.proofs.head.Goals as goal

pub overflow_mul-b : goal.overflow_mul-b
overflow_mul-b c = omega (arith, product-fits c.args.h c.args.ix.count (omega arith) (omega arith))

pub overflow_add-result : goal.overflow_add-result
overflow_add-result c = omega (arith, product-fits c.args.h c.args.ix.count (omega arith) (omega arith))

pub returns : goal.returns
unfolding bucket_of
returns c = search rules
