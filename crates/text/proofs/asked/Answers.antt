-- `text::asked` meets its contract: each arm of the `match` is a row of the table. The arms of one number are asked first.
-- Assumes nothing.
use native.Mathlib.Omega.{arith}
use Rattle.text.proofs.RowLaws.{leads, row-E0, row-ED, row-F0, row-F4, row-7F, row-C1, row-DF, row-EC, row-EF, row-F3, row_last}
use Rattle.text.proofs.asked.Goals as goal

pub returns-in-224 : goal.returns-in-224
returns-in-224 c = leads (row-E0 _ (omega arith) (omega arith))

pub returns-in-237 : goal.returns-in-237
returns-in-237 c = leads (row-ED _ (omega arith) (omega arith))

pub returns-in-240 : goal.returns-in-240
returns-in-240 c = leads (row-F0 _ (omega arith) (omega arith))

pub returns-in-244 : goal.returns-in-244
returns-in-244 c = leads (row-F4 _ (omega arith) (omega arith))

pub returns-in-0-to-127 : goal.returns-in-0-to-127
returns-in-0-to-127 c = leads (row-7F _ (omega arith))

pub returns-in-128-to-193 : goal.returns-in-128-to-193
returns-in-128-to-193 c = leads (row-C1 _ (omega arith) (omega arith))

pub returns-in-194-to-223 : goal.returns-in-194-to-223
returns-in-194-to-223 c = leads (row-DF _ (omega arith) (omega arith))

pub returns-in-225-to-236 : goal.returns-in-225-to-236
returns-in-225-to-236 c = leads (row-EC _ (omega arith) (omega arith))

pub returns-in-238-to-239 : goal.returns-in-238-to-239
returns-in-238-to-239 c = leads (row-EF _ (omega arith) (omega arith))

pub returns-in-241-to-243 : goal.returns-in-241-to-243
returns-in-241-to-243 c = leads (row-F3 _ (omega arith) (omega arith))

pub returns-in-245-to-255 : goal.returns-in-245-to-255
returns-in-245-to-255 c = leads (row_last _ (omega arith))
