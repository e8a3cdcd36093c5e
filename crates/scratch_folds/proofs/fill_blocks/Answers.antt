-- `scratch_folds::fill_blocks` meets its contract. Invariant: the folds over the blocks passed are written, and h is the last of them.
use Rattle.std.proofs.Common.{ℕ, ◌/◌, List, length, [], get_or, ap, ◌∙◌, arith}
use Rattle.scratch_folds.proofs.HashLaws.{chunk_at}
use Rattle.scratch_folds.proofs.SumsLaws.{filling-starts, filling-goes, filling-ends}
use Rattle.scratch_folds.proofs.fill_blocks.Goals as goal

pub loop-k-init : goal.loop-k-init
loop-k-init c =
    let a = c.args in
    filling-starts a.b.now a.at a.scratch.now

pub loop-k-preserved : goal.loop-k-preserved
loop-k-preserved c =
    let w = c.loop-k in
    let a = c.args in
    let e = c.as_chunks.ensures in
    let b = a.b.now in
    let item = ap (λ (f : List (List ℕ)). get_or f w.k []) e.front ∙ chunk_at 1024 (length b / 1024) b w.k (omega arith) in
    filling-goes b a.at w.k w.h _ _ a.scratch.now w.scratch _ w.invariant (omega arith) item
    c.fold_on-h.ensures c.put.ensures

pub returns : goal.returns
returns c =
    let w = c.loop-k in
    let a = c.args in
    filling-ends a.b.now a.at w.k w.h a.scratch.now w.scratch w.invariant (omega arith)
