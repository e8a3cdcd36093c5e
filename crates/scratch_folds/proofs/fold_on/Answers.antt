-- `scratch_folds::fold_on` meets its contract: four bytes at a time are four steps. Invariant: what is left leads to the whole.
use Rattle.std.proofs.Common.{◌≡◌, ℕ, ◌*◌, ◌/◌, List, length, drop, get_or, [], ap, ◌∙◌, arith}
use Rattle.scratch_folds.specs.Hash.{fold_hash}
use Rattle.scratch_folds.proofs.HashLaws.{folding-starts, folding-chunk}
use Rattle.scratch_folds.proofs.fold_on.Goals as goal

pub loop-four-init : goal.loop-four-init
loop-four-init c = (omega arith, folding-starts c.args.x.now 0 c.args.start (omega arith))

pub loop-four-preserved : goal.loop-four-preserved
loop-four-preserved c =
    let w = c.loop-four in
    let e = c.as_chunks.ensures in
    let xs = c.args.x.now in
    let item = ap (λ (f : List (List ℕ)). get_or f w.four-index []) e.front in (
      omega arith,
      folding-chunk xs _ w.four-index (length xs / 4) w.h _ _ w.invariant.1 (omega arith) (omega arith) item c.four_steps-h.ensures,
    )

pub returns : goal.returns
returns c =
    let w = c.loop-four in
    let e = c.as_chunks.ensures in
    let xs = c.args.x.now in
    let all : length xs / 4 * 4 ≡ 4 * w.four-index = omega arith in
    c.fold_rest.ensures ∙ ap (fold_hash w.h) (e.back ∙ ap (λ (n : ℕ). drop n xs) all) ∙ w.invariant.1.rest
