-- What a whole sheet gives and emits, and whether it reaches an `eval`.
use Rattle.std.specs.Prelude.{ℕ, true, false, List, [], ◌∷◌, ◌++◌, map, eqb}
use Rattle.sheet.specs.Limits.{max_depth}
use Rattle.sheet.specs.Node.{kind}
use Rattle.switch_split.specs.Split.{split}
use Rattle.switch_split.specs.Split as Split
use Rattle.lowering.specs.Kinds.{switch_kind}
use Rattle.lowering.specs.SwitchSheet.{block_count, default_block, subject, cases_of, case_blocks, ranges_of}
use Rattle.lowering.specs.Arms.{distinct}
use Rattle.expr_count.specs.declared.tallies.Tally.{Tally}
use Rattle.expr_count.specs.Tally.{instructions, nothing, plus}
use Rattle.expr_count.specs.Count.{Rec, tally}
use Rattle.switch_count.specs.Arms.{arms_tally, falls_tally}
use Rattle.switch_count.specs.Bodies.{bodies_from, default_tally}

-- the lists of blocks that chains are laid out for
unfoldable pub case_lists : List ℕ → List (List ℕ)
case_lists s = distinct (map (case_blocks s) (cases_of s))

unfoldable pub split_lists : List Split.Entry → List (List ℕ)
split_lists es = distinct (map (λ (e : Split.Entry). e.blocks) es)

-- the chains of the cases; with split ranges those follow, and are the fallback
unfoldable pub cases_tally : List ℕ → Rec → List Split.Entry → Tally
cases_tally s t [] = arms_tally s t (case_lists s)
cases_tally s t (e ∷ es) = falls_tally s t (case_lists s)

-- the second Switch and the chains of the ranges
unfoldable pub ranges_tally : List ℕ → Rec → List Split.Entry → Tally
ranges_tally s t [] = nothing
ranges_tally s t (e ∷ es) = plus (instructions 1) (arms_tally s t (split_lists (e ∷ es)))

-- the blocks that have a body
unfoldable pub bodies_of : List ℕ → List Split.Entry → List ℕ
bodies_of s es = bodies_from s (case_lists s ++ split_lists es) (default_block s) (block_count s) 0

-- subject and Switch, chains, bodies, Rotate and Pop
unfoldable pub switch_tally : List ℕ → Rec → List Split.Entry → Tally
switch_tally s t es =
    plus (plus (t subject) (instructions 1))
    (plus (cases_tally s t es)
    (plus (ranges_tally s t es)
    (plus (default_tally s t (default_block s) (bodies_of s es)) (instructions 2))))

unfoldable pub switch_total : List ℕ → Tally
switch_total s = switch_tally s (tally max_depth s) (split (ranges_of s))

-- node 0 is a Switch or an expression
unfoldable pub total : List ℕ → Tally
total s = elim (eqb (kind s 0) switch_kind) [ true ↦ switch_total s | false ↦ tally max_depth s 0 ]
