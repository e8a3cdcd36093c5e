-- The check of a sheet in a form that the prover computes quickly: the same definition, with readers that walk over nodes and words, and
-- not over bytes. QuickLaws shows that the answer is the check's.
use Rattle.std.specs.Prelude.{ℕ, List, get_or, drop}
use Rattle.sheet.specs.Limits.{header_words, node_words}
use Rattle.check_shape.specs.Kinds.{bound_words, bounds}
use Rattle.checks.specs.Checked.{Verdict, verdict_number, checked_by}
use Rattle.checks.specs.Compute.{opened_by}
use Rattle.check_quick.specs.Parts.{words_of, parts, among}

-- the check's answer; whoever says `unfolding quick_checked` has all that is computed unfolded
unfoldable pub quick_checked : List ℕ → Verdict
unfolding opened_by words_of parts
quick_checked s =
    let ws = words_of s in
    let nodes = parts node_words ws (drop header_words ws) in
    let rows = parts bound_words bounds bounds in
    checked_by (among rows) (among nodes) (λ i. get_or ws i 0) s

-- and its number
unfoldable pub quick_number : List ℕ → ℕ
unfolding quick_checked
quick_number s = verdict_number (quick_checked s)
