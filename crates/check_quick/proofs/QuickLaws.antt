-- The quick check is the check: what its readers read is what the sheet's own readers read.
use Prim.Native.Nat.{ℕ, ◌+◌, ◌*◌}
use mathlib.Core.Path.{◌≡◌, sym, ap, ◌∙◌}
use mathlib.Core.List.{List}
use native.Mathlib.Omega.{arith}
use native.Mathlib.Nat.{add_assoc, le_refl}
use lib.ListN.{length, get_or, drop, length-drop}
use lib.Seq.{get_or-drop}
use Rattle.sheet.specs.Limits.{header_words, node_words}
use Rattle.sheet.specs.Node.{field}
use Rattle.check_shape.specs.Kinds.{bound_words, bounds, bound}
use Rattle.checks.specs.Checked.{verdict_number, checked_by, checked}
use Rattle.check_quick.specs.Parts.{words_of, parts, among}
use Rattle.check_quick.proofs.PartsLaws.{words_are, among-is}
use Rattle.check_quick.specs.Quick.{quick_checked, quick_number}

-- the fields of the nodes, by parts of the words
pub fields-are : (s : List ℕ) (n f : ℕ) → among (parts node_words (words_of s) (drop header_words (words_of s))) n f ≡ field s n f
unfolding field
fields-are s n f =
    let ws = words_of s in
    let l = length-drop header_words ws in
    among-is node_words (omega arith) ws (drop header_words ws) (omega arith) n f
    ∙ get_or-drop header_words ws (node_words * n + f) 0
    ∙ ap (λ (i : ℕ). get_or ws i 0) (sym (add_assoc header_words (node_words * n) f))
    ∙ words_are s (header_words + node_words * n + f)

-- the bounds of the kinds, by parts of their table
bounds-are : (k f : ℕ) → among (parts bound_words bounds bounds) k f ≡ bound k f
unfolding bound
bounds-are k f = among-is bound_words (omega arith) bounds bounds (le_refl (length bounds)) k f

pub quick-checked : (s : List ℕ) → quick_checked s ≡ checked s
unfolding quick_checked
quick-checked s = λ i. checked_by (λ k f. bounds-are k f i) (λ n f. fields-are s n f i) (λ n. words_are s n i) s

pub quick-is : (s : List ℕ) → quick_number s ≡ verdict_number (checked s)
unfolding quick_number
quick-is s = ap verdict_number (quick-checked s)
