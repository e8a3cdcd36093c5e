-- The test tells whether an image is well made for a sheet, both ways.
use Prim.Native.Nat.{ℕ, ◌≤◌}
use mathlib.Core.Path.{◌≡◌}
use mathlib.Core.List.{List}
use native.Mathlib.Omega.{arith}
use lib.ListN.{length}
use Rattle.lowering.specs.Limits.{sizes_words}
use Rattle.lowering.specs.Words.{instructions}
use Rattle.image_rule.specs.Rules.{end_at}
use Rattle.image_rule.specs.WellMade.{WellMade, WordsRight}
use Rattle.image_rule.specs.Marks.{marks_there, marked}
use Rattle.image_rule.specs.Test.{well_made}
use Rattle.image_rule.proofs.Tells.{Tells, tells-and, tells-then, tells_as, tells-le, tells-eq}
use Rattle.image_rule.proofs.Told.{Aims, marked_start, marked-told}
use Rattle.image_rule.proofs.Right.{Right, tells-right, right-runs, right-agree, right-depth}
use Rattle.image_rule.proofs.Complete.{marks-right}
use Rattle.image_rule.proofs.WordLaws.{tells-words, tells-targets, words-named}

-- the theorem: the test answers true exactly where the definition holds
pub well-made : (s w : List ℕ) → Tells (well_made s w) (WellMade s w)
unfolding well_made
well-made s w =
    tells_as
    (tells-then
    (tells-then
    (tells-then
    (tells-and (tells-le sizes_words (length w)) (tells-eq (length w) (end_at w)))
    (λ z. tells-words s w))
    (λ z. tells-targets s w z.1))
    (λ z. tells-right w (marked w (marks_there w) (instructions w))))
    (λ z. made z.0.0.0.0 z.0.0.0.1 z.0.0.1 z.0.1 z.1)
    (λ m.
    let named = words-named s w m.words in
    let marks = marks-right w m.targets named m.agree m.runs m.depth (marks_there w) (omega arith) in
    ((((m.enough, m.sizes), m.words), m.targets), marks))
  where
    made :
        sizes_words ≤ length w
        → length w ≡ end_at w
        → WordsRight s w
        → Aims w
        → Right w (marked w (marks_there w) (instructions w))
        → WellMade s w
    made a e W A R =
        let l = marked w (marks_there w) (instructions w) in
        let N = words-named s w W in
        let S = marked_start w (marks_there w) (instructions w) (omega arith) in
        record {
          enough = a;
          sizes = e;
          words = W;
          targets = A;
          runs = right-runs w l A N S R.places R.tabled R.ends R.greatest;
          agree = right-agree w l A N S R.places R.tabled;
          depth = right-depth w l (marked-told w A (marks_there w) (instructions w) (omega arith) (omega arith)) R.greatest;
        }
