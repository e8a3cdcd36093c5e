-- Rows of W words that were cut out of an image: each of their words is one of the image's.
use Prim.Native.Nat.{ℕ, ◌+◌, ◌*◌, ◌<◌}
use mathlib.Core.Path.{◌≡◌, ap, ◌∙◌}
use mathlib.Core.Bool.{Bool}
use mathlib.Core.List.{List, []}
use native.Mathlib.Omega.{arith}
use lib.ListN.{length, take, drop, get_or}
use lib.Seq.{get_or-take, get_or-drop}
use Rattle.std.specs.List.{list_all}
use Rattle.std.specs.Simd.{first_chunks}
use Rattle.words.specs.Count.{all_below}
use Rattle.words.proofs.CountLaws.{all_same}
use Rattle.words.proofs.CutLaws.{chunk_at}
use Rattle.words.proofs.RangeLaws.{list_all-index}
use Rattle.lowering.specs.Words.{word}

-- word f of row i, where there is room for the row among m words, and so k rows
module _ (W : ℕ) (w : List ℕ) (at m k : ℕ) {bs : List ℕ} {ys : List (List ℕ)} (hb : bs ≡ take m (drop at w)) (hy : ys ≡ first_chunks W k bs) where
  pub row-word : (i f : ℕ) → i < k → f < W → i * W + f < m → get_or (get_or ys i []) f 0 ≡ word w (at + i * W + f)
  row-word i f l g room =
      let there : get_or ys i [] ≡ take W (drop (i * W) bs) = ap (λ zs. get_or zs i []) hy ∙ chunk_at W k bs i l in
      let place : at + (i * W + f) ≡ at + i * W + f = omega arith in
      ap (λ c. get_or c f 0) there
      ∙ get_or-take W (drop (i * W) bs) f 0 g
      ∙ get_or-drop (i * W) bs f 0
      ∙ ap (λ c. get_or c (i * W + f) 0) hb
      ∙ get_or-take m (drop at w) (i * W + f) 0 room
      ∙ get_or-drop at w (i * W + f) 0
      ∙ ap (λ j. get_or w j 0) place

-- a test of all rows that were cut out, as a test of each row by its number
pub rows-tested : (p : List ℕ → Bool) (f : ℕ → Bool) (ys : List (List ℕ)) {n : ℕ} {r : Bool} → r ≡ list_all p ys → length ys ≡ n
    → ((i : ℕ) → i < n → p (get_or ys i []) ≡ f i) → r ≡ all_below n f
rows-tested p f ys {n} h e each =
    h ∙ list_all-index p [] ys ∙ ap (λ m. all_below m (λ i. p (get_or ys i []))) e ∙ all_same (λ i. p (get_or ys i [])) f n each
