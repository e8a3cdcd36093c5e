-- What the words and the parts of a list hold.
use Prim.Native.Nat.{ℕ, zero, suc, ◌+◌, ◌*◌, ◌≤◌}
use mathlib.Core.Path.{◌≡◌, refl, sym, ap, ◌∙◌}
use mathlib.Core.List.{List, [], ◌∷◌}
use native.Mathlib.Omega.{arith}
use native.Mathlib.Nat.{mul-zero, mul-suc, add_comm}
use lib.ListN.{length, get_or, drop, length-drop}
use lib.Seq.{drop-nil, drop-drop, get_or-drop}
use Rattle.words.specs.Word.{front, word}
use Rattle.check_quick.specs.Parts.{words_of, parts, among}

four-more : (i : ℕ) → 4 * suc i ≡ suc (suc (suc (suc (4 * i))))
four-more i = omega arith

words-front : (s : List ℕ) (i : ℕ) → get_or (words_of s) i 0 ≡ front (drop (4 * i) s)
unfolding words_of
words-front [] zero = refl
words-front (a ∷ []) zero = refl
words-front (a ∷ b ∷ []) zero = refl
words-front (a ∷ b ∷ c ∷ []) zero = refl
words-front (a ∷ b ∷ c ∷ d ∷ r) zero = refl
words-front [] (suc i) = sym (ap (λ (k : ℕ). front (drop k [])) (four-more i))
words-front (a ∷ []) (suc i) = sym (ap (λ (k : ℕ). front (drop k (a ∷ []))) (four-more i))
words-front (a ∷ b ∷ []) (suc i) = sym (ap (λ (k : ℕ). front (drop k (a ∷ b ∷ []))) (four-more i))
words-front (a ∷ b ∷ c ∷ []) (suc i) = sym (ap (λ (k : ℕ). front (drop k (a ∷ b ∷ c ∷ []))) (four-more i))
words-front (a ∷ b ∷ c ∷ d ∷ r) (suc i) =
    words-front r i ∙ sym (ap (λ (k : ℕ). front (drop k (a ∷ b ∷ c ∷ d ∷ r))) (four-more i))

-- word i of a byte string
pub words_are : (s : List ℕ) (i : ℕ) → get_or (words_of s) i 0 ≡ word s i
unfolding word
words_are s i = words-front s i

-- part n starts behind k n elements
parts_at : (k : ℕ) → 1 ≤ k → (most l : List ℕ) → length l ≤ length most → (n : ℕ) → get_or (parts k most l) n [] ≡ drop (k * n) l
unfolding parts
parts_at k p [] [] h n = sym (drop-nil (k * n))
parts_at k p [] (x ∷ l) h n = absurd (omega arith)
parts_at k p (m ∷ most) [] h n = sym (drop-nil (k * n))
parts_at k p (m ∷ most) (x ∷ l) h zero = sym (ap (λ (i : ℕ). drop i (x ∷ l)) (mul-zero k))
parts_at k p (m ∷ most) (x ∷ l) h (suc n) =
    let g = length-drop k (x ∷ l) in
    parts_at k p most (drop k (x ∷ l)) (omega arith) n
    ∙ drop-drop (k * n) k (x ∷ l)
    ∙ ap (λ (i : ℕ). drop i (x ∷ l)) (add_comm k (k * n) ∙ sym (mul-suc k n))

-- element f of part n
pub among-is : (k : ℕ) → 1 ≤ k → (most l : List ℕ) → length l ≤ length most → (n f : ℕ) → among (parts k most l) n f ≡ get_or l (k * n + f) 0
among-is k p most l h n f = ap (λ (r : List ℕ). get_or r f 0) (parts_at k p most l h n) ∙ get_or-drop (k * n) l f 0
