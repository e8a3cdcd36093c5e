-- Bytes in pieces are the same where their lengths are, and where what lies over each other is.
use Prim.Native.Nat.{ℕ, zero, suc, ◌+◌, ◌-◌, ◌≤◌, ◌<◌, min}
use mathlib.Core.Path.{◌≡◌, refl, sym, ap, ap₂, ◌∙◌}
use mathlib.Core.Bool.{Bool, true, false, ◌&&◌}
use mathlib.Core.List.{List, [], ◌∷◌, ◌++◌, append_assoc}
use native.Mathlib.Omega.{arith}
use lib.Dec.{eqb}
use lib.ListN.{length, replicate, take, drop, length-append, length-take, length-drop, drop_of_length-le}
use lib.Seq.{take-nil, take-take, drop-nil, drop-drop}
use borrow.Author.Tests.{ne_eqb}
use Rattle.std.proofs.lemmas.List.{take-append-drop}
use Rattle.laws.proofs.Bool.{and-lazy}
use Rattle.text.specs.Same.{same}
use Rattle.text.proofs.SameLaws.{same-lengths, same_refl}
use Rattle.sheet.specs.Text.{text, text_length}
use Rattle.lowering.specs.Pools.{bang, separator, prefix}
use Rattle.scratch_keys.specs.Keys.{mark_by, marked}
use Rattle.scratch_keys.specs.Pieces.{joined, pieces, overlap, over, space_of, separator_of, bang_of}

-- parts of two lists, one behind the other
drop-join : (n : ℕ) (xs ys : List ℕ) → drop n (xs ++ ys) ≡ drop n xs ++ drop (n - length xs) ys
drop-join n [] ys =
    let z : n ≡ n - 0 = omega arith in
    ap (λ (i : ℕ). drop i ys) z ∙ ap (λ (l : List ℕ). l ++ drop (n - 0) ys) (sym (drop-nil n))
drop-join zero (x ∷ xs) ys = let z : 0 ≡ 0 - length (x ∷ xs) = omega arith in ap (λ (i : ℕ). (x ∷ xs) ++ drop i ys) z
drop-join (suc n) (x ∷ xs) ys =
    let z : n - length xs ≡ suc n - length (x ∷ xs) = omega arith in
    drop-join n xs ys ∙ ap (λ (i : ℕ). drop n xs ++ drop i ys) z

take-join : (n : ℕ) (xs ys : List ℕ) → take n (xs ++ ys) ≡ take n xs ++ take (n - length xs) ys
take-join n [] ys =
    let z : n ≡ n - 0 = omega arith in
    ap (λ (i : ℕ). take i ys) z ∙ ap (λ (l : List ℕ). l ++ take (n - 0) ys) (sym (take-nil n))
take-join zero (x ∷ xs) ys = let z : 0 ≡ 0 - length (x ∷ xs) = omega arith in ap (λ (i : ℕ). take i ys) z
take-join (suc n) (x ∷ xs) ys =
    let z : n - length xs ≡ suc n - length (x ∷ xs) = omega arith in
    ap (λ (l : List ℕ). x ∷ l) (take-join n xs ys) ∙ ap (λ (i : ℕ). x ∷ (take n xs ++ take i ys)) z

-- bytes of one length in front
pub same-join : (a b x y : List ℕ) → length a ≡ length b → same (a ++ x) (b ++ y) ≡ (same a b && same x y)
unfolding same
same-join [] [] x y l = refl
same-join [] (d ∷ b) x y l = absurd (omega arith)
same-join (c ∷ a) [] x y l = absurd (omega arith)
same-join (c ∷ a) (d ∷ b) x y l = by (eqb c d) (same-join a b x y (omega arith))
  where
    by :
        (t : Bool) → same (a ++ x) (b ++ y) ≡ (same a b && same x y)
        → elim t [ true ↦ same (a ++ x) (b ++ y) | false ↦ false ] ≡ (elim t [ true ↦ same a b | false ↦ false ] && same x y)
    by true r = r
    by false r = refl

-- p against q and what is behind it: first where it lies over q
module _ (p q rest : List ℕ) (at to : ℕ) where
  over-front :
      same (drop (to - at) p) (take (length p - (to - at)) (drop (at - to) (q ++ rest)))
      ≡ (overlap p at q to
      && same (drop (to + length q - at) p) (take (length p - (to + length q - at)) (drop (at - (to + length q)) rest)))
  unfolding overlap
  over-front =
      let f = drop (to - at) p in
      let n = length p - (to - at) in
      let m = length q - (at - to) in
      let l = drop (at - to) q in
      let r = drop (at - to - length q) rest in
      let long : length l ≡ m = length-drop (at - to) q in
      let full : length f ≡ n = length-drop (to - at) p in
      let one : to - at + m ≡ to + length q - at = omega arith in
      let two : n - length l ≡ length p - (to + length q - at) = omega arith in
      let three : at - to - length q ≡ at - (to + length q) = omega arith in
      let even : length (take m f) ≡ length (take n l) = length-take m f ∙ (let z : min m (length f) ≡ min n (length l) = omega arith in z)
      ∙ sym (length-take n l) in
      ap₂ same (sym (take-append-drop m f)) (ap (take n) (drop-join (at - to) q rest) ∙ take-join n l r)
      ∙ same-join (take m f) (take n l) (drop m f) (take (n - length l) r) even
      ∙ ap₂ (λ (a b : List ℕ). same (take m f) (take n l) && same a b)
      (drop-drop m (to - at) p ∙ ap (λ (i : ℕ). drop i p) one)
      (ap₂ (λ (i k : ℕ). take i (drop k rest)) two three)

-- all that lies over it: p, from place `at` on, is what the pieces have there
over-is :
    (p : List ℕ) (at to : ℕ) (qs : List (List ℕ)) → at + length p ≤ to + length (joined qs)
    → over p at to qs ≡ same (drop (to - at) p) (take (length p - (to - at)) (drop (at - to) (joined qs)))
unfolding over joined
over-is p at to [] l =
    sym (ap₂ same (drop_of_length-le p (omega arith)) (ap (take (length p - (to - at))) (drop-nil (at - to)) ∙ take-nil _) ∙ same_refl [])
over-is p at to (q ∷ qs) l =
    let m = length-append q (joined qs) in
    and-lazy (overlap p at q to) (over p at (to + length q) qs)
    ∙ ap (λ (t : Bool). overlap p at q to && t) (over-is p at (to + length q) qs (omega arith))
    ∙ sym (over-front p q (joined qs) at to)

-- pieces, from place `at` on, over others
unfoldable pub all_over : ℕ → List (List ℕ) → List (List ℕ) → Bool
all_over at [] qs = true
all_over at (p ∷ ps) qs = elim (over p at 0 qs) [ true ↦ all_over (at + length p) ps qs | false ↦ false ]

-- all of them: the pieces are what the others have there
pub all_over-is :
    (at : ℕ) (ps qs : List (List ℕ)) → at + length (joined ps) ≡ length (joined qs)
    → all_over at ps qs ≡ same (joined ps) (drop at (joined qs))
unfolding all_over joined
all_over-is at [] qs l = sym (ap (same []) (drop_of_length-le (joined qs) (omega arith)) ∙ same_refl [])
all_over-is at (p ∷ ps) qs l =
    let m = length-append p (joined ps) in
    let d = drop at (joined qs) in
    let n = length p in
    let long : length d ≡ length (joined qs) - at = length-drop at (joined qs) in
    let a : 0 - at ≡ 0 = omega arith in
    let b : n - 0 ≡ n = omega arith in
    let c : at - 0 ≡ at = omega arith in
    let front =
    over-is p at 0 qs (omega arith)
    ∙ ap₂ same (ap (λ (i : ℕ). drop i p) a)
    (ap₂ (λ (i k : ℕ). take (n - i) (drop k (joined qs))) a c ∙ ap (λ (i : ℕ). take i d) b) in
    let even : length p ≡ length (take n d) = (let z : n ≡ min n (length d) = omega arith in z) ∙ sym (length-take n d) in
    and-lazy (over p at 0 qs) (all_over (at + n) ps qs)
    ∙ ap₂ ◌&&◌ front (all_over-is (at + n) ps qs (omega arith) ∙ ap (same (joined ps)) (sym (drop-drop n at (joined qs))))
    ∙ sym (same-join p (take n d) (joined ps) (drop n d) even)
    ∙ ap (same (p ++ joined ps)) (take-append-drop n d)

-- where they lie over each other, in the shapes of the code: p ends before q starts, q before p, or there are such bytes
none : (x : List ℕ) (n : ℕ) → n ≡ 0 → take n x ≡ []
none x n e = ap (λ (i : ℕ). take i x) e

module _ (p q : List ℕ) (at to skip from : ℕ) (e : skip ≡ to - at) (f : from ≡ at - to) where
  pub overlap-before : length p ≤ skip → true ≡ overlap p at q to
  unfolding overlap
  overlap-before l =
      sym (ap₂ same (ap (take (length q - (at - to))) (drop_of_length-le p (omega arith)) ∙ take-nil _)
      (none (drop (at - to) q) (length p - (to - at)) (omega arith)) ∙ same_refl [])

  pub overlap-behind : length q ≤ from → true ≡ overlap p at q to
  unfolding overlap
  overlap-behind l =
      sym (ap₂ same (none (drop (to - at) p) (length q - (at - to)) (omega arith))
      (ap (take (length p - (to - at))) (drop_of_length-le q (omega arith)) ∙ take-nil _) ∙ same_refl [])

  pub overlap-is :
      (a b : List ℕ) (r : Bool) → a ≡ take (length q - from) (drop skip p) → b ≡ take (length p - skip) (drop from q) → r ≡ same a b
      → r ≡ overlap p at q to
  unfolding overlap
  overlap-is a b r g h w =
      w ∙ ap₂ same g h
      ∙ ap₂ (λ (i k : ℕ). same (take (length q - i) (drop k p)) (take (length p - k) (drop i q))) f e

-- pieces one after the other, in the shapes of the code
module _ (p : List ℕ) (at to : ℕ) (q : List ℕ) where
  pub over-stops : (qs : List (List ℕ)) → overlap p at q to ≡ false → false ≡ over p at to (q ∷ qs)
  unfolding over
  over-stops qs h = sym (ap (λ (t : Bool). elim t [ true ↦ over p at (to + length q) qs | false ↦ false ]) h)

  pub over-goes :
      (next : ℕ) (qs : List (List ℕ)) → next ≡ to + length q → overlap p at q to ≡ true → over p at to (q ∷ qs) ≡ over p at next qs
  unfolding over
  over-goes next qs e h =
      ap (λ (t : Bool). elim t [ true ↦ over p at (to + length q) qs | false ↦ false ]) h ∙ ap (λ (n : ℕ). over p at n qs) (sym e)

  pub over-ends : over p at to (q ∷ []) ≡ overlap p at q to
  unfolding over
  over-ends = by (overlap p at q to)
    where
      by : (t : Bool) → elim t [ true ↦ true | false ↦ false ] ≡ t
      by true = refl
      by false = refl

module _ (at : ℕ) (p : List ℕ) (qs : List (List ℕ)) where
  pub all_over-stops : (ps : List (List ℕ)) → over p at 0 qs ≡ false → false ≡ all_over at (p ∷ ps) qs
  unfolding all_over
  all_over-stops ps h = sym (ap (λ (t : Bool). elim t [ true ↦ all_over (at + length p) ps qs | false ↦ false ]) h)

  pub all_over-goes :
      (next : ℕ) (ps : List (List ℕ)) → next ≡ at + length p → over p at 0 qs ≡ true → all_over at (p ∷ ps) qs ≡ all_over next ps qs
  unfolding all_over
  all_over-goes next ps e h =
      ap (λ (t : Bool). elim t [ true ↦ all_over (at + length p) ps qs | false ↦ false ]) h ∙ ap (λ (n : ℕ). all_over n ps qs) (sym e)

  pub all_over-ends : all_over at (p ∷ []) qs ≡ over p at 0 qs
  unfolding all_over
  all_over-ends = by (over p at 0 qs)
    where
      by : (t : Bool) → elim t [ true ↦ true | false ↦ false ] ≡ t
      by true = refl
      by false = refl

-- pieces of one length together
pub joined-same :
    (ps qs : List (List ℕ)) {m n : ℕ} → m ≡ length (joined ps) → n ≡ length (joined qs) → m ≡ n
    → all_over 0 ps qs ≡ same (joined ps) (joined qs)
joined-same ps qs e f h = all_over-is 0 ps qs (omega arith)

-- and not of one
pub joined-apart :
    (ps qs : List (List ℕ)) {m n : ℕ} → m ≡ length (joined ps) → n ≡ length (joined qs) → (m ≡ n → ⊥)
    → false ≡ same (joined ps) (joined qs)
joined-apart ps qs e f h = sym (same-lengths (joined ps) (joined qs) (λ q. h (e ∙ q ∙ sym f)))

-- a name's pieces
pub pieces-length : (a b c d : List ℕ) → length a + length b + length c + length d ≡ length (joined (pieces a b c d))
unfolding joined
pieces-length a b c d =
    omega (arith, length-append a (b ++ (c ++ (d ++ []))), length-append b (c ++ (d ++ [])), length-append c (d ++ []), length-append d [])

-- a text cut to its length
pub cut-again :
    (s : List ℕ) (t : ℕ) {n : ℕ} {x y : List ℕ} → x ≡ text s t → n ≡ text_length s t → y ≡ take n (drop 0 x) → y ≡ text s t
unfolding text
cut-again s t {n} {x} e f h = h ∙ ap₂ take f e ∙ take-take (text_length s t) (text_length s t) _ (omega arith)

pub cut-short : (x : List ℕ) {n : ℕ} {y : List ℕ} → y ≡ take n (drop 0 x) → n < 4294967296 → length y < 4294967296
cut-short x {n} {y} h l = let m = ap length h ∙ length-take n x in omega arith

-- what a namespace puts before a name, in pieces, and `!` behind it
module _ (s : List ℕ) where
  pub space-none : (w : ℕ) → w ≡ 0 → [] ≡ space_of s w
  unfolding space_of
  space-none w e = sym (ap (space_of s) e)

  pub space-some : (w : ℕ) {x : List ℕ} → (w ≡ 0 → ⊥) → x ≡ text s (w - 1) → x ≡ space_of s w
  unfolding space_of
  space-some w n e = e ∙ sym (ap (λ (t : Bool). elim t [ true ↦ [] | false ↦ text s (w - 1) ]) (ne_eqb w 0 n))

  bang-by : (m : Bool) → bang_of m ++ [] ≡ replicate (mark_by m) bang
  unfolding bang_of mark_by
  bang-by true = refl
  bang-by false = refl

  front-by : (w : ℕ) (x : List ℕ) → space_of s w ++ (separator_of w ++ x) ≡ prefix s w ++ x
  unfolding space_of separator_of prefix
  front-by w x = by (eqb w 0)
    where
      by :
          (t : Bool)
          → elim t [ true ↦ [] | false ↦ text s (w - 1) ] ++ (elim t [ true ↦ [] | false ↦ separator ] ++ x)
          ≡ elim t [ true ↦ [] | false ↦ text s (w - 1) ++ separator ] ++ x
      by true = refl
      by false = sym (append_assoc (text s (w - 1)) separator x)

  pub pieces-name :
      (w t : ℕ) (m : Bool) {a b c d : List ℕ} → a ≡ space_of s w → b ≡ separator_of w → c ≡ text s t → d ≡ bang_of m
      → joined (pieces a b c d) ≡ prefix s w ++ marked (text s t) m
  unfolding joined marked
  pieces-name w t m e f g h =
      ap₂ (λ (a b : List ℕ). a ++ b) e (ap₂ (λ (b r : List ℕ). b ++ r) f (ap₂ (λ (c d : List ℕ). c ++ (d ++ [])) g h))
      ∙ ap (λ (r : List ℕ). space_of s w ++ (separator_of w ++ (text s t ++ r))) (bang-by m)
      ∙ front-by w (text s t ++ replicate (mark_by m) bang)
