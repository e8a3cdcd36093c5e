-- A list of words that is a part of another from an offset on, and sections, whose records all have one width: word f of record k is
-- found at the offset, plus k widths, plus f.
use Prim.Native.Nat.{ℕ, zero, suc, ◌+◌, ◌*◌, ◌<◌}
use mathlib.Core.Path.{◌≡◌, sym, ap, ◌∙◌}
use mathlib.Core.List.{List, [], ◌∷◌, ◌++◌, append_assoc, append-nil}
use native.Mathlib.Omega.{arith}
use native.Mathlib.Nat.{mul-zero, mul-le-mul_left}
use lib.ListN.{length, get_or, length-append, get_or-append}
use lib.Seq.{get_or-append-add}
use Rattle.lowering.specs.Image.{section}

-- w is xs with o words before it and some behind
pub record Part (w : List ℕ) (o : ℕ) (xs : List ℕ) : Type 0 where
  pub before : List ℕ
  pub behind : List ℕ
  pub whole : w ≡ before ++ (xs ++ behind)
  pub offset : length before ≡ o

-- the last part, and a part where more comes behind
pub part-last : (v xs : List ℕ) (o : ℕ) → length v ≡ o → Part (v ++ xs) o xs
part-last v xs o h = record { before = v; behind = []; whole = ap (λ (l : List ℕ). v ++ l) (sym (append-nil xs)); offset = h }

pub part-more : {w xs : List ℕ} {o : ℕ} (v : List ℕ) → Part w o xs → Part (w ++ v) o xs
part-more {w} {xs} {o} v t = record {
  before = t.before;
  behind = t.behind ++ v;
  whole =
      ap (λ (l : List ℕ). l ++ v) t.whole
      ∙ append_assoc t.before (xs ++ t.behind) v
      ∙ ap (λ (l : List ℕ). t.before ++ l) (append_assoc xs t.behind v);
  offset = t.offset;
}

pub part-word : {w xs : List ℕ} {o : ℕ} → Part w o xs → (i : ℕ) → i < length xs → get_or w (o + i) 0 ≡ get_or xs i 0
part-word {w} {xs} {o} t i h =
    ap (λ (l : List ℕ). get_or l (o + i) 0) t.whole
    ∙ ap (λ (n : ℕ). get_or (t.before ++ (xs ++ t.behind)) (n + i) 0) (sym t.offset)
    ∙ get_or-append-add t.before (xs ++ t.behind) i 0
    ∙ get_or-append xs t.behind 0 i h

-- records of width n
module _ {A : Type 0} (f : A → List ℕ) (n : ℕ) (width : (x : A) → length (f x) ≡ n) where
  pub section-length : (xs : List A) → length (section f xs) ≡ n * length xs
  unfolding section
  section-length [] = sym (mul-zero n)
  section-length (x ∷ xs) = omega (arith, length-append (f x) (section f xs), width x, section-length xs)

  section-word : (xs : List A) (d : A) (k i : ℕ) → k < length xs → i < n → get_or (section f xs) (n * k + i) 0 ≡ get_or (f (get_or xs k d)) i 0
  unfolding section
  section-word [] d k i h g = omega arith
  section-word (x ∷ xs) d zero i h g =
      let e : n * zero + i ≡ i = omega arith in
      let g' : i < length (f x) = omega (arith, width x) in
      rw e (get_or-append (f x) (section f xs) 0 i g')
  section-word (x ∷ xs) d (suc k) i h g =
      let e : n * suc k + i ≡ length (f x) + (n * k + i) = omega (arith, width x) in
      rw e (get_or-append-add (f x) (section f xs) (n * k + i) 0 ∙ section-word xs d k i (omega arith) g)

  -- the one lemma that all sections cite
  pub record-word : {w : List ℕ} {o : ℕ} (xs : List A) → Part w o (section f xs) → (d : A) (k i : ℕ) → k < length xs → i < n
      → get_or w (o + n * k + i) 0 ≡ get_or (f (get_or xs k d)) i 0
  record-word {w} {o} xs t d k i h g =
      let e : o + n * k + i ≡ o + (n * k + i) = omega arith in
      let fits : n * k + i < length (section f xs) = omega (arith, section-length xs, mul-le-mul_left n h) in
      rw e (part-word t (n * k + i) fits ∙ section-word xs d k i h g)
