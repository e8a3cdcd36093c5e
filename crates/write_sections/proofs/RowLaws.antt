-- Laws of sections of equal rows: one row more, and all of them.
use Prim.Native.Nat.{ℕ, ◌+◌, ◌*◌, ◌≤◌, ◌<◌}
use mathlib.Core.Path.{◌≡◌, refl, sym, ap, ◌∙◌}
use mathlib.Core.List.{List, [], ◌∷◌, ◌++◌, map, map-append, append_assoc, append-nil}
use native.Mathlib.Omega.{arith}
use native.Mathlib.Numerals.{add-one}
use lib.ListN.{length, take, get_or, set, length-map}
use lib.Seq.{take-suc, take_all, length-take-le}
use Rattle.lowering.proofs.Parts.{section-length}
use Rattle.lowering.proofs.Widths.{const-width, name-width}
use Rattle.sheet.specs.Node.{kind, field_a, field_b}
use Rattle.lowering.specs.Limits.{const_width, name_width}
use Rattle.lowering.specs.Pools.{const_of}
use Rattle.lowering.specs.Image.{section, const_words, name_words}
use Rattle.scratch_keys.specs.Keys.{name_of}
use Rattle.write_sections.specs.Written.{Written}
use Rattle.write_sections.specs.Put.{put_part}
use Rattle.write_sections.proofs.PutLaws.{written_next, written_all, written_one}

-- one element more, and all
pub take_more : (l : List ℕ) (i : ℕ) → i < length l → take (i + 1) l ≡ take i l ++ (get_or l i 0 ∷ [])
take_more l i h = ap (λ (n : ℕ). take n l) (add-one i) ∙ take-suc l i 0 h

pub take_whole : (l : List ℕ) (i : ℕ) → length l ≤ i → take i l ≡ l
take_whole l i h = take_all i l h

section-append : {A : Type 0} (f : A → List ℕ) (xs ys : List A) → section f (xs ++ ys) ≡ section f xs ++ section f ys
unfolding section
section-append f [] ys = refl
section-append f (x ∷ xs) ys =
    ap (λ (l : List ℕ). f x ++ l) (section-append f xs ys) ∙ sym (append_assoc (f x) (section f xs) (section f ys))

section-one : {A : Type 0} (f : A → List ℕ) (x : A) → section f (x ∷ []) ≡ f x
unfolding section
section-one f x = append-nil (f x)

pub section-snoc : {A : Type 0} (f : A → List ℕ) (xs : List A) (x : A) → section f (xs ++ (x ∷ [])) ≡ section f xs ++ f x
section-snoc f xs x = section-append f xs (x ∷ []) ∙ ap (λ (l : List ℕ). section f xs ++ l) (section-one f x)

-- the words themselves
module _ {x₀ x : List ℕ} (l : List ℕ) (i : ℕ) (e : length x₀ ≡ length l) where
  pub copy-next : i < length l → Written x₀ x (take i l) → Written x₀ (set x i (get_or l i 0)) (take (i + 1) l)
  copy-next h w =
      let n : length (take i l) ≡ i = length-take-le i l (omega arith) in
      rw (take_more l i h) (written_one w i (get_or l i 0) n (omega arith))

  pub copy-end : length l ≤ i → Written x₀ x (take i l) → x ≡ l
  copy-end h w = let all = take_whole l i h in written_all w (ap length all ∙ sym e) ∙ all

-- a word for each
module _ {x₀ x : List ℕ} where
  pub map_next :
      (f : ℕ → ℕ) (l : List ℕ) (i v : ℕ) → length x₀ ≡ length l → i < length l → v ≡ f (get_or l i 0) → Written x₀ x (map f (take i l))
      → Written x₀ (set x i v) (map f (take (i + 1) l))
  map_next f l i v e h q w =
      let n : length (map f (take i l)) ≡ i = length-map (take i l) f ∙ length-take-le i l (omega arith) in
      rw (take_more l i h, map-append f (take i l) (get_or l i 0 ∷ []), ← q) (written_one w i v n (omega arith))

  pub map-end : (f : ℕ → ℕ) (l : List ℕ) (i : ℕ) → length x₀ ≡ length l → length l ≤ i → Written x₀ x (map f (take i l)) → x ≡ map f l
  map-end f l i e h w =
      let all = ap (map f) (take_whole l i h) in
      written_all w (ap length all ∙ length-map l f ∙ sym e) ∙ all

-- rows of f, each as long as w, of what the keys stand for
module _ {A : Type 0} (f : A → List ℕ) (g : ℕ → A) (w : ℕ) (wide : (y : A) → length (f y) ≡ w) where
  abbrev pub rows : List ℕ → ℕ → List ℕ
  rows ks i = section f (map g (take i ks))

  rows-length : (ks : List ℕ) (i : ℕ) → i ≤ length ks → length (rows ks i) ≡ w * i
  rows-length ks i h =
      section-length f w wide (map g (take i ks)) ∙ ap (λ (n : ℕ). w * n) (length-map (take i ks) g ∙ length-take-le i ks h)

  rows_more : (ks : List ℕ) (i : ℕ) → i < length ks → rows ks (i + 1) ≡ rows ks i ++ f (g (get_or ks i 0))
  rows_more ks i h =
      rw (take_more ks i h, map-append g (take i ks) (get_or ks i 0 ∷ [])) (section-snoc f (map g (take i ks)) (g (get_or ks i 0)))

  rows_next :
      {x₀ x y : List ℕ} (ks : List ℕ) (i at : ℕ) (row : List ℕ) → i < length ks → at ≡ w * i → at + w ≤ length x₀
      → row ≡ f (g (get_or ks i 0)) → y ≡ put_part x at w row → Written x₀ x (rows ks i) → Written x₀ y (rows ks (i + 1))
  rows_next ks i at row h a b q r v =
      rw (r, rows_more ks i h, ← q)
      (written_next v at w row (rows-length ks i (omega arith) ∙ sym a) (ap length q ∙ wide (g (get_or ks i 0))) b)

  rows_end :
      {x₀ x : List ℕ} (ks : List ℕ) (i : ℕ) → length x₀ ≡ w * length ks → length ks ≤ i → Written x₀ x (rows ks i)
      → x ≡ section f (map g ks)
  rows_end ks i e h v =
      let all = ap (λ (l : List ℕ). section f (map g l)) (take_whole ks i h) in
      written_all v (ap length all ∙ section-length f w wide (map g ks) ∙ ap (λ (n : ℕ). w * n) (length-map ks g) ∙ sym e) ∙ all

abbrev pub const_rows : List ℕ → List ℕ → ℕ → List ℕ
const_rows s ks i = section const_words (map (const_of s) (take i ks))

module _ {x₀ x : List ℕ} (s ks : List ℕ) (i : ℕ) (e : length x₀ ≡ const_width * length ks) where
  pub const-next :
      {y : List ℕ} (k a b : ℕ) → i < length ks → k ≡ kind s (get_or ks i 0) → a ≡ field_a s (get_or ks i 0) → b ≡ field_b s (get_or ks i 0)
      → y ≡ put_part x (const_width * i) const_width (k ∷ a ∷ b ∷ []) → Written x₀ x (const_rows s ks i)
      → Written x₀ y (const_rows s ks (i + 1))
  unfolding const_words
  const-next k a b h p q r t w =
      let row : (k ∷ a ∷ b ∷ []) ≡ const_words (const_of s (get_or ks i 0)) = rw (p, q, r) in
      rows_next const_words (const_of s) const_width const-width ks i (const_width * i) (k ∷ a ∷ b ∷ []) h refl (omega arith) row t w

  pub const-end : length ks ≤ i → Written x₀ x (const_rows s ks i) → x ≡ section const_words (map (const_of s) ks)
  const-end h w = rows_end const_words (const_of s) const_width const-width ks i e h w

abbrev pub name_rows : List ℕ → List ℕ → ℕ → List ℕ
name_rows s ks i = section name_words (map (name_of s) (take i ks))

module _ {x₀ x : List ℕ} (s ks : List ℕ) (i : ℕ) (e : length x₀ ≡ name_width * length ks) where
  pub name-next :
      {y : List ℕ} (t m v : ℕ) → i < length ks → t ≡ (name_of s (get_or ks i 0)).text → m ≡ (name_of s (get_or ks i 0)).mark
      → v ≡ (name_of s (get_or ks i 0)).namespace → y ≡ put_part x (name_width * i) name_width (t ∷ m ∷ v ∷ [])
      → Written x₀ x (name_rows s ks i) → Written x₀ y (name_rows s ks (i + 1))
  unfolding name_words
  name-next t m v h p q n r w =
      let row : (t ∷ m ∷ v ∷ []) ≡ name_words (name_of s (get_or ks i 0)) = rw (p, q, n) in
      rows_next name_words (name_of s) name_width name-width ks i (name_width * i) (t ∷ m ∷ v ∷ []) h refl (omega arith) row r w

  pub name-end : length ks ≤ i → Written x₀ x (name_rows s ks i) → x ≡ section name_words (map (name_of s) ks)
  name-end h w = rows_end name_words (name_of s) name_width name-width ks i e h w
