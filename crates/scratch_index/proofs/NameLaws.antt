-- Names: the same names have the same hash (`names-alike`), and one law for each answer of the code.
use Rattle.std.proofs.Common.{◌≡◌, ℕ, ◌-◌, ◌/◌, ◌%◌, ◌<◌, Bool, true, false, ◌&&◌, List, [], ◌∷◌, ◌++◌, sym, refl, ap, ◌∙◌, subst, ap₂}
use Rattle.std.proofs.Common.{eqb, ne_eqb, eqb-true}
use Rattle.laws.proofs.Bool.{and_left, and_right}
use mathlib.Core.Bool.{◌||◌, not, beq, true≢false}
use Rattle.text.specs.Same.{same}
use Rattle.text.proofs.SameLaws.{same_refl, same_true}
use Rattle.sheet.specs.Text.{text}
use Rattle.lowering.specs.Pools.{Name, name, same_name, name_bytes, bang, separator, prefix}
use Rattle.scratch_keys.specs.Keys.{key_node, key_field, name_of, is_marked, mark_of, marked, mark_by}
use Rattle.scratch_keys.proofs.BangLaws.{texts_same}
use Rattle.scratch_keys.proofs.PiecesLaws.{same-join}
use Rattle.scratch_index.specs.Pool.{Alike}
use Rattle.scratch_folds.specs.Hash.{byte_step, spread, fold_hash, bytes_hash}
use Rattle.scratch_folds.specs.Sums.{Sums, BySums}
use Rattle.scratch_index.specs.Names.{is_name, same_name_of, name_with, name_hash_of, name_hash}
use Rattle.scratch_folds.proofs.HashLaws.{bytes_word, fold-append}
use Rattle.scratch_folds.proofs.SumsLaws.{by-at}
use Rattle.scratch_index.proofs.ConstLaws.{alike-by}

module _ (s : List ℕ) where
  names-told : (m n : Name) → same_name s m n ≡ true → name_bytes s m ≡ name_bytes s n
  unfolding same_name
  names-told m n h = same_true (name_bytes s m) (name_bytes s n) h

  names_of : (m n : Name) → name_bytes s m ≡ name_bytes s n → same_name s m n ≡ true
  unfolding same_name
  names_of m n e = subst (λ (y : List ℕ). same (name_bytes s m) y ≡ true) e (same_refl (name_bytes s m))

  pub name-word : (n : Name) → name_hash_of s n < 4294967296
  unfolding name_hash_of
  name-word n = bytes_word (name_bytes s n)

  pub name-hashed : (m n : Name) → same_name s m n ≡ true → name_hash_of s n ≡ name_hash_of s m
  unfolding name_hash_of
  name-hashed m n h = ap bytes_hash (sym (names-told m n h))

  pub names-alike : Alike (same_name_of s) (name_hash s)
  unfolding name_hash_of
  names-alike =
      alike-by (λ (k : ℕ). name_bytes s (name_of s k)) (same_name_of s) (name_hash s) bytes_hash
      (λ i j h. names-told (name_of s i) (name_of s j) h)
      (λ i j e. names_of (name_of s i) (name_of s j) e)
      (λ k. refl)
      (λ k. name-word (name_of s k))

  -- two keys that have one name have the same name
  pub name-one : (n : Name) (i j : ℕ) → is_name s n i ≡ true → is_name s n j ≡ true → same_name_of s i j ≡ true
  name-one n i j a b =
      names_of (name_of s i) (name_of s j) (sym (names-told n (name_of s i) a) ∙ names-told n (name_of s j) b)

-- `!` is one step more, after any front
hash-marked : (h : ℕ) (x : List ℕ) → fold_hash h (marked x true) ≡ byte_step (fold_hash h x) bang
unfolding marked mark_by fold_hash
hash-marked h x = fold-append h x (bang ∷ [])

hash-plain : (h : ℕ) (x : List ℕ) → fold_hash h (marked x false) ≡ fold_hash h x
unfolding marked mark_by fold_hash
hash-plain h x = fold-append h x []

-- and the separator two
hash-separated : (x : List ℕ) → fold_hash 0 (x ++ separator) ≡ byte_step (byte_step (fold_hash 0 x) 58) 58
unfolding fold_hash
hash-separated x = fold-append 0 x separator

module _ (s : List ℕ) where
  with-bytes : (t : ℕ) (m : Bool) (w : ℕ) → name_bytes s (name_with s t m w) ≡ prefix s w ++ marked (text s t) m
  unfolding name_bytes marked
  with-bytes t m w = refl

  -- a key's name by its text, its mark and its namespace
  name-whole : (k : ℕ) → name_of s k ≡ name_with s (name_of s k).text (is_marked s (key_node k) (key_field k)) (name_of s k).namespace
  unfolding name_of mark_of
  name-whole k = refl

  -- from what the code read of key k: its text t, whether it is marked, and its namespace w
  pub name-read :
      (k : ℕ) {t : ℕ} {b : Bool} {w : ℕ} → t ≡ (name_of s k).text → b ≡ is_marked s (key_node k) (key_field k)
      → w ≡ (name_of s k).namespace → name_with s t b w ≡ name_of s k
  name-read k {t} {b} {w} e f g =
      ap₂ (λ (i : ℕ) (m : Bool). name_with s i m w) e f
      ∙ ap (name_with s (name_of s k).text (is_marked s (key_node k) (key_field k))) g
      ∙ sym (name-whole k)

  pub with-plain : (t : ℕ) → name_with s t false 0 ≡ name t 0
  unfolding mark_by
  with-plain t = refl

  -- a name with neither, by one test
  neither : (m b : Bool) → (m || not b) ≡ false → (m ≡ false) × (b ≡ true)
  neither true b h = absurd (true≢false h)
  neither false true h = (refl, refl)
  neither false false h = absurd (true≢false h)

  pub name-read-off :
      (k : ℕ) {t : ℕ} {b : Bool} {w : ℕ} → t ≡ (name_of s k).text → b ≡ is_marked s (key_node k) (key_field k)
      → w ≡ (name_of s k).namespace → (b || not (eqb w 0)) ≡ false → name t 0 ≡ name_of s k
  name-read-off k {t} {b} {w} e f g h =
      let off = neither b (eqb w 0) h in
      sym (with-plain t) ∙ name-read k e (sym off.0 ∙ f) (sym (eqb-true w 0 off.1) ∙ g)

  -- what a namespace puts before a name, as a fold: none
  pub prefix-none : (w p : ℕ) (xs : List ℕ) → w ≡ 0 → BySums s p xs (fold_hash 0 (prefix s w)) 0
  unfolding prefix fold_hash
  prefix-none w p xs e = record { is = λ sums. sym (ap (λ (i : ℕ). fold_hash 0 (prefix s i)) e) }

  -- or its text and the separator: f is the fold of the text, by what is kept at place at
  pub prefix-some :
      (w p : ℕ) (xs : List ℕ) {f at g h : ℕ} → (w ≡ 0 → ⊥) → at ≡ p → BySums s at xs (fold_hash 0 (text s (w - 1))) f
      → g ≡ byte_step f 58 → h ≡ byte_step g 58 → BySums s p xs (fold_hash 0 (prefix s w)) h
  unfolding prefix
  prefix-some w p xs n place fold q r = record {
    is = λ sums.
        r
        ∙ ap (λ (v : ℕ). byte_step v 58) (q ∙ ap (λ (v : ℕ). byte_step v 58) ((by-at place fold).is sums))
        ∙ sym (hash-separated (text s (w - 1)))
        ∙ sym (ap (λ (t : Bool). fold_hash 0 (elim t [ true ↦ [] | false ↦ text s (w - 1) ++ separator ])) (ne_eqb w 0 n));
  }

  -- the hash of what the code read: a is the fold of what namespace w puts before, and f that of text t behind it, by what is kept at
  -- place at
  module _
      (t : ℕ) (m : Bool) (w p : ℕ) (xs : List ℕ) {a f at : ℕ} (place : at ≡ p) (front : BySums s p xs (fold_hash 0 (prefix s w)) a)
      (fold : BySums s at xs (fold_hash a (text s t)) f)
    where
      bytes-are : (b : Bool) → m ≡ b
          → fold_hash (fold_hash 0 (prefix s w)) (marked (text s t) b) ≡ fold_hash 0 (name_bytes s (name_with s t m w))
      bytes-are b e =
          sym (fold-append 0 (prefix s w) (marked (text s t) b))
          ∙ ap (fold_hash 0) (ap (λ (u : Bool). prefix s w ++ marked (text s t) u) (sym e) ∙ sym (with-bytes t m w))

      both : Sums s p xs → f ≡ fold_hash (fold_hash 0 (prefix s w)) (text s t)
      both sums = (by-at place fold).is sums ∙ ap (λ (v : ℕ). fold_hash v (text s t)) (front.is sums)

      pub name-hash-on :
          {g h : ℕ} → m ≡ true → g ≡ byte_step f bang → h ≡ spread g → BySums s p xs (name_hash_of s (name_with s t m w)) h
      unfolding name_hash_of bytes_hash
      name-hash-on e q r = record {
        is = λ sums.
            r
            ∙ ap spread
            (q
            ∙ ap (λ (v : ℕ). byte_step v bang) (both sums)
            ∙ sym (hash-marked (fold_hash 0 (prefix s w)) (text s t))
            ∙ bytes-are true e);
      }

      pub name-hash-off : {h : ℕ} → m ≡ false → h ≡ spread f → BySums s p xs (name_hash_of s (name_with s t m w)) h
      unfolding name_hash_of bytes_hash
      name-hash-off e r = record {
        is = λ sums. r ∙ ap spread (both sums ∙ sym (hash-plain (fold_hash 0 (prefix s w)) (text s t)) ∙ bytes-are false e);
      }

  -- a comparison of the name with text t and mark m in namespace w with that of key c, whose text is d and whose namespace is v
  module _
      (t c : ℕ) (m : Bool) (w : ℕ) {d v : ℕ} (at : d ≡ (name_of s c).text) (space : v ≡ (name_of s c).namespace)
    where
      abbrev mark : Bool
      mark = is_marked s (c / 3) (c % 3)

      compared : is_name s (name_with s t m w) c ≡ same (prefix s w ++ marked (text s t) m) (prefix s v ++ marked (text s d) mark)
      unfolding same_name
      compared =
          ap₂ same (with-bytes t m w)
          (ap (name_bytes s) (name-whole c)
          ∙ with-bytes (name_of s c).text mark (name_of s c).namespace
          ∙ ap₂ (λ (i u : ℕ). prefix s u ++ marked (text s i) mark) (sym at) (sym space))

      pub name-compared :
          {x y : List ℕ} {b r : Bool} → x ≡ prefix s w ++ marked (text s t) m → b ≡ mark → y ≡ prefix s v ++ marked (text s d) b
          → r ≡ same x y → r ≡ is_name s (name_with s t m w) c
      name-compared p e q h = h ∙ ap₂ same p (q ∙ ap (λ (u : Bool). prefix s v ++ marked (text s d) u) e) ∙ sym compared

      -- in one namespace text and mark tell
      pub own-compared :
          {x y : List ℕ} {r : Bool} → w ≡ v → x ≡ text s t → y ≡ text s d
          → r ≡ same (marked x m) (marked y mark) → r ≡ is_name s (name_with s t m w) c
      own-compared one p q h =
          h
          ∙ ap₂ same (ap (λ (l : List ℕ). marked l m) p) (ap (λ (l : List ℕ). marked l mark) q)
          ∙ sym (compared
          ∙ ap (λ (k : ℕ). same (prefix s w ++ marked (text s t) m) (prefix s k ++ marked (text s d) mark)) (sym one)
          ∙ same-join (prefix s w) (prefix s w) (marked (text s t) m) (marked (text s d) mark) refl
          ∙ ap (λ (u : Bool). u && same (marked (text s t) m) (marked (text s d) mark)) (same_refl (prefix s w)))

      -- where both have one text and one namespace, the marks tell
      pub name-alone : {b : Bool} → (eqb t d && eqb w v) ≡ true → b ≡ mark → beq b m ≡ is_name s (name_with s t m w) c
      name-alone {b} told e =
          let one = eqb-true t d (and_left (eqb t d) (eqb w v) told) in
          let two = eqb-true w v (and_right (eqb t d) (eqb w v) told) in
          sym (compared
          ∙ ap₂ (λ (i k : ℕ). same (prefix s w ++ marked (text s t) m) (prefix s k ++ marked (text s i) mark)) (sym one) (sym two)
          ∙ same-join (prefix s w) (prefix s w) (marked (text s t) m) (marked (text s t) mark) refl
          ∙ ap (λ (u : Bool). u && same (marked (text s t) m) (marked (text s t) mark)) (same_refl (prefix s w))
          ∙ ap (λ (u : Bool). same (marked (text s t) m) (marked (text s t) u)) (sym e)
          ∙ texts_same (text s t) (text s t) m b (same_refl (text s t)))
