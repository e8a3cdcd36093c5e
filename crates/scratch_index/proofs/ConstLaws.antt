-- Constants: the test of the definition is an equivalence and the same constants have the same hash (`consts-alike`), tokens too
-- (`tokens-alike`); and one law for each answer of the code.
use Rattle.std.proofs.Common.{◌≡◌, ℕ, ◌+◌, ◌%◌, ◌<◌, Bool, true, false, ◌&&◌, eqb, List, sym, refl, ap, ◌∙◌, subst, ap₂, true≢false, arith}
use Rattle.std.proofs.Common.{eq-eqb, ne_eqb, eqb-true}
use mathlib.Core.Bool.{and-eq-true_iff}
use borrow.Author.Tests.{eqb-false}
use Rattle.text.specs.Same.{same}
use Rattle.expr_chains.specs.Same.{same_text}
use Rattle.text.proofs.SameLaws.{same_refl, same_true}
use Rattle.sheet.specs.Node.{kind, field_a, field_b, field_c}
use Rattle.sheet.specs.Text.{text}
use Rattle.lowering.specs.Kinds.{string_kind}
use Rattle.lowering.specs.Pools.{same_const}
use Rattle.scratch_index.specs.Pool.{Alike}
use Rattle.scratch_folds.specs.Hash.{byte_step, spread, bytes_hash, mix}
use Rattle.scratch_folds.specs.Sums.{BySums}
use Rattle.scratch_index.specs.Consts.{same_const_of, const_hash, same_token_of, token_hash}
use Rattle.scratch_folds.proofs.HashLaws.{bytes_word, mix-word}
use Rattle.scratch_folds.proofs.SumsLaws.{by-at}

-- a test by equal values, with a hash of the value
pub alike-by :
    {A : Type 0} (value : ℕ → A) (same : ℕ → ℕ → Bool) (hash : ℕ → ℕ) (of : A → ℕ)
    → ((i j : ℕ) → same i j ≡ true → value i ≡ value j) → ((i j : ℕ) → value i ≡ value j → same i j ≡ true)
    → ((k : ℕ) → hash k ≡ of (value k)) → ((k : ℕ) → hash k < 4294967296) → Alike same hash
alike-by value same hash of told is by w = record {
  swap = λ i j h. is j i (sym (told i j h));
  join = λ i j k h g. is i k (told i j h ∙ told j k g);
  hashed = λ i j h. by j ∙ ap of (sym (told i j h)) ∙ sym (by i);
  word = w;
}

pub tokens-alike : (s : List ℕ) → Alike (same_token_of s) (token_hash s)
unfolding token_hash
tokens-alike s =
    alike-by (field_c s) (same_token_of s) (token_hash s) (λ (v : ℕ). spread (byte_step 0 v))
    (λ i j h. eqb-true (field_c s i) (field_c s j) h)
    (λ i j e. eq-eqb (field_c s i) (field_c s j) e)
    (λ k. refl)
    (λ k. omega arith)

-- what the code read of node j
pub token-read : (s : List ℕ) (j : ℕ) {t h : ℕ} → t ≡ field_c s j → h ≡ spread ((t + 1) % 4294967296) → h ≡ token_hash s j
unfolding token_hash
token-read s j {t} e q =
    let z : (t + 1) % 4294967296 ≡ byte_step 0 t = omega arith in
    q ∙ ap spread z ∙ ap (λ (v : ℕ). spread (byte_step 0 v)) e

pub token-self : (s : List ℕ) (j : ℕ) → same_token_of s j j ≡ true
token-self s j = eq-eqb (field_c s j) (field_c s j) refl

pub token-word : (s : List ℕ) (j : ℕ) → token_hash s j < 4294967296
unfolding token_hash
token-word s j = omega arith

-- what the same constants have in common
pub record Common (s : List ℕ) (i c : ℕ) : Type 0 where
  pub kinds : kind s i ≡ kind s c
  pub texts : kind s i ≡ string_kind → text s (field_a s i) ≡ text s (field_a s c)
  pub firsts : (kind s i ≡ string_kind → ⊥) → field_a s i ≡ field_a s c
  pub seconds : (kind s i ≡ string_kind → ⊥) → field_b s i ≡ field_b s c

module _ (s : List ℕ) where
  hash-string : (j : ℕ) → kind s j ≡ string_kind → const_hash s j ≡ bytes_hash (text s (field_a s j))
  unfolding const_hash
  hash-string j h = rw (eq-eqb (kind s j) string_kind h, const_hash)

  hash-number : (j : ℕ) → (kind s j ≡ string_kind → ⊥) → const_hash s j ≡ mix (kind s j) (field_a s j) (field_b s j)
  unfolding const_hash
  hash-number j n = rw (ne_eqb (kind s j) string_kind n, const_hash)

  pub const-word : (j : ℕ) → const_hash s j < 4294967296
  const-word j = by (eqb (kind s j) string_kind) refl
    where
      by : (t : Bool) → eqb (kind s j) string_kind ≡ t → const_hash s j < 4294967296
      by true h = rw (hash-string j (eqb-true (kind s j) string_kind h)) (bytes_word (text s (field_a s j)))
      by false h = rw (hash-number j (eqb-false (kind s j) string_kind h)) (mix-word (kind s j) (field_a s j) (field_b s j))

  module _ (i c : ℕ) where
    same-string : kind s i ≡ kind s c → kind s i ≡ string_kind → same_const_of s i c ≡ same (text s (field_a s i)) (text s (field_a s c))
    unfolding same_const
    same-string h k = rw (eq-eqb (kind s i) (kind s c) h, eq-eqb (kind s i) string_kind k, same_const)

    same_number :
        kind s i ≡ kind s c → (kind s i ≡ string_kind → ⊥)
        → same_const_of s i c ≡ (eqb (field_a s i) (field_a s c) && eqb (field_b s i) (field_b s c))
    unfolding same_const
    same_number h n = rw (eq-eqb (kind s i) (kind s c) h, ne_eqb (kind s i) string_kind n, same_const)

    same_kind : (kind s i ≡ kind s c → ⊥) → same_const_of s i c ≡ false
    unfolding same_const
    same_kind n = rw (ne_eqb (kind s i) (kind s c) n, same_const)

    same-told : same_const_of s i c ≡ true → Common s i c
    same-told h = by (eqb (kind s i) (kind s c)) refl (eqb (kind s i) string_kind) refl
      where
        by : (t : Bool) → eqb (kind s i) (kind s c) ≡ t → (u : Bool) → eqb (kind s i) string_kind ≡ u → Common s i c
        by true e true f =
            let k = eqb-true (kind s i) (kind s c) e in
            let z = eqb-true (kind s i) string_kind f in
            let t = same_true (text s (field_a s i)) (text s (field_a s c)) (sym (same-string k z) ∙ h) in
            record { kinds = k; texts = λ q. t; firsts = λ n. absurd (n z); seconds = λ n. absurd (n z) }
        by true e false f =
            let k = eqb-true (kind s i) (kind s c) e in
            let z = eqb-false (kind s i) string_kind f in
            let both =
            (and-eq-true_iff (eqb (field_a s i) (field_a s c)) (eqb (field_b s i) (field_b s c))).0 (sym (same_number k z) ∙ h) in
            record {
              kinds = k;
              texts = λ q. absurd (z q);
              firsts = λ n. eqb-true (field_a s i) (field_a s c) both.0;
              seconds = λ n. eqb-true (field_b s i) (field_b s c) both.1;
            }
        by false e u f = absurd (true≢false (sym h ∙ same_kind (eqb-false (kind s i) (kind s c) e)))

    same_of : Common s i c → same_const_of s i c ≡ true
    same_of m = by (eqb (kind s i) string_kind) refl
      where
        by : (u : Bool) → eqb (kind s i) string_kind ≡ u → same_const_of s i c ≡ true
        by true f =
            let z = eqb-true (kind s i) string_kind f in
            same-string m.kinds z
            ∙ subst (λ (y : List ℕ). same (text s (field_a s i)) y ≡ true) (m.texts z) (same_refl (text s (field_a s i)))
        by false f =
            let z = eqb-false (kind s i) string_kind f in
            same_number m.kinds z
            ∙ (and-eq-true_iff (eqb (field_a s i) (field_a s c)) (eqb (field_b s i) (field_b s c))).1
            (eq-eqb (field_a s i) (field_a s c) (m.firsts z), eq-eqb (field_b s i) (field_b s c) (m.seconds z))

    same-hash : Common s i c → const_hash s c ≡ const_hash s i
    same-hash m = by (eqb (kind s i) string_kind) refl
      where
        by : (u : Bool) → eqb (kind s i) string_kind ≡ u → const_hash s c ≡ const_hash s i
        by true f =
            let z = eqb-true (kind s i) string_kind f in
            hash-string c (sym m.kinds ∙ z) ∙ ap bytes_hash (sym (m.texts z)) ∙ sym (hash-string i z)
        by false f =
            let z = eqb-false (kind s i) string_kind f in
            hash-number c (λ q. z (m.kinds ∙ q))
            ∙ ap (λ (v : ℕ). mix v (field_a s c) (field_b s c)) (sym m.kinds)
            ∙ ap (λ (v : ℕ). mix (kind s i) v (field_b s c)) (sym (m.firsts z))
            ∙ ap (mix (kind s i) (field_a s i)) (sym (m.seconds z))
            ∙ sym (hash-number i z)

  pub consts-alike : Alike (same_const_of s) (const_hash s)
  consts-alike = record {
    swap = λ i j h.
        let m = same-told i j h in
        same_of j i
        (record {
          kinds = sym m.kinds;
          texts = λ q. sym (m.texts (m.kinds ∙ q));
          firsts = λ n. sym (m.firsts (λ q. n (sym m.kinds ∙ q)));
          seconds = λ n. sym (m.seconds (λ q. n (sym m.kinds ∙ q)));
        });
    join = λ i j k h g.
        let m = same-told i j h in
        let n = same-told j k g in
        same_of i k
        (record {
          kinds = m.kinds ∙ n.kinds;
          texts = λ q. m.texts q ∙ n.texts (sym m.kinds ∙ q);
          firsts = λ f. m.firsts f ∙ n.firsts (λ q. f (m.kinds ∙ q));
          seconds = λ f. m.seconds f ∙ n.seconds (λ q. f (m.kinds ∙ q));
        });
    hashed = λ i j h. same-hash i j (same-told i j h);
    word = const-word;
  }

-- the same of what the code read: a hash
module _ (s : List ℕ) (j p : ℕ) (xs : List ℕ) {k a h : ℕ} (e : k ≡ kind s j) (f : a ≡ field_a s j) where
  pub read-string : {at : ℕ} → at ≡ p → BySums s at xs (bytes_hash (text s a)) h → k ≡ string_kind → BySums s p xs (const_hash s j) h
  read-string t q z = record {
    is = λ sums. (by-at t q).is sums ∙ ap (λ (v : ℕ). bytes_hash (text s v)) f ∙ sym (hash-string s j (sym e ∙ z));
  }

  pub read_number : {b : ℕ} → b ≡ field_b s j → h ≡ mix k a b → (k ≡ string_kind → ⊥) → BySums s p xs (const_hash s j) h
  read_number {b = b} g q n = record {
    is = λ sums.
        q
        ∙ ap (λ (v : ℕ). mix v a b) e
        ∙ ap (λ (v : ℕ). mix (kind s j) v b) f
        ∙ ap (mix (kind s j) (field_a s j)) g
        ∙ sym (hash-number s j (λ z. n (e ∙ z)));
  }

-- and a comparison
module _ (s : List ℕ) (i c : ℕ) {k l : ℕ} (e : k ≡ kind s i) (g : l ≡ kind s c) where
  pub told-other : (k ≡ l → ⊥) → false ≡ same_const_of s i c
  told-other n = sym (same_kind s i c (λ q. n (e ∙ q ∙ sym g)))

  module _ (kinds : k ≡ l) {a d : ℕ} (f : a ≡ field_a s i) (h : d ≡ field_a s c) where
    alike-kinds : kind s i ≡ kind s c
    alike-kinds = sym e ∙ kinds ∙ g

    pub told-bytes : {r : Bool} → k ≡ string_kind → r ≡ same_text s a d → r ≡ same_const_of s i c
    unfolding same_text
    told-bytes z q = q ∙ ap₂ (λ x y. same (text s x) (text s y)) f h ∙ sym (same-string s i c alike-kinds (sym e ∙ z))

    pub told-number :
        {b m : ℕ} → (k ≡ string_kind → ⊥) → b ≡ field_b s i → m ≡ field_b s c → (eqb a d && eqb b m) ≡ same_const_of s i c
    told-number n p q = ap₂ ◌&&◌ (ap₂ eqb f h) (ap₂ eqb p q) ∙ sym (same_number s i c alike-kinds (λ z. n (e ∙ z)))

-- a constant is the same as itself
pub const-self : (s : List ℕ) (j : ℕ) → same_const_of s j j ≡ true
const-self s j = same_of s j j (record { kinds = refl; texts = λ q. refl; firsts = λ n. refl; seconds = λ n. refl })
