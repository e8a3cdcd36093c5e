-- Laws of the numbers of cases: cases whose numbers differ differ, each from each.
use Prim.Native.Nat.{ℕ, zero, suc, ◌+◌, ◌-◌, ◌*◌, ◌<◌, ◌≤◌}
use mathlib.Core.Path.{◌≡◌, refl, ap, ap₂, sym, ◌∙◌}
use mathlib.Core.Bool.{Bool, true, false, ◌&&◌, not}
use mathlib.Core.List.{List, [], ◌∷◌}
use native.Mathlib.Omega.{arith}
use native.Mathlib.Decide.{ℕ_discrete, dec_lt}
use lib.Dec.{eqb}
use lib.ListN.{length, take, drop, get_or, set, length-take}
use lib.Seq.{get_or-take, get_or-set_same, get_or-set_other}
use borrow.Author.Tests.{le-leb, lt-leb, eq-eqb, ne_eqb}
use Rattle.std.specs.Int.{from_le_bytes, w32}
use Rattle.text.proofs.SameLaws.{same_false}
use Rattle.words.specs.Word.{byte_of, word}
use Rattle.sheet.specs.Kinds.{string_kind}
use Rattle.sheet.specs.Node.{kind, field_a, field_b, child, next}
use Rattle.sheet.specs.Text.{text}
use Rattle.sheet.specs.Walk.{siblings_by, siblings, skip}
use Rattle.check_switches.specs.Switch.{apart_by, distinct_by, same_value, apart, distinct}
use Rattle.check_switches.proofs.SwitchLaws.{value-kinds, value-text, value-bits}
use Rattle.check_switches.specs.Key.{text_key, value_key}

-- what the code reads of a text
module _ (x : List ℕ) where
  pub few-key : {a b c : ℕ} → length x < 4 → a ≡ byte_of x 0 → b ≡ byte_of x 1 → c ≡ byte_of x 2
      → from_le_bytes w32 (a ∷ b ∷ c ∷ 0 ∷ []) ≡ text_key x
  unfolding text_key
  few-key h ha hb hc = rw (ha, hb, hc, lt-leb 4 (length x) h, text_key) (omega arith)

  pub long-key : {a b : ℕ} {y : List ℕ} → 4 ≤ length x → a ≡ word x 0 → y ≡ take 4 (drop (length x - 4) x) → b ≡ word y 0
      → a + 4294967296 * b ≡ text_key x
  unfolding text_key
  long-key h ha hy hb = rw (ha, hb, hy, le-leb 4 (length x) h, text_key)

-- and of a node
module _ (s : List ℕ) (v : ℕ) where
  text-valued : kind s v ≡ string_kind → text_key (text s (field_a s v)) ≡ value_key s v
  unfolding value_key
  text-valued h = rw (eq-eqb (kind s v) string_kind h, value_key)

  bits-valued : (kind s v ≡ string_kind → ⊥) → field_a s v + 4294967296 * field_b s v ≡ value_key s v
  unfolding value_key
  bits-valued h = rw (ne_eqb (kind s v) string_kind h, value_key)

  pub text-key : {a k r : ℕ} {x : List ℕ} → a ≡ field_a s v → k ≡ kind s v → k ≡ string_kind → x ≡ text s a → r ≡ text_key x
      → r ≡ value_key s v
  text-key ha hk six hx hr = hr ∙ ap text_key (hx ∙ ap (text s) ha) ∙ text-valued (sym hk ∙ six)

  pub bits_key : {a b k : ℕ} → a ≡ field_a s v → k ≡ kind s v → (k ≡ string_kind → ⊥) → b ≡ field_b s v → a + 4294967296 * b ≡ value_key s v
  bits_key ha hk not-six hb = ap₂ (λ x y. x + 4294967296 * y) ha hb ∙ bits-valued (λ e. not-six (hk ∙ e))

module _ (s : List ℕ) where
  bits-differ : (a b c d : ℕ) → (a + 4294967296 * c ≡ b + 4294967296 * d → ⊥) → (eqb a b && eqb c d) ≡ false
  bits-differ a b c d ne = by (ℕ_discrete a b) (ℕ_discrete c d)
    where
      by : Dec (a ≡ b) → Dec (c ≡ d) → (eqb a b && eqb c d) ≡ false
      by (no h) q = rw (ne_eqb a b h)
      by (yes h) (no k) = rw (eq-eqb a b h, ne_eqb c d k)
      by (yes h) (yes k) = absurd (ne (omega arith))

  -- values whose numbers differ differ
  values-differ : (v w : ℕ) → (value_key s v ≡ value_key s w → ⊥) → same_value s v w ≡ false
  values-differ v w ne = by (ℕ_discrete (kind s v) (kind s w)) (ℕ_discrete (kind s v) string_kind)
    where
      by : Dec (kind s v ≡ kind s w) → Dec (kind s v ≡ string_kind) → same_value s v w ≡ false
      by (no h) q = value-kinds s v w h
      by (yes h) (yes k) =
          value-text s v w h k
          ∙ same_false _ _ (λ e. ne (sym (text-valued s v k) ∙ ap text_key e ∙ text-valued s w (sym h ∙ k)))
      by (yes h) (no k) =
          value-bits s v w h k
          ∙ bits-differ _ _ _ _ (λ e. ne (sym (bits-valued s v k) ∙ e ∙ bits-valued s w (λ q. k (h ∙ q))))

  cases_differ : (p q : ℕ) → (value_key s (child p) ≡ value_key s (child q) → ⊥) → apart s p q ≡ true
  unfolding apart_by
  cases_differ p q ne = ap not (values-differ (child p) (child q) ne)

  siblings-all : (P : ℕ → Bool) (m q : ℕ) → ((b : ℕ) → b < m → P (skip s b q) ≡ true) → siblings P s m q ≡ true
  unfolding siblings_by skip
  siblings-all P zero q f = refl
  siblings-all P (suc m) q f =
      rw (f 0 (omega arith), siblings_by) (siblings-all P m (next s q) (λ b h. f (suc b) (omega arith)))

  -- cases that differ by pairs differ each from each
  pairs-distinct : (m p : ℕ) → ((a b : ℕ) → a < b → b < m → apart s (skip s a p) (skip s b p) ≡ true) → distinct s m p ≡ true
  unfolding distinct_by skip
  pairs-distinct zero p f = refl
  pairs-distinct (suc m) p f =
      let first = siblings-all (apart s p) m (next s p) (λ b h. f 0 (suc b) (omega arith) (omega arith)) in
      rw (first, distinct_by) (pairs-distinct m (next s p) (λ a b h k. f (suc a) (suc b) (omega arith) (omega arith)))

-- The numbers of i cases from node at on are in k, each another.
pub record Keys (s : List ℕ) (at i : ℕ) (k : List ℕ) : Type 0 where
  pub kept : (a : ℕ) → a < i → get_or k a 0 ≡ value_key s (child (skip s a at))
  pub differ : (a b : ℕ) → a < b → b < i → value_key s (child (skip s a at)) ≡ value_key s (child (skip s b at)) → ⊥

-- no number of the first i in k is v
abbrev pub Other : ℕ → List ℕ → ℕ → Type 0
Other i k v = (a : ℕ) → a < length (take i k) → get_or (take i k) a 0 ≡ v → ⊥

module _ (s : List ℕ) (at : ℕ) where
  pub keys-start : (i : ℕ) (k : List ℕ) → i ≡ 0 → Keys s at i k
  keys-start i k z = record {
    kept = λ a h. absurd (omega arith);
    differ = λ a b h g. absurd (omega arith);
  }

  pub keys-end : {i : ℕ} {k : List ℕ} (m : ℕ) → Keys s at i k → i ≡ m → distinct s m at ≡ true
  keys-end m K h = pairs-distinct s m at (λ a b f g. cases_differ s _ _ (K.differ a b f (omega arith)))

  pub keys_step : {i j : ℕ} {k : List ℕ} {c v : ℕ} → Keys s at i k → i < length k → j ≡ skip s i at → c ≡ child j → v ≡ value_key s c
      → Other i k v → Keys s at (i + 1) (set k i v)
  keys_step {i} {j} {k} {c} {v} K h hj hc hv other = record {
    kept = λ a g. keeps a g (dec_lt a i);
    differ = λ a b f g. differs a b f (dec_lt b i) g;
  }
    where
      new : v ≡ value_key s (child (skip s i at))
      new = hv ∙ ap (λ x. value_key s x) (hc ∙ ap child hj)

      keeps : (a : ℕ) → a < i + 1 → Dec (a < i) → get_or (set k i v) a 0 ≡ value_key s (child (skip s a at))
      keeps a g (yes f) = get_or-set_other k i a v 0 (λ e. omega arith) ∙ K.kept a f
      keeps a g (no f) =
          let e : a ≡ i = omega arith in
          ap (λ x. get_or (set k i v) x 0) e ∙ get_or-set_same k i v 0 h ∙ new ∙ ap (λ x. value_key s (child (skip s x at))) (sym e)

      differs : (a b : ℕ) → a < b → Dec (b < i) → b < i + 1 → value_key s (child (skip s a at)) ≡ value_key s (child (skip s b at)) → ⊥
      differs a b f (yes q) g = K.differ a b f q
      differs a b f (no q) g =
          let e : b ≡ i = omega arith in
          let before : a < i = omega arith in
          let short : a < length (take i k) = omega (arith, length-take i k) in
          let there : get_or (take i k) a 0 ≡ value_key s (child (skip s a at)) = get_or-take i k a 0 before ∙ K.kept a before in
          λ same_key. other a short (there ∙ same_key ∙ ap (λ x. value_key s (child (skip s x at))) e ∙ sym new)
