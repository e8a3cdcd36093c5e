-- Laws of words that are cut out of a byte string as blocks of four bytes.
use Prim.Native.Nat.{ℕ, zero, suc, min, ◌+◌, ◌-◌, ◌*◌, ◌/◌, ◌≤◌, ◌<◌}
use mathlib.Core.Path.{◌≡◌, refl, sym, ap, ◌∙◌}
use mathlib.Core.Logic.{◌⊎◌, inl, inr}
use mathlib.Core.List.{List, [], ◌∷◌}
use native.Mathlib.Omega.{arith}
use lib.ListN.{length, take, drop, get_or, length-drop, get_or-eq_default}
use Rattle.std.specs.Simd.{first_chunks}
use Rattle.std.proofs.lemmas.List.{drop-drop, drop-take, length-take}
use Rattle.std.proofs.lemmas.Bool.{cases_lt}
use Rattle.words.specs.Word.{word, front}
use Rattle.words.proofs.WordLaws.{word-past}

-- the chunks of n, each by its index
pub chunk_at : (n k : ℕ) (xs : List ℕ) (j : ℕ) → j < k → get_or (first_chunks n k xs) j [] ≡ take n (drop (j * n) xs)
chunk_at n zero xs j l = absurd (omega arith)
chunk_at n (suc k) xs zero l = let z : 0 ≡ 0 * n = omega arith in ap (λ (i : ℕ). take n (drop i xs)) z
chunk_at n (suc k) xs (suc j) l =
    let e : n + j * n ≡ suc j * n = omega arith in
    chunk_at n k (drop n xs) j (omega arith) ∙ ap (take n) (drop-drop (j * n) n xs ∙ ap (λ (i : ℕ). drop i xs) e)

-- the first word of a string is that of its first four bytes, and of more
front-take : (n : ℕ) (l : List ℕ) → 4 ≤ n → front (take n l) ≡ front l
front-take zero l h = absurd (omega arith)
front-take (suc zero) l h = absurd (omega arith)
front-take (suc (suc zero)) l h = absurd (omega arith)
front-take (suc (suc (suc zero))) l h = absurd (omega arith)
front-take (suc (suc (suc (suc n)))) [] h = refl
front-take (suc (suc (suc (suc n)))) (a ∷ []) h = refl
front-take (suc (suc (suc (suc n)))) (a ∷ b ∷ []) h = refl
front-take (suc (suc (suc (suc n)))) (a ∷ b ∷ c ∷ []) h = refl
front-take (suc (suc (suc (suc n)))) (a ∷ b ∷ c ∷ d ∷ r) h = refl

module _ (s : List ℕ) (at n : ℕ) where
  abbrev cut : List ℕ
  cut = take (4 * n) (drop (4 * at) s)

  cut-length : length cut ≡ min (4 * n) (length s - 4 * at)
  cut-length = length-take (4 * n) (drop (4 * at) s) ∙ ap (min (4 * n)) (length-drop (4 * at) s)

  -- block i is word at + i
  block-word : (i : ℕ) → i < n → front (take 4 (drop (4 * i) cut)) ≡ word s (at + i)
  unfolding word
  block-word i l =
      let size : 4 * n ≡ 4 * i + (4 * n - 4 * i) = omega arith in
      let place : 4 * at + 4 * i ≡ 4 * (at + i) = omega arith in
      let rest : drop (4 * i) (take (4 * n) (drop (4 * at) s)) ≡ take (4 * n - 4 * i) (drop (4 * (at + i)) s) =
      ap (λ j. drop (4 * i) (take j (drop (4 * at) s))) size ∙ drop-take (4 * i) (4 * n - 4 * i) (drop (4 * at) s)
      ∙ ap (take (4 * n - 4 * i)) (drop-drop (4 * i) (4 * at) s ∙ ap (λ m. drop m s) place) in
      front-take 4 _ (omega arith) ∙ ap front rest ∙ front-take (4 * n - 4 * i) (drop (4 * (at + i)) s) (omega arith)

  -- each of the blocks is a word, and a word behind them is 0, as the default is
  pub each-word : {bs : List ℕ} {ys : List (List ℕ)} → bs ≡ cut → ys ≡ first_chunks 4 (length bs / 4) bs → length ys ≡ length bs / 4
      → (i : ℕ) → i < n → front (get_or ys i []) ≡ word s (at + i)
  each-word {bs} {ys} hb hy hk i l = by (cases_lt i (length ys))
    where
      size : length bs ≡ length cut
      size = ap length hb

      by : (i < length ys) ⊎ (length ys ≤ i) → front (get_or ys i []) ≡ word s (at + i)
      by (inl g) =
          let turned : i * 4 ≡ 4 * i = omega arith in
          let m = size in
          ap (λ zs. front (get_or zs i [])) hy
          ∙ ap front (chunk_at 4 (length bs / 4) bs i (omega arith))
          ∙ ap (λ j. front (take 4 (drop j bs))) turned
          ∙ ap (λ x. front (take 4 (drop (4 * i) x))) hb
          ∙ block-word i l
      by (inr g) =
          let c = cut-length in
          let m = size in
          ap front (get_or-eq_default ys [] g) ∙ sym (word-past s (at + i) (omega arith))

  pub few-words : {bs : List ℕ} {k : ℕ} → bs ≡ cut → k ≡ length bs / 4 → k ≤ n
  few-words hb hk = let m = ap length hb in let c = cut-length in omega arith

  -- so each word is told where all that the string has are asked for
  pub every-word : (ys : List (List ℕ)) → length ys ≤ n → ((i : ℕ) → i < n → front (get_or ys i []) ≡ word s (at + i)) → length s / 4 ≤ n
      → (i : ℕ) → front (get_or ys i []) ≡ word s (at + i)
  every-word ys few each all i = by (cases_lt i n)
    where
      by : (i < n) ⊎ (n ≤ i) → front (get_or ys i []) ≡ word s (at + i)
      by (inl l) = each i l
      by (inr l) = ap front (get_or-eq_default ys [] (omega arith)) ∙ sym (word-past s (at + i) (omega arith))
