-- What is kept of a fold: the loop that writes it, that it is kept by words written elsewhere, and the fold over a part by it.
use Prim.Native.Nat.{ℕ, zero, suc, ◌+◌, ◌-◌, ◌*◌, ◌/◌, ◌%◌, ◌≤◌, ◌<◌, min}
use mathlib.Core.Path.{◌≡◌, refl, sym, ap, ap₂, subst, ◌∙◌}
use mathlib.Core.Bool.{Bool, true, false}
use mathlib.Core.List.{List}
use native.Mathlib.Omega.{arith}
use native.Mathlib.Decide.{dec_lt}
use native.Mathlib.Numerals.{add-one}
use lib.ListN.{length, get_or, set, take, drop, length-set, length-take, length-drop}
use lib.Seq.{get_or-set_same, get_or-set_other, take-add, take-take, drop-drop, length-take-le}
use borrow.Author.Tests.{le-ltb}
use Rattle.words.proofs.CountLaws.{all-fails}
use Rattle.text.proofs.RunLaws.{cut}
use Rattle.sheet.specs.Sections.{text_count, byte_count, bytes_at}
use Rattle.sheet.specs.Limits.{max_bytes}
use Rattle.sheet.specs.Text.{text_start, text_length, text}
use Rattle.scratch_folds.specs.Hash.{fold_hash, spread, bytes_hash}
use Rattle.scratch_folds.specs.Sums.{block, factor, power_of, behind, fold_to, Ends, filled, FoldsTo, ByEnds}
use Rattle.scratch_folds.specs.Sums.{long, is_short, all_short, summed_bytes, summed_by, summed, Sums, BySums}
use Rattle.scratch_folds.proofs.HashLaws.{fold-append}
use Rattle.scratch_folds.proofs.PowerLaws.{fold_word, fold-from, behind-is}

-- bytes more behind the first i
fold-to-more : (b : List ℕ) (i n : ℕ) → fold_to b (i + n) ≡ fold_hash (fold_to b i) (take n (drop i b))
fold-to-more b i n = ap (fold_hash 0) (take-add i n b) ∙ fold-append 0 (take i b) (take n (drop i b))

-- what is written
module _ (b : List ℕ) (at : ℕ) where
  filled-length : (n : ℕ) (xs : List ℕ) → length (filled b at n xs) ≡ length xs
  unfolding filled
  filled-length zero xs = refl
  filled-length (suc n) xs = length-set (filled b at n xs) (at + n) (fold_to b (suc n * block)) ∙ filled-length n xs

  filled_at :
      (n : ℕ) (xs : List ℕ) → at + n ≤ length xs → (k : ℕ) → k < n → get_or (filled b at n xs) (at + k) 0 ≡ fold_to b ((k + 1) * block)
  unfolding filled
  filled_at zero xs room k l = absurd (omega arith)
  filled_at (suc n) xs room k l = by (dec_lt k n) (λ d. filled_at n xs (omega arith) k d)
    where
      by :
          Dec (k < n) → (k < n → get_or (filled b at n xs) (at + k) 0 ≡ fold_to b ((k + 1) * block))
          → get_or (set (filled b at n xs) (at + n) (fold_to b (suc n * block))) (at + k) 0 ≡ fold_to b ((k + 1) * block)
      by (yes d) r = get_or-set_other (filled b at n xs) (at + n) (at + k) (fold_to b (suc n * block)) 0 (λ q. omega arith) ∙ r d
      by (no d) r =
          let z : k ≡ n = omega arith in
          let m = filled-length n xs in
          ap (λ (i : ℕ). get_or (set (filled b at n xs) (at + n) (fold_to b (suc n * block))) (at + i) 0) z
          ∙ get_or-set_same (filled b at n xs) (at + n) (fold_to b (suc n * block)) 0 (omega arith)
          ∙ ap (λ (i : ℕ). fold_to b (i * block)) (sym (add-one n) ∙ sym (ap (λ (i : ℕ). i + 1) z))

  -- all of it, where there is room
  filled-ends : (xs : List ℕ) → at + length b / block ≤ length xs → Ends b at (filled b at (length b / block) xs)
  filled-ends xs room = record { kept = λ k l. filled_at (length b / block) xs room k (omega arith) }

  -- words that are the same there keep it
  ends_same :
      (xs ys : List ℕ) → ((k : ℕ) → k < length b / block → get_or ys (at + k) 0 ≡ get_or xs (at + k) 0) → Ends b at xs → Ends b at ys
  ends_same xs ys same f = record { kept = λ k l. same k (omega arith) ∙ f.kept k l }

-- the loop: k blocks are passed, and h is the fold over them
pub record Filling (b : List ℕ) (at k h : ℕ) (xs ys : List ℕ) : Type 0 where
  pub word : h < 4294967296
  pub whole : h ≡ fold_to b (k * block)
  pub front : ys ≡ filled b at k xs

pub filling-starts : (b : List ℕ) (at : ℕ) (xs : List ℕ) → Filling b at 0 0 xs xs
unfolding filled fold_hash
filling-starts b at xs = record { word = omega arith; whole = refl; front = refl }

next-block :
    (b : List ℕ) (k h g : ℕ) (q : List ℕ) → h ≡ fold_to b (k * block) → q ≡ take block (drop (k * block) b) → g ≡ fold_hash h q
    → g ≡ fold_to b (suc k * block)
next-block b k h g q f e m =
    let n : k * block + block ≡ suc k * block = omega arith in
    m ∙ ap₂ fold_hash f e ∙ sym (fold-to-more b (k * block) block) ∙ ap (fold_to b) n

pub filling-goes :
    (b : List ℕ) (at k h g : ℕ) (q xs ys zs : List ℕ) → Filling b at k h xs ys → g < 4294967296 → q ≡ take block (drop (k * block) b)
    → g ≡ fold_hash h q → zs ≡ set ys (at + k) g → Filling b at (k + 1) g xs zs
unfolding filled
filling-goes b at k h g q xs ys zs f w e m z =
    let value = next-block b k h g q f.whole e m in
    record {
      word = w;
      whole = value ∙ ap (λ (i : ℕ). fold_to b (i * block)) (sym (add-one k));
      front =
          z
          ∙ ap₂ (λ (l : List ℕ) (v : ℕ). set l (at + k) v) f.front value
          ∙ ap (λ (i : ℕ). filled b at i xs) (sym (add-one k));
    }

pub filling-ends :
    (b : List ℕ) (at k h : ℕ) (xs ys : List ℕ) → Filling b at k h xs ys → k ≡ length b / block → ys ≡ filled b at (length b / block) xs
filling-ends b at k h xs ys f e = f.front ∙ ap (λ (i : ℕ). filled b at i xs) e

-- the first i bytes: less than a block, or the blocks and what is behind them
module _ (b : List ℕ) (at : ℕ) (xs : List ℕ) (i r : ℕ) (q : List ℕ) where
  pub to_front : q ≡ take i b → r ≡ fold_hash 0 q → FoldsTo b at xs i r
  to_front e f = record { is = λ ends l. f ∙ ap (fold_hash 0) e }

  pub to_block :
      (k h : ℕ) → k ≡ i / block → 0 < k → h ≡ get_or xs (at + (k - 1)) 0 → q ≡ take (i % block) (drop (k * block) b) → r ≡ fold_hash h q
      → FoldsTo b at xs i r
  to_block k h d p g e f = record {
    is = λ ends l.
        let m : ((k - 1) + 1) * block ≡ k * block = omega arith in
        let n : k * block + i % block ≡ i = omega arith in
        f ∙ ap (fold_hash h) e
        ∙ ap (λ (v : ℕ). fold_hash v (take (i % block) (drop (k * block) b))) (g ∙ ends.kept (k - 1) (omega arith) ∙ ap (fold_to b) m)
        ∙ sym (fold-to-more b (k * block) (i % block)) ∙ ap (fold_to b) n;
  }

-- n bytes from i on
fold-both :
    (b : List ℕ) (i n h : ℕ) → i + n ≤ length b → h < 4294967296
    → fold_hash h (take n (drop i b)) ≡ (h * power_of factor n + fold_hash 0 (take n (drop i b))) % 4294967296
fold-both b i n h l m =
    let c = take n (drop i b) in
    let size : length c ≡ n = length-take-le n (drop i b) (rw length-drop (omega arith)) in
    fold-from h c m ∙ ap (λ (k : ℕ). (h * power_of factor k + fold_hash 0 c) % 4294967296) size

pub part-fold :
    (b : List ℕ) (at : ℕ) (xs : List ℕ) (i n h p e v w r : ℕ) → i + n ≤ length b → h < 4294967296 → FoldsTo b at xs i p
    → FoldsTo b at xs (i + n) e → v ≡ (p + 4294967296 - h) % 4294967296 → w ≡ power_of factor n → r ≡ behind e v w
    → ByEnds b at xs (fold_hash h (take n (drop i b))) r
part-fold b at xs i n h p e v w r l y f g z k m = record {
  is = λ ends.
      let c = take n (drop i b) in
      let front = f.is ends (omega arith) in
      let both = fold-to-more b i n ∙ fold-both b i n (fold_to b i) l (fold_word 0 (take i b) (omega arith)) in
      let parts = ap₂ (λ (a q : ℕ). (a * q + fold_hash 0 c) % 4294967296) (sym front) (sym k) in
      m ∙ ap (λ (a : ℕ). behind e a w) z
      ∙ behind-is h e p w (fold_hash 0 c) y (g.is ends l ∙ both ∙ parts)
      ∙ ap (λ (q : ℕ). (h * q + fold_hash 0 c) % 4294967296) k
      ∙ sym (fold-both b i n h l y);
}

-- a text within the text bytes is a part of them
text-part :
    (s : List ℕ) (t i n : ℕ) → i ≡ text_start s t → n ≡ text_length s t → i + n ≤ length (summed_bytes s)
    → take n (drop i (summed_bytes s)) ≡ text s t
unfolding summed_bytes text
text-part s t i n e f l =
    let size = min (byte_count s) max_bytes in
    let rest = drop (4 * bytes_at s) s in
    let m = length-take size rest in
    sym (cut i n (take size rest))
    ∙ ap (drop i) (take-take (i + n) size rest (omega arith))
    ∙ cut i n rest
    ∙ ap (take n) (drop-drop i (4 * bytes_at s) s)
    ∙ rw (e, f)

-- not all are short where one is not
pub short-fails : (s : List ℕ) (t : ℕ) → t < text_count s → long ≤ text_length s t → all_short s ≡ false
unfolding all_short
short-fails s t l h = all-fails (is_short s) (text_count s) t l (le-ltb (text_length s t) long h)

-- the words that are written for a sheet are 1,024 at most
blocks-few : (s : List ℕ) → length (summed_bytes s) / block ≤ 1024
unfolding summed_bytes
blocks-few s = let m = length-take (min (byte_count s) max_bytes) (drop (4 * bytes_at s) s) in omega arith

-- what is written, where `short` says whether no text is long: its length, and the words that it leaves
module _ (s : List ℕ) (at : ℕ) (xs : List ℕ) where
  by_length : (short : Bool) → length (summed_by short s at xs) ≡ length xs
  unfolding summed_by
  by_length true = refl
  by_length false = filled-length (summed_bytes s) at (length (summed_bytes s) / block) xs

  pub summed-length : length (summed s at xs) ≡ length xs
  summed-length = by_length (all_short s)

  -- nothing where the bytes have no whole block
  by-none : length (summed_bytes s) / block ≡ 0 → (short : Bool) → xs ≡ summed_by short s at xs
  unfolding summed_by filled
  by-none e true = refl
  by-none e false = sym (ap (λ (n : ℕ). filled (summed_bytes s) at n xs) e)

  pub summed-none : (b : List ℕ) → b ≡ summed_bytes s → length b < block → xs ≡ summed s at xs
  summed-none b e l = let m = ap length e in by-none (omega arith) (all_short s)

  -- or no text is long
  pub summed-short : all_short s ≡ true → xs ≡ summed s at xs
  unfolding summed_by
  summed-short e = sym (ap (λ (short : Bool). summed_by short s at xs) e)

  pub summed-all :
      (b ys : List ℕ) → b ≡ summed_bytes s → all_short s ≡ false → ys ≡ filled b at (length b / block) xs → ys ≡ summed s at xs
  unfolding summed_by
  summed-all b ys e f g =
      g ∙ ap (λ (l : List ℕ). filled l at (length l / block) xs) e ∙ sym (ap (λ (short : Bool). summed_by short s at xs) f)

  -- what it is for
  pub summed-sums : at + 1024 ≤ length xs → Sums s at (summed s at xs)
  unfolding summed_by
  summed-sums room = record {
    ends = λ e.
        let few = blocks-few s in
        subst (λ (short : Bool). Ends (summed_bytes s) at (summed_by short s at xs)) (sym e)
        (filled-ends (summed_bytes s) at xs (omega arith));
  }

  -- words that are the same there keep it
  pub sums_same : (ys : List ℕ) → ((k : ℕ) → k < 1024 → get_or ys (at + k) 0 ≡ get_or xs (at + k) 0) → Sums s at xs → Sums s at ys
  sums_same ys same f = record {
    ends = λ e.
        let few = blocks-few s in
        ends_same (summed_bytes s) at xs ys (λ k l. same k (omega arith)) (f.ends e);
  }

-- as a word that is written elsewhere
pub sums-set :
    {s : List ℕ} {at : ℕ} {xs : List ℕ} (i v : ℕ) → Sums s at xs → ((k : ℕ) → k < 1024 → at + k ≡ i → ⊥) → Sums s at (set xs i v)
sums-set {s} {at} {xs} i v f off = sums_same s at xs (set xs i v) (λ k l. get_or-set_other xs i (at + k) v 0 (off k l)) f

-- a text by its bytes, or by what is kept
module _ (s : List ℕ) (t at : ℕ) (xs : List ℕ) where
  pub text-read : (h : ℕ) (q : List ℕ) (r : ℕ) → q ≡ text s t → r ≡ fold_hash h q → BySums s at xs (fold_hash h (text s t)) r
  text-read h q r e f = record { is = λ sums. f ∙ ap (fold_hash h) e }

  pub long_kept :
      (h i n : ℕ) (b : List ℕ) (r : ℕ) → t < text_count s → long ≤ text_length s t → i ≡ text_start s t → n ≡ text_length s t
      → b ≡ summed_bytes s
      → i + n ≤ length b → ByEnds b at xs (fold_hash h (take n (drop i b))) r → BySums s at xs (fold_hash h (text s t)) r
  long_kept h i n b r below m e f g l k = record {
    is = λ sums.
        k.is (subst (λ (c : List ℕ). Ends c at xs) (sym g) (sums.ends (short-fails s t below m)))
        ∙ ap (λ (c : List ℕ). fold_hash h (take n (drop i c))) g
        ∙ ap (fold_hash h) (text-part s t i n e f (subst (λ (c : List ℕ). i + n ≤ length c) g l));
  }

  pub text-hashed : (f r : ℕ) → BySums s at xs (fold_hash 0 (text s t)) f → r ≡ spread f → BySums s at xs (bytes_hash (text s t)) r
  unfolding bytes_hash
  text-hashed f r h e = record { is = λ sums. e ∙ ap spread (h.is sums) }

-- the same place in other words
pub by-at : {s : List ℕ} {at p : ℕ} {xs : List ℕ} {v r : ℕ} → at ≡ p → BySums s at xs v r → BySums s p xs v r
by-at {s} {xs = xs} {v} {r} e h = subst (λ (i : ℕ). BySums s i xs v r) e h
