-- The hash of bytes: it is a word, bytes put behind are more steps, four bytes at once are four steps, and each step of the code's loop.
use Prim.Native.Nat.{ℕ, ◌+◌, ◌*◌, ◌/◌, ◌%◌, ◌≤◌, ◌<◌}
use mathlib.Core.Path.{◌≡◌, refl, sym, ap, ◌∙◌, subst}
use mathlib.Core.List.{List, [], ◌∷◌, ◌++◌}
use native.Mathlib.Omega.{arith}
use native.Mathlib.Numerals.{add-one}
use native.Mathlib.Nat.{add-zero, add-mul-mod_self_left}
use lib.ListN.{length, get_or, take, drop}
use lib.Seq.{drop-cons, drop-length, get_or-take, get_or-drop}
pub use Rattle.words.proofs.CutLaws.{chunk_at}
use Rattle.std.specs.Simd.{first_chunks}
use Rattle.scratch_folds.specs.Hash.{byte_step, fold_hash, four_steps, bytes_hash, mix}

pub bytes_word : (bs : List ℕ) → bytes_hash bs < 4294967296
unfolding bytes_hash
bytes_word bs = omega arith

-- and that of three numbers
pub mix-word : (k a b : ℕ) → mix k a b < 4294967296
unfolding mix
mix-word k a b = omega arith

-- bytes behind are more steps
pub fold-append : (h : ℕ) (bs cs : List ℕ) → fold_hash h (bs ++ cs) ≡ fold_hash (fold_hash h bs) cs
unfolding fold_hash
fold-append h [] cs = refl
fold-append h (b ∷ bs) cs = fold-append (byte_step h b) bs cs

-- i bytes are passed, and h is what they give: what is left leads to t, the whole
pub record Folding (bs : List ℕ) (t i h : ℕ) : Type 0 where
  pub within : i ≤ length bs
  pub rest : fold_hash h (drop i bs) ≡ t

pub folding-starts : (bs : List ℕ) (i h : ℕ) → i ≤ length bs → Folding bs (fold_hash h (drop i bs)) i h
folding-starts bs i h l = record { within = l; rest = refl }

module _ (bs : List ℕ) (t : ℕ) where
  pub folding-goes : (i h g : ℕ) → Folding bs t i h → i < length bs → g ≡ byte_step h (get_or bs i 0) → Folding bs t (i + 1) g
  unfolding fold_hash
  folding-goes i h g f l e = record {
    within = omega arith;
    rest =
        ap (λ (v : ℕ). fold_hash v (drop (i + 1) bs)) e
        ∙ ap (λ (n : ℕ). fold_hash (byte_step h (get_or bs i 0)) (drop n bs)) (add-one i)
        ∙ sym (ap (fold_hash h) (drop-cons bs i 0 l))
        ∙ f.rest;
  }

  pub folding-ends : (i h : ℕ) → Folding bs t i h → length bs ≤ i → h ≡ t
  unfolding fold_hash
  folding-ends i h f l =
      let w = f.within in
      let z : i ≡ length bs = omega arith in
      sym (ap (λ (n : ℕ). fold_hash h (drop n bs)) z ∙ ap (fold_hash h) (drop-length bs)) ∙ f.rest

-- equal but for multiples of 2^32
pub rest-same : (x y p q : ℕ) → x + 4294967296 * p ≡ y + 4294967296 * q → x % 4294967296 ≡ y % 4294967296
rest-same x y p q e =
    sym (add-mul-mod_self_left x 4294967296 p) ∙ ap (λ (v : ℕ). v % 4294967296) e ∙ add-mul-mod_self_left y 4294967296 q

two_steps : (h a b : ℕ) → byte_step (byte_step h a) b ≡ (h * 637696617 + (a + 1) * 16777619 + b + 1) % 4294967296
two_steps h a b =
    rest-same (byte_step h a * 16777619 + b + 1) (h * 637696617 + (a + 1) * 16777619 + b + 1)
    ((h * 16777619 + a + 1) / 4294967296 * 16777619) (65539 * h) (omega arith)

three-steps :
    (h a b c : ℕ)
    → byte_step (byte_step (byte_step h a) b) c ≡ (h * 1055306571 + (a + 1) * 637696617 + (b + 1) * 16777619 + c + 1) % 4294967296
three-steps h a b c =
    two_steps (byte_step h a) b c
    ∙ rest-same (byte_step h a * 637696617 + (b + 1) * 16777619 + c + 1)
    (h * 1055306571 + (a + 1) * 637696617 + (b + 1) * 16777619 + c + 1)
    ((h * 16777619 + a + 1) / 4294967296 * 637696617) (2491062 * h) (omega arith)

four-steps :
    (h a b c d : ℕ)
    → byte_step (byte_step (byte_step (byte_step h a) b) c) d ≡ four_steps h a b c d
four-steps h a b c d =
    three-steps (byte_step h a) b c d
    ∙ rest-same (byte_step h a * 1055306571 + (b + 1) * 637696617 + (c + 1) * 16777619 + d + 1)
    (h * 1345077009 + (a + 1) * 1055306571 + (b + 1) * 637696617 + (c + 1) * 16777619 + d + 1)
    ((h * 16777619 + a + 1) / 4294967296 * 1055306571) (4122390 * h) (omega arith)

module _ (bs : List ℕ) (t : ℕ) where
  folding-four :
      (i h g : ℕ) → Folding bs t i h → i + 4 ≤ length bs
      → g ≡ four_steps h (get_or bs (i + 0) 0) (get_or bs (i + 1) 0) (get_or bs (i + 2) 0) (get_or bs (i + 3) 0) → Folding bs t (i + 4) g
  folding-four i h g f l e =
      let a = byte_step h (get_or bs i 0) in
      let b = byte_step a (get_or bs (i + 1) 0) in
      let c = byte_step b (get_or bs (i + 2) 0) in
      let p : (i + 1) + 1 ≡ i + 2 = omega arith in
      let q : (i + 2) + 1 ≡ i + 3 = omega arith in
      let r : (i + 3) + 1 ≡ i + 4 = omega arith in
      let one = folding-goes bs t i h a f (omega arith) refl in
      let two = subst (λ (n : ℕ). Folding bs t n b) p (folding-goes bs t (i + 1) a b one (omega arith) refl) in
      let three = subst (λ (n : ℕ). Folding bs t n c) q (folding-goes bs t (i + 2) b c two (omega arith) refl) in
      subst (λ (n : ℕ). Folding bs t n g) r
      (folding-goes bs t (i + 3) c g three (omega arith)
      (e
      ∙ ap (λ (n : ℕ). four_steps h (get_or bs n 0) (get_or bs (i + 1) 0) (get_or bs (i + 2) 0) (get_or bs (i + 3) 0)) (add-zero i)
      ∙ sym (four-steps h (get_or bs i 0) (get_or bs (i + 1) 0) (get_or bs (i + 2) 0) (get_or bs (i + 3) 0))))

  -- j of k chunks are passed
  pub folding-chunk :
      (j k h g : ℕ) (c : List ℕ) → Folding bs t (4 * j) h → j < k → 4 * k ≤ length bs → c ≡ get_or (first_chunks 4 k bs) j []
      → g ≡ four_steps h (get_or c 0 0) (get_or c 1 0) (get_or c 2 0) (get_or c 3 0) → Folding bs t (4 * (j + 1)) g
  folding-chunk j k h g c f l room is e =
      let q : 4 * j + 4 ≡ 4 * (j + 1) = omega arith in
      let turned : j * 4 ≡ 4 * j = omega arith in
      let there = chunk_at 4 k bs j l ∙ ap (λ (i : ℕ). take 4 (drop i bs)) turned in
      let item : (n : ℕ) → n < 4 → get_or c n 0 ≡ get_or bs (4 * j + n) 0 = λ n m.
      ap (λ (x : List ℕ). get_or x n 0) (is ∙ there) ∙ get_or-take 4 (drop (4 * j) bs) n 0 m ∙ get_or-drop (4 * j) bs n 0 in
      let a = item 0 (omega arith) in
      let b = item 1 (omega arith) in
      let d = item 2 (omega arith) in
      let u = item 3 (omega arith) in
      subst (λ (n : ℕ). Folding bs t n g) q (folding-four (4 * j) h g f (omega arith) (rw (← a, ← b, ← d, ← u) e))
