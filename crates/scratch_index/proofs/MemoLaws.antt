-- Memos: a hit is right, a write keeps the others, all zeros are true, and what is right stays so where the answers only grow.
use Rattle.std.proofs.Common.{◌≡◌, ℕ, ◌+◌, ◌*◌, ◌%◌, ◌<◌, ◌≤◌, Bool, true, false, eqb, List, length, get_or, set, sym, refl, ap, ◌∙◌, subst}
use Rattle.std.proofs.Common.{arith, length-set, get_or-set_other, get_or-set_same, eqb-true}
use borrow.Author.Tests.{eqb-false, leb-false}
use lib.Dec.{leb}
use Rattle.sheet.specs.Limits.{max_texts}
use Rattle.scratch_keys.specs.Keys.{mark_by}
use Rattle.std.specs.Prelude.{Option}
use Prim.Native.Nat.{◌/◌}
use Rattle.lowering.specs.Pools.{Name, same_name}
use Rattle.scratch.specs.Places.{memo_pairs, memo_words}
use Rattle.expr_chains.proofs.Grow.{Grows}
use Rattle.expr_chains.proofs.FindLaws.{grown-same, grown-within}
use Rattle.std.specs.Prelude.{Some, None}
use Rattle.scratch_index.specs.Memo.{Told, numbered, number_by, memo_of, memo_at, remembered, recalled, told_by, NameAt}
use Rattle.scratch_index.specs.Names.{name_with}

-- what a memo tells, by whether it knows the number
module _ (ms t : ℕ) (xs : List ℕ) where
  pub recalled-known : (p : ℕ) → eqb (get_or xs (memo_at ms t) 0) (t + 1) ≡ true → p ≡ get_or xs (memo_at ms t + 1) 0
      → Some p ≡ recalled ms t xs
  unfolding recalled
  recalled-known p k e = rw (k, recalled) (ap Some e)

  pub recalled-unknown : eqb (get_or xs (memo_at ms t) 0) (t + 1) ≡ false → None ≡ recalled ms t xs
  unfolding recalled
  recalled-unknown k = rw (k, recalled)

module _ {Right : ℕ → ℕ → Type 0} {ms : ℕ} {xs : List ℕ} where
  -- nothing is told yet
  pub told_none : ((i : ℕ) → i < memo_pairs → get_or xs (ms + 2 * i) 0 ≡ 0) → Told Right ms xs
  told_none h = record { told = λ i t l e. absurd (let z = h i l in omega arith) }

  -- a hit is right
  pub told-hit : Told Right ms xs → (t : ℕ) → get_or xs (memo_at ms t) 0 ≡ t + 1 → Right t (get_or xs (memo_at ms t + 1) 0)
  told-hit h t e = h.told (memo_of t) t (omega arith) e

  -- what was right is right
  told_more : {More : ℕ → ℕ → Type 0} → ((t p : ℕ) → Right t p → More t p) → Told Right ms xs → Told More ms xs
  told_more f h = record { told = λ i t l e. f t (get_or xs (ms + 2 * i + 1) 0) (h.told i t l e) }

  -- words elsewhere change
  pub told-set : (j v : ℕ) → Told Right ms xs → ((i : ℕ) → i < memo_words → ms + i ≡ j → ⊥) → Told Right ms (set xs j v)
  told-set j v h off = record {
    told = λ i t l e.
        let a = get_or-set_other xs j (ms + 2 * i) v 0 (λ q. off (2 * i) (omega arith) q) in
        let b = get_or-set_other xs j (ms + 2 * i + 1) v 0 (λ q. off (2 * i + 1) (omega arith) (omega arith)) in
        subst (Right t) (sym b) (h.told i t l (sym a ∙ e));
  }

  -- an answer is remembered
  module _ (h : Told Right ms xs) (t p : ℕ) (small : t + 1 < 4294967296) (room : ms + memo_words ≤ length xs) (right : Right t p) where
    first_word : get_or (remembered ms t p xs) (memo_at ms t) 0 ≡ t + 1
    unfolding remembered
    first_word =
        let w : (t + 1) % 4294967296 ≡ t + 1 = omega arith in
        get_or-set_other (set xs (memo_at ms t) ((t + 1) % 4294967296)) (memo_at ms t + 1) (memo_at ms t) p 0 (λ q. omega arith)
        ∙ get_or-set_same xs (memo_at ms t) ((t + 1) % 4294967296) 0 (omega arith)
        ∙ w

    second_word : get_or (remembered ms t p xs) (memo_at ms t + 1) 0 ≡ p
    unfolding remembered
    second_word = get_or-set_same (set xs (memo_at ms t) ((t + 1) % 4294967296)) (memo_at ms t + 1) p 0 (rw length-set (omega arith))

    other_word :
        (j : ℕ) → (j ≡ memo_at ms t → ⊥) → (j ≡ memo_at ms t + 1 → ⊥)
        → get_or (remembered ms t p xs) j 0 ≡ get_or xs j 0
    unfolding remembered
    other_word j a b =
        get_or-set_other (set xs (memo_at ms t) ((t + 1) % 4294967296)) (memo_at ms t + 1) j p 0 b
        ∙ get_or-set_other xs (memo_at ms t) j ((t + 1) % 4294967296) 0 a

    pub told-keeps : Told Right ms (remembered ms t p xs)
    told-keeps = record { told = λ i u l e. by i u l e (eqb i (memo_of t)) refl }
      where
        by :
            (i u : ℕ) → i < memo_pairs → get_or (remembered ms t p xs) (ms + 2 * i) 0 ≡ u + 1 → (b : Bool) → eqb i (memo_of t) ≡ b
            → Right u (get_or (remembered ms t p xs) (ms + 2 * i + 1) 0)
        by i u l e true q =
            let z = eqb-true i (memo_of t) q in
            let w = first_word in
            let f : get_or (remembered ms t p xs) (ms + 2 * i) 0 ≡ t + 1 =
            ap (λ (k : ℕ). get_or (remembered ms t p xs) (ms + 2 * k) 0) z ∙ w in
            let same : t ≡ u = omega arith in
            let s : get_or (remembered ms t p xs) (ms + 2 * i + 1) 0 ≡ p =
            ap (λ (k : ℕ). get_or (remembered ms t p xs) (ms + 2 * k + 1) 0) z ∙ second_word in
            subst (λ (v : ℕ). Right v (get_or (remembered ms t p xs) (ms + 2 * i + 1) 0)) same (subst (Right t) (sym s) right)
        by i u l e false q =
            let z = eqb-false i (memo_of t) q in
            let a = other_word (ms + 2 * i) (λ r. z (omega arith)) (λ r. omega arith) in
            let b = other_word (ms + 2 * i + 1) (λ r. omega arith) (λ r. z (omega arith)) in
            subst (Right u) (sym b) (h.told i u l (sym a ∙ e))

-- a name that stands stays where it is when names are added
name-stays : {s : List ℕ} {ns ms : List Name} → Grows ns ms → (t p : ℕ) → NameAt s ns t p → NameAt s ms t p
name-stays {s} {ns} {ms} g t p h =
    let f = subst (λ (q : ℕ). q < length ns) h.place h.found in
    record {
      place = h.place ∙ sym (grown-same (same_name s (numbered t)) g f);
      found =
          subst (λ (q : ℕ). q < length ms) (grown-same (same_name s (numbered t)) g f ∙ sym h.place)
          (grown-within (same_name s (numbered t)) g f);
    }

pub told_names :
    {s : List ℕ} {ns ms : List Name} {at : ℕ} {xs : List ℕ} → Grows ns ms → Told (NameAt s ns) at xs → Told (NameAt s ms) at xs
told_names g h = told_more (name-stays g) h

-- ---- numbers of names

module _ (t w : ℕ) where
  number-none : leb max_texts t ≡ true → number_by t false w ≡ None
  unfolding number_by
  number-none a = rw (a, number_by)

  number-outside : leb max_texts t ≡ false → leb max_texts w ≡ true → number_by t false w ≡ None
  unfolding number_by
  number-outside a c = rw (a, c, number_by)

  number-some : leb max_texts t ≡ false → leb max_texts w ≡ false → number_by t false w ≡ Some (t + max_texts * w)
  unfolding number_by
  number-some a c = rw (a, c, number_by)

-- a number is that of the name that it was made of
pub number-name : (s : List ℕ) (t : ℕ) (m : Bool) (w : ℕ) {u : ℕ} → number_by t m w ≡ Some u → numbered u ≡ name_with s t m w
unfolding number_by mark_by
number-name s t true w h = cc
number-name s t false w {u} h = by (leb max_texts t) refl (leb max_texts w) refl
  where
    by : (a : Bool) → leb max_texts t ≡ a → (b : Bool) → leb max_texts w ≡ b → numbered u ≡ name_with s t false w
    by true a b c = let f : None ≡ Some u = sym (number-none t w a) ∙ h in cc
    by false a true c = let f : None ≡ Some u = sym (number-outside t w a c) ∙ h in cc
    by false a false c =
        let f : Some (t + max_texts * w) ≡ Some u = sym (number-some t w a c) ∙ h in
        let e : t + max_texts * w ≡ u = cc in
        let few = leb-false max_texts t a in
        let low = leb-false max_texts w c in
        let text : u % max_texts ≡ t = omega arith in
        let space : u / max_texts ≡ w = omega arith in
        rw (text, space)

-- what is told of a name is recalled by its number
pub told-number : (ms : ℕ) (xs : List ℕ) (p : ℕ) (o : Option ℕ) → told_by ms o xs ≡ Some p → (u : ℕ) × (o ≡ Some u) × (recalled ms u xs ≡ Some p)
unfolding told_by
told-number ms xs p (Some u) h = (u, refl, h)
told-number ms xs p None h = let f : None ≡ Some p = h in cc
