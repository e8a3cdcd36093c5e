-- Laws of names by their lengths: a text of another length is another name, where the name does not stand at the sheet's end.
use Prim.Native.Nat.{ℕ, ◌+◌, ◌-◌, ◌*◌, ◌<◌, ◌≤◌}
use mathlib.Core.Path.{◌≡◌, refl, ap, ap₂, sym, ◌∙◌}
use mathlib.Core.Bool.{Bool, true, false, true≢false}
use mathlib.Core.List.{List, [], ◌∷◌}
use native.Mathlib.Omega.{arith}
use native.Mathlib.Decide.{dec_le}
use lib.ListN.{length, take, drop, get_or, get_or-eq_default, length-take, length-drop, drop_of_length-le}
use lib.Seq.{take_all, get_or-take, get_or-drop}
use Rattle.text.specs.Same.{same}
use Rattle.text.proofs.SameLaws.{same_refl, same_false, same_at}
use Rattle.words.specs.Word.{word, front}
use Rattle.sheet.specs.Sections.{lengths_at, bytes_at, locals_at}
use Rattle.sheet.specs.Node.{local_text}
use Rattle.sheet.specs.Text.{text, text_start, text_length_by, text_length}
use Rattle.expr_slots.specs.Ends.{Ends}
use Rattle.expr_slots.specs.Named.{cut_word, cut_by, text_by, named_by}
use borrow.Author.Tests.{eqb-false, eq-eqb, ne_eqb}
use Rattle.std.proofs.Common.{eqb, eqb-true}

-- the test of the sheet's end
pub ends-told : (s name : List ℕ) {r : Bool} {x : List ℕ} → x ≡ take (length name) (drop (length s - length name) s)
    → r ≡ same x name → r ≡ false → Ends s name → ⊥
ends-told s name hx hr no_end e = true≢false (sym (hr ∙ ap (λ l. same l name) (hx ∙ e) ∙ same_refl name) ∙ no_end)

-- a part and a name whose first bytes differ
pub first-differs : (s name : List ℕ) (at len : ℕ) {x y : ℕ} → 0 < len → x ≡ get_or s at 0 → y ≡ get_or name 0 0 → (x ≡ y → ⊥)
    → same (take len (drop at s)) name ≡ false
first-differs s name at len h hx hy ne =
    let e : at + 0 ≡ at = omega arith in
    let first = get_or-take len (drop at s) 0 0 h ∙ get_or-drop at s 0 0 ∙ ap (λ i. get_or s i 0) e in
    same_at (take len (drop at s)) name 0 (λ q. ne (hx ∙ sym first ∙ q ∙ sym hy))

module _ (s name : List ℕ) where
  part_length : (len at : ℕ) → take len (drop at s) ≡ name → length name ≤ len
  part_length len at e = omega (arith, ap length e, length-take len (drop at s))

  -- a part that is cut short stands at the end
  cut-ends : (len at : ℕ) → take len (drop at s) ≡ name → length name < len → Ends s name
  cut-ends len at e h =
      let rest = length s - length name in
      take_all (length name) (drop rest s) (omega (arith, length-drop rest s)) ∙ by (dec_le at (length s)) ∙ sym all ∙ e
    where
      left : length name ≡ length s - at
      left = omega (arith, ap length e, length-take len (drop at s), length-drop at s)

      all : take len (drop at s) ≡ drop at s
      all = take_all len (drop at s) (omega (arith, left, h, length-drop at s))

      by : Dec (at ≤ length s) → drop (length s - length name) s ≡ drop at s
      by (yes h') = let q : length s - length name ≡ at = omega (arith, left) in ap (λ i. drop i s) q
      by (no h') =
          let none : length s ≤ length s - length name = omega (arith, left) in
          let past : length s ≤ at = omega arith in
          drop_of_length-le s none ∙ sym (drop_of_length-le s past)

  module _ (no_end : Ends s name → ⊥) where
    uncut : (len at : ℕ) → take len (drop at s) ≡ name → length name ≡ len
    uncut len at e = by (dec_le len (length name))
      where
        by : Dec (len ≤ length name) → length name ≡ len
        by (yes h) = omega (arith, part_length len at e)
        by (no h) = absurd (no_end (cut-ends len at e (omega arith)))

    -- a name that is a text has that text's length, and it is not 0
    some_bytes : (t : ℕ) → name ≡ text s t → 0 < text_length s t
    unfolding text
    some_bytes t e = omega (arith, uncut (text_length s t) (4 * bytes_at s + text_start s t) (sym e), some)
      where
        some : 0 < length name
        some = by name no_end
          where
            by : (l : List ℕ) → (Ends s l → ⊥) → 0 < length l
            by [] f = absurd (f refl)
            by (x ∷ xs) f = omega arith

    -- a text of another length is another name
    lengths_differ : (t k : ℕ) → name ≡ text s t → (text_length s k ≡ text_length s t → ⊥) → same (text s k) name ≡ false
    unfolding text
    lengths_differ t k e ne =
        let whole = uncut (text_length s t) (4 * bytes_at s + text_start s t) (sym e) in
        same_false (text s k) name (λ q. ne (sym (uncut (text_length s k) (4 * bytes_at s + text_start s k) q) ∙ whole))

-- What the code reads of a local: its text number k and that text's length l, beside the length n of the name, which is text t.
module _ (s name : List ℕ) (t left : ℕ) (is-text : name ≡ text s t) (no_end : Ends s name → ⊥) where
  module _ {n lengths locals k l : ℕ} (hn : n ≡ text_length s t) (hs : lengths ≡ lengths_at s) (ho : locals ≡ locals_at s)
      (hk : k ≡ word s (locals + left)) (hl : l ≡ word s (lengths + k)) where
    local-read : k ≡ local_text s left
    unfolding local_text
    local-read = hk ∙ ap (λ i. word s (i + left)) ho

    length-read : l ≡ text_length s k
    unfolding text_length_by
    length-read = hl ∙ ap (λ i. word s (i + k)) hs

    -- it has the name's length: its bytes are compared
    pub equal-length : {b a : ℕ} {r : Bool} → l ≡ n → b ≡ bytes_at s → a ≡ text_start s k
        → (0 < n → r ≡ same (take n (drop (4 * b + a) s)) name) → r ≡ same (text s (local_text s left)) name
    unfolding text
    equal-length e hb ha h =
        let part = ap₂ (λ i j. take i (drop j s)) (sym e ∙ length-read) (ap₂ (λ x y. 4 * x + y) hb ha) in
        let some : 0 < n = rw hn (some_bytes s name no_end t is-text) in
        h some ∙ ap (λ x. same x name) part ∙ ap (λ i. same (text s i) name) local-read

    -- it has another
    pub other_length : (l ≡ n → ⊥) → same (text s (local_text s left)) name ≡ false
    other_length ne =
        let apart = lengths_differ s name no_end t k is-text (λ e. ne (length-read ∙ e ∙ sym hn)) in
        sym (ap (λ i. same (text s i) name) local-read) ∙ apart

-- what is read for the test, from the sheet
module _ (s name : List ℕ) (n lengths locals bytes left : ℕ) {k l : ℕ} (hk : k ≡ word s (locals + left))
    (hl : l ≡ word s (lengths + k)) where
  length-of : l ≡ word s (lengths + text_by s locals left)
  unfolding text_by
  length-of = hl ∙ ap (λ i. word s (lengths + i)) hk

  pub read-equal : {a : ℕ} {r : Bool} → l ≡ n → a ≡ text_start s k → r ≡ same (take n (drop (bytes + a) s)) name
      → r ≡ named_by s name n locals lengths bytes left
  unfolding named_by text_by
  read-equal e ha h =
      rw (eq-eqb _ _ (sym length-of ∙ e), named_by, text_by)
      (h ∙ ap (λ i. same (take n (drop (bytes + i) s)) name) (ha ∙ ap (text_start s) hk))

  pub read-other : (l ≡ n → ⊥) → false ≡ named_by s name n locals lengths bytes left
  unfolding named_by text_by
  read-other ne = rw (ne_eqb _ _ (λ e. ne (length-of ∙ e)), named_by, text_by)

-- what the code reads for its test, from words that were cut out
module _ (s name : List ℕ) (n : ℕ) (locals lengths : List (List ℕ)) (bytes left : ℕ) {k l : ℕ} (hk : k ≡ cut_word locals left) where
  pub cut-equal : {a : ℕ} {r : Bool} → l ≡ cut_word lengths k → l ≡ n → a ≡ text_start s k → r ≡ same (take n (drop (bytes + a) s)) name
      → r ≡ cut_by s name n locals lengths bytes left
  unfolding cut_by
  cut-equal hl e ha h =
      rw (eq-eqb _ _ (ap (cut_word lengths) (sym hk) ∙ sym hl ∙ e), cut_by)
      (h ∙ ap (λ i. same (take n (drop (bytes + i) s)) name) (ha ∙ ap (text_start s) hk))

  pub cut-other : l ≡ cut_word lengths k → (l ≡ n → ⊥) → false ≡ cut_by s name n locals lengths bytes left
  unfolding cut_by
  cut-other hl ne = rw (ne_eqb _ _ (λ e. ne (hl ∙ ap (cut_word lengths) hk ∙ e)), cut_by)

-- no word is there
pub none-there : (ws : List (List ℕ)) (i : ℕ) → length ws ≤ i → 0 ≡ cut_word ws i
unfolding cut_word
none-there ws i h = sym (ap front (get_or-eq_default ws [] h))

-- words that were cut out from word at on, and from word ls on, are the sheet's
pub cut-is : (s name : List ℕ) (n left at ls bs : ℕ) (locals lengths : List (List ℕ)) → cut_word locals left ≡ word s (at + left)
    → ((k : ℕ) → cut_word lengths k ≡ word s (ls + k)) → cut_by s name n locals lengths bs left ≡ named_by s name n at ls bs left
unfolding cut_by named_by text_by
cut-is s name n left at ls bs locals lengths ho hl =
    let told : ℕ → ℕ → Bool = λ k l. elim (eqb l n) [ true ↦ same (take n (drop (bs + text_start s k) s)) name | false ↦ false ] in
    ap (told (cut_word locals left)) (hl (cut_word locals left)) ∙ ap (λ k. told k (word s (ls + k))) ho

-- the test of the code
pub named-is :
    (s name : List ℕ) (t left : ℕ) {n lengths locals b : ℕ} → name ≡ text s t → (Ends s name → ⊥) → n ≡ text_length s t
    → lengths ≡ lengths_at s → locals ≡ locals_at s → b ≡ bytes_at s
    → named_by s name n locals lengths (4 * b) left ≡ same (text s (local_text s left)) name
named-is s name t left {n} {lengths} {locals} {b} is-text no_end hn hs ho hb = by (eqb (word s (lengths + word s (locals + left))) n) refl
  where
    by : (q : Bool) → eqb (word s (lengths + word s (locals + left))) n ≡ q
        → named_by s name n locals lengths (4 * b) left ≡ same (text s (local_text s left)) name
    by true e =
        sym (read-equal s name n lengths locals (4 * b) left refl refl (eqb-true _ _ e) refl refl)
        ∙ equal-length s name t left is-text no_end hn hs ho refl refl (eqb-true _ _ e) hb refl (λ _. refl)
    by false e =
        sym (read-other s name n lengths locals (4 * b) left refl refl (eqb-false _ _ e))
        ∙ sym (other_length s name t left is-text no_end hn hs ho refl refl (eqb-false _ _ e))

-- the text's length is not 0
pub some-length : (s name : List ℕ) (t : ℕ) {n : ℕ} → name ≡ text s t → (Ends s name → ⊥) → n ≡ text_length s t → 0 < n
some-length s name t is-text no_end e = let some = some_bytes s name no_end t is-text in omega arith
