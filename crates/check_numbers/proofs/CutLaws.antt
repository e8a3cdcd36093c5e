-- The numbers of all locals, cut out of a sheet: a test of those that are there, and of 0 for those that are not.
use Prim.Native.Nat.{ℕ, zero, suc, ◌+◌, ◌-◌, ◌≤◌, ◌<◌}
use mathlib.Core.Path.{◌≡◌, sym, ap, ◌∙◌}
use mathlib.Core.Bool.{Bool, ◌&&◌, ◌||◌}
use mathlib.Core.Logic.{◌⊎◌, inl, inr}
use mathlib.Core.List.{List, []}
use native.Mathlib.Omega.{arith}
use lib.Dec.{ltb, eqb}
use lib.ListN.{length, get_or, get_or-eq_default}
use Rattle.std.specs.List.{list_all}
use Rattle.std.proofs.lemmas.Bool.{cases_lt, eq-eqb, ne_eqb}
use Rattle.std.proofs.Math.Bool.{and-true, and_assoc, and_self}
use Rattle.words.specs.Word.{word, front}
use Rattle.words.specs.Count.{all_below}
use Rattle.words.proofs.CountLaws.{all-suc, all_same}
use Rattle.words.proofs.RangeLaws.{list_all-index}
use Rattle.sheet.specs.Sections.{text_count, local_count, locals_at}
use Rattle.check_numbers.specs.Numbers.{local_ok, locals_ok, locals_by}
use Rattle.check_numbers.proofs.ReadLaws.{local-read}

-- behind the first k numbers a test always answers b
all-behind : (f : ℕ → Bool) (b : Bool) (k n : ℕ) → ((i : ℕ) → k ≤ i → i < k + suc n → f i ≡ b) → all_below (k + suc n) f ≡ (all_below k f && b)
all-behind f b k zero h =
    let one : k + 1 ≡ suc k = omega arith in
    ap (λ j. all_below j f) one ∙ all-suc f k ∙ ap (λ c. all_below k f && c) (h k (omega arith) (omega arith))
all-behind f b k (suc n) h =
    let one : k + suc (suc n) ≡ suc (k + suc n) = omega arith in
    ap (λ j. all_below j f) one ∙ all-suc f (k + suc n)
    ∙ ap (λ c. c && f (k + suc n)) (all-behind f b k n (λ i l r. h i l (omega arith)))
    ∙ ap (λ c. (all_below k f && b) && c) (h (k + suc n) (omega arith) (omega arith))
    ∙ and_assoc (all_below k f) b b
    ∙ ap (λ c. all_below k f && c) (and_self b)

-- so all m numbers pass where the first k do, and there are no more or b is true
all-there : (f : ℕ → Bool) (b : Bool) (k m : ℕ) → k ≤ m → ((i : ℕ) → k ≤ i → i < m → f i ≡ b) → (all_below k f && (eqb k m || b)) ≡ all_below m f
all-there f b k m few behind = by (cases_lt k m)
  where
    by : (k < m) ⊎ (m ≤ k) → (all_below k f && (eqb k m || b)) ≡ all_below m f
    by (inl g) =
        let size : k + suc (m - k - 1) ≡ m = omega arith in
        ap (λ c. all_below k f && (c || b)) (ne_eqb k m (λ e. absurd (omega arith)))
        ∙ sym (all-behind f b k (m - k - 1) (λ i a z. behind i a (omega arith)))
        ∙ ap (λ j. all_below j f) size
    by (inr g) =
        let size : k ≡ m = omega arith in
        ap (λ c. all_below k f && (c || b)) (eq-eqb k m size) ∙ and-true (all_below k f) ∙ ap (λ j. all_below j f) size

-- the test of the numbers ys of the locals, which were cut out of sheet s
pub locals-cut : (s : List ℕ) (ys : List (List ℕ)) {at m x : ℕ} {r : Bool} → at ≡ locals_at s → m ≡ local_count s → x ≡ text_count s
    → length ys ≤ m → ((i : ℕ) → i < m → front (get_or ys i []) ≡ word s (at + i)) → r ≡ list_all (λ w. ltb (front w) x) ys
    → (r && (eqb (length ys) m || ltb 0 x)) ≡ locals_ok s
unfolding locals_by
locals-cut s ys {at} {m} {x} {r} ha hm hx few each hr =
    let f : ℕ → Bool = λ i. ltb (word s (at + i)) x in
    let read : (i : ℕ) → i < m → ltb (front (get_or ys i [])) x ≡ f i = λ i l. ap (λ v. ltb v x) (each i l) in
    let test : r ≡ all_below (length ys) f =
    hr ∙ list_all-index (λ w. ltb (front w) x) [] ys ∙ all_same _ f (length ys) (λ i l. read i (omega arith)) in
    ap (λ b. b && (eqb (length ys) m || ltb 0 x)) test
    ∙ all-there f (ltb 0 x) (length ys) m few (λ i a l. sym (read i l) ∙ ap (λ w. ltb (front w) x) (get_or-eq_default ys [] a))
    ∙ all_same f (local_ok s) m (λ l b. local-read s l hx ha)
    ∙ ap (λ j. all_below j (local_ok s)) hm
