-- Laws of the marks that are kept.
use Prim.Native.Nat.{ℕ, ◌+◌, ◌-◌, ◌*◌, ◌≤◌, ◌<◌}
use mathlib.Core.Path.{◌≡◌, refl, ap, sym, subst, ◌∙◌}
use mathlib.Core.Bool.{true, false, not, and-false}
use mathlib.Core.List.{List, ◌++◌}
use native.Mathlib.Decide.{ℕ_discrete, dec_lt}
use native.Mathlib.Omega.{arith}
use lib.Dec.{leb, eqb}
use lib.ListN.{length, get_or, set, take, drop, length-set, get_or-eq_default, take-append-drop}
use lib.Seq.{slice, slice-cons, take-take, drop-drop, get_or-set_same, get_or-set_other}
use borrow.Author.Tests.{lt-leb, eq-eqb, ne_eqb}
use Rattle.text.specs.Utf8.{utf8, within}
use Rattle.text.proofs.Utf8Laws.{no_tail, utf8-sync}
use Rattle.text.proofs.ReadLaws.{read-end, read-stuck}
use Rattle.text.proofs.RunLaws.{cut, run_none, run-rest}
use Rattle.check_texts.specs.Marks.{Characters, Reading, block, blocks, mark_from, mark_to, Mark, Holds, Marks}

-- no character
pub run-here : (s : List ℕ) (i : ℕ) → i ≤ length s → Characters s i i
run-here s i h = record { least = omega arith; most = h; good = run_none s i }

pub run-stays : (s : List ℕ) {i j : ℕ} → i ≡ j → j ≤ length s → Characters s i j
run-stays s {i} {j} e h = subst (λ x. Characters s x j) (sym e) (run-here s j h)

-- a run, and another from its end on
pub run_join : {s : List ℕ} {i j k : ℕ} → Characters s i j → Characters s j k → Characters s i k
run_join {s} {i} {j} {k} f g =
    let first : utf8 (slice i j (take k s)) ≡ true = ap (λ l. utf8 (drop i l)) (take-take j k s g.least) ∙ f.good in
    record { least = omega arith; most = g.most; good = run-rest (take k s) i j f.least first ∙ g.good }

-- the same, where the place is named by an equal
pub run-onto : {s : List ℕ} {i j p k : ℕ} → Characters s i j → j ≡ p → Characters s p k → Characters s i k
run-onto {s} {i} {j} {p} {k} f e g = run_join f (subst (λ x. Characters s x k) (sym e) g)

-- a string is well-formed if it is read to its end
pub reading-whole : (s : List ℕ) {r : ℕ} → Reading s 0 (length s) r → eqb r (length s) ≡ utf8 s
reading-whole s {r} h = by (ℕ_discrete r (length s))
  where
    rest : utf8 s ≡ utf8 (drop r s)
    rest = run-rest s 0 r (omega arith) h.passed.good

    by : Dec (r ≡ length s) → eqb r (length s) ≡ utf8 s
    by (yes y) = eq-eqb r (length s) y ∙ sym (rest ∙ read-end s r (omega arith))
    by (no n) =
        let less : r < length s = omega (arith, h.passed.most) in
        ne_eqb r (length s) n ∙ sym (rest ∙ read-stuck s r 0 (sym (h.stuck less)) less refl)

-- a run up to a place where no tail byte stands
run-cut : {s : List ℕ} {i j k : ℕ} → Characters s i k → i ≤ j → j ≤ k → no_tail (slice j k s) ≡ true → Characters s i j
run-cut {s} {i} {j} {k} f h l n =
    record {
      least = h;
      most = omega arith;
      good = ap utf8 (sym front) ∙ ((utf8-sync (take (j - i) whole) (drop (j - i) whole) n').0 both).0;
    }
  where
    whole : List ℕ
    whole = slice i k s

    sum : i + (j - i) ≡ j
    sum = omega arith

    front : take (j - i) whole ≡ slice i j s
    front = sym (cut i (j - i) (take k s)) ∙ (ap (λ m. slice i m (take k s)) sum ∙ ap (drop i) (take-take j k s l))

    back : drop (j - i) whole ≡ slice j k s
    back = drop-drop (j - i) i (take k s) ∙ ap (λ m. drop m (take k s)) sum

    n' : no_tail (drop (j - i) whole) ≡ true
    n' = ap no_tail back ∙ n

    both : utf8 (take (j - i) whole ++ drop (j - i) whole) ≡ true
    both = ap utf8 (take-append-drop (j - i) whole) ∙ f.good

-- a byte that is no tail byte, as one above BF
no-tail : (s : List ℕ) (j k : ℕ) → j < k → k ≤ length s → (within 0x80 0xBF (get_or s j 0) ≡ false) → no_tail (slice j k s) ≡ true
no-tail s j k h l e = ap no_tail (slice-cons j k s 0 h l) ∙ ap not e

pub high_cut : {s : List ℕ} {i j k : ℕ} → Characters s i k → i ≤ j → j < k → 0xBF < get_or s j 0 → Characters s i j
high_cut {s} {i} {j} {k} f h l b =
    let out : within 0x80 0xBF (get_or s j 0) ≡ false = rw (lt-leb (get_or s j 0) 0xBF b) (and-false (leb 0x80 (get_or s j 0))) in
    run-cut f h (omega arith) (no-tail s j k l f.most out)

pub tail-cut : {s : List ℕ} {i j k : ℕ} → Characters s i k → i ≤ j → j < k → not (within 0x80 0xBF (get_or s j 0)) ≡ true → Characters s i j
tail-cut {s} {i} {j} {k} f h l e = run-cut f h (omega arith) (ap no_tail (slice-cons j k s 0 l f.most) ∙ e)

-- a mark that holds is a run
pub mark-run : {b : List ℕ} {e v : ℕ} → Holds b e v → (i : ℕ) → mark_from e v ≡ i → i ≤ mark_to v → mark_to v ≤ length b
    → Characters b i (mark_to v)
mark-run {b} {e} {v} h i f l m = record { least = l; most = m; good = rw (← f) (h.whole (omega arith) m) }

pub mark-end : {b : List ℕ} {e v : ℕ} → Holds b e v → (i j : ℕ) → mark_from e v ≡ i → i ≤ j → mark_to v ≡ j → j ≤ length b
    → Characters b i j
mark-end {b} {e} {v} h i j f l g m = subst (λ x. Characters b i x) g (mark-run h i f (omega arith) (omega arith))

-- the mark of a run holds
mark-holds : {b : List ℕ} {e p far v : ℕ} → 0 < e → Characters b p far → Mark e p far v → Holds b e v
mark-holds {b} {e} {p} {far} {v} z f m = record { whole = λ h l. by (dec_lt 0 v) h }
  where
    by : Dec (0 < v) → mark_from e v ≤ mark_to v → utf8 (slice (mark_from e v) (mark_to v) b) ≡ true
    by (yes y) h = rw (m.starts y, m.ends y) f.good
    by (no y) h = let none : v ≡ 0 = omega arith in absurd (omega arith)

-- no block has a mark yet
pub mark-none : (b : List ℕ) (base : ℕ) {vs : List ℕ} → length vs ≡ blocks → Marks b base blocks vs
mark-none b base {vs} e = record {
  size = e;
  true_at = λ k h. record { whole = λ f. absurd (omega (arith, get_or-eq_default vs 0 (past k h))) };
}
  where
    past : (k : ℕ) → blocks ≤ k → length vs ≤ k
    past k h = omega arith

-- every block has its mark
pub mark-all : {b vs : List ℕ} {base j : ℕ} → Marks b base j vs → j ≡ 0 → Marks b base 0 vs
mark-all m e = record { size = m.size; true_at = λ k h. m.true_at k (omega arith) }

-- the mark of block k
pub mark-at : {b vs : List ℕ} {base e v : ℕ} → Marks b base 0 vs → (k : ℕ) → e ≡ base + (k + 1) * block → v ≡ get_or vs k 0 → Holds b e v
mark-at {b} {vs} {base} {e} {v} m k f g = rw (f, g) (m.true_at k (omega arith))

-- the mark of the block before the first
pub mark_set : {b vs : List ℕ} {base e p far v : ℕ} (first j : ℕ) → Marks b base first vs → j + 1 ≡ first → first ≤ blocks
    → e ≡ base + first * block → Characters b p far → Mark e p far v → Marks b base j (set vs j v)
mark_set {b} {vs} {base} {e} {p} {far} {v} first j m g l f r a =
    record { size = length-set vs j v ∙ m.size; true_at = λ k h. by k h (ℕ_discrete k j) }
  where
    here : base + (j + 1) * block ≡ e
    here = omega arith

    at : Holds b (base + (j + 1) * block) v
    at = rw here (mark-holds (omega arith) r a)

    by : (k : ℕ) → j ≤ k → Dec (k ≡ j) → Holds b (base + (k + 1) * block) (get_or (set vs j v) k 0)
    by k h (yes y) = rw (y, get_or-set_same vs j v 0 (omega (arith, m.size))) at
    by k h (no n) = rw (get_or-set_other vs j k v 0 n) (m.true_at k (omega arith))
