-- Numbers of lists among heads. Shown: a list more or less; the number found among the heads so far is that among the distinct ones of all
-- lists (`final`), and is below their count. Assumed: nothing.
use Prim.Native.Nat.{ℕ, zero, suc, ◌<◌}
use mathlib.Core.Path.{◌≡◌, refl, sym, ◌∙◌, ap}
use mathlib.Core.Bool.{true, false, true≢false}
use mathlib.Core.List.{List, [], ◌∷◌, ◌++◌, map, append_assoc}
use native.Mathlib.Omega.{arith}
use lib.ListN.{length, get_or}
use borrow.Table.Steps.{cases}
use Rattle.lowering.proofs.SwitchEntries.{member-here, member-later}
use Rattle.text.specs.Same.{same}
use Rattle.text.proofs.SameLaws.{same_refl, same_true}
use Rattle.lowering.specs.Arms.{member_of, distinct_from, distinct}
use Rattle.switch_tables.specs.Numbers.{number_in, with_head}

-- ---- an element of a mapped list, whatever stands behind its end

pub mapped_at : {A B : Type 0} (f : A → B) (l : List A) (i : ℕ) (d : B) (e : A) → i < length l → get_or (map f l) i d ≡ f (get_or l i e)
mapped_at f [] i d e h = absurd (omega arith)
mapped_at f (x ∷ l) zero d e h = refl
mapped_at f (x ∷ l) (suc i) d e h = mapped_at f l i d e (omega arith)

-- ---- one head more or less

module _ (l m : List ℕ) (ms : List (List ℕ)) where
  pub number-here : same l m ≡ true → number_in l (m ∷ ms) ≡ 0
  unfolding number_in
  number-here e = rw (e, number_in)

  pub number-later : same l m ≡ false → number_in l (m ∷ ms) ≡ suc (number_in l ms)
  unfolding number_in
  number-later e = rw (e, number_in)

member-none : (l : List ℕ) → member_of l [] ≡ false
unfolding member_of
member-none l = refl

-- ---- a number below the count is that of an equal list

pub number-missing : (l : List ℕ) (ms : List (List ℕ)) → member_of l ms ≡ false → number_in l ms ≡ length ms
unfolding number_in
number-missing l [] h = refl
number-missing l (m ∷ ms) h =
    cases (same l m) (λ e. absurd (true≢false (sym (member-here l m ms e) ∙ h)))
    (λ e. number-later l m ms e ∙ ap suc (number-missing l ms (sym (member-later l m ms e) ∙ h)))

pub number-found : (l : List ℕ) (ms : List (List ℕ)) → member_of l ms ≡ true → number_in l ms < length ms
number-found l [] h = absurd (true≢false (sym h ∙ member-none l))
number-found l (m ∷ ms) h =
    cases (same l m) (λ e. omega (arith, number-here l m ms e))
    (λ e. omega (arith, number-later l m ms e, number-found l ms (sym (member-later l m ms e) ∙ h)))

pub number_at : (l : List ℕ) (ms : List (List ℕ)) → number_in l ms < length ms → get_or ms (number_in l ms) [] ≡ l
number_at l [] h = absurd (omega arith)
number_at l (m ∷ ms) h =
    cases (same l m) (λ e. rw (number-here l m ms e) (sym (same_true l m e)))
    (λ e. rw (number-later l m ms e) (number_at l ms (omega (arith, number-later l m ms e))))

-- ---- heads are only added at the end, so a number stays

number-stays : (l : List ℕ) (ms ns : List (List ℕ)) → member_of l ms ≡ true → number_in l (ms ++ ns) ≡ number_in l ms
number-stays l [] ns h = absurd (true≢false (sym h ∙ member-none l))
number-stays l (m ∷ ms) ns h =
    cases (same l m) (λ e. number-here l m (ms ++ ns) e ∙ sym (number-here l m ms e))
    (λ e. number-later l m (ms ++ ns) e ∙ ap suc (number-stays l ms ns (sym (member-later l m ms e) ∙ h)) ∙ sym (number-later l m ms e))

number-new : (l : List ℕ) (ms ns : List (List ℕ)) → member_of l ms ≡ false → number_in l (ms ++ (l ∷ ns)) ≡ length ms
number-new l [] ns h = number-here l l ns (same_refl l)
number-new l (m ∷ ms) ns h =
    cases (same l m) (λ e. absurd (true≢false (sym (member-here l m ms e) ∙ h)))
    (λ e. number-later l m (ms ++ (l ∷ ns)) e ∙ ap suc (number-new l ms ns (sym (member-later l m ms e) ∙ h)))

-- ---- the order in which lists were met does not matter

module _ (l : List ℕ) (met ls : List (List ℕ)) where
  distinct-not : member_of l met ≡ true → distinct_from met (l ∷ ls) ≡ distinct_from met ls
  unfolding distinct_from
  distinct-not e = rw (e, distinct_from)

  distinct-yes : member_of l met ≡ false → distinct_from met (l ∷ ls) ≡ l ∷ distinct_from (l ∷ met) ls
  unfolding distinct_from
  distinct-yes e = rw (e, distinct_from)

member-cons : (k l : List ℕ) (ms ns : List (List ℕ)) → member_of k ms ≡ member_of k ns → member_of k (l ∷ ms) ≡ member_of k (l ∷ ns)
unfolding member_of
member-cons k l ms ns h = cases (same k l) (λ e. rw (e, member_of)) (λ e. rw (e, member_of) h)

member-swap : (k l m : List ℕ) (ms : List (List ℕ)) → member_of k (m ∷ l ∷ ms) ≡ member_of k (l ∷ m ∷ ms)
member-swap k l m ms =
    cases (same k l)
    (λ e. rw (member-here k l (m ∷ ms) e)
    (cases (same k m) (member-here k m (l ∷ ms)) (λ f. member-later k m (l ∷ ms) f ∙ member-here k l ms e)))
    (λ e. rw (member-later k l (m ∷ ms) e) (member-cons k m (l ∷ ms) ms (member-later k l ms e)))

member-snoc : (k l : List ℕ) (ms : List (List ℕ)) → member_of k (l ∷ ms) ≡ member_of k (ms ++ (l ∷ []))
member-snoc k l [] = refl
member-snoc k l (m ∷ ms) = member-swap k m l ms ∙ member-cons k m (l ∷ ms) (ms ++ (l ∷ [])) (member-snoc k l ms)

distinct-met : (ls met now : List (List ℕ)) → ((k : List ℕ) → member_of k met ≡ member_of k now) → distinct_from met ls ≡ distinct_from now ls
unfolding distinct_from
distinct-met [] met now h = refl
distinct-met (l ∷ ls) met now h =
    cases (member_of l met)
    (λ e. distinct-not l met ls e ∙ distinct-met ls met now h ∙ sym (distinct-not l now ls (sym (h l) ∙ e)))
    (λ e. distinct-yes l met ls e
    ∙ ap (λ (r : List (List ℕ)). l ∷ r) (distinct-met ls (l ∷ met) (l ∷ now) (λ k. member-cons k l met now (h k)))
    ∙ sym (distinct-yes l now ls (sym (h l) ∙ e)))

-- ---- one list more

module _ (l : List ℕ) (hs : List (List ℕ)) where
  pub with-old : member_of l hs ≡ true → with_head l hs ≡ hs
  unfolding with_head
  with-old e = rw (e, with_head)

  pub with-new : member_of l hs ≡ false → with_head l hs ≡ hs ++ (l ∷ [])
  unfolding with_head
  with-new e = rw (e, with_head)

  pub heads-step : (ls : List (List ℕ)) → hs ++ distinct_from hs (l ∷ ls) ≡ with_head l hs ++ distinct_from (with_head l hs) ls
  heads-step ls =
      cases (member_of l hs) (λ e. rw (with-old e, distinct-not l hs ls e))
      (λ e. rw (with-new e, distinct-yes l hs ls e, distinct-met ls (l ∷ hs) (hs ++ (l ∷ [])) (λ k. member-snoc k l hs), append_assoc))

  -- the number that the search finds is the final one
  pub final : (ls all : List (List ℕ)) → hs ++ distinct_from hs (l ∷ ls) ≡ all → number_in l hs ≡ number_in l all
  final ls all q =
      cases (member_of l hs) (λ e. sym (number-stays l hs (distinct_from hs (l ∷ ls)) e) ∙ ap (number_in l) q)
      (λ e. number-missing l hs e ∙ sym (number-new l hs (distinct_from (l ∷ hs) ls) e) ∙ ap (number_in l) (rw (distinct-yes l hs ls e) at q))

-- ---- every list is among the distinct ones, so its number is below their count

-- a list is met, or it is among those that are to come
distinct-has : (ls met : List (List ℕ)) (k : List ℕ) (i : ℕ) → i < length ls → get_or ls i [] ≡ k → member_of k met ≡ false
    → member_of k (distinct_from met ls) ≡ true
distinct-has [] met k i h e new = absurd (omega arith)
distinct-has (l ∷ ls) met k zero h e new =
    rw (e, distinct-yes k met ls new) (member-here k k (distinct_from (k ∷ met) ls) (same_refl k))
distinct-has (l ∷ ls) met k (suc i) h e new =
    cases (member_of l met) (λ f. rw (distinct-not l met ls f) (distinct-has ls met k i (omega arith) e new))
    (λ f. rw (distinct-yes l met ls f)
    (cases (same k l) (λ g. member-here k l (distinct_from (l ∷ met) ls) g)
    (λ g. member-later k l (distinct_from (l ∷ met) ls) g
    ∙ distinct-has ls (l ∷ met) k i (omega arith) e (member-later k l met g ∙ new))))

pub number-below : (ls : List (List ℕ)) (i : ℕ) → i < length ls → number_in (get_or ls i []) (distinct ls) < length (distinct ls)
unfolding distinct
number-below ls i h = number-found (get_or ls i []) (distinct ls) (distinct-has ls [] (get_or ls i []) i h refl (member-none (get_or ls i [])))
