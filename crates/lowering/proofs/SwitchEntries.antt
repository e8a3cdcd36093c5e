-- The lists of blocks of a table, each kept once, and the entry that a list finds.
use Prim.Native.Nat.{ℕ}
use mathlib.Core.Path.{◌≡◌, refl, sym, ap, ◌∙◌}
use mathlib.Core.Bool.{Bool, true, false, true≢false, false≢true}
use mathlib.Core.Logic.{◌⊎◌, inl, inr, ⊎_elim}
use mathlib.Core.List.Memᴰ
use mathlib.Core.List.{List, [], ◌∷◌, map, Memᴰ}
use Rattle.text.specs.Same.{same}
use Rattle.text.proofs.SameLaws.{same_refl, same_true}
use Rattle.lowering.specs.Arms.{Entry, to_fallback, Arm, member_of, distinct_from, distinct}
use Rattle.lowering.specs.SwitchTables.{entry_of}

-- ---- a list is among others

pub member-here : (l m : List ℕ) (ms : List (List ℕ)) → same l m ≡ true → member_of l (m ∷ ms) ≡ true
unfolding member_of
member-here l m ms h = rw (h, member_of)

pub member-later : (l m : List ℕ) (ms : List (List ℕ)) → same l m ≡ false → member_of l (m ∷ ms) ≡ member_of l ms
unfolding member_of
member-later l m ms h = rw (h, member_of)

member-true : (l : List ℕ) (ms : List (List ℕ)) → member_of l ms ≡ true → Memᴰ l ms
unfolding member_of
member-true l [] h = absurd (false≢true h)
member-true l (m ∷ ms) h = by (same l m) refl (member-true l ms)
  where
    by : (t : Bool) → same l m ≡ t → (member_of l ms ≡ true → Memᴰ l ms) → Memᴰ l (m ∷ ms)
    by true q k = Memᴰ.head (same_true l m q)
    by false q k = Memᴰ.tail (k (sym (member-later l m ms q) ∙ h))

member-false : (l : List ℕ) (ms : List (List ℕ)) → member_of l ms ≡ false → Memᴰ l ms → ⊥
unfolding member_of
member-false l [] h n = Memᴰ.not-nil n
member-false l (m ∷ ms) h n = by (same l m) refl (member-false l ms) (Memᴰ.cases_cons n)
  where
    by : (t : Bool) → same l m ≡ t → (member_of l ms ≡ false → Memᴰ l ms → ⊥) → (l ≡ m) ⊎ Memᴰ l ms → ⊥
    by true q k c = true≢false (sym (member-here l m ms q) ∙ h)
    by false q k (inl e) = true≢false (sym (same_refl l) ∙ ap (same l) e ∙ q)
    by false q k (inr n') = k (sym (member-later l m ms q) ∙ h) n'

-- ---- lists, each kept where it is first met

distinct-met : (met : List (List ℕ)) (l : List ℕ) (ls : List (List ℕ)) → member_of l met ≡ true
    → distinct_from met (l ∷ ls) ≡ distinct_from met ls
unfolding distinct_from
distinct-met met l ls h = rw (h, distinct_from)

distinct-new : (met : List (List ℕ)) (l : List ℕ) (ls : List (List ℕ)) → member_of l met ≡ false
    → distinct_from met (l ∷ ls) ≡ l ∷ distinct_from (l ∷ met) ls
unfolding distinct_from
distinct-new met l ls h = rw (h, distinct_from)

-- no list stands twice
abbrev pub Once : List (List ℕ) → Type 0
Once [] = Prim.Unit {0}
Once (l ∷ ls) = (Memᴰ l ls → ⊥) × Once ls

-- what is kept was not met before
distinct_apart : (met ls : List (List ℕ)) (x : List ℕ) → Memᴰ x (distinct_from met ls) → Memᴰ x met → ⊥
unfolding distinct_from
distinct_apart met [] x h n = Memᴰ.not-nil h
distinct_apart met (l ∷ ls) x h n = by (member_of l met) refl (λ m. distinct_apart m ls x)
  where
    by : (t : Bool) → member_of l met ≡ t → ((m : List (List ℕ)) → Memᴰ x (distinct_from m ls) → Memᴰ x m → ⊥) → ⊥
    by true q k = k met (rw (distinct-met met l ls q) at h) n
    by false q k =
        ⊎_elim (λ e. member-false l met q (Memᴰ.cast (sym e) n)) (λ h'. k (l ∷ met) h' (Memᴰ.tail n))
        (Memᴰ.cases_cons (rw (distinct-new met l ls q) at h))

distinct-from-once : (met ls : List (List ℕ)) → Once (distinct_from met ls)
unfolding distinct_from
distinct-from-once met [] = tt
distinct-from-once met (l ∷ ls) = by (member_of l met) refl (λ m. distinct-from-once m ls)
  where
    by : (t : Bool) → member_of l met ≡ t → ((m : List (List ℕ)) → Once (distinct_from m ls)) → Once (distinct_from met (l ∷ ls))
    by true q k = rw (distinct-met met l ls q) (k met)
    by false q k = rw (distinct-new met l ls q) (λ h. distinct_apart (l ∷ met) ls l h (Memᴰ.head refl), k (l ∷ met))

distinct-from-only : (met ls : List (List ℕ)) (x : List ℕ) → Memᴰ x (distinct_from met ls) → Memᴰ x ls
unfolding distinct_from
distinct-from-only met [] x h = h
distinct-from-only met (l ∷ ls) x h = by (member_of l met) refl (λ m. distinct-from-only m ls x)
  where
    by : (t : Bool) → member_of l met ≡ t → ((m : List (List ℕ)) → Memᴰ x (distinct_from m ls) → Memᴰ x ls) → Memᴰ x (l ∷ ls)
    by true q k = Memᴰ.tail (k met (rw (distinct-met met l ls q) at h))
    by false q k = ⊎_elim Memᴰ.head (λ h'. Memᴰ.tail (k (l ∷ met) h')) (Memᴰ.cases_cons (rw (distinct-new met l ls q) at h))

distinct-from-keeps : (met ls : List (List ℕ)) (x : List ℕ) → Memᴰ x ls → Memᴰ x met ⊎ Memᴰ x (distinct_from met ls)
unfolding distinct_from
distinct-from-keeps met [] x h = inr h
distinct-from-keeps met (l ∷ ls) x h = by (member_of l met) refl (λ m. distinct-from-keeps m ls x) (Memᴰ.cases_cons h)
  where
    behind : Memᴰ x (l ∷ met) ⊎ Memᴰ x (distinct_from (l ∷ met) ls) → Memᴰ x met ⊎ Memᴰ x (l ∷ distinct_from (l ∷ met) ls)
    behind (inl m) = ⊎_elim (λ e. inr (Memᴰ.head e)) inl (Memᴰ.cases_cons m)
    behind (inr m) = inr (Memᴰ.tail m)

    by : (t : Bool) → member_of l met ≡ t
        → ((m : List (List ℕ)) → Memᴰ x ls → Memᴰ x m ⊎ Memᴰ x (distinct_from m ls))
        → (x ≡ l) ⊎ Memᴰ x ls
        → Memᴰ x met ⊎ Memᴰ x (distinct_from met (l ∷ ls))
    by true q k (inl e) = inl (Memᴰ.cast e (member-true l met q))
    by true q k (inr m) = rw (distinct-met met l ls q) (k met m)
    by false q k (inl e) = rw (distinct-new met l ls q) (inr (Memᴰ.head e))
    by false q k (inr m) = rw (distinct-new met l ls q) (behind (k (l ∷ met) m))

module _ (ls : List (List ℕ)) where
  pub distinct-once : Once (distinct ls)
  unfolding distinct
  distinct-once = distinct-from-once [] ls

  pub distinct-only : (x : List ℕ) → Memᴰ x (distinct ls) → Memᴰ x ls
  unfolding distinct
  distinct-only = distinct-from-only [] ls

  pub distinct-keeps : (x : List ℕ) → Memᴰ x ls → Memᴰ x (distinct ls)
  unfolding distinct
  distinct-keeps x h = ⊎_elim (λ m. absurd (Memᴰ.not-nil m)) (λ m. m) (distinct-from-keeps [] ls x h)

-- ---- the entry of a list

abbrev pub blocks_of : List Arm → List (List ℕ)
blocks_of arms = map (λ (a : Arm). a.blocks) arms

entry_here : (l : List ℕ) (a : Arm) (arms : List Arm) → same l a.blocks ≡ true → entry_of l (a ∷ arms) ≡ a.entry
unfolding entry_of
entry_here l a arms h = rw (h, entry_of)

entry-later : (l : List ℕ) (a : Arm) (arms : List Arm) → same l a.blocks ≡ false → entry_of l (a ∷ arms) ≡ entry_of l arms
unfolding entry_of
entry-later l a arms h = rw (h, entry_of)

-- the arm that a list finds
pub record Finds (l : List ℕ) (arms : List Arm) : Type 0 where
  pub arm : Arm
  pub among : Memᴰ arm arms
  pub blocks-are : arm.blocks ≡ l
  pub entry-is : entry_of l arms ≡ arm.entry

pub finds : (l : List ℕ) (arms : List Arm) → Memᴰ l (blocks_of arms) → Finds l arms
finds l [] h = absurd (Memᴰ.not-nil h)
finds l (a ∷ arms) h = by (same l a.blocks) refl (finds l arms)
  where
    by : (t : Bool) → same l a.blocks ≡ t → (Memᴰ l (blocks_of arms) → Finds l arms) → Finds l (a ∷ arms)
    by true q k =
        record { arm = a; among = Memᴰ.head refl; blocks-are = sym (same_true l a.blocks q); entry-is = entry_here l a arms q }
    by false q k =
        let f = k (⊎_elim (λ e. absurd (true≢false (sym (same_refl l) ∙ ap (same l) e ∙ q))) (λ m. m) (Memᴰ.cases_cons h)) in
        record {
          arm = f.arm;
          among = Memᴰ.tail f.among;
          blocks-are = f.blocks-are;
          entry-is = entry-later l a arms q ∙ f.entry-is;
        }

-- where no list stands twice, each arm is the one that its list finds
pub entry-own : (arms : List Arm) → Once (blocks_of arms) → (a : Arm) → Memᴰ a arms → entry_of a.blocks arms ≡ a.entry
entry-own [] o a h = absurd (Memᴰ.not-nil h)
entry-own (x ∷ arms) o a h = by (Memᴰ.cases_cons h) (entry-own arms o.1 a)
  where
    other : (t : Bool) → same a.blocks x.blocks ≡ t → Memᴰ a arms → same a.blocks x.blocks ≡ false
    other true q m = absurd (o.0 (Memᴰ.cast (sym (same_true a.blocks x.blocks q)) (Memᴰ.map (λ (y : Arm). y.blocks) m)))
    other false q m = q

    by : (a ≡ x) ⊎ Memᴰ a arms → (Memᴰ a arms → entry_of a.blocks arms ≡ a.entry) → entry_of a.blocks (x ∷ arms) ≡ a.entry
    by (inl e) k =
        entry_here a.blocks x arms (ap (same a.blocks) (sym (ap (λ (y : Arm). y.blocks) e)) ∙ same_refl a.blocks)
        ∙ sym (ap (λ (y : Arm). y.entry) e)
    by (inr m) k = entry-later a.blocks x arms (other (same a.blocks x.blocks) refl m) ∙ k m

-- what holds of each arm's entry and of none holds of the entry that any list finds
pub entry-any : (Q : Entry → Type 0) (l : List ℕ) (arms : List Arm) → Q to_fallback → ((a : Arm) → Memᴰ a arms → Q a.entry)
    → Q (entry_of l arms)
unfolding entry_of
entry-any Q l [] n f = n
entry-any Q l (a ∷ arms) n f = by (same l a.blocks) refl (entry-any Q l arms n (λ x m. f x (Memᴰ.tail m)))
  where
    by : (t : Bool) → same l a.blocks ≡ t → Q (entry_of l arms) → Q (entry_of l (a ∷ arms))
    by true q k = rw (entry_here l a arms q) (f a (Memᴰ.head refl))
    by false q k = rw (entry-later l a arms q) k
