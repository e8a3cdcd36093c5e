-- The last that passes a test: whether a jump is dropped is known from it. The loops over lists of blocks and over bodies, with that.
use Prim.Native.Nat.{ℕ, zero, suc, ◌+◌, ◌-◌, ◌≤◌, ◌<◌}
use mathlib.Core.Path.{◌≡◌, refl, sym, ap, ◌∙◌}
use mathlib.Core.Bool.{Bool, true, false, ◌&&◌, true≢false}
use mathlib.Core.List.{List, [], ◌∷◌}
use native.Mathlib.Decide.{dec_le}
use native.Mathlib.Numerals.{add-one}
use native.Mathlib.Omega.{arith}
use lib.Dec.{leb}
use lib.ListN.{length, drop, get_or}
use borrow.Author.Tests.{le-leb, lt-leb}
use Rattle.laws.proofs.Numbers.{left_one}
use Rattle.switch_split.specs.Split as Split
use Rattle.bytecode.specs.declared.Op.TheVariants.{Unit, Rotate, Pop, Switch}
use Rattle.lowering.specs.Code.{no_pos}
use Rattle.lowering.specs.SwitchSheet.{block_count, subject}
use Rattle.expr_model.specs.Made.{Made, emit, at_depth}
use Rattle.expr_model.specs.Construct.{Low}
use Rattle.switch_model.specs.Change.{
  any_tried,
  arm_to,
  quiet,
  arms_to,
  any_split,
  case_lists,
  range_lists,
  ranges_to,
  none_from,
  body_to,
  bodies_to,
  has_default,
  missing_to,
  close_to,
  Targets,
  subject_to,
  chains_to,
  switch_to,
}
use Rattle.switch_model.proofs.ArmsLaws.{quiet-some, quiet_none}
use Rattle.switch_model.proofs.BodyLaws.{none-wanted, none_passed, bodies-wanted, bodies-passed}
use Rattle.switch_model.proofs.LoopLaws.{drop_at, drop_past, arms_more}
use Rattle.switch_model.specs.Last.{last_of}

-- the last number below n that passes a test, plus 1; 0 where there is none

module _ (test : ℕ → Bool) where
  pub last_none : last_of test 0 ≡ 0
  unfolding last_of
  last_none = refl

  last-suc : (n : ℕ) → test n ≡ true → last_of test (suc n) ≡ suc n
  unfolding last_of
  last-suc n h = rw (h, last_of)

  last-same : (n : ℕ) → test n ≡ false → last_of test (suc n) ≡ last_of test n
  unfolding last_of
  last-same n h = rw (h, last_of)

  pub last-passes : (i : ℕ) → test i ≡ true → last_of test (i + 1) ≡ i + 1
  last-passes i h = rw add-one (last-suc i h)

  pub last-fails : (i : ℕ) → test i ≡ false → last_of test (i + 1) ≡ last_of test i
  last-fails i h = rw add-one (last-same i h)

  -- none from m on
  none-all : (n m : ℕ) → ((k : ℕ) → m ≤ k → k < m + n → test k ≡ false) → none_from test n m ≡ true
  unfolding none_from
  none-all zero m h = refl
  none-all (suc n) m h =
      none_passed test n m (h m (omega arith) (omega arith)) ∙ none-all n (suc m) (λ k l g. h k (omega arith) (omega arith))

  none-not : (n m k : ℕ) → m ≤ k → k < m + n → test k ≡ true → none_from test n m ≡ false
  none-not zero m k l g h = absurd (omega arith)
  none-not (suc n) m k l g h = by (test m) refl (λ d. none-not n (suc m) k (omega arith) (omega arith) h)
    where
      by : (t : Bool) → test m ≡ t → ((m ≡ k → ⊥) → none_from test n (suc m) ≡ false) → none_from test (suc n) m ≡ false
      by true e more = none-wanted test n m e
      by false e more = none_passed test n m e ∙ more (λ q. true≢false (sym h ∙ ap test (sym q) ∙ e))

  -- nothing passes above the last that does
  above-last : (n k : ℕ) → last_of test n ≤ k → k < n → test k ≡ false
  above-last zero k l g = absurd (omega arith)
  above-last (suc n) k l g = by (test n) refl (dec_le n k) (above-last n k)
    where
      by : (t : Bool) → test n ≡ t → Dec (n ≤ k) → (last_of test n ≤ k → k < n → test k ≡ false) → test k ≡ false
      by true h e more = absurd (omega (arith, last-suc n h))
      by false h (yes e) more = let q : k ≡ n = omega arith in ap test q ∙ h
      by false h (no e) more = more (omega (arith, last-same n h)) (omega arith)

  at_last : (n m : ℕ) → m < last_of test n → (k : ℕ) × (m ≤ k) × (k < n) × (test k ≡ true)
  at_last zero m l = absurd (omega (arith, last_none))
  at_last (suc n) m l = by (test n) refl (at_last n m)
    where
      by : (t : Bool) → test n ≡ t → (m < last_of test n → (k : ℕ) × (m ≤ k) × (k < n) × (test k ≡ true))
          → (k : ℕ) × (m ≤ k) × (k < suc n) × (test k ≡ true)
      by true h more = (n, omega (arith, last-suc n h), omega arith, h)
      by false h more = let r = more (omega (arith, last-same n h)) in (r.0, r.1, omega arith, r.3)

  none_last : (n m : ℕ) → m ≤ n → none_from test (n - m) m ≡ leb (last_of test n) m
  none_last n m l = by (dec_le (last_of test n) m)
    where
      by : Dec (last_of test n ≤ m) → none_from test (n - m) m ≡ leb (last_of test n) m
      by (yes g) =
          none-all (n - m) m (λ k p q. above-last n k (omega arith) (omega arith)) ∙ sym (le-leb (last_of test n) m g)
      by (no g) =
          let r = at_last n m (omega arith) in
          none-not (n - m) m r.0 (omega arith) (omega arith) r.3 ∙ sym (lt-leb (last_of test n) m (omega arith))

-- ---- lists of blocks

module _ (s : List ℕ) (ls : List (List ℕ)) where
  -- list i has a guard to try
  abbrev pub tried_at : ℕ → Bool
  tried_at i = any_tried s (get_or ls i [])

  quiet-from : (n m : ℕ) → m + n ≡ length ls → quiet s (drop m ls) ≡ none_from tried_at n m
  unfolding quiet none_from
  quiet-from zero m h = ap (quiet s) (drop_past ls m (omega arith))
  quiet-from (suc n) m h = by (tried_at m) refl (quiet-from n (suc m) (omega arith))
    where
      here : quiet s (drop m ls) ≡ quiet s (get_or ls m [] ∷ drop (suc m) ls)
      here = ap (quiet s) (drop_at ls m [] (omega arith) ∙ ap (λ i. get_or ls m [] ∷ drop i ls) (add-one m))

      by : (t : Bool) → tried_at m ≡ t → quiet s (drop (suc m) ls) ≡ none_from tried_at n (suc m)
          → quiet s (drop m ls) ≡ none_from tried_at (suc n) m
      by true h more = here ∙ quiet-some s (get_or ls m []) (drop (suc m) ls) h ∙ sym (none-wanted tried_at n m h)
      by false h more = here ∙ quiet_none s (get_or ls m []) (drop (suc m) ls) h ∙ more ∙ sym (none_passed tried_at n m h)

  quiet-last : (m : ℕ) → m ≤ length ls → quiet s (drop m ls) ≡ leb (last_of tried_at (length ls)) m
  quiet-last m l = quiet-from (length ls - m) m (omega arith) ∙ none_last tried_at (length ls) m l

  -- list i, with its jump to the fallback dropped if no list behind it has a guard to try
  pub arms_next : (low : Low) (body : ℕ → ℕ) (fallback : ℕ) (falls : Bool) (i : ℕ) (a : Made) → i < length ls
      → arms_to s low body fallback falls (drop i ls) a
      ≡ arms_to s low body fallback falls (drop (i + 1) ls)
      (arm_to s low body fallback (falls && leb (last_of tried_at (length ls)) (i + 1)) (get_or ls i []) a)
  arms_next low body fallback falls i a l =
      arms_more s low body fallback falls ls i a l
      ∙ ap (λ q. arms_to s low body fallback falls (drop (i + 1) ls) (arm_to s low body fallback (falls && q) (get_or ls i []) a))
      (quiet-last (i + 1) (omega arith))

-- ---- bodies of n blocks, with block k next

module _ (s : List ℕ) (low : Low) (want : ℕ → Bool) (end : ℕ) (falls : Bool) (n k : ℕ) (a : Made) where
  bodies-first : k < n → bodies_to s low want end falls (n - k) k a ≡ bodies_to s low want end falls (suc (n - (k + 1))) k a
  bodies-first l = ap (λ m. bodies_to s low want end falls m k a) (left_one n k l)

  pub bodies-next : k < n → want k ≡ true
      → bodies_to s low want end falls (n - k) k a
      ≡ bodies_to s low want end falls (n - (k + 1)) (k + 1) (body_to s low end (falls && leb (last_of want n) (k + 1)) k a)
  bodies-next l h =
      bodies-first l
      ∙ bodies-wanted want (n - (k + 1)) k s low end falls a h
      ∙ ap (λ m. bodies_to s low want end falls (n - (k + 1)) m (body_to s low end (falls && none_from want (n - (k + 1)) m) k a))
      (sym (add-one k))
      ∙ ap (λ q. bodies_to s low want end falls (n - (k + 1)) (k + 1) (body_to s low end (falls && q) k a))
      (none_last want n (k + 1) (omega arith))

  pub bodies-skip : k < n → want k ≡ false
      → bodies_to s low want end falls (n - k) k a ≡ bodies_to s low want end falls (n - (k + 1)) (k + 1) a
  bodies-skip l h =
      bodies-first l
      ∙ bodies-passed want (n - (k + 1)) k s low end falls a h
      ∙ ap (λ m. bodies_to s low want end falls (n - (k + 1)) m a) (sym (add-one k))

  pub bodies-done : n ≤ k → bodies_to s low want end falls (n - k) k a ≡ a
  unfolding bodies_to
  bodies-done l = let e : n - k ≡ 0 = omega arith in ap (λ m. bodies_to s low want end falls m k a) e

pub bodies-start : (s : List ℕ) (low : Low) (want : ℕ → Bool) (end : ℕ) (falls : Bool) (n : ℕ) (a : Made)
    → bodies_to s low want end falls (n - 0) 0 a ≡ bodies_to s low want end falls n 0 a
bodies-start s low want end falls n a = let e : n - 0 ≡ n = omega arith in ap (λ m. bodies_to s low want end falls m 0 a) e

-- ---- the parts behind each other

pub split-none : (es : List Split.Entry) → length es ≡ 0 → any_split es ≡ false
unfolding any_split
split-none [] h = refl
split-none (e ∷ es) h = absurd (omega arith)

pub split-some : (es : List Split.Entry) → 1 ≤ length es → any_split es ≡ true
unfolding any_split
split-some [] h = absurd (omega arith)
split-some (e ∷ es) h = refl

pub default_none : (def : ℕ) → def ≡ 0 → has_default def ≡ false
unfolding has_default
default_none zero h = refl
default_none (suc k) h = absurd (omega arith)

pub missing-none : (def : ℕ) (a : Made) → def ≡ 0 → missing_to def a ≡ emit Unit no_pos 0 (at_depth 1 a)
unfolding missing_to
missing-none zero a h = refl
missing-none (suc k) a h = absurd (omega arith)

pub missing-some : (def : ℕ) (a : Made) → 1 ≤ def → missing_to def a ≡ a
unfolding missing_to
missing-some zero a h = absurd (omega arith)
missing-some (suc k) a h = refl

module _ (s : List ℕ) (low : Low) (body : ℕ → ℕ) (default : ℕ) (es : List Split.Entry) (a : Made) where
  pub ranges-none : any_split es ≡ false → ranges_to s low body default es a ≡ a
  unfolding ranges_to
  ranges-none h = rw (h, ranges_to)

  pub ranges-some : any_split es ≡ true
      → ranges_to s low body default es a ≡ arms_to s low body default false (range_lists es) (emit (Switch 1) no_pos 0 a)
  unfolding ranges_to
  ranges-some h = rw (h, ranges_to)

pub close-steps : (a : Made) → close_to a ≡ emit Pop no_pos 0 (emit (Rotate 1) no_pos 0 (at_depth 2 a))
unfolding close_to
close-steps a = refl

pub subject-steps : (low : Low) (a : Made) → subject_to low a ≡ emit (Switch 0) no_pos 0 (low subject a)
unfolding subject_to
subject-steps low a = refl

pub chains-steps : (s : List ℕ) (low : Low) (t : Targets) (es : List Split.Entry) (a : Made)
    → chains_to s low t es a
    ≡ ranges_to s low t.body t.default es (arms_to s low t.body t.fallback (any_split es) (case_lists s) a)
unfolding chains_to
chains-steps s low t es a = refl

pub switch-steps : (s : List ℕ) (low : Low) (t : Targets) (es : List Split.Entry) (def : ℕ) (want : ℕ → Bool) (a : Made)
    → switch_to s low t es def want a
    ≡ close_to (missing_to def (bodies_to s low want t.end (has_default def) (block_count s) 0 (chains_to s low t es (subject_to low a))))
unfolding switch_to
switch-steps s low t es def want a = refl
