-- A switch with other targets and other wishes is the same where they agree for each of its blocks.
use Prim.Native.Nat.{ℕ, zero, suc, ◌+◌, ◌<◌, ◌≤◌}
use mathlib.Core.Path.{◌≡◌, refl, sym, ap, ◌∙◌}
use mathlib.Core.Bool.{Bool, true, false, ◌&&◌}
use mathlib.Core.List.{List, [], ◌∷◌}
use native.Mathlib.Omega.{arith}
use Rattle.sheet.specs.Node.{position}
use Rattle.switch_split.specs.Split as Split
use Rattle.bytecode.specs.declared.Op.TheVariants.{Jump, JumpIfTrue, Switch}
use Rattle.lowering.specs.Code.{no_pos}
use Rattle.lowering.specs.All.{All}
use Rattle.lowering.specs.SwitchSheet.{block_count, guard_of}
use Rattle.lowering.specs.Arms.{Guard, never, always, tried, guard_kind}
use Rattle.expr_model.specs.Made.{Made, emit}
use Rattle.expr_model.specs.Construct.{Low}
use Rattle.switch_model.specs.Change.{try_to, tries_to, end_of, any_tried, end_to, arm_to, quiet, arms_to, any_split, case_lists, range_lists}
use Rattle.switch_model.specs.Change.{ranges_to, none_from, body_to, bodies_to, has_default, missing_to, close_to, Targets, subject_to}
use Rattle.switch_model.specs.Change.{chains_to, switch_to}
use Rattle.switch_model.proofs.TryLaws.{tries-never, tries-always, tries-tried, end-never, end-always, end-tried}
use Rattle.switch_model.proofs.ArmLaws.{arm-none, arm-some}
use Rattle.switch_model.proofs.BodyLaws.{none-wanted, none_passed, bodies-wanted, bodies-passed}

-- a fact of each block of each list
abbrev pub AllIn : (ℕ → Type 0) → List (List ℕ) → Type 0
AllIn P [] = Prim.Unit {0}
AllIn P (l ∷ ls) = All P l × AllIn P ls

module _ (s : List ℕ) (low : Low) (f g : ℕ → ℕ) where
  -- f and g agree on block k
  abbrev Agree : ℕ → Type 0
  Agree k = f k ≡ g k

  try-same : (k : ℕ) (a : Made) → Agree k → try_to s low f k a ≡ try_to s low g k a
  unfolding try_to
  try-same k a h = ap (λ t. emit (JumpIfTrue t) (position s (guard_of s k)) 0 (low (guard_of s k) a)) h

  tries-same : (ks : List ℕ) (a : Made) → All Agree ks → tries_to s low f ks a ≡ tries_to s low g ks a
  unfolding tries_to
  tries-same [] a h = refl
  tries-same (k ∷ ks) a h = by (guard_kind s (guard_of s k)) refl (λ x. tries-same ks x h.1)
    where
      by : (q : Guard) → guard_kind s (guard_of s k) ≡ q → ((x : Made) → tries_to s low f ks x ≡ tries_to s low g ks x)
          → tries_to s low f (k ∷ ks) a ≡ tries_to s low g (k ∷ ks) a
      by never e more = tries-never s k ks low f a e ∙ more a ∙ sym (tries-never s k ks low g a e)
      by always e more = tries-always s k ks low f a e ∙ sym (tries-always s k ks low g a e)
      by tried e more =
          tries-tried s k ks low f a e
          ∙ more (try_to s low f k a)
          ∙ ap (tries_to s low g ks) (try-same k a h.0)
          ∙ sym (tries-tried s k ks low g a e)

  module _ (fallback : ℕ) (drop : Bool) where
    end_same : (ks : List ℕ) (a : Made) → All Agree ks → end_to f fallback drop (end_of s ks) a ≡ end_to g fallback drop (end_of s ks) a
    unfolding end_of end_to
    end_same [] a h = refl
    end_same (k ∷ ks) a h = by (guard_kind s (guard_of s k)) refl (end_same ks a h.1)
      where
        by : (q : Guard) → guard_kind s (guard_of s k) ≡ q → end_to f fallback drop (end_of s ks) a ≡ end_to g fallback drop (end_of s ks) a
            → end_to f fallback drop (end_of s (k ∷ ks)) a ≡ end_to g fallback drop (end_of s (k ∷ ks)) a
        by never e more = rw (end-never s k ks e) more
        by always e more = rw (end-always s k ks e) (ap (λ t. emit (Jump t) no_pos 0 a) h.0)
        by tried e more = rw (end-tried s k ks e) more

    pub arm_same : (ks : List ℕ) (a : Made) → All Agree ks → arm_to s low f fallback drop ks a ≡ arm_to s low g fallback drop ks a
    arm_same ks a h = by (any_tried s ks) refl
      where
        by : (t : Bool) → any_tried s ks ≡ t → arm_to s low f fallback drop ks a ≡ arm_to s low g fallback drop ks a
        by true e =
            arm-some s low f fallback drop ks a e
            ∙ end_same ks (tries_to s low f ks a) h
            ∙ ap (end_to g fallback drop (end_of s ks)) (tries-same ks a h)
            ∙ sym (arm-some s low g fallback drop ks a e)
        by false e = arm-none s low f fallback drop ks a e ∙ sym (arm-none s low g fallback drop ks a e)

  pub arms_same : (fallback : ℕ) (falls : Bool) (ls : List (List ℕ)) (a : Made) → AllIn Agree ls
      → arms_to s low f fallback falls ls a ≡ arms_to s low g fallback falls ls a
  unfolding arms_to
  arms_same fallback falls [] a h = refl
  arms_same fallback falls (l ∷ ls) a h =
      let d = falls && quiet s ls in
      arms_same fallback falls ls (arm_to s low f fallback d l a) h.1
      ∙ ap (arms_to s low g fallback falls ls) (arm_same fallback d l a h.0)

  ranges-same : (default : ℕ) (es : List Split.Entry) (a : Made) → AllIn Agree (range_lists es)
      → ranges_to s low f default es a ≡ ranges_to s low g default es a
  unfolding ranges_to any_split
  ranges-same default [] a h = refl
  ranges-same default (e ∷ es) a h = arms_same default false (range_lists (e ∷ es)) (emit (Switch 1) no_pos 0 a) h

-- bodies, where wishes agree on n blocks from k on
module _ (f g : ℕ → Bool) where
  abbrev AgreeFrom : ℕ → ℕ → Type 0
  AgreeFrom n k = (i : ℕ) → k ≤ i → i < k + n → f i ≡ g i

  none-same : (n k : ℕ) → AgreeFrom n k → none_from f n k ≡ none_from g n k
  unfolding none_from
  none-same zero k h = refl
  none-same (suc n) k h =
      by (f k) refl (h k (omega arith) (omega arith)) (none-same n (suc k) (λ i l m. h i (omega arith) (omega arith)))
    where
      by : (t : Bool) → f k ≡ t → f k ≡ g k → none_from f n (suc k) ≡ none_from g n (suc k) → none_from f (suc n) k ≡ none_from g (suc n) k
      by true e q more = none-wanted f n k e ∙ sym (none-wanted g n k (sym q ∙ e))
      by false e q more = none_passed f n k e ∙ more ∙ sym (none_passed g n k (sym q ∙ e))

  bodies-same : (s : List ℕ) (low : Low) (end : ℕ) (falls : Bool) (n k : ℕ) (a : Made) → AgreeFrom n k
      → bodies_to s low f end falls n k a ≡ bodies_to s low g end falls n k a
  unfolding bodies_to
  bodies-same s low end falls zero k a h = refl
  bodies-same s low end falls (suc n) k a h =
      by (f k) refl (h k (omega arith) (omega arith)) (none-same n (suc k) (λ i l m. h i (omega arith) (omega arith)))
      (λ x. bodies-same s low end falls n (suc k) x (λ i l m. h i (omega arith) (omega arith)))
    where
      by : (t : Bool) → f k ≡ t → f k ≡ g k → none_from f n (suc k) ≡ none_from g n (suc k)
          → ((x : Made) → bodies_to s low f end falls n (suc k) x ≡ bodies_to s low g end falls n (suc k) x)
          → bodies_to s low f end falls (suc n) k a ≡ bodies_to s low g end falls (suc n) k a
      by true e q z more =
          bodies-wanted f n k s low end falls a e
          ∙ more (body_to s low end (falls && none_from f n (suc k)) k a)
          ∙ ap (λ t. bodies_to s low g end falls n (suc k) (body_to s low end (falls && t) k a)) z
          ∙ sym (bodies-wanted g n k s low end falls a (sym q ∙ e))
      by false e q z more =
          bodies-passed f n k s low end falls a e ∙ more a ∙ sym (bodies-passed g n k s low end falls a (sym q ∙ e))

-- what agrees on blocks below n agrees on lists of such blocks
module _ (f g : ℕ → ℕ) (n : ℕ) (h : (k : ℕ) → k < n → f k ≡ g k) where
  agree-list : (ks : List ℕ) → All (λ k. k < n) ks → All (λ k. f k ≡ g k) ks
  agree-list [] l = tt
  agree-list (k ∷ ks) l = (h k l.0, agree-list ks l.1)

  pub agree-lists : (ls : List (List ℕ)) → AllIn (λ k. k < n) ls → AllIn (λ k. f k ≡ g k) ls
  agree-lists [] l = tt
  agree-lists (ks ∷ ls) l = (agree-list ks l.0, agree-lists ls l.1)

-- the whole
module _ (s : List ℕ) (low : Low) (f g : ℕ → ℕ) (fallback default end : ℕ) (es : List Split.Entry) (def : ℕ) (v w : ℕ → Bool)
    (a : Made) where
  abbrev to : (ℕ → ℕ) → Targets
  to body = record { body = body; fallback = fallback; default = default; end = end }

  pub switch-same : AllIn (λ k. k < block_count s) (case_lists s) → AllIn (λ k. k < block_count s) (range_lists es)
      → ((k : ℕ) → k < block_count s → f k ≡ g k) → ((k : ℕ) → k < block_count s → v k ≡ w k)
      → switch_to s low (to f) es def v a ≡ switch_to s low (to g) es def w a
  unfolding switch_to chains_to
  switch-same c r h q =
      let x = subject_to low a in
      let rest : (ℕ → Bool) → Made → Made = λ u y. close_to (missing_to def (bodies_to s low u end (has_default def) (block_count s) 0 y)) in
      ap (λ y. rest v (ranges_to s low f default es y))
      (arms_same s low f g fallback (any_split es) (case_lists s) x (agree-lists f g (block_count s) h (case_lists s) c))
      ∙ ap (rest v) (ranges-same s low f g default es _ (agree-lists f g (block_count s) h (range_lists es) r))
      ∙ ap (λ y. close_to (missing_to def y))
      (bodies-same v w s low end (has_default def) (block_count s) 0 _ (λ i l m. q i (omega arith)))
