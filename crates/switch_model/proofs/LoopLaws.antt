-- Laws of the parts of a switch in the shapes of loops: what is left, with i entries of a list passed and entry i next, gives the whole.
use Prim.Native.Nat.{ℕ, zero, suc, ◌+◌, ◌≤◌, ◌<◌}
use mathlib.Core.Path.{◌≡◌, refl, ap, ◌∙◌}
use mathlib.Core.Bool.{Bool, true, false, ◌&&◌, ◌||◌}
use mathlib.Core.List.{List, [], ◌∷◌}
use native.Mathlib.Numerals.{add-one}
use native.Mathlib.Nat.{not-suc-le-zero, le_of_suc-le-suc}
use lib.ListN.{length, drop, get_or}
use lib.Seq.{drop-cons}
use Rattle.bytecode.specs.declared.Op.TheVariants.{Jump}
use Rattle.lowering.specs.Code.{no_pos}
use Rattle.lowering.specs.SwitchSheet.{guard_of}
use Rattle.lowering.specs.Arms.{End, Guard, never, always, tried, guard_kind}
use Rattle.expr_model.specs.Made.{Made, emit}
use Rattle.expr_model.specs.Construct.{Low}
use Rattle.expr_model.proofs.Rising.{Grown, Rising, grown-refl, grown-trans, emit-rises}
use Rattle.switch_model.specs.Change.{jump_to, try_to, tries_to, end_of, any_tried, end_to, arm_to, quiet, arms_to}
use Rattle.switch_model.proofs.TryLaws.{
  tries-never,
  tries-always,
  tries-tried,
  end-never,
  end-always,
  end-tried,
  any-never,
  any-always,
  any-tried,
}
use Rattle.switch_model.proofs.GrowLaws.{jump-rises, try-rises}

-- ---- lists by place

pub drop_at : {A : Type 0} (xs : List A) (i : ℕ) (d : A) → i < length xs → drop i xs ≡ get_or xs i d ∷ drop (i + 1) xs
drop_at xs i d h = rw add-one (drop-cons xs i d h)

pub drop_past : {A : Type 0} (xs : List A) (i : ℕ) → length xs ≤ i → drop i xs ≡ []
drop_past [] zero h = refl
drop_past [] (suc i) h = refl
drop_past (x ∷ xs) zero h = absurd (not-suc-le-zero h)
drop_past (x ∷ xs) (suc i) h = drop_past xs i (le_of_suc-le-suc h)

-- ---- the blocks of a list

module _ (s : List ℕ) (ks : List ℕ) (i : ℕ) where
  -- the guard of block i
  abbrev pub guard_at : Guard
  guard_at = guard_kind s (guard_of s (get_or ks i 0))

-- ---- a chain as one loop: `any` says that a guard was tried before

unfoldable pub arm_from : List ℕ → Low → (ℕ → ℕ) → ℕ → Bool → Bool → List ℕ → Made → Made
arm_from s low body fallback drop any [] a = elim any [ true ↦ jump_to drop fallback a | false ↦ a ]
arm_from s low body fallback drop any (k ∷ ks) a =
    elim (guard_kind s (guard_of s k)) [
      | never ↦ arm_from s low body fallback drop any ks a
      | always ↦ elim any [ true ↦ emit (Jump (body k)) no_pos 0 a | false ↦ a ]
      | tried ↦ arm_from s low body fallback drop true ks (try_to s low body k a)
    ]

module _ (s : List ℕ) (low : Low) (body : ℕ → ℕ) (fallback : ℕ) (drops : Bool) where
  module _ (k : ℕ) (ks : List ℕ) (any : Bool) (a : Made) where
    from-never : guard_kind s (guard_of s k) ≡ never
        → arm_from s low body fallback drops any (k ∷ ks) a ≡ arm_from s low body fallback drops any ks a
    unfolding arm_from
    from-never h = rw (h, arm_from)

    from-always : guard_kind s (guard_of s k) ≡ always
        → arm_from s low body fallback drops any (k ∷ ks) a ≡ elim any [ true ↦ emit (Jump (body k)) no_pos 0 a | false ↦ a ]
    unfolding arm_from
    from-always h = rw (h, arm_from)

    from-tried : guard_kind s (guard_of s k) ≡ tried
        → arm_from s low body fallback drops any (k ∷ ks) a ≡ arm_from s low body fallback drops true ks (try_to s low body k a)
    unfolding arm_from
    from-tried h = rw (h, arm_from)

  -- the same by the end of the list
  abbrev parted : Bool → End → Made → Made → Made
  parted t e x a = elim t [ true ↦ end_to body fallback drops e x | false ↦ a ]

  from_parts : (ks : List ℕ) (any : Bool) (a : Made)
      → arm_from s low body fallback drops any ks a ≡ parted (any || any_tried s ks) (end_of s ks) (tries_to s low body ks a) a
  unfolding arm_from any_tried end_of tries_to end_to
  from_parts [] true a = refl
  from_parts [] false a = refl
  from_parts (k ∷ ks) any a = by (guard_kind s (guard_of s k)) refl any (from_parts ks)
    where
      by : (g : Guard) → guard_kind s (guard_of s k) ≡ g → (any : Bool)
          → ((any : Bool) (a : Made) → arm_from s low body fallback drops any ks a
          ≡ parted (any || any_tried s ks) (end_of s ks) (tries_to s low body ks a) a)
          → arm_from s low body fallback drops any (k ∷ ks) a
          ≡ parted (any || any_tried s (k ∷ ks)) (end_of s (k ∷ ks)) (tries_to s low body (k ∷ ks) a) a
      by never h any more =
          rw (from-never k ks any a h, any-never s k ks h, end-never s k ks h, tries-never s k ks low body a h) (more any a)
      by always h true more = rw (from-always k ks true a h, end-always s k ks h, tries-always s k ks low body a h)
      by always h false more = rw (from-always k ks false a h, any-always s k ks h)
      by tried h true more =
          rw (from-tried k ks true a h, end-tried s k ks h, tries-tried s k ks low body a h) (more true (try_to s low body k a))
      by tried h false more =
          rw (from-tried k ks false a h, any-tried s k ks h, end-tried s k ks h, tries-tried s k ks low body a h)
          (more true (try_to s low body k a))

  module _ (ks : List ℕ) where
    pub arm_start : (a : Made) → arm_from s low body fallback drops false (drop 0 ks) a ≡ arm_to s low body fallback drops ks a
    unfolding arm_to
    arm_start a = from_parts ks false a

    module _ (i : ℕ) (a : Made) where
      pub arm-at-never : (any : Bool) → i < length ks → guard_at s ks i ≡ never
          → arm_from s low body fallback drops any (drop i ks) a ≡ arm_from s low body fallback drops any (drop (i + 1) ks) a
      arm-at-never any l h =
          ap (λ xs. arm_from s low body fallback drops any xs a) (drop_at ks i 0 l) ∙ from-never (get_or ks i 0) (drop (i + 1) ks) any a h

      pub arm-at-tried : (any : Bool) → i < length ks → guard_at s ks i ≡ tried
          → arm_from s low body fallback drops any (drop i ks) a
          ≡ arm_from s low body fallback drops true (drop (i + 1) ks) (try_to s low body (get_or ks i 0) a)
      arm-at-tried any l h =
          ap (λ xs. arm_from s low body fallback drops any xs a) (drop_at ks i 0 l) ∙ from-tried (get_or ks i 0) (drop (i + 1) ks) any a h

      -- a constant true guard: the jump to its body, if a guard was tried before
      pub arm-taken : i < length ks → guard_at s ks i ≡ always
          → arm_from s low body fallback drops true (drop i ks) a ≡ emit (Jump (body (get_or ks i 0))) no_pos 0 a
      arm-taken l h =
          ap (λ xs. arm_from s low body fallback drops true xs a) (drop_at ks i 0 l) ∙ from-always (get_or ks i 0) (drop (i + 1) ks) true a h

      pub arm-straight : i < length ks → guard_at s ks i ≡ always → arm_from s low body fallback drops false (drop i ks) a ≡ a
      arm-straight l h =
          ap (λ xs. arm_from s low body fallback drops false xs a) (drop_at ks i 0 l) ∙ from-always (get_or ks i 0) (drop (i + 1) ks) false a h

      -- the end of the list
      pub arm-declined : length ks ≤ i → arm_from s low body fallback drops true (drop i ks) a ≡ jump_to drops fallback a
      unfolding arm_from
      arm-declined l = ap (λ xs. arm_from s low body fallback drops true xs a) (drop_past ks i l)

      pub arm-empty : length ks ≤ i → arm_from s low body fallback drops false (drop i ks) a ≡ a
      unfolding arm_from
      arm-empty l = ap (λ xs. arm_from s low body fallback drops false xs a) (drop_past ks i l)

-- it only adds
module _ (s : List ℕ) (low : Low) (body : ℕ → ℕ) (fallback : ℕ) (drops : Bool) where
  pub from-rises : ((j : ℕ) → Rising (low j)) → (any : Bool) (ks : List ℕ) → Rising (arm_from s low body fallback drops any ks)
  unfolding arm_from
  from-rises L true [] a = jump-rises drops fallback a
  from-rises L false [] a = grown-refl a
  from-rises L any (k ∷ ks) a = by (guard_kind s (guard_of s k)) refl any (λ t. from-rises L t ks)
    where
      by : (g : Guard) → guard_kind s (guard_of s k) ≡ g → (any : Bool) → ((t : Bool) → Rising (arm_from s low body fallback drops t ks))
          → Grown a (arm_from s low body fallback drops any (k ∷ ks) a)
      by never h any more = rw (from-never s low body fallback drops k ks any a h) (more any a)
      by always h true more = rw (from-always s low body fallback drops k ks true a h) (emit-rises (Jump (body k)) no_pos 0 a)
      by always h false more = rw (from-always s low body fallback drops k ks false a h) (grown-refl a)
      by tried h any more =
          rw (from-tried s low body fallback drops k ks any a h)
          (grown-trans (try-rises s low L body k a) (more true (try_to s low body k a)))

pub jump_kept : (t : ℕ) (a : Made) → jump_to false t a ≡ emit (Jump t) no_pos 0 a
unfolding jump_to
jump_kept t a = refl

-- ---- lists of blocks

module _ (s : List ℕ) (low : Low) (body : ℕ → ℕ) (fallback : ℕ) (falls : Bool) (ls : List (List ℕ)) (i : ℕ) (a : Made) where
  pub arms_more : i < length ls
      → arms_to s low body fallback falls (drop i ls) a
      ≡ arms_to s low body fallback falls (drop (i + 1) ls)
      (arm_to s low body fallback (falls && quiet s (drop (i + 1) ls)) (get_or ls i []) a)
  unfolding arms_to
  arms_more l = ap (λ xs. arms_to s low body fallback falls xs a) (drop_at ls i [] l)

  pub arms-done : length ls ≤ i → arms_to s low body fallback falls (drop i ls) a ≡ a
  unfolding arms_to
  arms-done l = ap (λ xs. arms_to s low body fallback falls xs a) (drop_past ls i l)
