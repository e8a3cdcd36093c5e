-- The blocks that arms name: those of their guards, of their ends and of their entries. They are the wanted ones, and blocks of the lists.
use Prim.Native.Nat.{ℕ, ◌+◌}
use mathlib.Core.Path.{◌≡◌, refl, sym, subst}
use mathlib.Core.Bool.{true, false≢true}
use mathlib.Core.List.Memᴰ
use mathlib.Core.List.{List, [], ◌∷◌, ◌++◌, Memᴰ}
use mathlib.Core.Logic.{⊎_elim}
use lib.Dec.{eqb}
use borrow.Author.Tests.{eqb-true, eq-eqb}
use Rattle.laws.proofs.Bool.{or_left, or_right, or-one}
use Rattle.bytecode.specs.declared.Chain.{Chain}
use Rattle.lowering.specs.Out.{Rec}
use Rattle.lowering.specs.Arms.{Try, End, taken, declined, idle, Entry, to_body, to_chain, to_fallback, Arm, entry_extent}
use Rattle.lowering.specs.Bodies.{try_wants, end_wants, entry_wants, wanted}
use Rattle.lowering.proofs.Lowered.{Chosen, none_left, falls-on, passed, settled, asked, EntryAt, ArmsAt}

-- ---- a fact of each block that is named

abbrev pub TryNames : (ℕ → Type 0) → List Try → Type 0
TryNames P [] = Prim.Unit {0}
TryNames P (t ∷ ts) = P t.block × TryNames P ts

abbrev pub EndNames : (ℕ → Type 0) → End → Type 0
EndNames P (taken k) = P k
EndNames P declined = Prim.Unit {0}
EndNames P idle = Prim.Unit {0}

abbrev pub EntryNames : (ℕ → Type 0) → Entry → Type 0
EntryNames P (to_body k) = P k
EntryNames P (to_chain b ts e) = TryNames P ts × EndNames P e
EntryNames P to_fallback = Prim.Unit {0}

abbrev pub ArmNames : (ℕ → Type 0) → List Arm → Type 0
ArmNames P [] = Prim.Unit {0}
ArmNames P (a ∷ arms) = EntryNames P a.entry × ArmNames P arms

-- ---- one of two tests passes

-- ---- a block that is wanted is named

module _ (P : ℕ → Type 0) (k : ℕ) where
  try-named : (ts : List Try) → TryNames P ts → try_wants k ts ≡ true → P k
  unfolding try_wants
  try-named [] n h = absurd (false≢true h)
  try-named (t ∷ ts) n h =
      or-one (eqb k t.block) (try_wants k ts) h (λ e. subst P (sym (eqb-true k t.block e)) n.0) (try-named ts n.1)

  end-named : (e : End) → EndNames P e → end_wants k e ≡ true → P k
  unfolding end_wants
  end-named (taken j) n h = subst P (sym (eqb-true k j h)) n
  end-named declined n h = absurd (false≢true h)
  end-named idle n h = absurd (false≢true h)

  entry_named : (e : Entry) → EntryNames P e → entry_wants k e ≡ true → P k
  unfolding entry_wants
  entry_named (to_body j) n h = subst P (sym (eqb-true k j h)) n
  entry_named (to_chain b ts e) n h = or-one (try_wants k ts) (end_wants k e) h (try-named ts n.0) (end-named e n.1)
  entry_named to_fallback n h = absurd (false≢true h)

  pub wanted-named : (arms : List Arm) → ArmNames P arms → wanted k arms ≡ true → P k
  unfolding wanted
  wanted-named [] n h = absurd (false≢true h)
  wanted-named (a ∷ arms) n h =
      or-one (entry_wants k a.entry) (wanted k arms) h (entry_named a.entry n.0) (wanted-named arms n.1)

-- ---- a block that is named is wanted

module _ (P Q : ℕ → Type 0) where
  try-wants : (ts : List Try) → TryNames P ts → ((k : ℕ) → try_wants k ts ≡ true → P k → Q k) → TryNames Q ts
  unfolding try_wants
  try-wants [] n f = tt
  try-wants (t ∷ ts) n f = (
    f t.block (or_left (eqb t.block t.block) (try_wants t.block ts) (eq-eqb t.block t.block refl)) n.0,
    try-wants ts n.1 (λ k h. f k (or_right (eqb k t.block) (try_wants k ts) h)),
  )

  end-wants : (e : End) → EndNames P e → ((k : ℕ) → end_wants k e ≡ true → P k → Q k) → EndNames Q e
  unfolding end_wants
  end-wants (taken j) n f = f j (eq-eqb j j refl) n
  end-wants declined n f = tt
  end-wants idle n f = tt

  entry-wants : (e : Entry) → EntryNames P e → ((k : ℕ) → entry_wants k e ≡ true → P k → Q k) → EntryNames Q e
  unfolding entry_wants
  entry-wants (to_body j) n f = f j (eq-eqb j j refl) n
  entry-wants (to_chain b ts e) n f = (
    try-wants ts n.0 (λ k h. f k (or_left (try_wants k ts) (end_wants k e) h)),
    end-wants e n.1 (λ k h. f k (or_right (try_wants k ts) (end_wants k e) h)),
  )
  entry-wants to_fallback n f = tt

  pub named-wanted : (arms : List Arm) → ArmNames P arms → ((k : ℕ) → wanted k arms ≡ true → P k → Q k) → ArmNames Q arms
  unfolding wanted
  named-wanted [] n f = tt
  named-wanted (a ∷ arms) n f = (
    entry-wants a.entry n.0 (λ k h. f k (or_left (entry_wants k a.entry) (wanted k arms) h)),
    named-wanted arms n.1 (λ k h. f k (or_right (entry_wants k a.entry) (wanted k arms) h)),
  )

pub wanted-left : (k : ℕ) (xs ys : List Arm) → wanted k xs ≡ true → wanted k (xs ++ ys) ≡ true
unfolding wanted
wanted-left k [] ys h = absurd (false≢true h)
wanted-left k (a ∷ xs) ys h =
    or-one (entry_wants k a.entry) (wanted k xs) h (or_left (entry_wants k a.entry) (wanted k (xs ++ ys)))
    (λ h'. or_right (entry_wants k a.entry) (wanted k (xs ++ ys)) (wanted-left k xs ys h'))

pub wanted-right : (k : ℕ) (xs ys : List Arm) → wanted k ys ≡ true → wanted k (xs ++ ys) ≡ true
unfolding wanted
wanted-right k [] ys h = h
wanted-right k (a ∷ xs) ys h = or_right (entry_wants k a.entry) (wanted k (xs ++ ys)) (wanted-right k xs ys h)

pub names-append : (P : ℕ → Type 0) (xs ys : List Arm) → ArmNames P xs → ArmNames P ys → ArmNames P (xs ++ ys)
names-append P [] ys n m = m
names-append P (a ∷ xs) ys n m = (n.0, names-append P xs ys n.1 m)

-- ---- a block that is named is one of the list

chosen-names : (P : ℕ → Type 0) {s ks : List ℕ} {ts : List Try} {e : End} → Chosen s ks ts e → ((k : ℕ) → Memᴰ k ks → P k)
    → TryNames P ts × EndNames P e
chosen-names P none_left f = (tt, tt)
chosen-names P falls-on f = (tt, tt)
chosen-names P (passed h c) f = chosen-names P c (λ k m. f k (Memᴰ.tail m))
chosen-names P (settled h) f = (tt, f _ (Memᴰ.head refl))
chosen-names P (asked h c) f =
    let r = chosen-names P c (λ k m. f k (Memᴰ.tail m)) in
    ((f _ (Memᴰ.head refl), r.0), r.1)

module _ (P : ℕ → Type 0) (s : List ℕ) (rec : Rec) (hs : List Chain) where
  entry-names : (b : ℕ) (ks : List ℕ) (e : Entry) → EntryAt s rec hs b ks e → ((k : ℕ) → Memᴰ k ks → P k) → EntryNames P e
  entry-names b ks (to_body k) h f = (chosen-names P h f).1
  entry-names b ks (to_chain p ts e) h f = chosen-names P h.chosen f
  entry-names b ks to_fallback h f = tt

  pub arm-names : (b : ℕ) (arms : List Arm) → ArmsAt s rec hs b arms
      → ((a : Arm) → Memᴰ a arms → (k : ℕ) → Memᴰ k a.blocks → P k) → ArmNames P arms
  arm-names b [] h f = tt
  arm-names b (a ∷ arms) h f = (
    entry-names b a.blocks a.entry h.0 (f a (Memᴰ.head refl)),
    arm-names (b + entry_extent a.entry) arms h.1 (λ x m. f x (Memᴰ.tail m)),
  )

pub names-at : (P : ℕ → Type 0) (arms : List Arm) → ArmNames P arms → (a : Arm) → Memᴰ a arms → EntryNames P a.entry
names-at P [] n a m = absurd (Memᴰ.not-nil m)
names-at P (x ∷ arms) n a m =
    ⊎_elim (λ e. subst (λ (y : Arm). EntryNames P y.entry) (sym e) n.0) (names-at P arms n.1 a) (Memᴰ.cases_cons m)
