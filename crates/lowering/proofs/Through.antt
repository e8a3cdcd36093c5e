-- The source rule in continuation style: a list of blocks gone through from the front, with what comes after it. A chain of guards, an
-- entry and a table's arms tell the same.
use Prim.Native.Nat.{ℕ, suc, ◌+◌}
use mathlib.Core.Path.{◌≡◌, refl, sym, ap, ap₂, ◌∙◌, subst}
use mathlib.Core.Bool.{Bool, true, false}
use mathlib.Core.Logic.{⊎_elim}
use mathlib.Core.List.Memᴰ
use mathlib.Core.List.{List, [], ◌∷◌, ◌++◌, Memᴰ}
use lib.Dec.{eqb}
use Rattle.sheet.specs.Node.{kind, field_a}
use Rattle.lowering.specs.Kinds.{bool_kind}
use Rattle.bytecode.specs.declared.Chain.{Chain}
use Rattle.lowering.specs.Out.{Rec}
use Rattle.lowering.specs.SwitchSheet.{default_block, guard_of}
use Rattle.lowering.specs.Arms.{Try, End, taken, declined, idle, Entry, to_body, to_chain, to_fallback, Guard, never, always, guard_kind}
use Rattle.lowering.specs.Arms.{entry_extent, Arm}
use Rattle.lowering.specs.Arms as Arms
use Rattle.lowering.specs.SwitchTables.{entry_of}
use Rattle.lowering.specs.Guided.{Event, tried, reached}
use Rattle.lowering.specs.SourceRule.{default_events, is_bool, is_false, go_through}
use Rattle.lowering.proofs.Lowered.{Chosen, none_left, falls-on, passed, settled, asked, EntryAt, ArmsAt}
use Rattle.lowering.proofs.SwitchEntries.{blocks_of, finds}
use Rattle.lowering.proofs.TellsBranch.{by_answer}

-- block k by what its guard is: passed over, its body named, or tried
abbrev pub by_guard : Guard → ℕ → Bool → List Event → List Event → List Event
by_guard never k answer over on = over
by_guard always k answer over on = reached k ∷ []
by_guard Arms.tried k answer over on = tried k ∷ by_answer answer (reached k ∷ []) on

-- the list from the front, with n answers taken before, and what comes after it
abbrev pub through : List ℕ → (ℕ → Bool) → (ℕ → List Event) → ℕ → List ℕ → List Event
through s answers after n [] = after n
through s answers after n (k ∷ ks) =
    by_guard (guard_kind s (guard_of s k)) k (answers n) (through s answers after n ks) (through s answers after (suc n) ks)

-- the rule's test and the lowering's test of a guard are the same
by_tests : (t f a : Bool) (k : ℕ) (over on : List Event)
    → elim t [
      | true ↦ elim f [ true ↦ over | false ↦ reached k ∷ [] ]
      | false ↦ tried k ∷ elim a [ true ↦ reached k ∷ [] | false ↦ on ]
    ]
    ≡ by_guard (elim t [ true ↦ elim f [ true ↦ never | false ↦ always ] | false ↦ Arms.tried ]) k a over on
by_tests true true a k over on = refl
by_tests true false a k over on = refl
by_tests false f true k over on = refl
by_tests false f false k over on = refl

module _ (s : List ℕ) (answers : ℕ → Bool) where
  go-cons : (n k : ℕ) (ks : List ℕ)
      → go_through s answers n (k ∷ ks)
      ≡ by_guard (guard_kind s (guard_of s k)) k (answers n) (go_through s answers n ks) (go_through s answers (suc n) ks)
  unfolding go_through is_bool is_false guard_kind
  go-cons n k ks =
      by_tests (eqb (kind s (guard_of s k)) bool_kind) (eqb (field_a s (guard_of s k)) 0) (answers n) k (go_through s answers n ks)
      (go_through s answers (suc n) ks)

  -- a list is gone through, then the rest
  pub go-append : (n : ℕ) (xs ys : List ℕ) → go_through s answers n (xs ++ ys) ≡ through s answers (λ m. go_through s answers m ys) n xs
  go-append n [] ys = refl
  go-append n (k ∷ xs) ys =
      go-cons n k (xs ++ ys)
      ∙ ap₂ (by_guard (guard_kind s (guard_of s k)) k (answers n)) (go-append n xs ys) (go-append (suc n) xs ys)

  pub go-end : (n : ℕ) (xs : List ℕ) → go_through s answers n xs ≡ through s answers (λ m. default_events (default_block s)) n xs
  unfolding go_through
  go-end n [] = refl
  go-end n (k ∷ xs) = go-cons n k xs ∙ ap₂ (by_guard (guard_kind s (guard_of s k)) k (answers n)) (go-end n xs) (go-end (suc n) xs)

-- what a chain of guards tells, and its end
abbrev pub end_events : (ℕ → List Event) → ℕ → End → List Event
end_events after n (taken k) = reached k ∷ []
end_events after n declined = after n
end_events after n idle = after n

abbrev pub tries_events : (ℕ → Bool) → (ℕ → List Event) → ℕ → List Try → End → List Event
tries_events answers after n [] e = end_events after n e
tries_events answers after n (t ∷ ts) e =
    tried t.block ∷ by_answer (answers n) (reached t.block ∷ []) (tries_events answers after (suc n) ts e)

abbrev pub entry_events : (ℕ → Bool) → (ℕ → List Event) → ℕ → Entry → List Event
entry_events answers after n (to_body k) = reached k ∷ []
entry_events answers after n (to_chain b ts e) = tries_events answers after n ts e
entry_events answers after n to_fallback = after n

-- a chain tells what its list says
module _ (s : List ℕ) (answers : ℕ → Bool) (after : ℕ → List Event) where
  -- a list is gone through alike if its first guard is known
  through-by : (n k : ℕ) (ks : List ℕ) (g : Guard) → guard_kind s (guard_of s k) ≡ g
      → by_guard g k (answers n) (through s answers after n ks) (through s answers after (suc n) ks) ≡ through s answers after n (k ∷ ks)
  through-by n k ks g h =
      ap (λ (x : Guard). by_guard x k (answers n) (through s answers after n ks) (through s answers after (suc n) ks)) (sym h)

  chosen-through : {ks : List ℕ} {ts : List Try} {e : End} → Chosen s ks ts e → (n : ℕ)
      → tries_events answers after n ts e ≡ through s answers after n ks
  chosen-through none_left n = refl
  chosen-through falls-on n = refl
  chosen-through (passed {k = k} {ks = ks} h c) n = chosen-through c n ∙ through-by n k ks never h
  chosen-through (settled {k = k} {ks = ks} h) n = through-by n k ks always h
  chosen-through (asked {t = t} {ks = ks} h c) n =
      ap (λ (l : List Event). tried t.block ∷ by_answer (answers n) (reached t.block ∷ []) l) (chosen-through c (suc n))
      ∙ through-by n t.block ks Arms.tried h

  entry-through : (rec : Rec) (hs : List Chain) (b : ℕ) (ks : List ℕ) (e : Entry) → EntryAt s rec hs b ks e → (n : ℕ)
      → entry_events answers after n e ≡ through s answers after n ks
  entry-through rec hs b ks (to_body k) h n = chosen-through h n
  entry-through rec hs b ks (to_chain p ts e) h n = chosen-through h.chosen n
  entry-through rec hs b ks to_fallback h n = chosen-through h n

  among-through : (rec : Rec) (hs : List Chain) (b : ℕ) (arms : List Arm) → ArmsAt s rec hs b arms → (a : Arm) → Memᴰ a arms → (n : ℕ)
      → entry_events answers after n a.entry ≡ through s answers after n a.blocks
  among-through rec hs b [] h a m n = absurd (Memᴰ.not-nil m)
  among-through rec hs b (x ∷ arms) h a m n =
      ⊎_elim
      (λ e. subst (λ (y : Arm). entry_events answers after n y.entry ≡ through s answers after n y.blocks) (sym e)
      (entry-through rec hs b x.blocks x.entry h.0 n))
      (λ k. among-through rec hs (b + entry_extent x.entry) arms h.1 a k n)
      (Memᴰ.cases_cons m)

  -- the entry that a list of blocks finds tells what the list says
  pub found-through : (rec : Rec) (hs : List Chain) (b : ℕ) (arms : List Arm) → ArmsAt s rec hs b arms → (l : List ℕ)
      → Memᴰ l (blocks_of arms) → (n : ℕ)
      → entry_events answers after n (entry_of l arms) ≡ through s answers after n l
  found-through rec hs b arms h l m n =
      let f = finds l arms m in
      ap (entry_events answers after n) f.entry-is
      ∙ among-through rec hs b arms h f.arm f.among n
      ∙ ap (through s answers after n) f.blocks-are
