-- The chains of lists of blocks, as a change, with the last jump dropped or not: what the definition gives for them.
use Prim.Native.Nat.{ℕ, ◌+◌, ◌≤◌}
use mathlib.Core.Path.{◌≡◌, refl, sym, ap, ◌∙◌}
use mathlib.Core.Bool.{Bool, true, false, ◌&&◌, true≢false}
use mathlib.Core.List.{List, [], ◌∷◌, ◌++◌, append_assoc, append-nil}
use native.Mathlib.Omega.{arith}
use lib.ListN.{length, length-append}
use borrow.Author.Tests.{eq-eqb, ne_eqb}
use Rattle.lowering.proofs.SwitchPlaces.{entry_length}
use Rattle.lowering.specs.Code.{Code}
use Rattle.lowering.specs.Pools.{Pools}
use Rattle.lowering.specs.Out.{Rec}
use Rattle.lowering.specs.Arms.{Entry, Arm, Arms, entry_extent, arms_extent, arm_chains, drop_entry, drop_idle_jump}
use Rattle.lowering.specs.Bodies.{Body, body_at}
use Rattle.lowering.specs.SwitchCode.{entry_code, arms_code}
use Rattle.expr_model.specs.Made.{Made, made}
use Rattle.expr_model.specs.Construct.{Low}
use Rattle.expr_model.proofs.Put.{low_of, made-path}
use Rattle.switch_model.specs.Change.{any_tried, arm_to, quiet, arms_to}
use Rattle.switch_model.proofs.ArmLaws.{entry_at, arm_pools, list-extent, list-bare, list-pools, arm-none, arm_is}

-- ---- lists without a guard to try

module _ (s : List ℕ) (l : List ℕ) (ls : List (List ℕ)) where
  pub quiet-some : any_tried s l ≡ true → quiet s (l ∷ ls) ≡ false
  unfolding quiet
  quiet-some h = rw (h, quiet)

  pub quiet_none : any_tried s l ≡ false → quiet s (l ∷ ls) ≡ quiet s ls
  unfolding quiet
  quiet_none h = rw (h, quiet)

  -- the first of quiet lists
  pub quiet-first : quiet s (l ∷ ls) ≡ true → any_tried s l ≡ false
  quiet-first h = by (any_tried s l) refl
    where
      by : (t : Bool) → any_tried s l ≡ t → any_tried s l ≡ false
      by true e = absurd (true≢false (sym h ∙ quiet-some e))
      by false e = e

  pub quiet-rest : quiet s (l ∷ ls) ≡ true → quiet s ls ≡ true
  quiet-rest h = sym (quiet_none (quiet-first h)) ∙ h

module _ (s : List ℕ) (low : Low) (body : ℕ → ℕ) (fallback : ℕ) (falls : Bool) where
  arms-quiet : (ls : List (List ℕ)) (a : Made) → quiet s ls ≡ true → arms_to s low body fallback falls ls a ≡ a
  unfolding arms_to
  arms-quiet [] a h = refl
  arms-quiet (l ∷ ls) a h =
      ap (arms_to s low body fallback falls ls) (arm-none s low body fallback (falls && quiet s ls) l a (quiet-first s l ls h))
      ∙ arms-quiet ls a (quiet-rest s l ls h)

module _ (s : List ℕ) (rec : Rec) where
  quiet-pools : (ls : List (List ℕ)) (b : ℕ) (p : Pools) → quiet s ls ≡ true → (arm_chains s rec ls b p).pools ≡ p
  unfolding arm_chains
  quiet-pools [] b p h = refl
  quiet-pools (l ∷ ls) b p h =
      quiet-pools ls (b + entry_extent (entry_at s rec l b p)) (arm_pools s rec l b p) (quiet-rest s l ls h)
      ∙ list-pools s rec l b p (quiet-first s l ls h)

  quiet-extent : (ls : List (List ℕ)) (b : ℕ) (p : Pools) → quiet s ls ≡ true → arms_extent (arm_chains s rec ls b p).arms ≡ 0
  unfolding arm_chains arms_extent
  quiet-extent [] b p h = refl
  quiet-extent (l ∷ ls) b p h =
      let z = (list-bare s rec l b p [] 0 (quiet-first s l ls h)).extent in
      let r = quiet-extent ls (b + entry_extent (entry_at s rec l b p)) (arm_pools s rec l b p) (quiet-rest s l ls h) in
      omega arith

  loud-extent : (ls : List (List ℕ)) (b : ℕ) (p : Pools) → quiet s ls ≡ false → 1 ≤ arms_extent (arm_chains s rec ls b p).arms
  unfolding arm_chains arms_extent quiet
  loud-extent [] b p h = absurd (true≢false h)
  loud-extent (l ∷ ls) b p h =
      by (any_tried s l) refl (loud-extent ls (b + entry_extent (entry_at s rec l b p)) (arm_pools s rec l b p))
    where
      rest : ℕ
      rest = arms_extent (arm_chains s rec ls (b + entry_extent (entry_at s rec l b p)) (arm_pools s rec l b p)).arms

      by : (t : Bool) → any_tried s l ≡ t → (quiet s ls ≡ false → 1 ≤ rest) → 1 ≤ entry_extent (entry_at s rec l b p) + rest
      by true e more = let z = list-extent s rec l b p e in omega arith
      by false e more = let z = more (sym (quiet_none s l ls e) ∙ h) in omega arith

  quiet-code : (bodies : List Body) (fallback : ℕ) (ls : List (List ℕ)) (b : ℕ) (p : Pools) → quiet s ls ≡ true
      → arms_code bodies fallback (arm_chains s rec ls b p).arms ≡ []
  unfolding arm_chains arms_code
  quiet-code bodies fallback [] b p h = refl
  quiet-code bodies fallback (l ∷ ls) b p h =
      rw ((list-bare s rec l b p bodies fallback (quiet-first s l ls h)).code false)
      (quiet-code bodies fallback ls (b + entry_extent (entry_at s rec l b p)) (arm_pools s rec l b p) (quiet-rest s l ls h))

-- ---- the dropped jump

abbrev pub arms_if : Bool → List Arm → List Arm
arms_if true as' = drop_idle_jump as'
arms_if false as' = as'

abbrev arm : List ℕ → Entry → Arm
arm l e = record { blocks = l; entry = e }

drop_here : (l : List ℕ) (e : Entry) (as' : List Arm) → arms_extent as' ≡ 0 → drop_idle_jump (arm l e ∷ as') ≡ arm l (drop_entry e) ∷ as'
unfolding drop_idle_jump
drop_here l e as' h = rw (eq-eqb (arms_extent as') 0 h, drop_idle_jump)

drop-later : (l : List ℕ) (e : Entry) (as' : List Arm) → 1 ≤ arms_extent as' → drop_idle_jump (arm l e ∷ as') ≡ arm l e ∷ drop_idle_jump as'
unfolding drop_idle_jump
drop-later l e as' h = let z : (arms_extent as' ≡ 0 → ⊥) = λ e. omega arith in rw (ne_eqb (arms_extent as') 0 z, drop_idle_jump)

-- ---- the change

module _ (s : List ℕ) (rec : Rec) (bodies : List Body) (fallback : ℕ) where
  abbrev pub arms_made : Bool → List (List ℕ) → Code → Pools → Made
  arms_made falls ls c p =
      let r = arm_chains s rec ls (length c) p in
      made (c ++ arms_code bodies fallback (arms_if falls r.arms)) r.pools 1

  -- no jump is dropped from the first list, and as behind it
  goes-on : (falls : Bool) (l : List ℕ) (ls : List (List ℕ)) (c : Code) (p : Pools)
      → ((c : Code) (p : Pools) → arms_to s (low_of rec) (λ k. body_at k bodies) fallback falls ls (made c p 1) ≡ arms_made falls ls c p)
      → arms_to s (low_of rec) (λ k. body_at k bodies) fallback falls ls
      (arm_to s (low_of rec) (λ k. body_at k bodies) fallback false l (made c p 1))
      ≡ (let e = entry_at s rec l (length c) p in
      let r = arm_chains s rec ls (length c + entry_extent e) (arm_pools s rec l (length c) p) in
      made (c ++ (entry_code bodies fallback e ++ arms_code bodies fallback (arms_if falls r.arms))) r.pools 1)
  goes-on falls l ls c p more =
      let e = entry_at s rec l (length c) p in
      let q = arm_pools s rec l (length c) p in
      let x = c ++ entry_code bodies fallback e in
      let go : ℕ → Arms = λ b. arm_chains s rec ls b q in
      let n : length x ≡ length c + entry_extent e =
      omega (arith, length-append c (entry_code bodies fallback e), entry_length bodies fallback e) in
      ap (arms_to s (low_of rec) (λ k. body_at k bodies) fallback falls ls) (arm_is s rec bodies fallback false l c p)
      ∙ more x q
      ∙ ap (λ b. made (x ++ arms_code bodies fallback (arms_if falls (go b).arms)) (go b).pools 1) n
      ∙ made-path
      (append_assoc c (entry_code bodies fallback e) (arms_code bodies fallback (arms_if falls (go (length c + entry_extent e)).arms)))
      refl refl

  keeps-is : (ls : List (List ℕ)) (c : Code) (p : Pools)
      → arms_to s (low_of rec) (λ k. body_at k bodies) fallback false ls (made c p 1) ≡ arms_made false ls c p
  unfolding arms_to arm_chains arms_code
  keeps-is [] c p = made-path (sym (append-nil c)) refl refl
  keeps-is (l ∷ ls) c p = goes-on false l ls c p (keeps-is ls)

  drops-is : (ls : List (List ℕ)) (c : Code) (p : Pools)
      → arms_to s (low_of rec) (λ k. body_at k bodies) fallback true ls (made c p 1) ≡ arms_made true ls c p
  unfolding arms_to arm_chains arms_code drop_idle_jump
  drops-is [] c p = made-path (sym (append-nil c)) refl refl
  drops-is (l ∷ ls) c p = by (quiet s ls) refl (drops-is ls)
    where
      e : Entry
      e = entry_at s rec l (length c) p

      r : Arms
      r = arm_chains s rec ls (length c + entry_extent e) (arm_pools s rec l (length c) p)

      by : (t : Bool) → quiet s ls ≡ t
          → ((c : Code) (p : Pools) → arms_to s (low_of rec) (λ k. body_at k bodies) fallback true ls (made c p 1) ≡ arms_made true ls c p)
          → arms_to s (low_of rec) (λ k. body_at k bodies) fallback true ls
          (arm_to s (low_of rec) (λ k. body_at k bodies) fallback (quiet s ls) l (made c p 1))
          ≡ made (c ++ arms_code bodies fallback (drop_idle_jump (arm l e ∷ r.arms))) r.pools 1
      by true h more =
          let b = length c + entry_extent e in
          let q = arm_pools s rec l (length c) p in
          rw (h, drop_here l e r.arms (quiet-extent s rec ls b q h))
          (arms-quiet s (low_of rec) (λ k. body_at k bodies) fallback true ls _ h
          ∙ arm_is s rec bodies fallback true l c p
          ∙ made-path
          (ap (λ (x : Code). c ++ x) (sym (append-nil (entry_code bodies fallback (drop_entry e)))
          ∙ ap (λ (x : Code). entry_code bodies fallback (drop_entry e) ++ x) (sym (quiet-code s rec bodies fallback ls b q h))))
          (sym (quiet-pools s rec ls b q h)) refl)
      by false h more =
          let b = length c + entry_extent e in
          let q = arm_pools s rec l (length c) p in
          rw (h, drop-later l e r.arms (loud-extent s rec ls b q h)) (goes-on true l ls c p more)

  pub arms-is : (falls : Bool) (ls : List (List ℕ)) (c : Code) (p : Pools)
      → arms_to s (low_of rec) (λ k. body_at k bodies) fallback falls ls (made c p 1) ≡ arms_made falls ls c p
  arms-is true ls c p = drops-is ls c p
  arms-is false ls c p = keeps-is ls c p
