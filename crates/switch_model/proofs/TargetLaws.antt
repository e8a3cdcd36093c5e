-- Where a table entry goes, from what is known when the chain of its list of blocks is emitted.
use Prim.Native.Nat.{ℕ, ◌+◌}
use mathlib.Core.Path.{◌≡◌, refl, sym, ap, ◌∙◌}
use mathlib.Core.Bool.{Bool, true, false, not, ◌&&◌, true≢false}
use mathlib.Core.List.{List, [], ◌∷◌, ◌++◌, map}
use native.Mathlib.Omega.{arith}
use lib.Dec.{eqb}
use lib.ListN.{length, length-append, get_or}
use Rattle.lowering.proofs.DropLaws.{target-drop}
use Rattle.lowering.proofs.SwitchPlaces.{entry_length}
use Rattle.text.specs.Same.{same}
use Rattle.lowering.specs.Code.{Code}
use Rattle.lowering.specs.Pools.{Pools, first_where}
use Rattle.lowering.specs.Out.{Rec}
use Rattle.lowering.specs.All.{All}
use Rattle.lowering.specs.SwitchSheet.{guard_of}
use Rattle.lowering.specs.Arms.{Try, Guard, never, always, tried, guard_kind, End, taken, declined, idle, Entry, Arm, tries_of, entry_from}
use Rattle.lowering.specs.Arms.{entry_extent, arms_extent, arm_chains, drop_idle_jump}
use Rattle.lowering.specs.Bodies.{Body, body_at}
use Rattle.lowering.specs.SwitchCode.{entry_code}
use Rattle.lowering.specs.SwitchTables.{entry_of, target}
use Rattle.expr_model.specs.Made.{Made, made, place}
use Rattle.expr_model.specs.Construct.{Low}
use Rattle.expr_model.proofs.Put.{low_of}
use Rattle.switch_model.specs.Change.{end_of, any_tried, arm_to, quiet}
use Rattle.switch_model.proofs.TryLaws.{end-never, end-always, end-tried, is_nil, end_is, nil_is}
use Rattle.switch_model.proofs.ArmLaws.{entry_at, arm_pools, arm_is}
use Rattle.switch_model.proofs.ArmsLaws.{arms_if, quiet-first, quiet-rest}
use Rattle.switch_model.proofs.SameLaws.{AllIn, arm_same}

-- the target of a list without a guard to try
unfoldable pub straight : (ℕ → ℕ) → ℕ → End → ℕ
straight body fallback (taken k) = body k
straight body fallback declined = fallback
straight body fallback idle = fallback

-- the target of a list whose chain, if it has one, is at place b
unfoldable pub target_at : List ℕ → (ℕ → ℕ) → ℕ → ℕ → List ℕ → ℕ
target_at s body fallback b l = elim (any_tried s l) [ true ↦ b | false ↦ straight body fallback (end_of s l) ]

-- the targets of lists whose chains are emitted one after another
unfoldable pub targets_to : List ℕ → Low → (ℕ → ℕ) → ℕ → Bool → List (List ℕ) → Made → List ℕ
targets_to s low body fallback falls [] a = []
targets_to s low body fallback falls (l ∷ ls) a =
    target_at s body fallback (place a) l
    ∷ targets_to s low body fallback falls ls (arm_to s low body fallback (falls && quiet s ls) l a)

module _ (s : List ℕ) (body : ℕ → ℕ) (fallback b : ℕ) (l : List ℕ) where
  target-chain : any_tried s l ≡ true → target_at s body fallback b l ≡ b
  unfolding target_at
  target-chain h = rw (h, target_at)

  target-straight : any_tried s l ≡ false → target_at s body fallback b l ≡ straight body fallback (end_of s l)
  unfolding target_at
  target-straight h = rw (h, target_at)

-- ---- the loop, with i lists passed

-- lists without a guard to try
quiet-to : (s : List ℕ) (low : Low) (body : ℕ → ℕ) (fallback : ℕ) (falls : Bool) (ls : List (List ℕ)) (a : Made) → quiet s ls ≡ true
    → targets_to s low body fallback falls ls a ≡ map (λ l. straight body fallback (end_of s l)) ls
unfolding targets_to
quiet-to s low body fallback falls [] a h = refl
quiet-to s low body fallback falls (l ∷ ls) a h =
    rw (
      target-straight s body fallback (place a) l (quiet-first s l ls h),
      quiet-to s low body fallback falls ls (arm_to s low body fallback (falls && quiet s ls) l a) (quiet-rest s l ls h),
    )

-- ---- the definition

entry-chain : (bodies : List Body) (fallback b : ℕ) (ts : List Try) (e : End) → is_nil ts ≡ false
    → target bodies fallback (entry_from b ts e) ≡ b
unfolding is_nil entry_from target
entry-chain bodies fallback b [] e h = absurd (true≢false h)
entry-chain bodies fallback b (t ∷ ts) e h = refl

entry-straight : (bodies : List Body) (fallback b : ℕ) (ts : List Try) (e : End) → is_nil ts ≡ true
    → target bodies fallback (entry_from b ts e) ≡ straight (λ k. body_at k bodies) fallback e
unfolding is_nil entry_from target straight
entry-straight bodies fallback b [] (taken k) h = refl
entry-straight bodies fallback b [] declined h = refl
entry-straight bodies fallback b [] idle h = refl
entry-straight bodies fallback b (t ∷ ts) e h = absurd (true≢false (sym h))

module _ (bodies : List Body) (fallback : ℕ) where
  -- the targets of arms
  abbrev pub arm_targets : List Arm → List ℕ
  arm_targets as' = map (λ (a : Arm). target bodies fallback a.entry) as'

  drop-targets : (as' : List Arm) → arm_targets (drop_idle_jump as') ≡ arm_targets as'
  unfolding drop_idle_jump
  drop-targets [] = refl
  drop-targets (a ∷ as') = by (eqb (arms_extent as') 0) refl (drop-targets as')
    where
      by : (t : Bool) → eqb (arms_extent as') 0 ≡ t → arm_targets (drop_idle_jump as') ≡ arm_targets as'
          → arm_targets (drop_idle_jump (a ∷ as')) ≡ arm_targets (a ∷ as')
      by true h more = rw (h, drop_idle_jump) (ap (λ x. x ∷ arm_targets as') (target-drop bodies fallback a.entry))
      by false h more = rw (h, drop_idle_jump) (ap (λ xs. target bodies fallback a.entry ∷ xs) more)

  module _ (s : List ℕ) (rec : Rec) where
    entry-is : (l : List ℕ) (b : ℕ) (p : Pools)
        → target bodies fallback (entry_at s rec l b p) ≡ target_at s (λ k. body_at k bodies) fallback b l
    entry-is l b p = by (any_tried s l) refl
      where
        by : (t : Bool) → any_tried s l ≡ t
            → target bodies fallback (entry_at s rec l b p) ≡ target_at s (λ k. body_at k bodies) fallback b l
        by true h =
            let t = tries_of s rec l b p in
            entry-chain bodies fallback b t.tries t.end (nil_is s rec l b p ∙ ap not h)
            ∙ sym (target-chain s (λ k. body_at k bodies) fallback b l h)
        by false h =
            let t = tries_of s rec l b p in
            entry-straight bodies fallback b t.tries t.end (nil_is s rec l b p ∙ ap not h)
            ∙ ap (straight (λ k. body_at k bodies) fallback) (end_is s rec l b p)
            ∙ sym (target-straight s (λ k. body_at k bodies) fallback b l h)

    -- lists without a guard to try
    quiet-arms : (ls : List (List ℕ)) (b : ℕ) (p : Pools) → quiet s ls ≡ true
        → arm_targets (arm_chains s rec ls b p).arms ≡ map (λ l. straight (λ k. body_at k bodies) fallback (end_of s l)) ls
    unfolding arm_chains
    quiet-arms [] b p h = refl
    quiet-arms (l ∷ ls) b p h =
        let e = entry_at s rec l b p in
        rw (
          entry-is l b p,
          target-straight s (λ k. body_at k bodies) fallback b l (quiet-first s l ls h),
          quiet-arms ls (b + entry_extent e) (arm_pools s rec l b p) (quiet-rest s l ls h),
        )

    -- the targets of the definition
    pub targets-is : (falls : Bool) (ls : List (List ℕ)) (c : Code) (p : Pools)
        → arm_targets (arm_chains s rec ls (length c) p).arms
        ≡ targets_to s (low_of rec) (λ k. body_at k bodies) fallback falls ls (made c p 1)
    unfolding arm_chains targets_to
    targets-is falls [] c p = refl
    targets-is falls (l ∷ ls) c p = rw (entry-is l (length c) p) (ap (λ xs. first ∷ xs) (by (quiet s ls) refl (targets-is falls ls)))
      where
        first : ℕ
        first = target_at s (λ k. body_at k bodies) fallback (length c) l

        e : Entry
        e = entry_at s rec l (length c) p

        q : Pools
        q = arm_pools s rec l (length c) p

        to : Bool → List ℕ
        to d =
            targets_to s (low_of rec) (λ k. body_at k bodies) fallback falls ls
            (arm_to s (low_of rec) (λ k. body_at k bodies) fallback d l (made c p 1))

        kept : (f t : Bool) → t ≡ false → (f && t) ≡ false
        kept true t h = h
        kept false t h = refl

        by : (t : Bool) → quiet s ls ≡ t
            → ((c : Code) (p : Pools) → arm_targets (arm_chains s rec ls (length c) p).arms
            ≡ targets_to s (low_of rec) (λ k. body_at k bodies) fallback falls ls (made c p 1))
            → arm_targets (arm_chains s rec ls (length c + entry_extent e) q).arms ≡ to (falls && quiet s ls)
        by true h more =
            quiet-arms ls (length c + entry_extent e) q h
            ∙ sym (quiet-to s (low_of rec) (λ k. body_at k bodies) fallback falls ls _ h)
        by false h more =
            let x = c ++ entry_code bodies fallback e in
            let n : length x ≡ length c + entry_extent e =
            omega (arith, length-append c (entry_code bodies fallback e), entry_length bodies fallback e) in
            ap (λ b. arm_targets (arm_chains s rec ls b q).arms) (sym n)
            ∙ more x q
            ∙ ap (targets_to s (low_of rec) (λ k. body_at k bodies) fallback falls ls) (sym (arm_is s rec bodies fallback false l c p))
            ∙ ap to (sym (kept falls (quiet s ls) h))

    -- with the last jump dropped or not
    pub targets-if : (drops falls : Bool) (ls : List (List ℕ)) (c : Code) (p : Pools)
        → arm_targets (arms_if drops (arm_chains s rec ls (length c) p).arms)
        ≡ targets_to s (low_of rec) (λ k. body_at k bodies) fallback falls ls (made c p 1)
    targets-if true falls ls c p = drop-targets (arm_chains s rec ls (length c) p).arms ∙ targets-is falls ls c p
    targets-if false falls ls c p = targets-is falls ls c p

-- ---- the entry of a list, by the place of the list

abbrev pub arm_blocks : List Arm → List (List ℕ)
arm_blocks as' = map (λ (a : Arm). a.blocks) as'

pub chains-blocks : (s : List ℕ) (rec : Rec) (ls : List (List ℕ)) (b : ℕ) (p : Pools) → arm_blocks (arm_chains s rec ls b p).arms ≡ ls
unfolding arm_chains
chains-blocks s rec [] b p = refl
chains-blocks s rec (l ∷ ls) b p =
    ap (λ xs. l ∷ xs) (chains-blocks s rec ls (b + entry_extent (entry_at s rec l b p)) (arm_pools s rec l b p))

pub drop-blocks : (as' : List Arm) → arm_blocks (drop_idle_jump as') ≡ arm_blocks as'
unfolding drop_idle_jump
drop-blocks [] = refl
drop-blocks (a ∷ as') = by (eqb (arms_extent as') 0) refl (drop-blocks as')
  where
    by : (t : Bool) → eqb (arms_extent as') 0 ≡ t → arm_blocks (drop_idle_jump as') ≡ arm_blocks as'
        → arm_blocks (drop_idle_jump (a ∷ as')) ≡ arm_blocks (a ∷ as')
    by true h more = rw (h, drop_idle_jump)
    by false h more = rw (h, drop_idle_jump) (ap (λ xs. a.blocks ∷ xs) more)

pub entry-target : (bodies : List Body) (fallback : ℕ) (l : List ℕ) (as' : List Arm)
    → target bodies fallback (entry_of l as') ≡ get_or (arm_targets bodies fallback as') (first_where (same l) (arm_blocks as')) fallback
unfolding entry_of first_where target
entry-target bodies fallback l [] = refl
entry-target bodies fallback l (a ∷ as') = by (same l a.blocks) refl (entry-target bodies fallback l as')
  where
    by : (t : Bool) → same l a.blocks ≡ t
        → target bodies fallback (entry_of l as') ≡ get_or (arm_targets bodies fallback as') (first_where (same l) (arm_blocks as')) fallback
        → target bodies fallback (entry_of l (a ∷ as'))
        ≡ get_or (arm_targets bodies fallback (a ∷ as')) (first_where (same l) (arm_blocks (a ∷ as'))) fallback
    by true h more = rw (h, entry_of, first_where)
    by false h more = rw (h, entry_of, first_where) more

-- ---- other places of bodies, which agree on the blocks of the lists

module _ (s : List ℕ) (low : Low) (f g : ℕ → ℕ) (fallback : ℕ) where
  straight-same : (ks : List ℕ) → All (λ k. f k ≡ g k) ks → straight f fallback (end_of s ks) ≡ straight g fallback (end_of s ks)
  unfolding straight end_of
  straight-same [] h = refl
  straight-same (k ∷ ks) h = by (guard_kind s (guard_of s k)) refl (straight-same ks h.1)
    where
      by : (q : Guard) → guard_kind s (guard_of s k) ≡ q → straight f fallback (end_of s ks) ≡ straight g fallback (end_of s ks)
          → straight f fallback (end_of s (k ∷ ks)) ≡ straight g fallback (end_of s (k ∷ ks))
      by never e more = rw (end-never s k ks e) more
      by always e more = rw (end-always s k ks e) h.0
      by tried e more = rw (end-tried s k ks e) more

  target-same : (b : ℕ) (ks : List ℕ) → All (λ k. f k ≡ g k) ks → target_at s f fallback b ks ≡ target_at s g fallback b ks
  target-same b ks h = by (any_tried s ks) refl
    where
      by : (t : Bool) → any_tried s ks ≡ t → target_at s f fallback b ks ≡ target_at s g fallback b ks
      by true e = target-chain s f fallback b ks e ∙ sym (target-chain s g fallback b ks e)
      by false e = target-straight s f fallback b ks e ∙ straight-same ks h ∙ sym (target-straight s g fallback b ks e)

  pub targets-same : (falls : Bool) (ls : List (List ℕ)) (a : Made) → AllIn (λ k. f k ≡ g k) ls
      → targets_to s low f fallback falls ls a ≡ targets_to s low g fallback falls ls a
  unfolding targets_to
  targets-same falls [] a h = refl
  targets-same falls (l ∷ ls) a h =
      let d = falls && quiet s ls in
      rw (target-same (place a) l h.0, arm_same s low f g fallback d l a h.0)
      (ap (λ xs. target_at s g fallback (place a) l ∷ xs) (targets-same falls ls (arm_to s low g fallback d l a) h.1))
