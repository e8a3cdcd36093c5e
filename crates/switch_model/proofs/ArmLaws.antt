-- The chain of a list of blocks, as a change: what the definition gives for it.
use Prim.Native.Nat.{ℕ, ◌+◌, ◌≤◌}
use mathlib.Core.Path.{◌≡◌, refl, sym, ap, ◌∙◌}
use mathlib.Core.Bool.{Bool, true, false, not, true≢false}
use mathlib.Core.List.{List, [], ◌∷◌, ◌++◌, append_assoc, append-nil}
use native.Mathlib.Omega.{arith}
use lib.ListN.{length}
use Rattle.bytecode.specs.declared.Op.TheVariants.{Jump}
use Rattle.lowering.specs.Code.{Code, ins, no_pos}
use Rattle.lowering.specs.Pools.{Pools, emits}
use Rattle.lowering.specs.Out.{Rec}
use Rattle.lowering.specs.SwitchSheet.{guard_of}
use Rattle.lowering.specs.Arms.{Try, End, taken, declined, idle, Entry, to_chain, Guard, never, always, tried, guard_kind, tries_of, entry_from}
use Rattle.lowering.specs.Arms.{tries_extent, entry_extent, end_emits, drop_end, drop_entry}
use Rattle.lowering.specs.Bodies.{Body, body_at}
use Rattle.lowering.specs.SwitchCode.{tries_code, end_code, entry_code}
use Rattle.expr_model.specs.Made.{Made, made, emit}
use Rattle.expr_model.specs.Construct.{Low}
use Rattle.expr_model.proofs.Put.{low_of, made-path}
use Rattle.expr_model.proofs.AfterLaws.{after-jump}
use Rattle.switch_model.specs.Change.{dropped, jump_to, tries_to, end_of, any_tried, end_to, arm_to}
use Rattle.switch_model.proofs.TryLaws.{is_nil, end_is, nil_is, of-never, of-always, any-never, any-tried, tries-is}

-- ---- the jump at the end

-- an end with its jump dropped, or as it is
abbrev pub end_if : Bool → End → End
end_if true e = drop_end e
end_if false e = e

abbrev pub entry_if : Bool → Entry → Entry
entry_if true e = drop_entry e
entry_if false e = e

module _ (bodies : List Body) (fallback : ℕ) (c : Code) (p : Pools) where
  jump-is : (t : ℕ) → emit (Jump t) no_pos 0 (made c p 1) ≡ made (c ++ (ins (Jump t) 1 no_pos ∷ [])) (emits 1 p) 1
  unfolding emit
  jump-is t = made-path refl refl (after-jump 0 1 t)

  drop-is : dropped (made c p 1) ≡ made (c ++ []) (emits 1 p) 1
  unfolding dropped
  drop-is = made-path (sym (append-nil c)) refl refl

  end-made : (drop : Bool) (e : End)
      → end_to (λ k. body_at k bodies) fallback drop e (made c p 1) ≡ made (c ++ end_code bodies fallback (end_if drop e)) (emits 1 p) 1
  unfolding end_to jump_to end_code drop_end
  end-made true (taken k) = jump-is (body_at k bodies)
  end-made true declined = drop-is
  end-made true idle = drop-is
  end-made false (taken k) = jump-is (body_at k bodies)
  end-made false declined = jump-is fallback
  end-made false idle = drop-is

-- ---- entries

entry-some : (b : ℕ) (ts : List Try) (e : End) → is_nil ts ≡ false → entry_from b ts e ≡ to_chain b ts e
unfolding is_nil entry_from
entry-some b [] e h = absurd (true≢false h)
entry-some b (t ∷ ts) e h = refl

-- an entry without a chain
pub record Bare (bodies : List Body) (fallback : ℕ) (e : Entry) : Type 0 where
  pub extent : entry_extent e ≡ 0
  pub emits : end_emits e ≡ 0
  pub code : (drop : Bool) → entry_code bodies fallback (entry_if drop e) ≡ []

entry-bare : (bodies : List Body) (fallback b : ℕ) (ts : List Try) (e : End) → is_nil ts ≡ true → Bare bodies fallback (entry_from b ts e)
unfolding is_nil entry_from entry_extent end_emits entry_code drop_entry
entry-bare bodies fallback b [] (taken k) h = record { extent = refl; emits = refl; code = elim [ true ↦ refl | false ↦ refl ] }
entry-bare bodies fallback b [] declined h = record { extent = refl; emits = refl; code = elim [ true ↦ refl | false ↦ refl ] }
entry-bare bodies fallback b [] idle h = record { extent = refl; emits = refl; code = elim [ true ↦ refl | false ↦ refl ] }
entry-bare bodies fallback b (t ∷ ts) e h = absurd (true≢false (sym h))

chain-extent : (b : ℕ) (ts : List Try) (e : End) → is_nil ts ≡ false → 1 ≤ entry_extent (to_chain b ts e)
unfolding is_nil entry_extent tries_extent
chain-extent b [] e h = absurd (true≢false h)
chain-extent b (t ∷ ts) e h = omega arith

-- ---- a list of blocks

module _ (s : List ℕ) (rec : Rec) where
  -- its entry, with the first guard at place b
  abbrev pub entry_at : List ℕ → ℕ → Pools → Entry
  entry_at l b p = let t = tries_of s rec l b p in entry_from b t.tries t.end

  abbrev pub arm_pools : List ℕ → ℕ → Pools → Pools
  arm_pools l b p = emits (end_emits (entry_at l b p)) (tries_of s rec l b p).pools

  none-pools : (ks : List ℕ) (b : ℕ) (p : Pools) → any_tried s ks ≡ false → (tries_of s rec ks b p).pools ≡ p
  unfolding tries_of
  none-pools [] b p n = refl
  none-pools (k ∷ ks) b p n = by (guard_kind s (guard_of s k)) refl (none-pools ks b p)
    where
      by : (g : Guard) → guard_kind s (guard_of s k) ≡ g → (any_tried s ks ≡ false → (tries_of s rec ks b p).pools ≡ p)
          → (tries_of s rec (k ∷ ks) b p).pools ≡ p
      by never h more = rw (of-never s k ks rec b p h) (more (sym (any-never s k ks h) ∙ n))
      by always h more = rw (of-always s k ks rec b p h)
      by tried h more = absurd (true≢false (sym (any-tried s k ks h) ∙ n))

  emits_none : (p : Pools) → emits 0 p ≡ p
  unfolding emits
  emits_none p = let e : p.emitted + 0 ≡ p.emitted = omega arith in rw e

  module _ (l : List ℕ) (b : ℕ) (p : Pools) where
    pub list-extent : any_tried s l ≡ true → 1 ≤ entry_extent (entry_at l b p)
    list-extent h =
        let t = tries_of s rec l b p in
        let z = nil_is s rec l b p ∙ ap not h in
        rw (entry-some b t.tries t.end z) (chain-extent b t.tries t.end z)

    pub list-bare : (bodies : List Body) (fallback : ℕ) → any_tried s l ≡ false → Bare bodies fallback (entry_at l b p)
    list-bare bodies fallback h =
        let t = tries_of s rec l b p in
        entry-bare bodies fallback b t.tries t.end (nil_is s rec l b p ∙ ap not h)

    pub list-pools : any_tried s l ≡ false → arm_pools l b p ≡ p
    list-pools h = rw (list-bare [] 0 h).emits (emits_none (tries_of s rec l b p).pools ∙ none-pools l b p h)

-- a list without a guard to try changes nothing
module _ (s : List ℕ) (low : Low) (body : ℕ → ℕ) (fallback : ℕ) (drop : Bool) (l : List ℕ) (a : Made) where
  pub arm-none : any_tried s l ≡ false → arm_to s low body fallback drop l a ≡ a
  unfolding arm_to
  arm-none h = rw (h, arm_to)

  pub arm-some : any_tried s l ≡ true → arm_to s low body fallback drop l a ≡ end_to body fallback drop (end_of s l) (tries_to s low body l a)
  unfolding arm_to
  arm-some h = rw (h, arm_to)

module _ (s : List ℕ) (rec : Rec) (bodies : List Body) (fallback : ℕ) (drop : Bool) (l : List ℕ) (c : Code) (p : Pools) where
  chain-if : (b : ℕ) (ts : List Try) (e : End)
      → entry_code bodies fallback (entry_if drop (to_chain b ts e)) ≡ tries_code bodies ts ++ end_code bodies fallback (end_if drop e)
  unfolding entry_code drop_entry
  chain-if b ts e = by drop
    where
      by : (d : Bool) → entry_code bodies fallback (entry_if d (to_chain b ts e)) ≡ tries_code bodies ts ++ end_code bodies fallback (end_if d e)
      by true = refl
      by false = refl

  abbrev pub arm_made : Made
  arm_made = made (c ++ entry_code bodies fallback (entry_if drop (entry_at s rec l (length c) p))) (arm_pools s rec l (length c) p) 1

  some_is : any_tried s l ≡ true → arm_to s (low_of rec) (λ k. body_at k bodies) fallback drop l (made c p 1) ≡ arm_made
  unfolding end_emits
  some_is h =
      let t = tries_of s rec l (length c) p in
      let x = c ++ tries_code bodies t.tries in
      let z = nil_is s rec l (length c) p ∙ ap not h in
      arm-some s (low_of rec) (λ k. body_at k bodies) fallback drop l (made c p 1) h
      ∙ ap (end_to (λ k. body_at k bodies) fallback drop (end_of s l)) (tries-is s rec bodies l c p)
      ∙ ap (λ e. end_to (λ k. body_at k bodies) fallback drop e (made x t.pools 1)) (sym (end_is s rec l (length c) p))
      ∙ end-made bodies fallback x t.pools drop t.end
      ∙ made-path
      (append_assoc c (tries_code bodies t.tries) (end_code bodies fallback (end_if drop t.end))
      ∙ ap (λ (y : Code). c ++ y) (sym (chain-if (length c) t.tries t.end)))
      refl refl
      ∙ ap (λ e. made (c ++ entry_code bodies fallback (entry_if drop e)) (emits (end_emits e) t.pools) 1)
      (sym (entry-some (length c) t.tries t.end z))

  none_is : any_tried s l ≡ false → arm_to s (low_of rec) (λ k. body_at k bodies) fallback drop l (made c p 1) ≡ arm_made
  none_is h =
      arm-none s (low_of rec) (λ k. body_at k bodies) fallback drop l (made c p 1) h
      ∙ made-path
      (sym (append-nil c) ∙ ap (λ (y : Code). c ++ y) (sym ((list-bare s rec l (length c) p bodies fallback h).code drop)))
      (sym (list-pools s rec l (length c) p h)) refl

  pub arm_is : arm_to s (low_of rec) (λ k. body_at k bodies) fallback drop l (made c p 1) ≡ arm_made
  arm_is = by (any_tried s l) refl
    where
      by : (t : Bool) → any_tried s l ≡ t → arm_to s (low_of rec) (λ k. body_at k bodies) fallback drop l (made c p 1) ≡ arm_made
      by true h = some_is h
      by false h = none_is h
