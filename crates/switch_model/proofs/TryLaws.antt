-- The guards of a list of blocks, as a change: what the definition gives for them.
use Prim.Native.Nat.{ℕ, suc, ◌+◌}
use mathlib.Core.Path.{◌≡◌, refl, sym, ap, ◌∙◌}
use mathlib.Core.Bool.{Bool, true, false, not}
use mathlib.Core.List.{List, [], ◌∷◌, ◌++◌, append_assoc, append-nil}
use native.Mathlib.Omega.{arith}
use lib.ListN.{length, length-append}
use Rattle.sheet.specs.Node.{position}
use Rattle.bytecode.specs.Op.{op_words}
use Rattle.bytecode.specs.Effect.{effect, popped}
use Rattle.bytecode.specs.declared.Op.TheVariants.{JumpIfTrue, Switch}
use Rattle.lowering.specs.Code.{Ins, Code, ins}
use Rattle.lowering.specs.Pools.{Pools, emits}
use Rattle.lowering.specs.Out.{Rec}
use Rattle.lowering.specs.SwitchSheet.{guard_of}
use Rattle.lowering.specs.Arms.{Tries, End, taken, Guard, never, always, tried, guard_kind, try_at, tries_of}
use Rattle.lowering.specs.Bodies.{Body, body_at}
use Rattle.lowering.specs.SwitchCode.{tries_code}
use Rattle.expr_model.specs.Made.{Made, made, after, emit}
use Rattle.expr_model.specs.Construct.{Low}
use Rattle.expr_model.proofs.Put.{low_of, made-path}
use Rattle.switch_model.specs.Change.{try_to, tries_to, end_of, any_tried}

-- ---- the depth after the instructions of a switch

after-true : (t d : ℕ) → after (JumpIfTrue t) 0 (suc d) ≡ d
unfolding after op_words effect popped
after-true t d = omega arith

pub after-switch : (i d : ℕ) → after (Switch i) 0 d ≡ d
unfolding after op_words effect popped
after-switch i d = omega arith

-- ---- a list of blocks, by its first guard

-- no guard is left to be tried
abbrev pub ended : End → Pools → Tries
ended e p = record { tries = []; end = e; pools = p }

module _ (s : List ℕ) (k : ℕ) (ks : List ℕ) where
  module _ (low : Low) (body : ℕ → ℕ) (a : Made) where
    pub tries-never : guard_kind s (guard_of s k) ≡ never → tries_to s low body (k ∷ ks) a ≡ tries_to s low body ks a
    unfolding tries_to
    tries-never h = rw (h, tries_to)

    pub tries-always : guard_kind s (guard_of s k) ≡ always → tries_to s low body (k ∷ ks) a ≡ a
    unfolding tries_to
    tries-always h = rw (h, tries_to)

    pub tries-tried : guard_kind s (guard_of s k) ≡ tried
        → tries_to s low body (k ∷ ks) a ≡ tries_to s low body ks (try_to s low body k a)
    unfolding tries_to
    tries-tried h = rw (h, tries_to)

  pub end-never : guard_kind s (guard_of s k) ≡ never → end_of s (k ∷ ks) ≡ end_of s ks
  unfolding end_of
  end-never h = rw (h, end_of)

  pub end-always : guard_kind s (guard_of s k) ≡ always → end_of s (k ∷ ks) ≡ taken k
  unfolding end_of
  end-always h = rw (h, end_of)

  pub end-tried : guard_kind s (guard_of s k) ≡ tried → end_of s (k ∷ ks) ≡ end_of s ks
  unfolding end_of
  end-tried h = rw (h, end_of)

  pub any-never : guard_kind s (guard_of s k) ≡ never → any_tried s (k ∷ ks) ≡ any_tried s ks
  unfolding any_tried
  any-never h = rw (h, any_tried)

  pub any-always : guard_kind s (guard_of s k) ≡ always → any_tried s (k ∷ ks) ≡ false
  unfolding any_tried
  any-always h = rw (h, any_tried)

  pub any-tried : guard_kind s (guard_of s k) ≡ tried → any_tried s (k ∷ ks) ≡ true
  unfolding any_tried
  any-tried h = rw (h, any_tried)

  module _ (rec : Rec) (b : ℕ) (p : Pools) where
    pub of-never : guard_kind s (guard_of s k) ≡ never → tries_of s rec (k ∷ ks) b p ≡ tries_of s rec ks b p
    unfolding tries_of
    of-never h = rw (h, tries_of)

    pub of-always : guard_kind s (guard_of s k) ≡ always
        → tries_of s rec (k ∷ ks) b p ≡ ended (taken k) p
    unfolding tries_of
    of-always h = rw (h, tries_of)

    pub of-tried : guard_kind s (guard_of s k) ≡ tried
        → tries_of s rec (k ∷ ks) b p
        ≡ (let o = rec (guard_of s k) b 1 p in try_at s k b o (tries_of s rec ks (b + length o.code + 1) (emits 1 o.pools)))
    unfolding tries_of
    of-tried h = rw (h, tries_of)

-- ---- the end, and whether there is a guard to try

unfoldable pub is_nil : {A : Type 0} → List A → Bool
is_nil [] = true
is_nil (x ∷ xs) = false

module _ (s : List ℕ) (rec : Rec) where
  pub end_is : (ks : List ℕ) (b : ℕ) (p : Pools) → (tries_of s rec ks b p).end ≡ end_of s ks
  unfolding tries_of end_of try_at
  end_is [] b p = refl
  end_is (k ∷ ks) b p = by (guard_kind s (guard_of s k)) refl (end_is ks)
    where
      by : (g : Guard) → guard_kind s (guard_of s k) ≡ g → ((b : ℕ) (p : Pools) → (tries_of s rec ks b p).end ≡ end_of s ks)
          → (tries_of s rec (k ∷ ks) b p).end ≡ end_of s (k ∷ ks)
      by never h more = rw (of-never s k ks rec b p h, end-never s k ks h) (more b p)
      by always h more = rw (of-always s k ks rec b p h, end-always s k ks h)
      by tried h more =
          let o = rec (guard_of s k) b 1 p in
          rw (of-tried s k ks rec b p h, end-tried s k ks h) (more (b + length o.code + 1) (emits 1 o.pools))

  pub nil_is : (ks : List ℕ) (b : ℕ) (p : Pools) → is_nil (tries_of s rec ks b p).tries ≡ not (any_tried s ks)
  unfolding tries_of any_tried try_at is_nil
  nil_is [] b p = refl
  nil_is (k ∷ ks) b p = by (guard_kind s (guard_of s k)) refl (nil_is ks b p)
    where
      by : (g : Guard) → guard_kind s (guard_of s k) ≡ g → is_nil (tries_of s rec ks b p).tries ≡ not (any_tried s ks)
          → is_nil (tries_of s rec (k ∷ ks) b p).tries ≡ not (any_tried s (k ∷ ks))
      by never h more = rw (of-never s k ks rec b p h, any-never s k ks h) more
      by always h more = rw (of-always s k ks rec b p h, any-always s k ks h)
      by tried h more = rw (of-tried s k ks rec b p h, any-tried s k ks h)

-- ---- the change

pub behind : (c x : Code) (i : Ins) (y : Code) → ((c ++ x) ++ (i ∷ [])) ++ y ≡ c ++ (x ++ (i ∷ y))
behind c x i y = append_assoc (c ++ x) (i ∷ []) y ∙ append_assoc c x (i ∷ y)

module _ (s : List ℕ) (rec : Rec) (bodies : List Body) where
  try-is : (k : ℕ) (c : Code) (p : Pools)
      → try_to s (low_of rec) (λ k. body_at k bodies) k (made c p 1)
      ≡ (let o = rec (guard_of s k) (length c) 1 p in
      made ((c ++ o.code) ++ (ins (JumpIfTrue (body_at k bodies)) 2 (position s (guard_of s k)) ∷ [])) (emits 1 o.pools) 1)
  unfolding try_to emit
  try-is k c p = made-path refl refl (after-true (body_at k bodies) 1)

  -- what the guards of ks become behind c
  abbrev pub tries_made : List ℕ → Code → Pools → Made
  tries_made ks c p = let t = tries_of s rec ks (length c) p in made (c ++ tries_code bodies t.tries) t.pools 1

  pub tries-is : (ks : List ℕ) (c : Code) (p : Pools) → tries_to s (low_of rec) (λ k. body_at k bodies) ks (made c p 1) ≡ tries_made ks c p
  unfolding tries_to tries_of tries_code try_at
  tries-is [] c p = made-path (sym (append-nil c)) refl refl
  tries-is (k ∷ ks) c p = by (guard_kind s (guard_of s k)) refl (tries-is ks)
    where
      by : (g : Guard) → guard_kind s (guard_of s k) ≡ g
          → ((c : Code) (p : Pools) → tries_to s (low_of rec) (λ k. body_at k bodies) ks (made c p 1) ≡ tries_made ks c p)
          → tries_to s (low_of rec) (λ k. body_at k bodies) (k ∷ ks) (made c p 1) ≡ tries_made (k ∷ ks) c p
      by never h more =
          rw (tries-never s k ks (low_of rec) (λ k. body_at k bodies) (made c p 1) h, of-never s k ks rec (length c) p h) (more c p)
      by always h more =
          rw (tries-always s k ks (low_of rec) (λ k. body_at k bodies) (made c p 1) h, of-always s k ks rec (length c) p h)
          (made-path (sym (append-nil c)) refl refl)
      by tried h more =
          let o = rec (guard_of s k) (length c) 1 p in
          let i = ins (JumpIfTrue (body_at k bodies)) 2 (position s (guard_of s k)) in
          let e = (c ++ o.code) ++ (i ∷ []) in
          let l : length e ≡ length c + length o.code + 1 =
          omega (arith, length-append (c ++ o.code) (i ∷ []), length-append c o.code) in
          let go : ℕ → Tries = λ b. tries_of s rec ks b (emits 1 o.pools) in
          rw (tries-tried s k ks (low_of rec) (λ k. body_at k bodies) (made c p 1) h, of-tried s k ks rec (length c) p h)
          (ap (tries_to s (low_of rec) (λ k. body_at k bodies) ks) (try-is k c p)
          ∙ more e (emits 1 o.pools)
          ∙ ap (λ b. made (e ++ tries_code bodies (go b).tries) (go b).pools 1) l
          ∙ made-path (behind c o.code i (tries_code bodies (go (length c + length o.code + 1)).tries)) refl refl)
