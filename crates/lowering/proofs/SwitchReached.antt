-- Every place of a switch is reached: each chain is the entry of a row of its table, and each body is the target of a guard's jump, of a
-- chain's end, of a row, or the default.
use Prim.Native.Nat.{ℕ, suc, ◌+◌}
use mathlib.Core.Path.{◌≡◌, refl, sym, ◌∙◌, subst}
use mathlib.Core.List.Memᴰ
use mathlib.Core.List.{List, [], ◌∷◌, ◌++◌, Memᴰ}
use native.Mathlib.Omega.{arith}
use native.Mathlib.Nat.{add-zero}
use native.Mathlib.Numerals.{add-one}
use lib.ListN.{length}
use Rattle.bytecode.specs.declared.Op.TheVariants.{Unit, Jump, JumpIfTrue}
use Rattle.bytecode.specs.declared.Chain.{Chain}
use Rattle.lowering.specs.Code.{Code, ins, no_pos}
use Rattle.lowering.specs.Pools.{Pools}
use Rattle.lowering.specs.Out.{Rec}
use Rattle.lowering.specs.SwitchSheet.{guard_of, body_of}
use Rattle.lowering.specs.Arms.{Try, End, taken, declined, idle, Entry, to_body, to_chain, to_fallback, Arm, tries_extent, entry_extent}
use Rattle.lowering.specs.Bodies.{Body, body_at, bodies_extent, fall_extent}
use Rattle.lowering.specs.SwitchCode.{over_subject, over_value, tries_code, end_code, entry_code, arms_code, bodies_code, bodies_fall}
use Rattle.lowering.specs.SwitchCode.{default_code}
use Rattle.lowering.specs.SwitchTables.{target}
use Rattle.lowering.proofs.Effect.{Context}
use Rattle.lowering.proofs.Linked.{Closed, Reached, Linked, closed-left, closed-right, reached-append}
use Rattle.lowering.proofs.SwitchPlaces.{tries-length, entry_length, bodies-length}
use Rattle.lowering.proofs.Lowered.{Lowered, TriesAt, EntryAt, ArmsAt, BodiesAt}
use Rattle.lowering.proofs.SwitchParts.{HasBody}
use Rattle.lowering.proofs.SwitchNames.{TryNames, EndNames, EntryNames, ArmNames}

-- the code of each node for which V holds is linked
pub record Links (rec : Rec) (V' : ℕ → Type 0) : Type 1 where
  pub links : (X : Context) (j b d : ℕ) (p : Pools) → V' j → Linked X b (rec j b d p).code

module _ (X : Context) (R : ℕ → Type 0) where
  -- what code behind c has, and what is reached of it
  behind-closed : (b : ℕ) (c c' : Code) (n : ℕ) → length c ≡ n → Closed X R b (c ++ c') → Closed X R (b + n) c'
  behind-closed b c c' n h k = subst (λ (m : ℕ). Closed X R (b + m) c') h (closed-right X R b c c' k)

  behind-reached : (b : ℕ) (c c' : Code) (n : ℕ) → length c ≡ n → Reached R b c → Reached R (b + n) c' → Reached R b (c ++ c')
  behind-reached b c c' n h g k = reached-append R b c c' g (subst (λ (m : ℕ). Reached R (b + m) c') (sym h) k)

module _ (s : List ℕ) (rec : Rec) (hs : List Chain) (V' : ℕ → Type 0) (K : Links rec V') (X : Context) (R : ℕ → Type 0) where
  pub lowered-linked : (j b d : ℕ) (c : Code) → Lowered rec hs j b d c → V' j → Linked X b c
  lowered-linked j b d c h v = subst (Linked X b) (sym h.code_is) (K.links X j b d h.pools v)

  module _ (bodies : List Body) (fb : ℕ) where
    -- a chain from place b on: what is reached of it, behind it and by its jumps
    tries-reached : (b : ℕ) (ts : List Try) → TriesAt s rec hs b ts → TryNames (λ (k : ℕ). V' (guard_of s k)) ts
        → Closed X R b (tries_code bodies ts) → R b
        → Reached R b (tries_code bodies ts) × R (b + tries_extent ts) × TryNames (λ (k : ℕ). R (body_at k bodies)) ts
    unfolding tries_code tries_extent
    tries-reached b [] h v k r = (tt, subst R (sym (add-zero b)) r, tt)
    tries-reached b (t ∷ ts) h v k r =
        let rest = ins (JumpIfTrue (body_at t.block bodies)) over_value t.pos ∷ tries_code bodies ts in
        let g = lowered-linked _ b 1 t.code h.0.lowered v.0 in
        let k₁ = closed-left X R b t.code rest k in
        let k₂ = closed-right X R b t.code rest k in
        let at = g.behind R k₁ r in
        let go = k₂.0 at in
        let e = add-one (b + length t.code) in
        let more = tries-reached (b + length t.code + 1) ts h.1 v.1
        (subst (λ (n : ℕ). Closed X R n (tries_code bodies ts)) (sym e) k₂.1) (subst R (sym e) go.1.0) in
        let q : b + length t.code + 1 + tries_extent ts ≡ b + (length t.code + 1 + tries_extent ts) = omega arith in (
          reached-append R b t.code rest (g.inside R k₁ r) (at, subst (λ (n : ℕ). Reached R n (tries_code bodies ts)) e more.0),
          subst R q more.1,
          (go.0, more.2),
        )

    end-reached : (b : ℕ) (e : End) → Closed X R b (end_code bodies fb e) → R b
        → Reached R b (end_code bodies fb e) × EndNames (λ (k : ℕ). R (body_at k bodies)) e
    unfolding end_code
    end-reached b (taken k) c r = ((r, tt), (c.0 r).0)
    end-reached b declined c r = ((r, tt), tt)
    end-reached b idle c r = (tt, tt)

    entry-reached : (b : ℕ) (ks : List ℕ) (e : Entry) → EntryAt s rec hs b ks e → EntryNames (λ (k : ℕ). V' (guard_of s k)) e
        → Closed X R b (entry_code bodies fb e) → R (target bodies fb e)
        → Reached R b (entry_code bodies fb e) × EntryNames (λ (k : ℕ). R (body_at k bodies)) e
    unfolding entry_code target
    entry-reached b ks (to_body k) h v c r = (tt, r)
    entry-reached b ks (to_chain p ts e) h v c r =
        let n = tries-length bodies ts in
        let g = tries-reached b ts h.tries v.0 (closed-left X R b (tries_code bodies ts) (end_code bodies fb e) c)
        (subst R h.place_is r) in
        let f = end-reached (b + tries_extent ts) e (behind-closed X R b (tries_code bodies ts) (end_code bodies fb e) (tries_extent ts) n c)
        g.1 in
        (behind-reached X R b (tries_code bodies ts) (end_code bodies fb e) (tries_extent ts) n g.0 f.0, (g.2, f.1))
    entry-reached b ks to_fallback h v c r = (tt, tt)

    pub arms-reached : (b : ℕ) (arms : List Arm) → ArmsAt s rec hs b arms → ArmNames (λ (k : ℕ). V' (guard_of s k)) arms
        → Closed X R b (arms_code bodies fb arms)
        → ((a : Arm) → Memᴰ a arms → R (target bodies fb a.entry))
        → Reached R b (arms_code bodies fb arms) × ArmNames (λ (k : ℕ). R (body_at k bodies)) arms
    unfolding arms_code
    arms-reached b [] h v c r = (tt, tt)
    arms-reached b (a ∷ arms) h v c r =
        let first = entry_code bodies fb a.entry in
        let n = entry_length bodies fb a.entry in
        let g = entry-reached b a.blocks a.entry h.0 v.0 (closed-left X R b first (arms_code bodies fb arms) c)
        (r a (Memᴰ.head refl)) in
        let f = arms-reached (b + entry_extent a.entry) arms h.1 v.1
        (behind-closed X R b first (arms_code bodies fb arms) (entry_extent a.entry) n c) (λ x m. r x (Memᴰ.tail m)) in
        (behind-reached X R b first (arms_code bodies fb arms) (entry_extent a.entry) n g.0 f.0, (g.1, f.1))

  -- a body that is reached, and the jump behind it
  body-reached : (b : ℕ) (x : Body) (end : ℕ) (c : Code) → Lowered rec hs (body_of s x.block) b 1 x.code → V' (body_of s x.block)
      → R b → Closed X R b (x.code ++ (ins (Jump end) over_value no_pos ∷ c))
      → Reached R (b + length x.code + 1) c → Reached R b (x.code ++ (ins (Jump end) over_value no_pos ∷ c))
  body-reached b x end c h v r k more =
      let rest = ins (Jump end) over_value no_pos ∷ c in
      let g = lowered-linked (body_of s x.block) b 1 x.code h v in
      let k₁ = closed-left X R b x.code rest k in
      reached-append R b x.code rest (g.inside R k₁ r)
      (g.behind R k₁ r, subst (λ (n : ℕ). Reached R n c) (add-one (b + length x.code)) more)

  body-behind : (b : ℕ) (x : Body) (end : ℕ) (c : Code) → Closed X R b (x.code ++ (ins (Jump end) over_value no_pos ∷ c))
      → Closed X R (b + length x.code + 1) c
  body-behind b x end c k =
      subst (λ (n : ℕ). Closed X R n c) (sym (add-one (b + length x.code)))
      (closed-right X R b x.code (ins (Jump end) over_value no_pos ∷ c) k).1

  bodies-reached : (b end : ℕ) (xs : List Body) → BodiesAt s rec hs b xs
      → ((x : Body) → Memᴰ x xs → V' (body_of s x.block) × R x.place) → Closed X R b (bodies_code end xs)
      → Reached R b (bodies_code end xs)
  unfolding bodies_code
  bodies-reached b end [] h f k = tt
  bodies-reached b end (x ∷ xs) h f k =
      let m = f x (Memᴰ.head refl) in
      body-reached b x end (bodies_code end xs) h.0.lowered m.0 (subst R h.0.place_is m.1) k
      (bodies-reached (b + length x.code + 1) end xs h.1 (λ y n. f y (Memᴰ.tail n)) (body-behind b x end (bodies_code end xs) k))

  fall-reached : (b end : ℕ) (x : Body) (xs : List Body) → BodiesAt s rec hs b (x ∷ xs)
      → ((y : Body) → Memᴰ y (x ∷ xs) → V' (body_of s y.block) × R y.place) → Closed X R b (bodies_fall end (x ∷ xs))
      → Reached R b (bodies_fall end (x ∷ xs)) × R (b + fall_extent (x ∷ xs))
  unfolding bodies_fall fall_extent
  fall-reached b end x [] h f k =
      let m = f x (Memᴰ.head refl) in
      let g = lowered-linked (body_of s x.block) b 1 x.code h.0.lowered m.0 in
      let r = subst R h.0.place_is m.1 in
      (g.inside R k r, g.behind R k r)
  fall-reached b end x (y ∷ xs) h f k =
      let m = f x (Memᴰ.head refl) in
      let more = fall-reached (b + length x.code + 1) end y xs h.1 (λ z n. f z (Memᴰ.tail n))
      (body-behind b x end (bodies_fall end (y ∷ xs)) k) in
      let q : b + length x.code + 1 + fall_extent (y ∷ xs) ≡ b + (length x.code + 1 + fall_extent (y ∷ xs)) = omega arith in (
        body-reached b x end (bodies_fall end (y ∷ xs)) h.0.lowered m.0 (subst R h.0.place_is m.1) k more.0,
        subst R q more.1,
      )

  -- bodies and default, from a default that is reached: all of them, and the end of the switch
  pub missing-reached : (b end : ℕ) (xs : List Body) → BodiesAt s rec hs b xs
      → ((x : Body) → Memᴰ x xs → V' (body_of s x.block) × R x.place) → b + bodies_extent xs + 1 ≡ end → R (b + bodies_extent xs)
      → Closed X R b (default_code 0 end xs)
      → Reached R b (default_code 0 end xs) × R end
  unfolding default_code
  missing-reached b end xs h f q r k =
      let c' = ins Unit over_subject no_pos ∷ [] in
      let n = bodies-length end xs in
      let k₂ = behind-closed X R b (bodies_code end xs) c' (bodies_extent xs) n k in
      let g = bodies-reached b end xs h f (closed-left X R b (bodies_code end xs) c' k) in (
        behind-reached X R b (bodies_code end xs) c' (bodies_extent xs) n g (r, tt),
        subst R (sym (add-one (b + bodies_extent xs)) ∙ q) (k₂.0 r).0,
      )

  pub given-reached : (k b end : ℕ) (xs : List Body) → HasBody k xs → BodiesAt s rec hs b xs
      → ((x : Body) → Memᴰ x xs → V' (body_of s x.block) × R x.place) → b + fall_extent xs ≡ end
      → Closed X R b (default_code (suc k) end xs)
      → Reached R b (default_code (suc k) end xs) × R end
  unfolding default_code
  given-reached k b end [] v h f q c = absurd (Memᴰ.not-nil v.among)
  given-reached k b end (x ∷ xs) v h f q c = let g = fall-reached b end x xs h f c in (g.0, subst R q g.1)
