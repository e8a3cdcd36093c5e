-- The bodies of a switch, as a change, with the last jump dropped or not: what the definition gives for them.
use Prim.Native.Nat.{ℕ, zero, suc, ◌+◌}
use mathlib.Core.Path.{◌≡◌, refl, sym, ap, ◌∙◌}
use mathlib.Core.Bool.{Bool, true, false, ◌&&◌, ◌||◌, true≢false}
use mathlib.Core.List.{List, [], ◌∷◌, ◌++◌, append-nil}
use native.Mathlib.Omega.{arith}
use lib.Dec.{eqb}
use lib.ListN.{length, length-append}
use Rattle.bytecode.specs.declared.Op.TheVariants.{Jump}
use Rattle.lowering.specs.Code.{Code, ins, no_pos}
use Rattle.lowering.specs.Pools.{Pools, emits}
use Rattle.lowering.specs.Out.{Rec}
use Rattle.lowering.specs.SwitchSheet.{body_of}
use Rattle.lowering.specs.Arms.{Arm}
use Rattle.lowering.specs.Bodies.{Body, Bodies, wanted, lay_bodies}
use Rattle.lowering.specs.SwitchCode.{bodies_code, bodies_fall}
use Rattle.expr_model.specs.Made.{Made, made, emit, at_depth}
use Rattle.expr_model.specs.Construct.{Low}
use Rattle.expr_model.proofs.Put.{low_of, made-path}
use Rattle.expr_model.proofs.AfterLaws.{after-jump}
use Rattle.switch_model.specs.Change.{dropped, jump_to, none_from, body_to, bodies_to}
use Rattle.switch_model.proofs.TryLaws.{is_nil, behind}

-- ---- blocks, by the first

module _ (want : ℕ → Bool) (n k : ℕ) where
  pub none-wanted : want k ≡ true → none_from want (suc n) k ≡ false
  unfolding none_from
  none-wanted h = rw (h, none_from)

  pub none_passed : want k ≡ false → none_from want (suc n) k ≡ none_from want n (suc k)
  unfolding none_from
  none_passed h = rw (h, none_from)

  none_first : none_from want (suc n) k ≡ true → want k ≡ false
  none_first h = by (want k) refl
    where
      by : (t : Bool) → want k ≡ t → want k ≡ false
      by true e = absurd (true≢false (sym h ∙ none-wanted e))
      by false e = e

  none_rest : none_from want (suc n) k ≡ true → none_from want n (suc k) ≡ true
  none_rest h = sym (none_passed (none_first h)) ∙ h

  module _ (s : List ℕ) (low : Low) (end : ℕ) (falls : Bool) (a : Made) where
    pub bodies-wanted : want k ≡ true
        → bodies_to s low want end falls (suc n) k a
        ≡ bodies_to s low want end falls n (suc k) (body_to s low end (falls && none_from want n (suc k)) k a)
    unfolding bodies_to
    bodies-wanted h = rw (h, bodies_to)

    pub bodies-passed : want k ≡ false → bodies_to s low want end falls (suc n) k a ≡ bodies_to s low want end falls n (suc k) a
    unfolding bodies_to
    bodies-passed h = rw (h, bodies_to)

-- no body is wanted
module _ (s : List ℕ) (low : Low) (want : ℕ → Bool) (end : ℕ) (falls : Bool) where
  bodies-none : (n k : ℕ) (a : Made) → none_from want n k ≡ true → bodies_to s low want end falls n k a ≡ a
  unfolding bodies_to
  bodies-none zero k a h = refl
  bodies-none (suc n) k a h =
      bodies-passed want n k s low end falls a (none_first want n k h) ∙ bodies-none n (suc k) a (none_rest want n k h)

-- ---- the definition

-- block k is wanted
unfoldable pub wanted_in : List Arm → ℕ → ℕ → Bool
wanted_in arms def k = eqb def (suc k) || wanted k arms

abbrev pub no_bodies : Pools → Bodies
no_bodies p = record { bodies = []; pools = p }

module _ (s : List ℕ) (rec : Rec) (arms : List Arm) (def : ℕ) where
  module _ (n k b : ℕ) (p : Pools) where
    lay-wanted : wanted_in arms def k ≡ true
        → lay_bodies s rec arms def (suc n) k b p
        ≡ (let o = rec (body_of s k) b 1 p in
        let r = lay_bodies s rec arms def n (suc k) (b + length o.code + 1) (emits 1 o.pools) in
        record { bodies = record { block = k; place = b; code = o.code } ∷ r.bodies; pools = r.pools })
    unfolding lay_bodies wanted_in
    lay-wanted h = rw (h, lay_bodies)

    lay-passed : wanted_in arms def k ≡ false → lay_bodies s rec arms def (suc n) k b p ≡ lay_bodies s rec arms def n (suc k) b p
    unfolding lay_bodies wanted_in
    lay-passed h = rw (h, lay_bodies)

  lay-none : (n k b : ℕ) (p : Pools) → none_from (wanted_in arms def) n k ≡ true → lay_bodies s rec arms def n k b p ≡ no_bodies p
  unfolding lay_bodies
  lay-none zero k b p h = refl
  lay-none (suc n) k b p h =
      lay-passed n k b p (none_first (wanted_in arms def) n k h) ∙ lay-none n (suc k) b p (none_rest (wanted_in arms def) n k h)

  lay-some : (n k b : ℕ) (p : Pools) → none_from (wanted_in arms def) n k ≡ false → is_nil (lay_bodies s rec arms def n k b p).bodies ≡ false
  unfolding is_nil none_from
  lay-some zero k b p h = absurd (true≢false h)
  lay-some (suc n) k b p h = by (wanted_in arms def k) refl (lay-some n (suc k) b p)
    where
      by : (t : Bool) → wanted_in arms def k ≡ t
          → (none_from (wanted_in arms def) n (suc k) ≡ false → is_nil (lay_bodies s rec arms def n (suc k) b p).bodies ≡ false)
          → is_nil (lay_bodies s rec arms def (suc n) k b p).bodies ≡ false
      by true e more = rw (lay-wanted n k b p e)
      by false e more = rw (lay-passed n k b p e) (more (sym (none_passed (wanted_in arms def) n k e) ∙ h))

-- bodies with all jumps, or without the last
abbrev pub bodies_if : Bool → ℕ → List Body → Code
bodies_if true end xs = bodies_fall end xs
bodies_if false end xs = bodies_code end xs

fall-more : (end : ℕ) (x : Body) (xs : List Body) → is_nil xs ≡ false
    → bodies_fall end (x ∷ xs) ≡ x.code ++ (ins (Jump end) 2 no_pos ∷ bodies_fall end xs)
unfolding bodies_fall is_nil
fall-more end x [] h = absurd (true≢false h)
fall-more end x (y ∷ ys) h = refl

-- ---- the change

module _ (s : List ℕ) (rec : Rec) (end : ℕ) where
  -- a body with its jump
  body_is : (k : ℕ) (c : Code) (p : Pools) (d : ℕ)
      → body_to s (low_of rec) end false k (made c p d)
      ≡ (let o = rec (body_of s k) (length c) 1 p in made ((c ++ o.code) ++ (ins (Jump end) 2 no_pos ∷ [])) (emits 1 o.pools) 2)
  unfolding body_to jump_to emit at_depth
  body_is k c p d = made-path refl refl (after-jump 0 2 end)

  body-falls : (k : ℕ) (c : Code) (p : Pools) (d : ℕ)
      → body_to s (low_of rec) end true k (made c p d)
      ≡ (let o = rec (body_of s k) (length c) 1 p in made (c ++ o.code) (emits 1 o.pools) 2)
  unfolding body_to jump_to dropped at_depth
  body-falls k c p d = refl

  module _ (arms : List Arm) (def e : ℕ) where
    abbrev pub bodies_made : Bool → ℕ → ℕ → Code → Pools → Made
    bodies_made falls n k c p =
        let r = lay_bodies s rec arms def n k (length c) p in
        made (c ++ bodies_if falls end r.bodies) r.pools e

    -- what is shown of n blocks from k on
    abbrev Says : Bool → ℕ → ℕ → Type 0
    Says falls n k = (c : Code) (p : Pools) (d : ℕ)
        → at_depth e (bodies_to s (low_of rec) (wanted_in arms def) end falls n k (made c p d)) ≡ bodies_made falls n k c p

    -- a body and its jump, and the bodies behind them
    more-is : (falls : Bool) (n k : ℕ) (c : Code) (p : Pools) (d : ℕ) → Says falls n (suc k)
        → at_depth e (bodies_to s (low_of rec) (wanted_in arms def) end falls n (suc k) (body_to s (low_of rec) end false k (made c p d)))
        ≡ (let o = rec (body_of s k) (length c) 1 p in
        let r = lay_bodies s rec arms def n (suc k) (length c + length o.code + 1) (emits 1 o.pools) in
        made (c ++ (o.code ++ (ins (Jump end) 2 no_pos ∷ bodies_if falls end r.bodies))) r.pools e)
    more-is falls n k c p d more =
        let o = rec (body_of s k) (length c) 1 p in
        let i = ins (Jump end) 2 no_pos in
        let x = (c ++ o.code) ++ (i ∷ []) in
        let l : length x ≡ length c + length o.code + 1 =
        omega (arith, length-append (c ++ o.code) (i ∷ []), length-append c o.code) in
        let go : ℕ → Bodies = λ b. lay_bodies s rec arms def n (suc k) b (emits 1 o.pools) in
        ap (λ y. at_depth e (bodies_to s (low_of rec) (wanted_in arms def) end falls n (suc k) y)) (body_is k c p d)
        ∙ more x (emits 1 o.pools) 2
        ∙ ap (λ b. made (x ++ bodies_if falls end (go b).bodies) (go b).pools e) l
        ∙ made-path (behind c o.code i (bodies_if falls end (go (length c + length o.code + 1)).bodies)) refl refl

    -- a block that is not wanted
    passed_is : (falls : Bool) (n k : ℕ) → wanted_in arms def k ≡ false → Says falls n (suc k) → Says falls (suc n) k
    passed_is falls n k h more c p d =
        ap (at_depth e) (bodies-passed (wanted_in arms def) n k s (low_of rec) end falls (made c p d) h)
        ∙ more c p d
        ∙ ap (λ (r : Bodies). made (c ++ bodies_if falls end r.bodies) r.pools e) (sym (lay-passed s rec arms def n k (length c) p h))

    -- a block that is wanted, with its jump
    keeps-one : (n k : ℕ) → wanted_in arms def k ≡ true → Says false n (suc k) → Says false (suc n) k
    unfolding bodies_code
    keeps-one n k h more c p d =
        ap (at_depth e) (bodies-wanted (wanted_in arms def) n k s (low_of rec) end false (made c p d) h)
        ∙ more-is false n k c p d more
        ∙ ap (λ (r : Bodies). made (c ++ bodies_code end r.bodies) r.pools e) (sym (lay-wanted s rec arms def n k (length c) p h))

    -- the same, and the last one has no jump
    falls-one : (n k : ℕ) → wanted_in arms def k ≡ true → Says true n (suc k) → Says true (suc n) k
    unfolding bodies_fall at_depth
    falls-one n k h more c p d = by (none_from (wanted_in arms def) n (suc k)) refl
      where
        by : (t : Bool) → none_from (wanted_in arms def) n (suc k) ≡ t
            → at_depth e (bodies_to s (low_of rec) (wanted_in arms def) end true (suc n) k (made c p d)) ≡ bodies_made true (suc n) k c p
        by true z =
            let o = rec (body_of s k) (length c) 1 p in
            let b = length c + length o.code + 1 in
            rw (
              bodies-wanted (wanted_in arms def) n k s (low_of rec) end true (made c p d) h,
              z,
              lay-wanted s rec arms def n k (length c) p h,
              lay-none s rec arms def n (suc k) b (emits 1 o.pools) z,
            )
            (ap (at_depth e) (bodies-none s (low_of rec) (wanted_in arms def) end true n (suc k) _ z ∙ body-falls k c p d))
        by false z =
            let o = rec (body_of s k) (length c) 1 p in
            let b = length c + length o.code + 1 in
            let r = lay_bodies s rec arms def n (suc k) b (emits 1 o.pools) in
            rw (
              bodies-wanted (wanted_in arms def) n k s (low_of rec) end true (made c p d) h,
              z,
              lay-wanted s rec arms def n k (length c) p h,
            )
            (more-is true n k c p d more
            ∙ made-path
            (ap (λ (x : Code). c ++ x)
            (sym (fall-more end (record { block = k; place = length c; code = o.code }) r.bodies
            (lay-some s rec arms def n (suc k) b (emits 1 o.pools) z))))
            refl refl)

    one-is : (falls : Bool) (n k : ℕ) → Says falls n (suc k) → Says falls (suc n) k
    one-is falls n k more = by falls (wanted_in arms def k) refl more
      where
        by : (f t : Bool) → wanted_in arms def k ≡ t → Says f n (suc k) → Says f (suc n) k
        by true true h g = falls-one n k h g
        by false true h g = keeps-one n k h g
        by true false h g = passed_is true n k h g
        by false false h g = passed_is false n k h g

    pub bodies-is : (falls : Bool) (n k : ℕ) (c : Code) (p : Pools) (d : ℕ)
        → at_depth e (bodies_to s (low_of rec) (wanted_in arms def) end falls n k (made c p d)) ≡ bodies_made falls n k c p
    unfolding bodies_to lay_bodies at_depth bodies_fall bodies_code
    bodies-is true zero k c p d = made-path (sym (append-nil c)) refl refl
    bodies-is false zero k c p d = made-path (sym (append-nil c)) refl refl
    bodies-is falls (suc n) k c p d = one-is falls n k (bodies-is falls n (suc k)) c p d
