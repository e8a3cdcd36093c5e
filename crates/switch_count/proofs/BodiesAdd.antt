-- The bodies of a switch, laid out, are those of the blocks that are reached, and add what their tallies say.
use Prim.Native.Nat.{ℕ, zero, suc, ◌+◌}
use mathlib.Core.Path.{◌≡◌, refl, sym, ap}
use mathlib.Core.Bool.{Bool, true, false, ◌||◌, or-false}
use mathlib.Core.List.{List, [], ◌∷◌}
use native.Mathlib.Omega.{arith}
use lib.Dec.{eqb}
use lib.ListN.{length}
use Rattle.lowering.specs.Pools.{Pools, emits}
use Rattle.lowering.specs.Out.{Rec}
use Rattle.lowering.specs.SwitchSheet.{body_of}
use Rattle.lowering.specs.Arms.{Arm}
use Rattle.lowering.specs.Bodies.{Body, Bodies, wanted, lay_bodies, bodies_extent, fall_extent}
use Rattle.expr_count.specs.Tally.{instructions, nothing, plus, taken_back}
use Rattle.expr_count.specs.Count as Count
use Rattle.expr_count.proofs.Adds.{Adds, Counts, adds_none, adds-emits, adds-seq}
use Rattle.switch_count.specs.Arms.{any_wants}
use Rattle.switch_count.specs.Bodies.{bodies_from, bodies_tally, fall_tally}

-- the bodies xs, from place b on, are those of the blocks ks
pub data Placed (s : List ℕ) (t : Count.Rec) : ℕ → List ℕ → List Body → Type 0 where
  none : {b : ℕ} → Placed s t b [] []
  more : {b : ℕ} {ks : List ℕ} {xs : List Body} (x : Body) → x.place ≡ b → length x.code ≡ (t (body_of s x.block)).len
      → Placed s t (b + length x.code + 1) ks xs → Placed s t b (x.block ∷ ks) (x ∷ xs)

-- what they come to
pub record Sums (s : List ℕ) (t : Count.Rec) (b : ℕ) (p : Pools) (ks : List ℕ) (r : Bodies) : Type 0 where
  pub adds : Adds p (bodies_tally s t ks) (bodies_extent r.bodies) r.pools
  pub placed : Placed s t b ks r.bodies

module _ (s : List ℕ) (rec : Rec) (t : Count.Rec) (C : Counts rec t) (arms : List Arm) (ls : List (List ℕ))
    (w : (k : ℕ) → wanted k arms ≡ any_wants s k ls) (def : ℕ) where
  body-sum : (k b : ℕ) (p : Pools) (ks : List ℕ) (r : Bodies)
      → Sums s t (b + length (rec (body_of s k) b 1 p).code + 1) (emits 1 (rec (body_of s k) b 1 p).pools) ks r
      → Sums s t b p (k ∷ ks)
      (record { bodies = record { block = k; place = b; code = (rec (body_of s k) b 1 p).code } ∷ r.bodies; pools = r.pools })
  unfolding bodies_tally bodies_extent
  body-sum k b p ks r g =
      let o = rec (body_of s k) b 1 p in
      record {
        adds = adds-seq (adds-seq (C.each (body_of s k) b 1 p) (adds-emits 1 o.pools)) g.adds;
        placed = more (record { block = k; place = b; code = o.code }) refl (C.each (body_of s k) b 1 p).length-is g.placed;
      }

  pub bodies-sum : (n k b : ℕ) (p : Pools) → Sums s t b p (bodies_from s ls def n k) (lay_bodies s rec arms def n k b p)
  unfolding bodies_from lay_bodies bodies_tally bodies_extent
  bodies-sum zero k b p = record { adds = adds_none p; placed = none }
  bodies-sum (suc n) k b p =
      by (eqb def (suc k) || any_wants s k ls) refl (ap (λ x. eqb def (suc k) || x) (w k)) (λ b' p'. bodies-sum n (suc k) b' p')
    where
      by : (x : Bool) → (eqb def (suc k) || any_wants s k ls) ≡ x → (eqb def (suc k) || wanted k arms) ≡ (eqb def (suc k) || any_wants s k ls)
          → ((b' : ℕ) (p' : Pools) → Sums s t b' p' (bodies_from s ls def n (suc k)) (lay_bodies s rec arms def n (suc k) b' p'))
          → Sums s t b p (bodies_from s ls def (suc n) k) (lay_bodies s rec arms def (suc n) k b p)
      by true h g r =
          let o = rec (body_of s k) b 1 p in
          rw (g, h, bodies_from, lay_bodies) (body-sum k b p _ _ (r (b + length o.code + 1) (emits 1 o.pools)))
      by false h g r = rw (g, h, bodies_from, lay_bodies) (r b p)

-- ---- the last one falls through

pub fall-length : {s : List ℕ} {t : Count.Rec} {b : ℕ} {ks : List ℕ} {xs : List Body} → Placed s t b ks xs
    → fall_extent xs ≡ (fall_tally s t ks).len
unfolding fall_extent fall_tally plus instructions nothing taken_back
fall-length none = refl
fall-length (more x e n none) = omega arith
fall-length (more x e n (more y f m g)) = omega (arith, fall-length (more y f m g))

pub fall-emitted : (s : List ℕ) (t : Count.Rec) (ks : List ℕ) → (fall_tally s t ks).emitted ≡ (bodies_tally s t ks).emitted
unfolding bodies_tally fall_tally plus instructions nothing taken_back
fall-emitted s t [] = refl
fall-emitted s t (k ∷ []) = omega arith
fall-emitted s t (k ∷ j ∷ ks) = let r = fall-emitted s t (j ∷ ks) in omega arith

pub fall-defeated : (s : List ℕ) (t : Count.Rec) (ks : List ℕ) → (fall_tally s t ks).defeated ≡ (bodies_tally s t ks).defeated
unfolding bodies_tally fall_tally plus instructions nothing taken_back
fall-defeated s t [] = refl
fall-defeated s t (k ∷ []) = sym (or-false ((t (body_of s k)).defeated || false))
fall-defeated s t (k ∷ j ∷ ks) = ap (λ x. ((t (body_of s k)).defeated || false) || x) (fall-defeated s t (j ∷ ks))
