-- The bodies of a switch, laid out: one for each block that something can reach, in block order.
use Rattle.std.specs.Prelude.{ℕ, zero, suc, ◌+◌, Bool, true, false, ◌||◌, List, [], ◌∷◌, eqb, length}
use Rattle.lowering.specs.Code.{Code}
use Rattle.lowering.specs.Pools.{Pools, emits}
use Rattle.lowering.specs.Out.{Rec}
use Rattle.lowering.specs.SwitchSheet.{body_of}
use Rattle.lowering.specs.Arms.{Try, End, taken, declined, idle, Entry, to_body, to_chain, to_fallback, Arm}

pub record Body : Type 0 where
  pub block : ℕ
  pub place : ℕ
  pub code : Code

pub record Bodies : Type 0 where
  pub bodies : List Body
  pub pools : Pools

-- block k is named by a guard, by the end of a chain, by an entry
unfoldable pub try_wants : ℕ → List Try → Bool
try_wants k [] = false
try_wants k (t ∷ ts) = eqb k t.block || try_wants k ts

unfoldable pub end_wants : ℕ → End → Bool
end_wants k (taken j) = eqb k j
end_wants k declined = false
end_wants k idle = false

unfoldable pub entry_wants : ℕ → Entry → Bool
entry_wants k (to_body j) = eqb k j
entry_wants k (to_chain b ts e) = try_wants k ts || end_wants k e
entry_wants k to_fallback = false

unfoldable pub wanted : ℕ → List Arm → Bool
wanted k [] = false
wanted k (a ∷ as') = entry_wants k a.entry || wanted k as'

-- n blocks from k on; the default block (plus 1) is wanted in any case
unfoldable pub lay_bodies : List ℕ → Rec → List Arm → ℕ → ℕ → ℕ → ℕ → Pools → Bodies
lay_bodies s rec arms def zero k b p = record { bodies = []; pools = p }
lay_bodies s rec arms def (suc n) k b p =
    elim (eqb def (suc k) || wanted k arms) [
      | true ↦
          let o = rec (body_of s k) b 1 p in
          let r = lay_bodies s rec arms def n (suc k) (b + length o.code + 1) (emits 1 o.pools) in
          record { bodies = record { block = k; place = b; code = o.code } ∷ r.bodies; pools = r.pools }
      | false ↦ lay_bodies s rec arms def n (suc k) b p
    ]

-- instructions of the bodies, each with a jump behind it
unfoldable pub bodies_extent : List Body → ℕ
bodies_extent [] = 0
bodies_extent (x ∷ xs) = length x.code + 1 + bodies_extent xs

-- the same, but the last one falls through: it has no jump
unfoldable pub fall_extent : List Body → ℕ
fall_extent [] = 0
fall_extent (x ∷ []) = length x.code
fall_extent (x ∷ y ∷ xs) = length x.code + 1 + fall_extent (y ∷ xs)

-- where the body of block k stands
unfoldable pub body_at : ℕ → List Body → ℕ
body_at k [] = 0
body_at k (x ∷ xs) = elim (eqb k x.block) [ true ↦ x.place | false ↦ body_at k xs ]
