-- Laws of the cells of the flat table: what a write leaves, and which columns stay.
use Prim.Native.Nat.{ℕ, zero, suc, ◌+◌, ◌<◌, ◌≤◌}
use mathlib.Core.Path.{◌≡◌, refl, ◌∙◌, ap}
use mathlib.Core.List.{List, [], ◌∷◌, ◌++◌, map, map-append}
use native.Mathlib.Omega.{arith}
use native.Mathlib.Numerals.{add-one}
use native.Mathlib.Decide.{dec_lt}
use lib.ListN.{length, get_or, set, length-append, length-map, get_or-append}
use lib.Seq.{get_or-set_other, get_or_at}
use Rattle.switch_tables.specs.Columns.{cell, column, Within}

-- ---- what stays

pub within_none : (lo hi : ℕ) (w : List ℕ) → Within lo hi w w
within_none lo hi w = record { low = λ i h. refl; high = λ i h. refl }

pub within-then : {lo hi : ℕ} {w v u : List ℕ} → Within lo hi w v → Within lo hi v u → Within lo hi w u
within-then a b = record { low = λ i h. b.low i h ∙ a.low i h; high = λ i h. b.high i h ∙ a.high i h }

pub within_wider : {lo hi : ℕ} {w v : List ℕ} (lo' hi' : ℕ) → lo' ≤ lo → hi ≤ hi' → Within lo hi w v → Within lo' hi' w v
within_wider lo' hi' a b c = record { low = λ i h. c.low i (omega arith); high = λ i h. c.high i (omega arith) }

pub within-put : (lo hi : ℕ) (w : List ℕ) (at v : ℕ) → lo ≤ at → at < hi → Within lo hi w (set w at v)
within-put lo hi w at v a b = record {
  low = λ i h. get_or-set_other w at i v 0 (λ (e : i ≡ at). omega arith);
  high = λ i h. get_or-set_other w at i v 0 (λ (e : i ≡ at). omega arith);
}

-- ---- columns

pub column-more : (w : List ℕ) (at n : ℕ) → column w at (n + 1) ≡ column w at n ++ (cell w (at + n) ∷ [])
unfolding column
column-more w at n = rw (add-one, column)

column-length : (w : List ℕ) (at n : ℕ) → length (column w at n) ≡ n
unfolding column
column-length w at zero = refl
column-length w at (suc n) = omega (arith, length-append (column w at n) (cell w (at + n) ∷ []), column-length w at n)

-- a column stays where its cells do
pub column-kept : (w v : List ℕ) (at n : ℕ) → ((i : ℕ) → i < n → cell v (at + i) ≡ cell w (at + i)) → column v at n ≡ column w at n
unfolding column
column-kept w v at zero h = refl
column-kept w v at (suc n) h =
    ap (λ l. l ++ (cell v (at + n) ∷ [])) (column-kept w v at n (λ i l. h i (omega arith)))
    ∙ ap (λ x. column w at n ++ (x ∷ [])) (h n (omega arith))

-- the things that f gives of its cells
module _ {B : Type 0} (f : ℕ → B) (w : List ℕ) (at : ℕ) where
  pub keys_length : (n : ℕ) → length (map f (column w at n)) ≡ n
  keys_length n = length-map (column w at n) f ∙ column-length w at n

  pub key-at : (d : B) (n i : ℕ) → i < n → get_or (map f (column w at n)) i d ≡ f (cell w (at + i))
  unfolding column
  key-at d zero i h = absurd (omega arith)
  key-at d (suc n) i h =
      let xs = map f (column w at n) in
      rw (map-append f (column w at n) (cell w (at + n) ∷ []))
      (elim (dec_lt i n) [
        | yes l ↦ get_or-append xs (f (cell w (at + n)) ∷ []) d i (omega (arith, keys_length n)) ∙ key-at d n i l
        | no m ↦ let e : i ≡ n = omega arith in rw e (get_or_at xs (f (cell w (at + n))) [] d n (keys_length n))
      ])
