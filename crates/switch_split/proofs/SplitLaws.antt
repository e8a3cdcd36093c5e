-- What else holds of the split: its entries ascend; each has blocks, which are blocks of the ranges, and its ends are end points of
-- ranges; there are fewer than twice as many entries as cuts.
use Prim.Native.Nat.{ℕ, ◌+◌, ◌*◌, ◌-◌, ◌≤◌}
use mathlib.Core.Path.{◌≡◌, refl}
use mathlib.Core.Bool.{Bool, true, false}
use mathlib.Core.Logic.{⊎_elim}
use mathlib.Core.Option.{Option, none, some}
use mathlib.Core.List.Memᴰ
use mathlib.Core.List.{List, [], ◌∷◌, map, Memᴰ}
use native.Mathlib.Omega.{arith}
use lib.ListN.{length, length-map}
use Rattle.text.specs.Same.{same}
use Rattle.text.proofs.SameLaws.{same_true}
use Rattle.switch_split.specs.Range.{Range, blocks_where}
use Rattle.switch_split.proofs.RangeLaws.{within-le, where-yes, where-no}
use Rattle.switch_split.specs.Points.{points, cuts}
use Rattle.switch_split.specs.Points.{Strict}
use Rattle.switch_split.proofs.PointsLaws.{cuts-strict, All, cuts-all}
use Rattle.switch_split.specs.Split.{Entry, point, between, atoms_from, atoms, covers, piece, stretch, opened, join, pieces, split}
use Rattle.switch_split.proofs.JoinLaws.{Chained, Filled, join-same, join-other}
use Rattle.switch_split.proofs.SplitRight.{from-cuts-chained}

-- ---- each entry

-- these are blocks of the ranges
abbrev pub Known : List Range → List ℕ → Type 0
Known rs bs = (b : ℕ) → Memᴰ b bs → Memᴰ b (map (λ (r : Range). r.block) rs)

-- P holds of the ends
pub record Good (P : ℕ → Type 0) (rs : List Range) (e : Entry) : Type 0 where
  pub filled : Filled e.blocks
  pub known : Known rs e.blocks
  pub start : P e.from
  pub end : P e.to

abbrev pub Every : (Entry → Type 0) → List Entry → Type 0
Every Q [] = Unit {0}
Every Q (e ∷ es) = Q e × Every Q es

where-known : (f : Range → Bool) (rs : List Range) → Known rs (blocks_where f rs)
unfolding blocks_where
where-known f [] b m = m
where-known f (r ∷ rs) b m = by (f r) refl (where-known f rs b)
  where
    by : (t : Bool) → f r ≡ t → (Memᴰ b (blocks_where f rs) → Memᴰ b (map (λ (s : Range). s.block) rs))
        → Memᴰ b (map (λ (s : Range). s.block) (r ∷ rs))
    by true q k = ⊎_elim Memᴰ.head (λ n. Memᴰ.tail (k n)) (Memᴰ.cases_cons (rw (where-yes f r rs q) at m))
    by false q k = Memᴰ.tail (k (rw (where-no f r rs q) at m))

module _ (P : ℕ → Type 0) (rs : List Range) where
  -- a piece is good if it has blocks
  abbrev Piece : Entry → Type 0
  Piece e = Filled e.blocks → Good P rs e

  abbrev Band : Option Entry → Type 0
  Band none = Unit {0}
  Band (some band) = Good P rs band

  opened-good : (e : Entry) (bs : List ℕ) → e.blocks ≡ bs → Piece e → Band (opened e bs)
  unfolding opened
  opened-good e [] q h = tt
  opened-good e (b ∷ bs) q h = h (rw q tt)

  join-good : (es : List Entry) → Every Piece es → (o : Option Entry) → Band o → Every (Good P rs) (join o es)
  unfolding join
  join-good [] h none r = tt
  join-good [] h (some band) r = (r, tt)
  join-good (e ∷ es) h none r = join-good es h.1 (opened e e.blocks) (opened-good e e.blocks refl h.0)
  join-good (e ∷ es) h (some band) r = by (same band.blocks e.blocks) refl (join-good es h.1)
    where
      by : (t : Bool) → same band.blocks e.blocks ≡ t → ((o : Option Entry) → Band o → Every (Good P rs) (join o es))
          → Every (Good P rs) (join (some band) (e ∷ es))
      by true q next =
          let m : band.blocks ≡ e.blocks = same_true band.blocks e.blocks q in
          rw (join-same band e es q)
          (next (some (stretch band e))
          (record { filled = r.filled; known = r.known; start = r.start; end = (h.0 (rw m at r.filled)).end }))
      by false q next = rw (join-other band e es q) (r, next (opened e e.blocks) (opened-good e e.blocks refl h.0))

  from-good : (p : ℕ) (ps : List ℕ) → P p → All P ps → Every Piece (map (piece rs) (atoms_from p ps))
  unfolding atoms_from piece
  from-good p [] h k = ((λ f. record { filled = f; known = where-known (covers (point p)) rs; start = h; end = h }), tt)
  from-good p (q ∷ ps) h k = (
    (λ f. record { filled = f; known = where-known (covers (point p)) rs; start = h; end = h }),
    ((λ f. record { filled = f; known = where-known (covers (between p q)) rs; start = h; end = k.0 }), from-good q ps k.0 k.1),
  )

  cuts-good : (cs : List ℕ) → All P cs → Every (Good P rs) (join none (map (piece rs) (atoms cs)))
  unfolding atoms
  cuts-good [] h = join-good [] tt none tt
  cuts-good (p ∷ ps) h = join-good (map (piece rs) (atoms_from p ps)) (from-good p ps h.0 h.1) none tt

-- each entry has blocks, all of them blocks of ranges, and what holds of all end points of ranges holds of its ends
pub split_good : (P : ℕ → Type 0) (rs : List Range) → All P (points rs) → Every (Good P rs) (split rs)
unfolding split pieces
split_good P rs h = cuts-good P rs (cuts rs) (cuts-all P rs h)

-- ---- the order of the entries

-- each entry starts where the one before it ends, or above, the first at t or above
abbrev pub Upward : ℕ → List Entry → Type 0
Upward t [] = Unit {0}
Upward t (e ∷ es) = (t ≤ e.from) × (e.from ≤ e.to) × Upward e.to es

-- an open band that starts at s or above and ends at t
abbrev Running : ℕ → ℕ → Option Entry → Type 0
Running s t none = s ≤ t
Running s t (some band) = (s ≤ band.from) × (band.from ≤ band.to) × (band.to ≡ t)

opened-running : (s : ℕ) (e : Entry) (bs : List ℕ) → s ≤ e.from → e.from ≤ e.to → Running s e.to (opened e bs)
unfolding opened
opened-running s e [] h k = omega arith
opened-running s e (b ∷ bs) h k = (h, k, refl)

join-upward : (s t : ℕ) (es : List Entry) → Chained t es → (o : Option Entry) → Running s t o → Upward s (join o es)
unfolding join
join-upward s t [] ch none r = tt
join-upward s t [] ch (some band) r = (r.0, r.1, tt)
join-upward s t (e ∷ es) ch none r =
    join-upward s e.to es ch.2 (opened e e.blocks)
    (opened-running s e e.blocks (omega arith) (within-le e.to e.inclusive e.from ch.1))
join-upward s t (e ∷ es) ch (some band) r = by (same band.blocks e.blocks) refl (λ u. join-upward u e.to es ch.2)
  where
    up : e.from ≤ e.to
    up = within-le e.to e.inclusive e.from ch.1

    by : (b : Bool) → same band.blocks e.blocks ≡ b → ((u : ℕ) (o : Option Entry) → Running u e.to o → Upward u (join o es))
        → Upward s (join (some band) (e ∷ es))
    by true q next = rw (join-same band e es q) (next s (some (stretch band e)) (r.0, omega (arith, up), refl))
    by false q next =
        rw (join-other band e es q)
        (r.0, r.1, next band.to (opened e e.blocks) (opened-running band.to e e.blocks (omega arith) up))

cuts-upward : (rs : List Range) (cs : List ℕ) → Strict cs → Upward 0 (join none (map (piece rs) (atoms cs)))
unfolding atoms
cuts-upward rs [] h = join-upward 0 0 [] tt none (omega arith)
cuts-upward rs (p ∷ ps) h = join-upward 0 p (map (piece rs) (atoms_from p ps)) (from-cuts-chained rs p ps h) none (omega arith)

pub split-upward : (rs : List Range) → Upward 0 (split rs)
unfolding split pieces
split-upward rs = cuts-upward rs (cuts rs) (cuts-strict rs)

-- ---- the number of entries

abbrev waiting : Option Entry → ℕ
waiting none = 0
waiting (some band) = 1

opened-waiting : (e : Entry) (bs : List ℕ) → waiting (opened e bs) ≤ 1
unfolding opened
opened-waiting e [] = omega arith
opened-waiting e (b ∷ bs) = omega arith

join-count : (es : List Entry) (o : Option Entry) → length (join o es) ≤ waiting o + length es
unfolding join
join-count [] none = omega arith
join-count [] (some band) = omega arith
join-count (e ∷ es) none = omega (arith, join-count es (opened e e.blocks), opened-waiting e e.blocks)
join-count (e ∷ es) (some band) = by (same band.blocks e.blocks) refl (join-count es)
  where
    by : (b : Bool) → same band.blocks e.blocks ≡ b → ((o : Option Entry) → length (join o es) ≤ waiting o + length es)
        → length (join (some band) (e ∷ es)) ≤ 1 + length (e ∷ es)
    by true q next = rw (join-same band e es q) (omega (arith, next (some (stretch band e))))
    by false q next =
        rw (join-other band e es q) (omega (arith, next (opened e e.blocks), opened-waiting e e.blocks))

from-count : (p : ℕ) (ps : List ℕ) → length (atoms_from p ps) ≡ 1 + 2 * length ps
unfolding atoms_from
from-count p [] = refl
from-count p (q ∷ ps) = omega (arith, from-count q ps)

pub atoms-count : (cs : List ℕ) → length (atoms cs) ≡ 2 * length cs - 1
unfolding atoms
atoms-count [] = refl
atoms-count (p ∷ ps) = omega (arith, from-count p ps)

pub split-count : (rs : List Range) → length (split rs) ≤ 2 * length (cuts rs) - 1
unfolding split pieces
split-count rs =
    omega (
      arith,
      join-count (map (piece rs) (atoms (cuts rs))) none,
      length-map (atoms (cuts rs)) (piece rs),
      atoms-count (cuts rs),
    )
