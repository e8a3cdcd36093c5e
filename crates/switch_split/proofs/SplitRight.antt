-- The first entry of the split that contains an integer has the blocks of all ranges that contain it, in source order.
use Prim.Native.Nat.{ℕ, ◌≤◌, ◌<◌}
use mathlib.Core.Path.{◌≡◌, refl, sym, ◌∙◌, ap}
use mathlib.Core.Bool.{true, false}
use mathlib.Core.Logic.{◌⊎◌, inl, inr, ⊎_elim}
use mathlib.Core.Option.{none}
use mathlib.Core.List.Memᴰ
use mathlib.Core.List.{List, [], ◌∷◌, map, Memᴰ}
use native.Mathlib.Omega.{arith}
use native.Mathlib.Decide.{dec_lt}
use lib.Dec.{leb}
use borrow.Author.Tests.{leb-true, le-leb, lt-leb}
use Rattle.laws.proofs.Bool.{and_left, and_right, right-fails}
use Rattle.switch_split.specs.Range.{Range, contains, blocks_where, containing}
use Rattle.switch_split.proofs.RangeLaws.{within-le, within-lt, inside-yes, inside-no, where-same, where-none, where-less}
use Rattle.switch_split.specs.Points.{points, cuts}
use Rattle.switch_split.specs.Points.{Rising, Strict}
use Rattle.switch_split.proofs.PointsLaws.{cuts-strict, cuts-have, from-point, to-point}
use Rattle.switch_split.specs.Split.{Entry, holds, first_match, point, between, atoms_from, atoms, covers, piece, join, pieces, split}
use Rattle.switch_split.proofs.JoinLaws.{Chained, kept, kept-no, kept-yes, join_first}

pub rising-above : (p e : ℕ) (ps : List ℕ) → Rising p ps → Memᴰ e ps → p < e
rising-above p e [] h m = elim m [ ]
rising-above p e (q ∷ ps) h m =
    ⊎_elim (λ (k : e ≡ q). omega arith) (λ n. omega (arith, rising-above q e ps h.1 n)) (Memᴰ.cases_cons m)

rising-from : (p e : ℕ) (ps : List ℕ) → Rising p ps → Memᴰ e (p ∷ ps) → p ≤ e
rising-from p e ps h m = ⊎_elim (λ (k : e ≡ p). omega arith) (λ n. omega (arith, rising-above p e ps h n)) (Memᴰ.cases_cons m)

module _ (rs : List Range) where
  -- the pieces from the cut p on, before they are joined
  abbrev pub from-cuts : ℕ → List ℕ → List Entry
  from-cuts p ps = map (piece rs) (atoms_from p ps)

  pub from-cuts-chained : (p : ℕ) (ps : List ℕ) → Rising p ps → Chained p (from-cuts p ps)
  unfolding atoms_from piece
  from-cuts-chained p [] h = (refl, omega arith, tt)
  from-cuts-chained p (q ∷ ps) h = (refl, omega arith, (refl, h.0, from-cuts-chained q ps h.1))

  -- every end point is below p, or one of the cuts p and ps
  abbrev Ends : ℕ → List ℕ → Type 0
  Ends p ps = (e : ℕ) → Memᴰ e (points rs) → (e < p) ⊎ Memᴰ e (p ∷ ps)

  ends_next : (p q : ℕ) (ps : List ℕ) → p < q → Ends p (q ∷ ps) → Ends q ps
  ends_next p q ps h k e m =
      ⊎_elim
      (λ (l : e < p). inl (omega arith))
      (λ n. ⊎_elim (λ (l : e ≡ p). inl (omega arith)) inr (Memᴰ.cases_cons n))
      (k e m)

  -- between two neighbouring cuts lies no end point
  ends-apart : (p q : ℕ) (ps : List ℕ) → Rising p (q ∷ ps) → Ends p (q ∷ ps) → (e : ℕ) → Memᴰ e (points rs) → (e ≤ p) ⊎ (q ≤ e)
  ends-apart p q ps h k e m =
      ⊎_elim
      (λ (l : e < p). inl (omega arith))
      (λ n. ⊎_elim (λ (l : e ≡ p). inl (omega arith)) (λ o. inr (rising-from q e ps h.1 o)) (Memᴰ.cases_cons n))
      (k e m)

  module _ (x : ℕ) where
    point-no : (p : ℕ) → (x ≡ p → ⊥) → holds (piece rs (point p)) x ≡ false
    unfolding piece
    point-no p h = inside-no p p true x (λ low high. h (omega arith))

    point-yes : (p : ℕ) → x ≡ p → holds (piece rs (point p)) x ≡ true
    unfolding piece
    point-yes p h = inside-yes p p true x (omega arith) (omega arith)

    between-no : (p q : ℕ) → (p ≤ x → q ≤ x) → holds (piece rs (between p q)) x ≡ false
    unfolding piece
    between-no p q h = inside-no p q false x (λ low high. omega (arith, h low))

    between-yes : (p q : ℕ) → p ≤ x → x < q → holds (piece rs (between p q)) x ≡ true
    unfolding piece
    between-yes p q h k = inside-yes p q false x h k

    none_left : first_match (kept []) x ≡ []
    unfolding kept first_match
    none_left = refl

    -- no piece has an integer below the first cut
    below-cuts : (p : ℕ) (ps : List ℕ) → Rising p ps → x < p → first_match (kept (from-cuts p ps)) x ≡ []
    unfolding atoms_from
    below-cuts p [] h l = kept-no (piece rs (point p)) [] x (point-no p (λ e. omega arith)) ∙ none_left
    below-cuts p (q ∷ ps) h l =
        kept-no (piece rs (point p)) (piece rs (between p q) ∷ from-cuts q ps) x (point-no p (λ e. omega arith))
        ∙ kept-no (piece rs (between p q)) (from-cuts q ps) x (between-no p q (λ k. omega arith))
        ∙ below-cuts q ps h.1 (omega arith)

    -- above the last cut no range contains anything
    above-cuts : (p : ℕ) → Ends p [] → p < x → containing rs x ≡ []
    above-cuts p k h = where-none (λ r. contains r x) rs none_has
      where
        none_has : (r : Range) → Memᴰ r rs → contains r x ≡ false
        none_has r m =
            inside-no r.from r.to r.inclusive x
            (λ low high.
            let l : x ≤ r.to = within-le r.to r.inclusive x high in
            ⊎_elim
            (λ (n : r.to < p). omega arith)
            (λ n. omega (arith, Memᴰ.eq_of_singleton n))
            (k r.to (to-point r rs m)))

    -- strictly between two neighbouring cuts a range contains all or nothing
    gap : (p q : ℕ) → ((e : ℕ) → Memᴰ e (points rs) → (e ≤ p) ⊎ (q ≤ e)) → p < x → x < q
        → containing rs x ≡ blocks_where (covers (between p q)) rs
    unfolding covers
    gap p q apart h k =
        where-same (λ r. contains r x) (covers (between p q)) rs
        (λ r m. by r (apart r.from (from-point r rs m)) (apart r.to (to-point r rs m)))
      where
        outside : (r : Range) → (r.from ≤ x → x ≤ r.to → ⊥) → contains r x ≡ false
        outside r n = inside-no r.from r.to r.inclusive x (λ low high. n low (within-le r.to r.inclusive x high))

        by : (r : Range) → (r.from ≤ p) ⊎ (q ≤ r.from) → (r.to ≤ p) ⊎ (q ≤ r.to) → contains r x ≡ covers (between p q) r
        by r (inl a) (inl b) =
            cc (outside r (λ low high. omega arith), right-fails (leb r.from p) (leb q r.to) (lt-leb q r.to (omega arith)))
        by r (inl a) (inr b) =
            cc (
              inside-yes r.from r.to r.inclusive x (omega arith) (within-lt r.to r.inclusive x (omega arith)),
              le-leb r.from p a,
              le-leb q r.to b,
            )
        by r (inr a) o = cc (outside r (λ low high. omega arith), lt-leb r.from p (omega arith))

    -- what a gap above a point has, the point has
    gap_below : (p q : ℕ) → p < q → containing rs p ≡ [] → blocks_where (covers (between p q)) rs ≡ []
    unfolding covers
    gap_below p q h =
        where-less (covers (between p q)) (λ r. contains r p) rs
        (λ r t.
        let low : r.from ≤ p = leb-true r.from p (and_left (leb r.from p) (leb q r.to) t) in
        let high : q ≤ r.to = leb-true q r.to (and_right (leb r.from p) (leb q r.to) t) in
        inside-yes r.from r.to r.inclusive p low (within-lt r.to r.inclusive p (omega arith)))

    point-blocks : (p : ℕ) → x ≡ p → (piece rs (point p)).blocks ≡ containing rs x
    unfolding piece covers
    point-blocks p h = ap (λ (y : ℕ). containing rs y) (sym h)

    between-blocks : (p q : ℕ) → (piece rs (between p q)).blocks ≡ blocks_where (covers (between p q)) rs
    unfolding piece
    between-blocks p q = refl

    -- x stands at a point, in the gap after it, or past both
    module _ (p q : ℕ) (ps : List ℕ) (h : Rising p (q ∷ ps)) where
      abbrev rest : List Entry
      rest = from-cuts q ps

      abbrev gap-on : List Entry
      gap-on = piece rs (between p q) ∷ rest

      at-point : x ≡ p → first_match (kept (piece rs (point p) ∷ gap-on)) x ≡ containing rs x
      at-point e =
          kept-yes (piece rs (point p)) gap-on x (point-yes p e)
          (λ n.
          kept-yes (piece rs (between p q)) rest x (between-yes p q (omega arith) (omega arith)) (λ _. below-cuts q ps h.1 (omega arith))
          ∙ between-blocks p q
          ∙ gap_below p q h.0 (ap (λ (y : ℕ). containing rs y) (sym e) ∙ sym (point-blocks p e) ∙ n))
          ∙ point-blocks p e

      in-gap : Ends p (q ∷ ps) → p < x → x < q → first_match (kept (piece rs (point p) ∷ gap-on)) x ≡ containing rs x
      in-gap k l m =
          kept-no (piece rs (point p)) gap-on x (point-no p (λ e. omega arith))
          ∙ kept-yes (piece rs (between p q)) rest x (between-yes p q (omega arith) m) (λ _. below-cuts q ps h.1 m)
          ∙ between-blocks p q
          ∙ sym (gap p q (ends-apart p q ps h k) l m)

      past-gap : q ≤ x → first_match (kept (piece rs (point p) ∷ gap-on)) x ≡ first_match (kept rest) x
      past-gap l =
          kept-no (piece rs (point p)) gap-on x (point-no p (λ e. omega (arith, h.0)))
          ∙ kept-no (piece rs (between p q)) rest x (between-no p q (λ k. l))

    from_first : (p : ℕ) (ps : List ℕ) → Rising p ps → Ends p ps → p ≤ x → first_match (kept (from-cuts p ps)) x ≡ containing rs x
    unfolding atoms_from
    from_first p [] h k l =
        elim (dec_lt p x) [
          | yes u ↦ kept-no (piece rs (point p)) [] x (point-no p (λ e. omega arith)) ∙ none_left ∙ sym (above-cuts p k u)
          | no n ↦ kept-yes (piece rs (point p)) [] x (point-yes p (omega arith)) (λ q. none_left) ∙ point-blocks p (omega arith)
        ]
    from_first p (q ∷ ps) h k l =
        elim (dec_lt x q) [
          | yes u ↦ elim (dec_lt p x) [ yes v ↦ in-gap p q ps h k v u | no n ↦ at-point p q ps h (omega arith) ]
          | no n ↦ past-gap p q ps h (omega arith) ∙ from_first q ps h.1 (ends_next p q ps h.0 k) (omega arith)
        ]

    -- below the first cut no range contains anything
    under-cuts : (p : ℕ) (ps : List ℕ) → Rising p ps → ((e : ℕ) → Memᴰ e (points rs) → Memᴰ e (p ∷ ps)) → x < p
        → containing rs x ≡ []
    under-cuts p ps h k l = where-none (λ r. contains r x) rs none_has
      where
        none_has : (r : Range) → Memᴰ r rs → contains r x ≡ false
        none_has r m =
            inside-no r.from r.to r.inclusive x
            (λ low high. omega (arith, rising-from p r.from ps h (k r.from (from-point r rs m))))

    on-cuts : (cs : List ℕ) → Strict cs → ((e : ℕ) → Memᴰ e (points rs) → Memᴰ e cs)
        → first_match (join none (map (piece rs) (atoms cs))) x ≡ containing rs x
    unfolding atoms
    on-cuts [] h k =
        join_first x 0 [] tt
        ∙ none_left
        ∙ sym (where-none (λ r. contains r x) rs (λ r m. elim (k r.from (from-point r rs m)) [ ]))
    on-cuts (p ∷ ps) h k =
        join_first x p (from-cuts p ps) (from-cuts-chained p ps h)
        ∙ elim (dec_lt x p) [
          | yes u ↦ below-cuts p ps h u ∙ sym (under-cuts p ps h k u)
          | no n ↦ from_first p ps h (λ e m. inr (k e m)) (omega arith)
        ]

-- the theorem of the split
pub split-right : (rs : List Range) (x : ℕ) → first_match (split rs) x ≡ containing rs x
unfolding split pieces
split-right rs x = on-cuts rs x (cuts rs) (cuts-strict rs) (λ e m. cuts-have e rs m)
