-- docs/PORT.md names these laws: of the end of the loop over lists, which asks only that the columns lie in the table, and of a search that
-- goes from head to head, where the code asks a chain.
use Prim.Native.Nat.{ℕ, ◌+◌, ◌≤◌, ◌<◌}
use mathlib.Core.Path.{◌≡◌, sym, ◌∙◌, ap}
use mathlib.Core.Bool.{Bool, false}
use mathlib.Core.List.{List, [], ◌∷◌, map}
use native.Mathlib.Omega.{arith}
use native.Mathlib.Numerals.{add-one}
use lib.ListN.{length, set, drop}
use lib.Seq.{get_or-set_same, get_or-set_other, drop-cons}
use Rattle.text.specs.Same.{same}
use Rattle.switch_tables.specs.Columns.{cell}
use Rattle.switch_tables.specs.Hash.{hash_of}
use Rattle.switch_tables.specs.Numbers.{number_in}
use Rattle.switch_tables.proofs.ColumnLaws.{column-kept, within-then, within-put, keys_length, key-at}
use Rattle.switch_heads.specs.Hashed.{lists_by, Hashed}
use Rattle.switch_heads.proofs.NumbersLaws.{number-later}
use Rattle.switch_heads.proofs.FillLaws.{Places, Fill, Ended, filled-heads}

module _ {key : ℕ → List ℕ} {p : Places} {ls : List (List ℕ)} {A : Type 0} {w : List ℕ} {n : ℕ} {v : List ℕ} {heads i : ℕ}
    (k : Fill key p ls A w n v heads i) (room : A → p.hashes + p.cap ≤ length w) (size_is : A → n ≡ length ls) where
  pub fill_end : {u : List ℕ} → n ≤ i → u ≡ set v p.counts heads → A → Ended key p ls w u
  fill_end {u} done e a =
      let f = k.filled a in
      let same = k.same in
      let whole = room a in
      let in₁ = p.first in
      let in₂ = p.second in
      let in₃ = p.third in
      let all = size_is a in
      let counted : cell u p.counts ≡ heads = rw e (get_or-set_same v p.counts heads 0 (omega arith)) in
      record {
        few = rw counted (omega (arith, k.few, k.within, k.low));
        heads-are = rw counted
            (ap (map key) (column-kept v u p.at heads (λ j h. other j h)) ∙ filled-heads f (omega (arith, k.within)));
        number_at = λ j h.
            rw e (get_or-set_other v p.counts (p.numbers + j) heads 0 (λ d. omega arith)) ∙ f.number_at j (omega (arith, k.within));
        stays =
            within-then f.stays
            (rw e (within-put p.counts (p.hashes + p.cap) v p.counts heads (omega arith) (omega arith)));
      }
    where
      other : (j : ℕ) → j < heads → cell u (p.at + j) ≡ cell v (p.at + j)
      other j h = rw e (get_or-set_other v p.counts (p.at + j) heads 0 (λ d. omega (arith, p.first, p.second)))

-- of k heads q are passed, and what is left gives the number of l, under the premises P, that h is its hash, and `Hashed`
pub record Looks (key : ℕ → List ℕ) (w : List ℕ) (at hashes k : ℕ) (l : List ℕ) (P : Type 0) (h q : ℕ) : Type 0 where
  pub within : q ≤ k
  pub left : P → h ≡ hash_of l → Hashed key w at hashes k
      → q + number_in l (drop q (lists_by key w at k)) ≡ number_in l (lists_by key w at k)

-- head q, at y, was compared, and has another list
module _ (key : ℕ → List ℕ) (w : List ℕ) (at hashes k : ℕ) (l : List ℕ) (P : Type 0) (h : ℕ) (q : ℕ)
    (c : Looks key w at hashes k l P h q) (o : q < k) (y : ℕ) (y-is : y ≡ cell w (at + q)) (t : Bool) (told : P → t ≡ same l (key y)) where
  pub looks_on : t ≡ false → Looks key w at hashes k l P h (q + 1)
  looks_on other = record {
    within = omega arith;
    left = λ p e s.
        omega (
          arith,
          rw cons at (c.left p e s),
          number-later l (key (cell w (at + q))) (drop (q + 1) ms) (rw y-is at (sym (told p) ∙ other)),
        );
  }
    where
      ms : List (List ℕ)
      ms = lists_by key w at k

      cons : drop q ms ≡ key (cell w (at + q)) ∷ drop (q + 1) ms
      cons = rw (add-one, drop-cons ms q [] (omega (arith, keys_length key w at k)), key-at key w at [] k q o)
