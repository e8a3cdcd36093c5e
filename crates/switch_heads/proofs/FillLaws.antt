-- The loop that finds the heads of lists and the number of each: its invariant, `Fill`, over the columns of the table, with start,
-- step and end. The key gives the list of what a head's cell holds; the lists ls are met in order. A is what the contract asks.
use Prim.Native.Nat.{ℕ, ◌+◌, ◌≤◌, ◌<◌}
use mathlib.Core.Path.{◌≡◌, refl, sym, ◌∙◌, ap}
use mathlib.Core.Bool.{true, false}
use mathlib.Core.List.{List, [], ◌∷◌, ◌++◌, map, map-append, append-nil}
use native.Mathlib.Omega.{arith}
use native.Mathlib.Numerals.{add-one}
use native.Mathlib.Decide.{dec_lt}
use borrow.Table.Steps.{cases}
use lib.ListN.{length, get_or, drop, set, length-set}
use lib.Seq.{drop-cons, drop-length, get_or-set_same, get_or-set_other}
use Rattle.lowering.specs.Arms.{member_of, distinct_from, distinct}
use Rattle.switch_tables.specs.Columns.{size, cell, column, Within}
use Rattle.switch_tables.specs.Hash.{hash_of}
use Rattle.switch_tables.specs.Numbers.{number_in, with_head}
use Rattle.switch_tables.proofs.ColumnLaws.{column-more, column-kept, keys_length, within_none, within-then, within-put}
use Rattle.switch_heads.specs.Hashed.{lists_by, Hashed, Numbered, met, first}
use Rattle.switch_heads.proofs.NumbersLaws.{number-found, number-missing, with-old, with-new, heads-step, final}

-- where the columns stand: the count of heads, the number of each list, the heads and the hashes of theirs, with `cap` cells each
pub record Places : Type 0 where
  pub counts : ℕ
  pub numbers : ℕ
  pub at : ℕ
  pub hashes : ℕ
  pub cap : ℕ
  pub first : counts < numbers
  pub second : numbers + cap ≤ at
  pub third : at + cap ≤ hashes
  pub inside : hashes + cap ≤ size

-- of the lists ls the first i are passed; they have `heads` heads
pub record Filled (key : ℕ → List ℕ) (p : Places) (ls : List (List ℕ)) (w v : List ℕ) (heads i : ℕ) : Type 0 where
  pub left : lists_by key v p.at heads ++ distinct_from (lists_by key v p.at heads) (drop i ls) ≡ distinct ls
  pub number_at : (k : ℕ) → k < i → cell v (p.numbers + k) ≡ number_in (get_or ls k []) (distinct ls)
  pub hashed : Hashed key v p.at p.hashes heads
  pub stays : Within p.counts (p.hashes + p.cap) w v

-- w is the table at the start, v as it is now; of n lists the first i are passed
pub record Fill (key : ℕ → List ℕ) (p : Places) (ls : List (List ℕ)) (A : Type 0) (w : List ℕ) (n : ℕ) (v : List ℕ)
    (heads i : ℕ) : Type 0 where
  pub within : i ≤ n
  pub few : heads ≤ i
  pub low : n ≤ p.cap
  pub same : length v ≡ length w
  pub filled : A → Filled key p ls w v heads i

-- what is there in the end
pub record Ended (key : ℕ → List ℕ) (p : Places) (ls : List (List ℕ)) (w u : List ℕ) : Type 0 where
  pub few : cell u p.counts ≤ p.cap
  pub heads-are : lists_by key u p.at (cell u p.counts) ≡ distinct ls
  pub number_at : (k : ℕ) → k < length ls → cell u (p.numbers + k) ≡ number_in (get_or ls k []) (distinct ls)
  pub stays : Within p.counts (p.hashes + p.cap) w u

-- what is written for list i: its number, and behind it a head, which may be a new one
abbrev pub numbered : Places → List ℕ → ℕ → ℕ → List ℕ
numbered p v i q = set v (p.numbers + i) q

abbrev pub headed : Places → List ℕ → ℕ → ℕ → ℕ → ℕ → ℕ → List ℕ
headed p v i q heads c x = set (set (numbered p v i q) (p.at + heads) c) (p.hashes + heads) x

-- list i has number q in u, and u is v but there and at head `heads`
record Step (p : Places) (v u : List ℕ) (heads i q : ℕ) : Type 0 where
  number : cell u (p.numbers + i) ≡ q
  others : (k : ℕ) → (k ≡ p.numbers + i → ⊥) → (k ≡ p.at + heads → ⊥) → (k ≡ p.hashes + heads → ⊥) → cell u k ≡ cell v k

module _ (p : Places) (v : List ℕ) (heads i q : ℕ) (long : p.hashes + p.cap ≤ length v) (low : i < p.cap) (few : heads < p.cap) where
  step-old : Step p v (numbered p v i q) heads i q
  step-old = record {
    number = get_or-set_same v (p.numbers + i) q 0 (omega arith);
    others = λ k a b c. get_or-set_other v (p.numbers + i) k q 0 a;
  }

  module _ (c x : ℕ) where
    abbrev one : List ℕ
    one = numbered p v i q

    abbrev two : List ℕ
    two = set one (p.at + heads) c

    other : (k : ℕ) → (k ≡ p.at + heads → ⊥) → (k ≡ p.hashes + heads → ⊥) → cell (headed p v i q heads c x) k ≡ cell one k
    other k a b = get_or-set_other two (p.hashes + heads) k x 0 b ∙ get_or-set_other one (p.at + heads) k c 0 a

    step-new : Step p v (headed p v i q heads c x) heads i q
    step-new = record {
      number = other (p.numbers + i) (λ e. omega arith) (λ e. omega arith) ∙ step-old.number;
      others = λ k a b d. other k b d ∙ step-old.others k a b d;
    }

    head-is : cell (headed p v i q heads c x) (p.at + heads) ≡ c
    head-is =
        get_or-set_other two (p.hashes + heads) (p.at + heads) x 0 (λ e. omega arith)
        ∙ get_or-set_same one (p.at + heads) c 0 (simp length-set (omega arith))

    hash-is : cell (headed p v i q heads c x) (p.hashes + heads) ≡ x
    hash-is = get_or-set_same two (p.hashes + heads) x 0 (simp length-set (omega arith))

module _ {key : ℕ → List ℕ} {p : Places} {ls : List (List ℕ)} {w v : List ℕ} {heads i : ℕ} (c : Filled key p ls w v heads i) where
  abbrev hs : List (List ℕ)
  hs = lists_by key v p.at heads

  pub filled-heads : i ≡ length ls → hs ≡ distinct ls
  unfolding distinct_from
  filled-heads e =
      let none : drop i ls ≡ [] = rw (e, drop-length) in
      sym (append-nil hs) ∙ rw none at c.left

  module _ (more : i < length ls) (low : i < p.cap) (few : heads ≤ i) (l : List ℕ) (l-is : get_or ls i [] ≡ l) (q : ℕ)
      (q-is : q ≡ number_in l hs) (u : List ℕ) (k : Step p v u heads i q) where
    here : hs ++ distinct_from hs (l ∷ drop (i + 1) ls) ≡ distinct ls
    here =
        let cons : drop i ls ≡ l ∷ drop (i + 1) ls = rw (add-one, drop-cons ls i [], l-is) in
        rw cons at c.left

    head-kept : (j : ℕ) → j < heads → cell u (p.at + j) ≡ cell v (p.at + j)
    head-kept j h =
        let a = p.second in
        let b = p.third in
        k.others (p.at + j) (λ e. omega arith) (λ e. omega arith) (λ e. omega arith)

    same-heads : lists_by key u p.at heads ≡ hs
    same-heads = ap (map key) (column-kept v u p.at heads head-kept)

    -- what holds in both cases; `heads'` heads are there now
    next : (heads' : ℕ) → lists_by key u p.at heads' ≡ with_head l hs
        → ((j : ℕ) → heads ≤ j → j < heads' → cell u (p.hashes + j) ≡ hash_of (key (cell u (p.at + j))))
        → Filled key p ls w u heads' (i + 1)
    next heads' e x = record {
      left = rw e (sym (heads-step l hs (drop (i + 1) ls)) ∙ here);
      number_at = λ j h. elim (dec_lt j i) [
        | yes b ↦ k.others (p.numbers + j) (λ e. omega arith) (λ e. omega arith) (λ e. omega arith) ∙ c.number_at j b
        | no m ↦
            let d : j ≡ i = omega arith in
            rw (d, l-is) (k.number ∙ q-is ∙ final l hs (drop (i + 1) ls) (distinct ls) here)
      ];
      hashed = record {
        hash_at = λ j h. elim (dec_lt j heads) [
          | yes b ↦
              k.others (p.hashes + j) (λ e. omega arith) (λ e. omega arith) (λ e. omega arith)
              ∙ c.hashed.hash_at j b
              ∙ ap (λ (y : ℕ). hash_of (key y)) (sym (head-kept j b))
          | no m ↦ x j (omega arith) h
        ];
      };
      stays = within-then c.stays (record {
        low = λ j h. k.others j (λ e. omega arith) (λ e. omega arith) (λ e. omega arith);
        high = λ j h. k.others j (λ e. omega arith) (λ e. omega arith) (λ e. omega arith);
      });
    }

    -- the list is that of a head
    filled-old : (q ≡ heads → ⊥) → Filled key p ls w u heads (i + 1)
    filled-old ne =
        let met : member_of l hs ≡ true =
        cases (member_of l hs) (λ e. e) (λ e. absurd (ne (q-is ∙ number-missing l hs e ∙ keys_length key v p.at heads))) in
        next heads (same-heads ∙ sym (with-old l hs met)) (λ j a b. absurd (omega arith))

    -- it is a new head
    filled-new : q ≡ heads → key (cell u (p.at + heads)) ≡ l → cell u (p.hashes + heads) ≡ hash_of l
        → Filled key p ls w u (heads + 1) (i + 1)
    filled-new e head hash =
        let grown : lists_by key u p.at (heads + 1) ≡ hs ++ (l ∷ []) =
        ap (map key) (column-more u p.at heads)
        ∙ map-append key (column u p.at heads) (cell u (p.at + heads) ∷ [])
        ∙ rw (same-heads, head) in
        let met : member_of l hs ≡ false =
        cases (member_of l hs) (λ y. absurd (omega (arith, number-found l hs y, keys_length key v p.at heads))) (λ y. y) in
        next (heads + 1) (grown ∙ sym (with-new l hs met)) (λ j a b. let d : j ≡ heads = omega arith in rw (d, head) hash)

module _ {key : ℕ → List ℕ} {p : Places} {ls : List (List ℕ)} {A : Type 0} {w : List ℕ} where
  pub fill_start : (n : ℕ) → n ≤ p.cap → Fill key p ls A w n w 0 0
  unfolding distinct column
  fill_start n h = record {
    within = omega arith;
    few = omega arith;
    low = h;
    same = refl;
    filled = λ a. record {
      left = refl;
      number_at = λ k l. absurd (omega arith);
      hashed = record { hash_at = λ q l. absurd (omega arith) };
      stays = within_none p.counts (p.hashes + p.cap) w;
    };
  }

  module _ {n : ℕ} {v : List ℕ} {heads i : ℕ} (k : Fill key p ls A w n v heads i) (long : A → length w ≡ size)
      (size_is : A → n ≡ length ls) where
    -- list i is that of x
    module _ (more : i < n) (x : ℕ) (x-is : A → get_or ls i [] ≡ key x) (u : List ℕ) (heads' : ℕ) where
      room : (j : ℕ) → j ≤ i → j < p.cap
      room j h = omega (arith, k.low)

      wide : A → p.hashes + p.cap ≤ length v
      wide a = omega (arith, k.same, long a, p.inside)

      step : A → Numbered key p.numbers p.at p.hashes v heads i x u heads' → Filled key p ls w u heads' (i + 1)
      step a (met q q-is l e h) =
          let low = room i (omega arith) in
          let few = room heads k.few in
          rw h
          (filled-old (k.filled a) (omega (arith, size_is a)) low k.few (key x) (x-is a) q q-is u
          (rw e (step-old p v heads i q (wide a) low few))
          (λ o. omega arith))
      step a (first q-is e h) =
          let low = room i (omega arith) in
          let few = room heads k.few in
          let hash = hash_of (key x) in
          rw h
          (filled-new (k.filled a) (omega (arith, size_is a)) low k.few (key x) (x-is a) heads q-is u
          (rw e (step-new p v heads i heads (wide a) low few x hash)) refl
          (ap key (rw e (head-is p v heads i heads (wide a) low few x hash))) (rw e (hash-is p v heads i heads (wide a) low few x hash)))

      pub fill-step : length u ≡ length v → heads' ≤ heads + 1 → (A → Numbered key p.numbers p.at p.hashes v heads i x u heads')
          → Fill key p ls A w n u heads' (i + 1)
      fill-step same most put = record {
        within = omega arith;
        few = omega (arith, k.few);
        low = k.low;
        same = same ∙ k.same;
        filled = λ a. step a (put a);
      }

    -- the count of heads is written at the end
    pub fill_end : {u : List ℕ} → n ≤ i → u ≡ set v p.counts heads → A → Ended key p ls w u
    fill_end {u} done e a =
        let f = k.filled a in
        let same = k.same in
        let whole = long a in
        let in₀ = p.inside in
        let in₁ = p.first in
        let in₂ = p.second in
        let in₃ = p.third in
        let all = size_is a in
        let counted : cell u p.counts ≡ heads = rw e (get_or-set_same v p.counts heads 0 (omega arith)) in
        record {
          few = rw counted (omega (arith, k.few, k.within, k.low));
          heads-are = rw counted
              (ap (map key) (column-kept v u p.at heads (λ j h. other j h)) ∙ filled-heads f (omega (arith, k.within)));
          number_at = λ j h.
              rw e (get_or-set_other v p.counts (p.numbers + j) heads 0 (λ d. omega arith)) ∙ f.number_at j (omega (arith, k.within));
          stays =
              within-then f.stays
              (rw e (within-put p.counts (p.hashes + p.cap) v p.counts heads (omega arith) (omega arith)));
        }
      where
        other : (j : ℕ) → j < heads → cell u (p.at + j) ≡ cell v (p.at + j)
        other j h = rw e (get_or-set_other v p.counts (p.at + j) heads 0 (λ d. omega (arith, p.first, p.second)))
