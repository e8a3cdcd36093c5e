-- The last part of the pass: each Variable gets the local of its rank in its slot, and the heads are cleared.
use Rattle.std.proofs.Common.{◌≡◌, ℕ, zero, suc, ◌+◌, ◌-◌, ◌<◌, ◌≤◌, List, length, get_or, set, sym, refl, ap, ◌∙◌, subst, add-one, arith}
use Rattle.std.proofs.Common.{length-set, get_or-set_other, get_or-set_same, Option, Some, None, SomeIff}
use mathlib.Core.Option as Search
use mathlib.Core.Option.{none, some}
use native.Mathlib.Decide.{dec_lt}
use Rattle.sheet.specs.Sections.{local_count}
use Rattle.sheet.specs.Node.{kind, field_a}
use Rattle.sheet.specs.Text.{text}
use Rattle.lowering.specs.Kinds.{variable_kind}
use Rattle.lowering.specs.Slots.{resolve}
use Rattle.expr_slots.specs.Found.{found}
use Rattle.scratch.specs.declared.Layout.{Layout}
use Rattle.scratch.specs.Places.{Small, tokens_at, chains_at, links_at, sums_from, index_end, cleared_index}
use Rattle.scratch.proofs.PlaceLaws.{sums-lie}
use Rattle.scratch_folds.specs.Sums.{summed, Sums}
use Rattle.scratch_folds.proofs.SumsLaws.{summed-length, summed-sums}
use Rattle.scratch_index.specs.Consts.{const_slot}
use Rattle.scratch_index.specs.Locals.{few_locals, slot_word, local_word, Slots}
use Rattle.scratch_index.specs.Indexes.{Indexes}
use Rattle.scratch_index.proofs.LocalLaws.{sums-before}
use Rattle.scratch_index.proofs.StartLaws.{start-before, start-length, indexes-start}
use Rattle.scratch_locals.specs.Pass.{rank_at, answer_at, Met, Telling, Aimed, Settling, Settles, Prepares, Begins, found_by}
use Rattle.scratch_locals.proofs.MeetLaws.{met-starts}
use Rattle.scratch_locals.proofs.TellLaws.{telling-starts}

-- all locals are told
module _ {s : List ℕ} {l : Layout} {n : ℕ} {xs : List ℕ} (m : Telling s l n (local_count s) xs) where
  aimed : (i : ℕ) → i < l.nodes → kind s i ≡ variable_kind → Aimed s l xs i
  unfolding resolve
  aimed i b v =
      let q = m.ranks i b v in
      let w = m.pool.fit in
      let d = q.below in
      record {
        below = omega arith;
        word = m.answers (rank_at l xs i) q.below ∙ ap (λ (y : List ℕ). slot_word (resolve s y)) q.texts;
      }

  settling-starts : index_end l ≤ length xs → Settling s l 0 xs
  settling-starts room =
      record { small = m.small; room = room; sums = m.sums; aims = aimed; done = λ i b v. absurd (omega arith) }

module _ {s : List ℕ} {l : Layout} {j : ℕ} {xs : List ℕ} where
  -- node j is no Variable
  pub settles-other : {k : ℕ} → k ≡ kind s j → (k ≡ variable_kind → ⊥) → Settles s l j xs xs
  settles-other e ne = record {
    settled = λ b m. record {
      small = m.small;
      room = m.room;
      sums = m.sums;
      aims = m.aims;
      done = λ i d v. by m i d v (dec_lt i j);
    };
  }
    where
      by :
          Settling s l j xs → (i : ℕ) → i < j + 1 → kind s i ≡ variable_kind → Dec (i < j)
          → get_or xs (links_at l + const_slot i) 0 ≡ local_word s i
      by m i d v (yes c) = m.done i c v
      by m i d v (no c) = let z : j ≡ i = omega arith in absurd (ne (e ∙ ap (kind s) z ∙ v))

  -- Variable j, whose name has rank r and local a
  module _ (v : kind s j ≡ variable_kind) (b : j < l.nodes) (m : Settling s l j xs) where
    abbrev word : ℕ
    word = answer_at l xs (rank_at l xs j)

    abbrev after : List ℕ
    after = set xs (links_at l + const_slot j) word

    low : (i : ℕ) → i < links_at l → get_or after i 0 ≡ get_or xs i 0
    low i d = get_or-set_other xs (links_at l + const_slot j) i word 0 (λ q. omega arith)

    aims-stay : (i : ℕ) → i < l.nodes → kind s i ≡ variable_kind → Aimed s l after i
    aims-stay i d w =
        let q = m.aims i d w in
        let c = q.below in
        let e = low (chains_at l + i) (omega arith) in
        record {
          below = omega arith;
          word =
              ap (λ (r : ℕ). answer_at l after r) e
              ∙ low (tokens_at l + rank_at l xs i) (omega arith)
              ∙ q.word;
        }

    done-by :
        (i : ℕ) → i < j + 1 → kind s i ≡ variable_kind → Dec (i < j) → get_or after (links_at l + const_slot i) 0 ≡ local_word s i
    done-by i d w (yes c) =
        get_or-set_other xs (links_at l + const_slot j) (links_at l + const_slot i) word 0 (λ q. omega arith) ∙ m.done i c w
    done-by i d w (no c) =
        let z : i ≡ j = omega arith in
        let r = m.room in
        ap (λ (e : ℕ). get_or after (links_at l + const_slot e) 0) z
        ∙ get_or-set_same xs (links_at l + const_slot j) word 0 (omega arith)
        ∙ (m.aims j b v).word
        ∙ ap (local_word s) (sym z)

    settling-one : Settling s l (j + 1) after
    settling-one = record {
      small = m.small;
      sums = sums-before m.small (links_at l + const_slot j) word (omega arith) m.sums;
      room = let r = m.room in let e = length-set xs (links_at l + const_slot j) word in omega arith;
      aims = aims-stay;
      done = λ i d w. done-by i d w (dec_lt i j);
    }

  -- as the code does it
  pub settles-one :
      {k p r q a o : ℕ} {ys : List ℕ} → k ≡ kind s j → k ≡ variable_kind → p ≡ chains_at l + j → r ≡ get_or xs p 0 → q ≡ tokens_at l + r
      → a ≡ get_or xs q 0 → o ≡ links_at l + const_slot j → ys ≡ set xs o a → Settles s l j xs ys
  settles-one {k} {p} {r} {q} {a} {o} {ys} e v p-is r-is q-is a_is o_is ys-is = record {
    settled = λ b m.
        subst (Settling s l (j + 1)) (sym (rw (ys-is, o_is, a_is, q-is, r-is, p-is))) (settling-one (sym e ∙ v) b m);
  }

-- the whole pass
pub prepares :
    {s : List ℕ} {l : Layout} {n : ℕ} {xs cs ms ts ys : List ℕ} → cs ≡ cleared_index l xs → length ms ≡ length cs → length ts ≡ length ms
    → (Met s l 0 0 cs → Met s l l.nodes n ms) → (Telling s l n 0 ms → Telling s l n (local_count s) ts)
    → (Settling s l 0 ts → Settling s l l.nodes ys) → Prepares s l xs ys
prepares {s} {l} {xs = xs} c_is long longer met told settled = record {
  prepared = λ small nodes room kept.
      let clear = ap length c_is ∙ start-length s l small nodes xs room in
      let start = subst (Met s l 0 0) (sym c_is) (met-starts s l xs small nodes room kept) in
      settled (settling-starts (told (telling-starts (met start))) (omega arith));
}

-- at first what is kept for long texts is written
module _ (s : List ℕ) (l : Layout) (xs : List ℕ) {at : ℕ} {fs : List ℕ} (place : at ≡ sums_from l) (first : fs ≡ summed s at xs) where
  first-long : length fs ≡ length xs
  first-long = ap length first ∙ summed-length s at xs

  first-sums : Small l → index_end l ≤ length xs → Sums s (sums_from l) fs
  first-sums small room =
      let p = sums-lie small in
      subst (Sums s (sums_from l)) (sym (first ∙ ap (λ (i : ℕ). summed s i xs) place)) (summed-sums s (sums_from l) xs (omega arith))

  -- few locals: nothing is told
  pub begins-few :
      {m : ℕ} (ys : List ℕ) → m ≡ local_count s → m ≤ few_locals → ys ≡ cleared_index l fs → length ys ≡ length fs → Begins s l xs ys
  begins-few ys e h y long = record {
    long = long ∙ first-long;
    index = λ small nodes room.
        let f = first-long in
        subst (Indexes s l 0 0 0 0) (sym y)
        (indexes-start s l small nodes fs (omega arith) (record { many = λ q. absurd (omega arith) }) (first-sums small room));
  }

  -- many
  pub begins-many :
      (ms ys : List ℕ) → length ms ≡ length fs → Prepares s l fs ms → ys ≡ cleared_index l ms → length ys ≡ length ms → Begins s l xs ys
  begins-many ms ys kept p y long = record {
    long = long ∙ kept ∙ first-long;
    index = λ small nodes room.
        let f = first-long in
        let room' : index_end l ≤ length ms = omega arith in
        let told = p.prepared small nodes (omega arith) (first-sums small room) in
        subst (Indexes s l 0 0 0 0) (sym y)
        (indexes-start s l small nodes ms room'
        (record {
          many = λ q. record {
            slot = λ j b v. start-before s l small nodes ms room' (links_at l + const_slot j) (omega arith) ∙ told.done j b v;
          };
        })
        told.sums);
  }

-- a word of a slot as an answer
answer-is : (o : Search.Option ℕ) → found_by (slot_word o) ≡ found o
unfolding found_by slot_word found
answer-is none = refl
answer-is (some k) = ap found_by (add-one k)

module _ {s : List ℕ} {l : Layout} {xs : List ℕ} {v : ℕ} where
  pub slot-told :
      {m k p a : ℕ} {r : Option ℕ} → m ≡ local_count s → few_locals < m → k ≡ kind s v → k ≡ variable_kind → v < l.nodes
      → p ≡ links_at l + const_slot v → a ≡ get_or xs p 0 → r ≡ found_by a → Slots s l xs → r ≡ found (resolve s (text s (field_a s v)))
  slot-told {m} {k} {p} {a} {r} m-is many k-is is b p-is a_is r-is h =
      r-is
      ∙ ap found_by
      (a_is
      ∙ ap (λ (i : ℕ). get_or xs i 0) p-is
      ∙ (h.many (omega arith)).slot v b (sym k-is ∙ is))
      ∙ answer-is (resolve s (text s (field_a s v)))

-- the code's answer
pub found_is : (a : ℕ) (r : Option ℕ) → SomeIff r (1 ≤ a) (a - 1) → r ≡ found_by a
unfolding found_by
found_is zero None h = refl
found_is zero (Some x) h = absurd (omega (arith, h.0))
found_is (suc k) None h = absurd (h (omega arith))
found_is (suc k) (Some x) h = ap Some (omega (arith, h.1))
