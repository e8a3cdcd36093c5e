-- The second part of the pass: each local is told to the name that it has, so that the last one wins.
use Rattle.std.proofs.Common.{◌≡◌, ℕ, suc, ◌+◌, ◌%◌, ◌<◌, ◌≤◌, Bool, true, false, eqb, List, length, set, sym, refl, ap, ◌∙◌, subst}
use Rattle.std.proofs.Common.{add-one, arith, get_or-set_other, get_or-set_same, eqb-true}
use Rattle.std.specs.Prelude.{Option, Some}
use mathlib.Core.Option.{some}
use borrow.Author.Tests.{eqb-false}
use Rattle.text.specs.Same.{same}
use Rattle.text.proofs.SameLaws.{same_refl}
use Rattle.sheet.specs.Node.{field_a, local_text}
use Rattle.sheet.specs.Text.{text}
use Rattle.lowering.specs.Slots.{resolve_below}
use Rattle.scratch.specs.declared.Layout.{Layout}
use Rattle.scratch.specs.declared.Index.{Index}
use Rattle.scratch.specs.Places.{tokens_at, chains_at, names_at, sums_from, name_index}
use Rattle.scratch.proofs.PlaceLaws.{name-lies}
use Rattle.scratch_folds.specs.Hash.{bytes_hash}
use Rattle.scratch_folds.specs.Sums.{BySums}
use Rattle.scratch_folds.proofs.SumsLaws.{by-at}
use Rattle.scratch_index.specs.Consts.{const_slot}
use Rattle.scratch_index.specs.Lookup.{Finds, Seeks}
use Rattle.scratch_index.specs.Locals.{slot_word}
use Rattle.scratch_index.proofs.LookupLaws.{finds-at}
use Rattle.scratch_index.proofs.BesideLaws.{pool-beside}
use Rattle.scratch_index.proofs.LocalLaws.{sums-before}
use Rattle.scratch_locals.specs.Pass.{has_text, text_hash, key_at, answer_at, Met, Telling, Tells}
use Rattle.scratch_locals.proofs.TextLaws.{outside_low, text-sought, text-found, text-once, text-missed}
use Rattle.scratch_locals.proofs.MeetLaws.{ranked-kept}

-- no local is told yet
pub telling-starts : {s : List ℕ} {l : Layout} {n : ℕ} {xs : List ℕ} → Met s l l.nodes n xs → Telling s l n 0 xs
unfolding slot_word resolve_below
telling-starts m = record { small = m.small; pool = m.pool; sums = m.sums; ranks = m.ranks; answers = m.zeros }

-- local k has the name, or another
takes : (s : List ℕ) (k : ℕ) (name : List ℕ) → same (text s (local_text s k)) name ≡ true → k + 1 ≡ slot_word (resolve_below (k + 1) s name)
unfolding slot_word resolve_below
takes s k name h =
    let e : resolve_below (suc k) s name ≡ some k = rw (h, resolve_below) in
    sym (ap slot_word (ap (λ (m : ℕ). resolve_below m s name) (add-one k) ∙ e))

passes :
    (s : List ℕ) (k : ℕ) (name : List ℕ) → same (text s (local_text s k)) name ≡ false
    → slot_word (resolve_below k s name) ≡ slot_word (resolve_below (k + 1) s name)
unfolding resolve_below
passes s k name h =
    let e : resolve_below (suc k) s name ≡ resolve_below k s name = rw (h, resolve_below) in
    sym (ap slot_word (ap (λ (m : ℕ). resolve_below m s name) (add-one k) ∙ e))

-- as the code does it
module _
    {s : List ℕ} {l : Layout} {n k : ℕ} {xs : List ℕ} {ix : Index} {t kept h r : ℕ} (t-is : t ≡ local_text s k)
    (kept-is : kept ≡ sums_from l) (hashed : BySums s kept xs (bytes_hash (text s t)) h) (ix-is : ix ≡ name_index l)
    (f : Finds (has_text s t) (text_hash s) const_slot ix n h xs r)
  where
    hash-is : Telling s l n k xs → h ≡ bytes_hash (text s t)
    hash-is m = (by-at kept-is hashed).is m.sums

    -- a name that is not the local's keeps its word
    other :
        (e : ℕ) → Telling s l n k xs → e < n → same (text s t) (text s (field_a s (key_at l xs e))) ≡ false
        → answer_at l xs e ≡ slot_word (resolve_below (k + 1) s (text s (field_a s (key_at l xs e))))
    other e m b q =
        m.answers e b
        ∙ passes s k (text s (field_a s (key_at l xs e)))
        (subst (λ (u : ℕ). same (text s u) (text s (field_a s (key_at l xs e))) ≡ false) t-is q)

    -- what is found is there
    pub tells-there : {o : Option ℕ} → Seeks (has_text s t) (text_hash s) const_slot ix n h xs o → o ≡ Some r → Telling s l n k xs → r < n
    tells-there {o} q e m =
        (subst (λ (i : Index). Seeks (has_text s t) (text_hash s) const_slot i n h xs o) ix-is q).there
        (text-sought m.small m.pool t h r (hash-is m) (finds-at ix-is f)) r e

    -- no Variable has the name
    pub tells_none : n ≤ r → Tells s l n k xs xs
    tells_none c = record {
      told = λ b m. record {
        small = m.small;
        pool = m.pool;
        sums = m.sums;
        ranks = m.ranks;
        answers = λ e d. other e m d (text-missed m.small m.pool t h r (hash-is m) (finds-at ix-is f) c e d);
      };
    }

    -- the name of rank r
    module _ (c : r < n) (m : Telling s l n k xs) where
      abbrev after : List ℕ
      after = set xs (tokens_at l + r) (k + 1)

      below : r < l.nodes
      below = let w = m.pool.fit in omega arith

      inside : tokens_at l + r < length xs
      inside =
          let i = name-lies m.small in
          let a = m.pool.room.heads in
          let w = below in
          omega arith

      keys-stay : (e : ℕ) → e < n → key_at l after e ≡ key_at l xs e
      keys-stay e d = let w = below in get_or-set_other xs (tokens_at l + r) (names_at l + e) (k + 1) 0 (λ q. omega arith)

      word-here : k + 1 ≡ slot_word (resolve_below (k + 1) s (text s (field_a s (key_at l xs r))))
      word-here =
          takes s k (text s (field_a s (key_at l xs r)))
          (subst (λ (y : List ℕ). same y (text s (field_a s (key_at l xs r))) ≡ true)
          (text-found m.small m.pool t h r (hash-is m) (finds-at ix-is f) c ∙ ap (text s) t-is)
          (same_refl (text s (field_a s (key_at l xs r)))))

      answer-by :
          (e : ℕ) → e < n → (q : Bool) → eqb e r ≡ q
          → answer_at l after e ≡ slot_word (resolve_below (k + 1) s (text s (field_a s (key_at l xs e))))
      answer-by e d true q =
          let z = eqb-true e r q in
          subst
          (λ (i : ℕ). answer_at l after i ≡ slot_word (resolve_below (k + 1) s (text s (field_a s (key_at l xs i))))) (sym z)
          (get_or-set_same xs (tokens_at l + r) (k + 1) 0 inside ∙ word-here)
      answer-by e d false q =
          let z = eqb-false e r q in
          get_or-set_other xs (tokens_at l + r) (tokens_at l + e) (k + 1) 0 (λ a. z (omega arith))
          ∙ other e m d (text-once m.small m.pool t h r (hash-is m) (finds-at ix-is f) c e d z)

      telling-one : Telling s l n (k + 1) after
      telling-one = record {
        small = m.small;
        pool = pool-beside m.pool (tokens_at l + r) (k + 1) (outside_low m.small (tokens_at l + r) (let w = below in omega arith));
        sums = sums-before m.small (tokens_at l + r) (k + 1) (let w = below in omega arith) m.sums;
        ranks = λ i d v.
            let w = below in
            ranked-kept n after (omega arith) (get_or-set_other xs (tokens_at l + r) (chains_at l + i) (k + 1) 0 (λ q. omega arith))
            keys-stay
            (m.ranks i d v);
        answers = λ e d.
            answer-by e d (eqb e r) refl
            ∙ ap (λ (j : ℕ). slot_word (resolve_below (k + 1) s (text s (field_a s j)))) (sym (keys-stay e d));
      }

    pub tells-one :
        {p v : ℕ} {ys : List ℕ} → (Telling s l n k xs → r < n) → p ≡ tokens_at l + r → v ≡ (k + 1) % 4294967296 → ys ≡ set xs p v
        → Tells s l n k xs ys
    tells-one {p} {v} {ys} c p-is v-is ys-is = record {
      told = λ b m.
          let count : v ≡ k + 1 = omega arith in
          subst (Telling s l n (k + 1)) (sym (ys-is ∙ ap (λ (i : ℕ). set xs i v) p-is ∙ ap (set xs (tokens_at l + r)) count))
          (telling-one (c m) m);
    }
