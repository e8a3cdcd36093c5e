-- Memos of names: a name that a memo knows stands already, and one that has been found or added may be remembered.
use Rattle.std.proofs.Common.{◌≡◌, ℕ, ◌+◌, ◌<◌, ◌≤◌, Bool, true, false, eqb, List, map, length, get_or, sym, refl, ap, ◌∙◌, subst, arith}
use Rattle.std.proofs.Common.{length-set, eqb-true}
use Rattle.std.specs.Prelude.{Option, Some, None}
use Rattle.expr_chains.proofs.NameLaws.{name-self}
use Rattle.lowering.specs.Pools.{Name, first_where, same_name, name_at, push_name}
use Rattle.expr_chains.proofs.FindLaws.{added-same, added-within}
use Rattle.scratch_keys.specs.Keys.{name_of}
use Rattle.scratch_keys.specs.Used.{NameKey}
use Rattle.scratch_keys.proofs.SeekLaws.{first-map}
use Rattle.scratch.specs.declared.Layout.{Layout}
use Rattle.scratch.specs.Places.{links_at, memos_at, memos_from, names_at, region}
use Rattle.scratch.proofs.PlaceLaws.{memos-lie}
use Rattle.scratch.proofs.RegionLaws.{region-behind}
use Rattle.scratch_index.specs.Memo.{numbered, memo_at, recalled, remembered, NameAt}
use Rattle.scratch_index.specs.Held.{names_held}
use Rattle.scratch_index.proofs.MemoLaws.{told-hit, recalled-known, recalled-unknown}
use Rattle.scratch_index.proofs.HeldLaws.{name-told, name-same, held-length}
use Rattle.scratch_index.proofs.IndexesLaws.{name-found, indexes-names, indexes-remember}
use Rattle.expr_model.specs.Made.{Made, add_name}
use Rattle.scratch_store.specs.declared.State.{State}
use Rattle.scratch_store.specs.Holds.{Holds}
use Rattle.scratch_store.specs.Does.{Adds}
use Rattle.scratch_store.proofs.AddLaws.{lists-same, lists_of, holds_by, small_of, name-place, name-old}

-- what a memo tells, if it knows the text
module _ (ms t p : ℕ) (xs : List ℕ) (o : Option ℕ) (asked : o ≡ recalled ms t xs) (told : o ≡ Some p) where
  recalled-by : (b : Bool) → eqb (get_or xs (memo_at ms t) 0) (t + 1) ≡ b
      → (get_or xs (memo_at ms t) 0 ≡ t + 1) × (p ≡ get_or xs (memo_at ms t + 1) 0)
  recalled-by true k =
      let q : Some p ≡ Some (get_or xs (memo_at ms t + 1) 0) = sym told ∙ asked ∙ sym (recalled-known ms t xs _ k refl) in
      (eqb-true (get_or xs (memo_at ms t) 0) (t + 1) k, cc)
  recalled-by false k = let q : Some p ≡ None = sym told ∙ asked ∙ sym (recalled-unknown ms t xs k) in cc

  recalled-hit : (get_or xs (memo_at ms t) 0 ≡ t + 1) × (p ≡ get_or xs (memo_at ms t + 1) 0)
  recalled-hit = recalled-by (eqb (get_or xs (memo_at ms t) 0) (t + 1)) refl

-- a memo knows it
module _
    (s : List ℕ) (l : Layout) (xs : List ℕ) (st : State) (v t r ms : ℕ) (o : Option ℕ) (is : numbered t ≡ name_of s v)
    (at : ms ≡ memos_from l)
    (asked : o ≡ recalled ms t xs) (told : o ≡ Some r)
  where
    told-fits :
        (a : Made) → Holds s l xs st a
        → r ≡ first_where (same_name s (name_of s v)) (map (name_of s) (region (names_at l) st.names xs))
    told-fits a q =
        name-found q.index v r
        (name-same s l st.names xs is (name-told s l st.names xs t r ms o at asked told))
        ∙ sym (first-map (same_name s (name_of s v)) (name_of s) (region (names_at l) st.names xs))

    -- it stands
    told-low : (a : Made) → Holds s l xs st a → r < st.names
    told-low a q =
        let held = indexes-names q.index in
        let lies = at ∙ memos-lie held.small in
        let known = recalled-hit ms t r xs o asked told in
        let hit = ap (λ (i : ℕ). get_or xs (memo_at i t) 0) (sym lies) ∙ known.0 in
        let stands = (told-hit held.memos t hit).found in
        let e = known.1 ∙ ap (λ (i : ℕ). get_or xs (memo_at i t + 1) 0) lies in
        let n = held-length held in
        omega arith

    pub name-adds-told : Adds s l xs st xs st r (NameKey s v) (add_name s (name_of s v)) (λ a. name_at s (name_of s v) a.pools)
    name-adds-told = record {
      does = λ g. record { holds = λ a q f. let e = told-fits a q in let n = told-low a q in name-old v q (omega arith) };
      place = λ a q. told-fits a q ∙ name-place v q;
    }

-- the words of a memo lie behind the lists
memo-lists :
    (l : Layout) (t p : ℕ) (xs : List ℕ) (at k : ℕ) → at + k ≤ links_at l → region at k (remembered (memos_at l) t p xs) ≡ region at k xs
unfolding remembered
memo-lists l t p xs at k h =
    region-behind at k (memo_at (memos_at l) t + 1) p _ (omega arith) ∙ region-behind at k (memo_at (memos_at l) t) _ xs (omega arith)

memo-length : (ms t p : ℕ) (xs : List ℕ) → length (remembered ms t p xs) ≡ length xs
unfolding remembered
memo-length ms t p xs = simp length-set

-- a name that stands is remembered
remember-holds :
    {s : List ℕ} {l : Layout} {xs : List ℕ} {st : State} {a : Made} (t p : ℕ) → t + 1 < 4294967296
    → NameAt s (names_held s l st.names xs) t p → Holds s l xs st a → Holds s l (remembered (memos_from l) t p xs) st a
remember-holds {s} {l} {xs} {st} {a} t p few right q =
    holds_by
    (lists-same (remembered (memos_from l) t p xs) (memo-length (memos_from l) t p xs)
    (λ at k h.
    ap (λ (ms : ℕ). region at k (remembered ms t p xs)) (memos-lie (small_of q)) ∙ memo-lists l t p xs at k h) (lists_of q))
    (indexes-remember q.index t p few right)

-- the name that has been found or added, with nothing more, or remembered
module _
    {s : List ℕ} {l : Layout} {xs ys : List ℕ} {st r : State} (v t p : ℕ) (is : numbered t ≡ name_of s v)
    (adds : Adds s l xs st ys r p (NameKey s v) (add_name s (name_of s v)) (λ a. name_at s (name_of s v) a.pools))
  where
    stands : NameKey s v → (a : Made) → Holds s l xs st a → Holds s l ys r (add_name s (name_of s v) a)
        → NameAt s (names_held s l r.names ys) t p
    unfolding names_held add_name push_name name_at
    stands u a before after =
        let nm = name_of s v in
        let names = after.pooled.names in
        let self = name-self s nm in
        record {
          place =
              adds.place a before
              ∙ sym (added-same (same_name s nm) nm a.pools.names self)
              ∙ ap (first_where (same_name s nm)) names
              ∙ ap (λ (n : Name). first_where (same_name s n) (map (name_of s) (region (names_at l) r.names ys))) (sym is);
          found =
              let e = adds.place a before in
              let w = added-within (same_name s nm) nm a.pools.names self in
              let f = added-same (same_name s nm) nm a.pools.names self in
              let n = ap length names in
              omega arith;
        }

    pub name-adds-kept :
        (ms : ℕ) (zs : List ℕ) → t < 4294967295 → ms ≡ memos_from l → zs ≡ remembered ms t p ys
        → Adds s l xs st zs r p (NameKey s v) (add_name s (name_of s v)) (λ a. name_at s (name_of s v) a.pools)
    name-adds-kept ms zs few at words = record {
      does = λ u. record {
        holds = λ a q f.
            let done = (adds.does u).holds a q f in
            let e : zs ≡ remembered (memos_from l) t p ys = words ∙ ap (λ (i : ℕ). remembered i t p ys) at in
            subst (λ (k : List ℕ). Holds s l k r (add_name s (name_of s v) a)) (sym e)
            (remember-holds t p (omega arith) (stands u a q done) done);
      };
      place = adds.place;
    }
