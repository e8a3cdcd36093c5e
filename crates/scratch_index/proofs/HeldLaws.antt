-- The place of a name: what a search answers, and what a memo tells, is where the name stands among those that the scratch holds.
use Rattle.std.proofs.Common.{◌≡◌, ℕ, ◌+◌, Bool, true, false, eqb, List, length, get_or, sym, refl, ap, ◌∙◌, subst, eqb-true}
use Rattle.std.specs.Prelude.{Option, Some, None}
use lib.ListN.{length-map}
use Rattle.lowering.specs.Pools.{Name, first_where, same_name}
use Rattle.scratch_keys.specs.Keys.{name_of}
use Rattle.scratch_keys.proofs.SeekLaws.{first-map}
use Rattle.scratch.specs.declared.Layout.{Layout}
use Rattle.scratch.specs.Places.{names_at, name_index, memos_from, sums_from, region}
use Rattle.scratch.proofs.PlaceLaws.{name-lies, memos-lie}
use Rattle.scratch_folds.specs.Sums.{BySums}
use Rattle.scratch_index.specs.Lookup.{Sought, Finds}
use Rattle.scratch_index.specs.Names.{is_name, name_with, name_hash_of, name_hash, name_slot}
use Rattle.scratch_index.specs.Memo.{numbered, number_by, memo_at, recalled, told_by}
use Rattle.scratch_index.specs.Held.{names_held, NamesHold, FindsName}
use Rattle.scratch_index.proofs.PoolLaws.{pool-length, pool-asked}
use Rattle.scratch_index.proofs.NameLaws.{name-one, name-hashed}
use Rattle.scratch_index.proofs.MemoLaws.{told-hit, recalled-known, recalled-unknown, number-name, told-number}

-- among names and among keys
pub name_keys :
    (s : List ℕ) (l : Layout) (n : ℕ) (xs : List ℕ) (nm : Name)
    → first_where (same_name s nm) (names_held s l n xs) ≡ first_where (is_name s nm) (region (names_at l) n xs)
unfolding names_held
name_keys s l n xs nm = first-map (same_name s nm) (name_of s) (region (names_at l) n xs)

module _ {s : List ℕ} {l : Layout} {n : ℕ} {xs : List ℕ} (h : NamesHold s l n xs) where
  -- what a search needs
  name-sought : (nm : Name) → Sought (is_name s nm) (name_hash s) name_slot (name_index l) n (name_hash_of s nm) xs
  name-sought nm =
      pool-asked h.pool (is_name s nm) (name_hash_of s nm) (name-one s nm) (λ k t. name-hashed s nm (name_of s k) t)

  -- the place of a name is that of its key
  name-among :
      (nm : Name) → first_where (is_name s nm) (region (name_index l).at n xs) ≡ first_where (same_name s nm) (names_held s l n xs)
  name-among nm =
      ap (λ (at : ℕ). first_where (is_name s nm) (region at n xs)) (name-lies h.small).at-is ∙ sym (name_keys s l n xs nm)

module _ (s : List ℕ) (l : Layout) (n : ℕ) (xs : List ℕ) where
  -- by a search
  pub name-searched :
      (nm : Name) (g r : ℕ) → BySums s (sums_from l) xs (name_hash_of s nm) g
      → Finds (is_name s nm) (name_hash s) name_slot (name_index l) n g xs r → FindsName s l n nm xs r
  name-searched nm g r e f = record {
    found = λ h.
        (subst (λ (i : ℕ). Finds (is_name s nm) (name_hash s) name_slot (name_index l) n i xs r) (e.is h.sums) f).found
        (name-sought h nm)
        ∙ name-among h nm;
  }

  -- by a memo, as the code read it at place ms
  pub name-recalled :
      (t r ms : ℕ) (b : Bool) → ms ≡ memos_from l → b ≡ eqb (get_or xs (memo_at ms t) 0) (t + 1) → b ≡ true
      → r ≡ get_or xs (memo_at ms t + 1) 0 → FindsName s l n (numbered t) xs r
  name-recalled t r ms b at f k e = record {
    found = λ h.
        let is = at ∙ memos-lie h.small in
        let hit = ap (λ (m : ℕ). get_or xs (memo_at m t) 0) (sym is) ∙ eqb-true (get_or xs (memo_at ms t) 0) (t + 1) (sym f ∙ k) in
        e ∙ ap (λ (m : ℕ). get_or xs (memo_at m t + 1) 0) is ∙ (told-hit h.memos t hit).place;
  }

  -- by what is recalled
  pub name-told :
      (t p ms : ℕ) (o : Option ℕ) → ms ≡ memos_from l → o ≡ recalled ms t xs → o ≡ Some p → FindsName s l n (numbered t) xs p
  name-told t p ms o at e f = by (eqb (get_or xs (memo_at ms t) 0) (t + 1)) refl
    where
      by : (b : Bool) → eqb (get_or xs (memo_at ms t) 0) (t + 1) ≡ b → FindsName s l n (numbered t) xs p
      by true k =
          let q : Some p ≡ Some (get_or xs (memo_at ms t + 1) 0) = sym f ∙ e ∙ sym (recalled-known ms t xs _ k refl) in
          name-recalled t p ms true at (sym k) refl cc
      by false k = let q : Some p ≡ None = sym f ∙ e ∙ sym (recalled-unknown ms t xs k) in cc

  -- of the name that the code read, by its number
  pub name-by-number :
      (t : ℕ) (m : Bool) (w p ms : ℕ) (k o : Option ℕ) → ms ≡ memos_from l → k ≡ number_by t m w → o ≡ told_by ms k xs → o ≡ Some p
      → FindsName s l n (name_with s t m w) xs p
  name-by-number t m w p ms k o at number e f =
      let r = told-number ms xs p k (sym e ∙ f) in
      subst (λ (nm : Name). FindsName s l n nm xs p) (number-name s t m w (sym number ∙ r.1))
      (name-told r.0 p ms (recalled ms r.0 xs) at refl r.2)

  -- the same name in other words
  pub name-same : {nm other : Name} {r : ℕ} → nm ≡ other → FindsName s l n nm xs r → FindsName s l n other xs r
  name-same {nm} {other} {r} e f = subst (λ (m : Name). FindsName s l n m xs r) e f

pub held-length : {s : List ℕ} {l : Layout} {n : ℕ} {xs : List ℕ} → NamesHold s l n xs → length (names_held s l n xs) ≡ n
unfolding names_held
held-length {s} {l} {n} {xs} h =
    length-map (region (names_at l) n xs) (name_of s)
    ∙ ap (λ (at : ℕ). length (region at n xs)) (sym (name-lies h.small).at-is)
    ∙ pool-length h.pool
