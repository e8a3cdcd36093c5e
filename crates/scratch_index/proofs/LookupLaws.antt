-- A search as the code makes it: heads, keys and links are words. Each step of its loop from what is read, and its answers, where
-- `Sought` holds.
use Rattle.std.proofs.Common.{◌≡◌, ℕ, suc, ◌+◌, ◌-◌, ◌/◌, ◌%◌, ◌<◌, ◌≤◌, Bool, true, false, eqb, List, length, get_or, sym, refl, ap, ◌∙◌}
use Rattle.std.proofs.Common.{subst, true≢false, arith, eq-eqb, ne_eqb, eqb-true}
use Rattle.std.specs.Prelude.{Option, Some, None}
use Rattle.std.specs.Option.{unwrap_or}
use borrow.Author.Tests.{eqb-false}
use Rattle.laws.proofs.Bool.{false-unless}
use Rattle.scratch.specs.declared.Index.{Index}
use Rattle.scratch.specs.Places.{region}
use Rattle.scratch.proofs.RegionLaws.{region-length, region-at}
use Rattle.scratch_index.specs.Prev.{prev}
use Rattle.scratch_index.specs.Indexed.{ranked}
use Rattle.scratch_index.specs.Table.{bucket_of, tag_of, head_at, link_at}
use Rattle.scratch_index.specs.Lookup.{bucket_by, tag_by, place_by, Sought, Finds, Seeks, hit_by}
use Rattle.scratch_index.proofs.PrevLaws.{prev-within}
use Rattle.scratch_index.proofs.SearchLaws.{Seek, seek-starts, seek-goes, seek-ends, seek_finds}
use Rattle.scratch_index.proofs.IndexedLaws.{link-next, link_tag}
use Rattle.scratch_index.proofs.TableLaws.{bucket-below}

pub hit_same : (v tag : ℕ) (p : Bool) → v ≡ tag → hit_by v tag p ≡ p
unfolding hit_by
hit_same v tag p e = rw (eq-eqb v tag e, hit_by)

pub hit_other : (v tag : ℕ) (p : Bool) → (v ≡ tag → ⊥) → hit_by v tag p ≡ false
unfolding hit_by
hit_other v tag p e = rw (ne_eqb v tag e, hit_by)

-- the search has come to c
pub record Seeking (P : ℕ → Bool) (hash slot : ℕ → ℕ) (ix : Index) (n h : ℕ) (xs : List ℕ) (c : ℕ) : Type 0 where
  pub seek :
      Sought P hash slot ix n h xs
      → Seek P (bucket_by hash ix) (bucket_of ix.count h) (region ix.at n xs) c

-- the same index in other words
pub finds-at :
    {P : ℕ → Bool} {hash slot : ℕ → ℕ} {ix iy : Index} {n h : ℕ} {xs : List ℕ} {r : ℕ} → ix ≡ iy → Finds P hash slot ix n h xs r
    → Finds P hash slot iy n h xs r
finds-at {P} {hash} {slot} {ix} {iy} {n} {h} {xs} {r} e f = subst (λ (i : Index). Finds P hash slot i n h xs r) e f

-- the same answer in other words
pub finds-as :
    {P : ℕ → Bool} {hash slot : ℕ → ℕ} {ix : Index} {n h : ℕ} {xs : List ℕ} {r t : ℕ} → t ≡ r → Finds P hash slot ix n h xs r
    → Finds P hash slot ix n h xs t
finds-as {P} {hash} {slot} {ix} {n} {h} {xs} {r} {t} e f = record { found = λ q. e ∙ f.found q }

-- the answer, or none
module _ {P : ℕ → Bool} {hash slot : ℕ → ℕ} {ix : Index} {n h : ℕ} {xs : List ℕ} where
  pub seeks-some : {r : ℕ} → Finds P hash slot ix n h xs r → (Sought P hash slot ix n h xs → r < n) → Seeks P hash slot ix n h xs (Some r)
  seeks-some {r} f l = record { found = f; there = λ q t e. let k = l q in let z : t ≡ r = cc in omega arith }

  pub seeks-none : Finds P hash slot ix n h xs n → Seeks P hash slot ix n h xs None
  seeks-none f = record { found = f; there = λ q t e. cc }

  -- the answer, as a match tells it
  pub finds-some : {o : Option ℕ} {r : ℕ} → Seeks P hash slot ix n h xs o → o ≡ Some r → Finds P hash slot ix n h xs r
  finds-some {o} {r} s e = subst (λ (a : Option ℕ). Finds P hash slot ix n h xs (unwrap_or a n)) e s.found

  pub finds-none : {o : Option ℕ} → Seeks P hash slot ix n h xs o → o ≡ None → Finds P hash slot ix n h xs n
  finds-none {o} s e = subst (λ (a : Option ℕ). Finds P hash slot ix n h xs (unwrap_or a n)) e s.found

module _ (P : ℕ → Bool) (hash slot : ℕ → ℕ) (ix : Index) (n h : ℕ) (xs : List ℕ) where
  same-bucket : Sought P hash slot ix n h xs → (k : ℕ) → P k ≡ true → bucket_by hash ix k ≡ bucket_of ix.count h
  same-bucket q k p = ap (bucket_of ix.count) (q.agrees k p)

  pub lookup-starts : (c : ℕ) → h < 4294967296 → c ≡ get_or xs (head_at ix h) 0 → Seeking P hash slot ix n h xs c
  lookup-starts c l e = record {
    seek = λ q.
        subst (Seek P (bucket_by hash ix) (bucket_of ix.count h) (region ix.at n xs))
        (sym (e ∙ q.index.heads (bucket_of ix.count h) (bucket-below ix.count h l q.some)))
        (seek-starts P (bucket_by hash ix) (bucket_of ix.count h) (region ix.at n xs) (same-bucket q));
  }

  pub lookup-ends : (c : ℕ) → Seeking P hash slot ix n h xs c → c ≤ 0 → Finds P hash slot ix n h xs n
  lookup-ends c s l = record {
    found = λ q.
        let z : c ≡ 0 = omega arith in
        let w = subst (Seek P (bucket_by hash ix) (bucket_of ix.count h) (region ix.at n xs)) z (s.seek q) in
        sym
        (seek-ends P (bucket_by hash ix) (bucket_of ix.count h) (region ix.at n xs) (same-bucket q) w
        ∙ region-length ix.at n xs q.room);
  }

  -- at entry c - 1: its key is j, its link v, and r says whether it is the one
  module _
      (c e j v : ℕ) (r : Bool) (s : Seeking P hash slot ix n h xs c) (on : 0 < c) (at : e ≡ c - 1) (key : j ≡ get_or xs (ix.at + e) 0)
      (link : v ≡ get_or xs (link_at ix (slot j)) 0) (is : r ≡ hit_by (v / 524288) (tag_of h) (P j))
    where
      next : c ≡ suc e
      next = omega arith

      here : Sought P hash slot ix n h xs → Seek P (bucket_by hash ix) (bucket_of ix.count h) (region ix.at n xs) (suc e)
      here q = subst (Seek P (bucket_by hash ix) (bucket_of ix.count h) (region ix.at n xs)) next (s.seek q)

      inside : Sought P hash slot ix n h xs → e < length (region ix.at n xs)
      inside q = let w = (here q).within in omega arith

      count : Sought P hash slot ix n h xs → length (region ix.at n xs) ≡ n
      count q = region-length ix.at n xs q.room

      few : Sought P hash slot ix n h xs → length (region ix.at n xs) < 524288
      few q = let l = count q in let f = q.few in omega arith

      key-is : Sought P hash slot ix n h xs → get_or (region ix.at n xs) e 0 ≡ j
      key-is q = let l = count q in let i = inside q in region-at ix.at n e xs (omega arith) ∙ sym key

      link-is : Sought P hash slot ix n h xs → v ≡ get_or xs (place_by slot ix (get_or (region ix.at n xs) e 0)) 0
      link-is q = link ∙ ap (λ (k : ℕ). get_or xs (link_at ix (slot k)) 0) (sym (key-is q))

      tag_is : Sought P hash slot ix n h xs → v / 524288 ≡ tag_of (hash j)
      tag_is q =
          ap (λ (w : ℕ). w / 524288) (link-is q)
          ∙ link_tag q.index e (inside q) (few q)
          ∙ ap (tag_by hash) (key-is q)

      next-is :
          Sought P hash slot ix n h xs
          → v % 524288 ≡ prev (ranked (bucket_by hash ix) (region ix.at n xs)) e (bucket_by hash ix (get_or (region ix.at n xs) e 0))
      next-is q = ap (λ (w : ℕ). w % 524288) (link-is q) ∙ link-next q.index e (inside q) (few q)

      passes : r ≡ true → (t : Bool) → eqb (v / 524288) (tag_of h) ≡ t → P j ≡ true
      passes p true f = sym (hit_same (v / 524288) (tag_of h) (P j) (eqb-true (v / 524288) (tag_of h) f)) ∙ sym is ∙ p
      passes p false f =
          absurd (true≢false (sym p ∙ is ∙ hit_other (v / 524288) (tag_of h) (P j) (eqb-false (v / 524288) (tag_of h) f)))

      fails : Sought P hash slot ix n h xs → r ≡ false → P j ≡ false
      fails q p =
          false-unless (P j)
          (λ t. true≢false (sym (is ∙ hit_same (v / 524288) (tag_of h) (P j) (tag_is q ∙ ap tag_of (q.agrees j t)) ∙ t) ∙ p))

      pub lookup-finds : r ≡ true → Finds P hash slot ix n h xs e
      lookup-finds p = record {
        found = λ q.
            sym
            (seek_finds P (bucket_by hash ix) (bucket_of ix.count h) (region ix.at n xs) (same-bucket q) e q.once (here q)
            (ap P (key-is q) ∙ passes p (eqb (v / 524288) (tag_of h)) refl));
      }

      pub lookup-goes : r ≡ false → Seeking P hash slot ix n h xs (v % 524288)
      lookup-goes p = record {
        seek = λ q.
            subst (Seek P (bucket_by hash ix) (bucket_of ix.count h) (region ix.at n xs)) (sym (next-is q))
            (seek-goes P (bucket_by hash ix) (bucket_of ix.count h) (region ix.at n xs) (same-bucket q) e (here q)
            (ap P (key-is q) ∙ fails q p));
      }

      -- what is found is there
      pub lookup-there : Sought P hash slot ix n h xs → e < n
      lookup-there q = let l = count q in let i = inside q in omega arith

      -- a link that does not lead back is not met
      pub lookup-falls : c ≤ v % 524288 → Finds P hash slot ix n h xs n
      lookup-falls l = record {
        found = λ q.
            let z = next-is q in
            let w = prev-within (ranked (bucket_by hash ix) (region ix.at n xs)) e (bucket_by hash ix (get_or (region ix.at n xs) e 0)) in
            absurd (omega arith);
      }
