-- The index of a pool: it holds of no entries where all heads are 0, `noted` keeps it, words elsewhere may change, and what a search
-- reads. The keys in use have different places, all before the heads, and the bucket of each is below H.
use Rattle.std.proofs.Common.{◌≡◌, ℕ, suc, ◌+◌, ◌/◌, ◌%◌, ◌<◌, ◌≤◌, Bool, true, false, eqb, List, [], ◌∷◌, ◌++◌, length, get_or, set, sym}
use Rattle.std.proofs.Common.{refl, ap, ◌∙◌, arith, length-append, length-set, get_or-set_other, get_or-set_same, eqb-true}
use native.Mathlib.Decide.{dec_lt}
use lib.ListN.{get_or-append}
use lib.Seq.{get_or-append_seam}
use borrow.Author.Tests.{eqb-false}
use Rattle.scratch_index.specs.Prev.{prev}
use Rattle.scratch_index.specs.Table.{link_of}
use Rattle.scratch_index.specs.Indexed.{ranked, Indexed}
use Rattle.scratch_index.proofs.PrevLaws.{prev-none, prev-here, prev-later, prev-within, prev-alike}

-- entry n with key k is put in front of its bucket
unfoldable pub noted : ℕ → ℕ → ℕ → ℕ → List ℕ → List ℕ
noted head slot tag n xs = set (set xs slot (link_of (get_or xs head 0) tag)) head n

-- no entry yet
pub indexed-none :
    (bucket tag place : ℕ → ℕ) (hs H : ℕ) (xs : List ℕ) → ((b : ℕ) → b < H → get_or xs (hs + b) 0 ≡ 0)
    → Indexed bucket tag place hs H [] xs
indexed-none bucket tag place hs H xs h = record {
  heads = λ b l. h b l ∙ sym (prev-none (ranked bucket []) b);
  links = λ e l. absurd (omega arith);
  low = λ e l. absurd (omega arith);
}

module _ {bucket tag place : ℕ → ℕ} {hs H : ℕ} {ks xs : List ℕ} (ix : Indexed bucket tag place hs H ks xs) where
  -- the words of the index are the same
  indexed-same :
      (ys : List ℕ) → ((b : ℕ) → b < H → get_or ys (hs + b) 0 ≡ get_or xs (hs + b) 0)
      → ((e : ℕ) → e < length ks → get_or ys (place (get_or ks e 0)) 0 ≡ get_or xs (place (get_or ks e 0)) 0)
      → Indexed bucket tag place hs H ks ys
  indexed-same ys h l = record {
    heads = λ b m. h b m ∙ ix.heads b m;
    links = λ e m. l e m ∙ ix.links e m;
    low = ix.low;
  }

  -- a word is written that is none of them
  pub indexed-set :
      (i v : ℕ) → ((b : ℕ) → b < H → hs + b ≡ i → ⊥) → ((e : ℕ) → e < length ks → place (get_or ks e 0) ≡ i → ⊥)
      → Indexed bucket tag place hs H ks (set xs i v)
  indexed-set i v h l =
      indexed-same (set xs i v) (λ b m. get_or-set_other xs i (hs + b) v 0 (h b m))
      (λ e m. get_or-set_other xs i (place (get_or ks e 0)) v 0 (l e m))

  -- what a search reads at an entry
  module _ (e : ℕ) (l : e < length ks) (few : length ks < 524288) where
    pub link-next : get_or xs (place (get_or ks e 0)) 0 % 524288 ≡ prev (ranked bucket ks) e (bucket (get_or ks e 0))
    link-next =
        let w = prev-within (ranked bucket ks) e (bucket (get_or ks e 0)) in
        let q = ix.links e l in
        omega arith

    pub link_tag : get_or xs (place (get_or ks e 0)) 0 / 524288 ≡ tag (get_or ks e 0)
    link_tag =
        let w = prev-within (ranked bucket ks) e (bucket (get_or ks e 0)) in
        let q = ix.links e l in
        omega arith

  module _
      (k : ℕ) (new : (e : ℕ) → e < length ks → place (get_or ks e 0) ≡ place k → ⊥) (before : place k < hs) (inside : bucket k < H)
      (room : hs + H ≤ length xs)
    where
      -- the keys and the words then
      abbrev more : List ℕ
      more = ks ++ (k ∷ [])

      abbrev after : List ℕ
      after = noted (hs + bucket k) (place k) (tag k) (suc (length ks)) xs

      count : length more ≡ suc (length ks)
      count = let m = length-append ks (k ∷ []) in omega arith

      old : (e : ℕ) → e < length ks → get_or more e 0 ≡ get_or ks e 0
      old e l = get_or-append ks (k ∷ []) 0 e l

      prev-old : (n b : ℕ) → n ≤ length ks → prev (ranked bucket more) n b ≡ prev (ranked bucket ks) n b
      prev-old n b h = prev-alike (ranked bucket more) (ranked bucket ks) n b (λ e l. ap bucket (old e (omega arith)))

      last : get_or more (length ks) 0 ≡ k
      last = get_or-append_seam ks k [] 0

      -- the heads
      head-here : get_or after (hs + bucket k) 0 ≡ suc (length ks)
      unfolding noted
      head-here =
          get_or-set_same (set xs (place k) (link_of (get_or xs (hs + bucket k) 0) (tag k))) (hs + bucket k) (suc (length ks)) 0
          (rw length-set (omega arith))

      other : (i : ℕ) → (i ≡ hs + bucket k → ⊥) → (i ≡ place k → ⊥) → get_or after i 0 ≡ get_or xs i 0
      unfolding noted
      other i h l =
          get_or-set_other (set xs (place k) (link_of (get_or xs (hs + bucket k) 0) (tag k))) (hs + bucket k) i (suc (length ks)) 0 h
          ∙ get_or-set_other xs (place k) i (link_of (get_or xs (hs + bucket k) 0) (tag k)) 0 l

      slot-here : get_or after (place k) 0 ≡ link_of (get_or xs (hs + bucket k) 0) (tag k)
      unfolding noted
      slot-here =
          get_or-set_other (set xs (place k) (link_of (get_or xs (hs + bucket k) 0) (tag k))) (hs + bucket k) (place k) (suc (length ks)) 0
          (λ q. omega arith)
          ∙ get_or-set_same xs (place k) (link_of (get_or xs (hs + bucket k) 0) (tag k)) 0 (omega arith)

      prev-last : (b : ℕ) → prev (ranked bucket more) (length more) b ≡ prev (ranked bucket more) (suc (length ks)) b
      prev-last b = ap (λ (n : ℕ). prev (ranked bucket more) n b) count

      noted-heads :
          (b : ℕ) → b < H → (t : Bool) → eqb (bucket k) b ≡ t
          → get_or after (hs + b) 0 ≡ prev (ranked bucket more) (length more) b
      noted-heads b l true h =
          let z = eqb-true (bucket k) b h in
          ap (λ (c : ℕ). get_or after (hs + c) 0) (sym z)
          ∙ head-here
          ∙ sym (prev-last b ∙ prev-here (ranked bucket more) (length ks) b (ap bucket last ∙ z))
      noted-heads b l false h =
          let z = eqb-false (bucket k) b h in
          other (hs + b) (λ q. z (omega arith)) (λ q. omega arith)
          ∙ ix.heads b l
          ∙ sym (prev-old (length ks) b (omega arith))
          ∙ sym (prev-last b ∙ prev-later (ranked bucket more) (length ks) b (λ q. z (sym (ap bucket last) ∙ q)))

      -- the links
      noted-links :
          (e : ℕ) → e < length more → Dec (e < length ks)
          → get_or after (place (get_or more e 0)) 0
          ≡ link_of (prev (ranked bucket more) e (bucket (get_or more e 0))) (tag (get_or more e 0))
      noted-links e l (yes d) =
          let low = ix.low e d in
          rw (old e d)
          (other (place (get_or ks e 0)) (λ q. omega arith) (new e d)
          ∙ ix.links e d
          ∙ ap (λ (c : ℕ). link_of c (tag (get_or ks e 0))) (sym (prev-old e (bucket (get_or ks e 0)) (omega arith))))
      noted-links e l (no d) =
          let c = count in
          let z : e ≡ length ks = omega arith in
          rw (z, last)
          (slot-here ∙ ap (λ (c : ℕ). link_of c (tag k)) (ix.heads (bucket k) inside ∙ sym (prev-old (length ks) (bucket k) (omega arith))))

      noted-low : (e : ℕ) → e < length more → Dec (e < length ks) → place (get_or more e 0) < hs
      noted-low e l (yes d) = rw (old e d) (ix.low e d)
      noted-low e l (no d) = let c = count in let z : e ≡ length ks = omega arith in rw (z, last) before

      -- entry `length ks`, with key k
      pub note-keeps :
          Indexed bucket tag place hs H (ks ++ (k ∷ [])) (noted (hs + bucket k) (place k) (tag k) (suc (length ks)) xs)
      note-keeps = record {
        heads = λ b l. noted-heads b l (eqb (bucket k) b) refl;
        links = λ e l. noted-links e l (dec_lt e (length ks));
        low = λ e l. noted-low e l (dec_lt e (length ks));
      }
