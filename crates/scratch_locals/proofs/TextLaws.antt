-- The names of Variables as a pool: the same texts have the same hash, where the pool lies, and what a search for a text tells.
use Rattle.std.proofs.Common.{◌≡◌, ℕ, ◌+◌, ◌<◌, ◌≤◌, true, false, List, get_or, sym, refl, ap, ◌∙◌, subst, arith}
use Rattle.lowering.proofs.FirstLaws.{first-within, first_passes}
use Rattle.text.specs.Same.{same}
use Rattle.text.proofs.SameLaws.{same_refl, same_true, same_false}
use Rattle.sheet.specs.Sections.{node_count}
use Rattle.sheet.specs.Node.{field_a}
use Rattle.sheet.specs.Text.{text}
use Rattle.lowering.specs.Pools.{first_where}
use Rattle.scratch.specs.declared.Layout.{Layout}
use Rattle.scratch.specs.Places.{Small, names_at, name_index, region}
use Rattle.scratch.proofs.RegionLaws.{region-at}
use Rattle.scratch.proofs.PlaceLaws.{name-heads, name-lies}
use Rattle.scratch_folds.specs.Hash.{bytes_hash}
use Rattle.scratch_index.specs.Consts.{const_slot}
use Rattle.scratch_index.specs.Lookup.{Sought, Finds}
use Rattle.scratch_index.specs.Pool.{Alike}
use Rattle.scratch_folds.proofs.HashLaws.{bytes_word}
use Rattle.scratch_index.proofs.ConstLaws.{alike-by}
use Rattle.scratch_index.proofs.DifferLaws.{first-fails}
use Rattle.scratch_index.proofs.SlotLaws.{node-slots}
use Rattle.scratch_index.proofs.PoolLaws.{pool-length, pool-asked}
use Rattle.scratch_index.proofs.BesideLaws.{Outside}
use Rattle.scratch_index.proofs.LodgeLaws.{Lodged}
use Rattle.scratch_locals.specs.Pass.{has_text, same_text, text_hash, VariableKey, TextPool, key_at}

module _ (s : List ℕ) where
  has-text : (t k : ℕ) → text s t ≡ text s (field_a s k) → has_text s t k ≡ true
  has-text t k e = subst (λ (y : List ℕ). same (text s t) y ≡ true) e (same_refl (text s t))

  pub text-word : (k : ℕ) → text_hash s k < 4294967296
  text-word k = bytes_word (text s (field_a s k))

  pub text-self : (j : ℕ) → same_text s j j ≡ true
  text-self j = same_refl (text s (field_a s j))

  pub texts-alike : Alike (same_text s) (text_hash s)
  texts-alike =
      alike-by (λ (k : ℕ). text s (field_a s k)) (same_text s) (text_hash s) bytes_hash
      (λ i j h. same_true (text s (field_a s i)) (text s (field_a s j)) h)
      (λ i j e. has-text (field_a s i) j e)
      (λ k. refl)
      text-word

module _ {s : List ℕ} {l : Layout} (small : Small l) (nodes : l.nodes ≡ node_count s) where
  pub text-lodged : Lodged l (VariableKey s) const_slot (name_index l) l.nodes
  text-lodged =
      let i = name-lies small in
      let h = name-heads l in
      record {
        few = omega arith;
        some = omega arith;
        from = omega arith;
        to = omega arith;
        linked = i.links_is;
        below = λ k u. let b = u.below in omega arith;
        heads-from = omega arith;
        heads-to = omega arith;
        apart = λ i j u v q. node-slots i j q;
      }

-- a word before the keys of names
pub outside_low :
    {s : List ℕ} {l : Layout} → Small l → (i : ℕ) → i < names_at l → Outside (VariableKey s) const_slot (name_index l) l.nodes i
outside_low small i h =
    let at = name-lies small in
    record { off-keys = λ e m q. omega arith; off-heads = λ b m q. omega arith; off-slots = λ k u q. omega arith }

-- a search for text t, with hash h, answers r
module _
    {s : List ℕ} {l : Layout} {n : ℕ} {xs : List ℕ} (small : Small l) (p : TextPool s l n xs) (t h r : ℕ)
    (hashed : h ≡ bytes_hash (text s t)) (f : Finds (has_text s t) (text_hash s) const_slot (name_index l) n h xs r)
  where
    abbrev keys : List ℕ
    keys = region (name_index l).at n xs

    sought : Sought (has_text s t) (text_hash s) const_slot (name_index l) n (bytes_hash (text s t)) xs
    sought =
        pool-asked p (has_text s t) (bytes_hash (text s t))
        (λ i j a b.
        has-text s (field_a s i) j (sym (same_true (text s t) (text s (field_a s i)) a) ∙ same_true (text s t) (text s (field_a s j)) b))
        (λ k a. ap bytes_hash (sym (same_true (text s t) (text s (field_a s k)) a)))

    pub text-sought : Sought (has_text s t) (text_hash s) const_slot (name_index l) n h xs
    text-sought = subst (λ (g : ℕ). Sought (has_text s t) (text_hash s) const_slot (name_index l) n g xs) (sym hashed) sought

    pub text-first : r ≡ first_where (has_text s t) (region (name_index l).at n xs)
    text-first =
        (subst (λ (g : ℕ). Finds (has_text s t) (text_hash s) const_slot (name_index l) n g xs r) hashed f).found sought

    key-is : (e : ℕ) → e < n → get_or keys e 0 ≡ key_at l xs e
    key-is e b = region-at (name_index l).at n e xs b ∙ ap (λ (a : ℕ). get_or xs (a + e) 0) (name-lies small).at-is

    passes : r < n → has_text s t (get_or keys r 0) ≡ true
    passes b =
        let m = pool-length p in
        let e = text-first in
        ap (λ (i : ℕ). has_text s t (get_or keys i 0)) e ∙ first_passes (has_text s t) 0 keys (omega arith)

    -- the name of rank r has this text
    pub text-found : r < n → text s (field_a s (key_at l xs r)) ≡ text s t
    text-found b =
        sym (same_true (text s t) (text s (field_a s (key_at l xs r))) (ap (has_text s t) (sym (key-is r b)) ∙ passes b))

    -- no other has
    pub text-once : r < n → (e : ℕ) → e < n → (e ≡ r → ⊥) → same (text s t) (text s (field_a s (key_at l xs e))) ≡ false
    text-once b e c ne =
        let m = pool-length p in
        same_false (text s t) (text s (field_a s (key_at l xs e)))
        (λ q.
        ne
        (sought.once.once e r (omega arith) (omega arith) (ap (has_text s t) (key-is e c) ∙ has-text s t (key_at l xs e) q) (passes b)))

    -- none has
    pub text-missed : n ≤ r → (e : ℕ) → e < n → same (text s t) (text s (field_a s (key_at l xs e))) ≡ false
    text-missed b e c =
        let m = pool-length p in
        let q = text-first in
        let w = first-within (has_text s t) keys in
        ap (has_text s t) (sym (key-is e c)) ∙ first-fails (has_text s t) 0 keys (omega arith) e (omega arith)

    pub text-rank : n ≤ r → r ≡ n
    text-rank b =
        let m = pool-length p in
        let q = text-first in
        let w = first-within (has_text s t) keys in
        omega arith
