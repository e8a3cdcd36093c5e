-- Laws of the places of names: a name that is pooled stands where it was looked for, and stays there; two names that stand in the pool
-- stand at one place if and only if their bytes are the same.
use Prim.Native.Nat.{ℕ}
use mathlib.Core.Path.{◌≡◌, sym, ap, ◌∙◌}
use mathlib.Core.Bool.{true}
use mathlib.Core.List.{List, append-nil}
use lib.ListN.{get_or}
use Rattle.lowering.proofs.FirstLaws.{first_passes}
use Rattle.text.specs.Same.{same}
use Rattle.text.proofs.SameLaws.{same_refl, same_true}
use Rattle.sheet.specs.Text.{text}
use Rattle.lowering.specs.Pools.{Pools, Name, name, prefix, name_bytes, first_where, same_name, name_at, push_name}
use Rattle.expr_chains.proofs.Grow.{Grows}
use Rattle.expr_chains.proofs.FindLaws.{grown-same, grown-within, added-grows, added-same, added-within}
use Rattle.expr_chains.specs.Steps.{name_in}
use Rattle.expr_chains.specs.Same.{same_text}
use Rattle.expr_chains.specs.Pooled.{Stands}

module _ (s : List ℕ) where
  pub name-self : (n : Name) → same_name s n n ≡ true
  unfolding same_name
  name-self n = same_refl (name_bytes s n)

  name-bytes : (t : ℕ) → name_bytes s (name t 0) ≡ text s t
  unfolding name_bytes prefix
  name-bytes t = append-nil (text s t)

  -- a name that stands stays where it is
  pub name-stays : {ns ms : List Name} (t : ℕ) → Grows ns ms → Stands s ns t → name_in s ms t ≡ name_in s ns t
  unfolding name_in
  name-stays t g h = grown-same (same_name s (name t 0)) g h

  pub stands-stays : {ns ms : List Name} (t : ℕ) → Grows ns ms → Stands s ns t → Stands s ms t
  unfolding name_in
  stands-stays t g h = grown-within (same_name s (name t 0)) g h

  -- a name that is pooled
  pub push-grows : (n : Name) (p : Pools) → Grows p.names (push_name s n p).names
  unfolding push_name
  push-grows n p = added-grows (same_name s n) n p.names

  pub push-stands : {ns : List Name} (t : ℕ) (p : Pools) → Grows (push_name s (name t 0) p).names ns → Stands s ns t
  unfolding push_name name_in
  push-stands t p g =
      grown-within (same_name s (name t 0)) g (added-within (same_name s (name t 0)) (name t 0) p.names (name-self (name t 0)))

  pub push_at : {ns : List Name} (t : ℕ) (p : Pools) → Grows (push_name s (name t 0) p).names ns → name_at s (name t 0) p ≡ name_in s ns t
  unfolding push_name name_in name_at
  push_at t p g =
      let n = name t 0 in
      let at = added-same (same_name s n) n p.names (name-self n) in
      let later = grown-same (same_name s n) g (added-within (same_name s n) n p.names (name-self n)) in
      sym (later ∙ at)

  -- the same bytes
  pub texts-same : (a b : ℕ) → same_text s a b ≡ true → text s a ≡ text s b
  unfolding same_text
  texts-same a b h = same_true (text s a) (text s b) h

  pub texts-equal : (a b : ℕ) → text s a ≡ text s b → same_text s a b ≡ true
  unfolding same_text
  texts-equal a b e = rw e (same_refl (text s b))

  pub names-one : (ns : List Name) (a b : ℕ) → same_text s a b ≡ true → name_in s ns a ≡ name_in s ns b
  unfolding name_in same_name
  names-one ns a b h =
      let e : name_bytes s (name a 0) ≡ name_bytes s (name b 0) = name-bytes a ∙ texts-same a b h ∙ sym (name-bytes b) in
      ap (λ (l : List ℕ). first_where (λ (y : Name). same l (name_bytes s y)) ns) e

  stands-bytes : (ns : List Name) (t : ℕ) → Stands s ns t → text s t ≡ name_bytes s (get_or ns (name_in s ns t) (name 0 0))
  unfolding name_in same_name
  stands-bytes ns t h =
      let n = name t 0 in
      let at = get_or ns (name_in s ns t) (name 0 0) in
      sym (name-bytes t) ∙ same_true (name_bytes s n) (name_bytes s at) (first_passes (same_name s n) (name 0 0) ns h)

  pub names_apart : (ns : List Name) (a b : ℕ) → Stands s ns a → Stands s ns b → name_in s ns a ≡ name_in s ns b → same_text s a b ≡ true
  names_apart ns a b ha hb e =
      texts-equal a b
      (stands-bytes ns a ha
      ∙ ap (λ (i : ℕ). name_bytes s (get_or ns i (name 0 0))) e
      ∙ sym (stands-bytes ns b hb))
