-- Laws of names: where nothing of refusal 4 holds each is a text, and where besides every text has bytes every name has.
use Prim.Native.Nat.{ℕ, ◌<◌}
use mathlib.Core.Path.{◌≡◌, refl}
use mathlib.Core.Bool.{Bool, true, false, ◌||◌, and-eq-true_iff}
use mathlib.Core.List.{List}
use lib.Dec.{eqb}
use borrow.Author.Tests.{ltb-true}
use Rattle.laws.proofs.Bool.{both}
use Rattle.words.specs.Count.{all_below}
use Rattle.words.proofs.CountLaws.{all-at, all_of}
use Rattle.sheet.specs.Kinds.{string_kind}
use Rattle.sheet.specs.Sections.{node_count, text_count, local_count}
use Rattle.sheet.specs.Node.{kind, field_a, local_text}
use Rattle.check_numbers.specs.Numbers.{names_text, exist, number_by, number_ok, local_by, local_ok, node_numbers_by, locals_by, numbers_by}
use Rattle.check_numbers.specs.Numbers.{numbers_ok}
use Rattle.check_names.specs.Names.{has_name, has_bytes, node_name_by, node_name_ok, local_name_by, local_name_ok}
use Rattle.check_names.specs.Names.{node_names_by, local_names_by, names_by, names_ok}

-- an own name is a text
or-more : (a b c d e : Bool) → (b || c || d || e) ≡ true → (a || b || c || d || e) ≡ true
or-more true b c d e h = refl
or-more false b c d e h = h

name-text : (k : ℕ) → has_name k ≡ true → names_text k ≡ true
unfolding has_name names_text
name-text k h = or-more (eqb k string_kind) _ _ _ _ h

module _ (s : List ℕ) (M : numbers_ok s ≡ true) where
  -- of a node
  pub name-there : (n : ℕ) → n < node_count s → has_name (kind s n) ≡ true → field_a s n < text_count s
  unfolding numbers_by node_numbers_by number_by exist
  name-there n l h =
      let nodes = ((and-eq-true_iff _ _).0 M).0 in
      let x = simp and-eq-true_iff at (all-at (number_ok s) (node_count s) n nodes l) in
      ltb-true (field_a s n) (text_count s) (rw (name-text (kind s n) h) at x.0.0.0.0.1)

  -- of a local
  pub local-there : (l : ℕ) → l < local_count s → local_text s l < text_count s
  unfolding numbers_by locals_by local_by local_text
  local-there l h =
      let locals = ((and-eq-true_iff _ _).0 M).1 in
      ltb-true (local_text s l) (text_count s) (all-at (local_ok s) (local_count s) l locals h)

  -- where every text has bytes, so has every name
  names-every : ((t : ℕ) → t < text_count s → has_bytes s t ≡ true) → names_ok s ≡ true
  unfolding names_by node_names_by local_names_by node_name_by local_name_by local_text
  names-every every =
      both (all_of (node_name_ok s) (node_count s) (λ n l. by n l (has_name (kind s n)) refl))
      (all_of (local_name_ok s) (local_count s) (λ l h. every (local_text s l) (local-there l h)))
    where
      by : (n : ℕ) → n < node_count s → (h : Bool) → has_name (kind s n) ≡ h → node_name_ok s n ≡ true
      by n l true e = rw (e, node_name_by) (every (field_a s n) (name-there n l e))
      by n l false e = rw (e, node_name_by)

  pub names-all : all_below (text_count s) (has_bytes s) ≡ true → names_ok s ≡ true
  names-all all = names-every (λ t l. all-at (has_bytes s) (text_count s) t all l)
