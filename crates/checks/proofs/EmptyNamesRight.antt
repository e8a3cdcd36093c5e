-- What refusal 14 is (specs/EmptyNames) holds of every sheet.
use Prim.Native.Nat.{ℕ, ◌≤◌, ◌<◌}
use mathlib.Core.Path.{◌≡◌, refl, sym, ap, ◌∙◌}
use mathlib.Core.Bool.{Bool, true, false, ◌&&◌, true≢false, and-eq-true_iff}
use mathlib.Core.Logic.{inl, inr}
use mathlib.Core.List.{List, []}
use native.Mathlib.Omega.{arith}
use lib.Dec.{eqb}
use borrow.Author.Tests.{eqb-true, ltb-true, ltb-false}
use Rattle.std.specs.Prelude.{Ok, Err}
use Rattle.laws.proofs.Bool.{true-unless, false-unless}
use Rattle.words.proofs.CountLaws.{all-at, some-fails}
use Rattle.sheet.specs.Kinds.{variable_kind, property_kind, method_call_kind}
use Rattle.sheet.specs.Sections.{node_count, text_count, local_count}
use Rattle.sheet.specs.Node.{kind, field_a, local_text}
use Rattle.sheet.specs.Text.{text, text_length}
use Rattle.check_sizes.specs.Sizes.{sizes_ok}
use Rattle.check_shape.specs.Shape.{shape_ok}
use Rattle.check_texts.specs.Texts.{texts_ok}
use Rattle.check_numbers.specs.Numbers.{numbers_ok}
use Rattle.check_names.specs.Names.{has_name, has_bytes_by, has_bytes, node_name_by, node_name_ok, local_name_by, local_name_ok}
use Rattle.check_names.specs.Names.{node_names_by, local_names_by, names_by, node_names_ok, local_names_ok, names_ok}
use Rattle.check_names.proofs.NameLaws.{name-there, local-there}
use Rattle.check_depth.specs.Depth.{depth_ok}
use Rattle.check_switches.specs.Switch.{entries_ok, cases_ok}
use Rattle.check_support.specs.Support.{supported_ok}
use Rattle.refusals.specs.declared.Refusal.{Refusal}
use Rattle.refusals.specs.declared.Refusal.TheVariants.{Size, Shape, Text, Number, EmptyName, Depth, Arms, Twice, Unsupported}
use Rattle.refusals.specs.Refusal.{refusal_number}
use Rattle.checks.specs.Checked.{Verdict, verdict_number, checked, tree_checked}
use Rattle.checks.specs.EmptyNames.{Before, HasOwnName, Nameless, at_node, at_local, Statement}
use Rattle.checks.proofs.CheckedLaws.{says-1, says-2, says-3, says-4, says-14}
use Rattle.checks.proofs.AcceptedLaws.{before, goes-past, accepted-before, accepted-names}
use Rattle.checks.proofs.TextLaws.{text-none, length-none}

-- ---- kinds with a name

named-true : (k : ℕ) → HasOwnName k → has_name k ≡ true
unfolding has_name
named-true k (inl e) = rw e refl
named-true k (inr (inl e)) = rw e refl
named-true k (inr (inr (inl e))) = rw e refl
named-true k (inr (inr (inr e))) = rw e refl

named-of : (k : ℕ) → has_name k ≡ true → HasOwnName k
unfolding has_name
named-of k h = by (eqb k variable_kind) refl (eqb k property_kind) refl (eqb k method_call_kind) refl
  where
    by : (a : Bool) → eqb k variable_kind ≡ a → (b : Bool) → eqb k property_kind ≡ b → (c : Bool) → eqb k method_call_kind ≡ c → HasOwnName k
    by true e b f c g = inl (eqb-true _ _ e)
    by false e true f c g = inr (inl (eqb-true _ _ f))
    by false e false f true g = inr (inr (inl (eqb-true _ _ g)))
    by false e false f false g = inr (inr (inr (eqb-true _ _ (rw (e, f, g) at h))))

-- ---- names and bytes, where nothing of refusals 1 to 4 holds

-- a text has bytes by its length, and by its list of bytes
module _ (s : List ℕ) (b : Before s) (t : ℕ) (l : t < text_count s) where
  some-text : has_bytes s t ≡ true → text s t ≡ [] → ⊥
  unfolding has_bytes_by
  some-text h e = let z = length-none s b.sizes b.texts t l e in omega (arith, ltb-true 0 (text_length s t) h)

  empty-text : has_bytes s t ≡ false → text s t ≡ []
  unfolding has_bytes_by
  empty-text h = text-none s b.sizes b.texts t l (omega (arith, ltb-false 0 (text_length s t) h))

module _ (s : List ℕ) (b : Before s) where
  names-some : names_ok s ≡ true → Nameless s → ⊥
  unfolding names_by node_names_by local_names_by node_name_by local_name_by local_text
  names-some h (at_node n l k e) =
      let named = named-true (kind s n) k in
      let ok = all-at (node_name_ok s) (node_count s) n ((and-eq-true_iff _ _).0 h).0 l in
      some-text s b (field_a s n) (name-there s b.numbers n l named) (rw (named, node_name_by) at ok) e
  names-some h (at_local n l e) =
      let ok = all-at (local_name_ok s) (local_count s) n ((and-eq-true_iff _ _).0 h).1 l in
      some-text s b (local_text s n) (local-there s b.numbers n l) ok e

  nameless-node : node_names_ok s ≡ false → Nameless s
  unfolding node_names_by node_name_by
  nameless-node h = let r = some-fails (node_name_ok s) (node_count s) h in by r.0 r.1 (has_name (kind s r.0)) refl r.2
    where
      by : (n : ℕ) → n < node_count s → (t : Bool) → has_name (kind s n) ≡ t → node_name_ok s n ≡ false → Nameless s
      by n l true e f =
          let named = name-there s b.numbers n l e in
          at_node n l (named-of (kind s n) e) (empty-text s b (field_a s n) named (rw (e, node_name_by) at f))
      by n l false e f = absurd (true≢false (rw (e, node_name_by) at f))

  nameless-local : local_names_ok s ≡ false → Nameless s
  unfolding local_names_by local_name_by local_text
  nameless-local h =
      let r = some-fails (local_name_ok s) (local_count s) h in
      at_local r.0 r.1 (empty-text s b (local_text s r.0) (local-there s b.numbers r.0 r.1) r.2)

  nameless-of : names_ok s ≡ false → Nameless s
  unfolding names_by
  nameless-of h = by (node_names_ok s) refl
    where
      by : (t : Bool) → node_names_ok s ≡ t → Nameless s
      by false e = nameless-node e
      by true e = nameless-local (sym (ap (λ t. t && local_names_ok s) e) ∙ h)

  names-are : (Nameless s → ⊥) → names_ok s ≡ true
  names-are named = true-unless (names_ok s) (λ e. named (nameless-of e))

  names-not : Nameless s → names_ok s ≡ false
  names-not n = false-unless (names_ok s) (λ e. names-some e n)

-- ---- the answer

abbrev refused : Refusal → Verdict
refused r = Err r

-- no test from refusal 5 on has the refusal 14
other-of : (t : Bool) (r : Refusal) (v : Verdict) → (refusal_number r ≡ 14 → ⊥) → (v ≡ refused EmptyName → ⊥)
    → (w : Verdict) → w ≡ elim t [ true ↦ v | false ↦ refused r ] → w ≡ refused EmptyName → ⊥
other-of true r v a b w is e = b (sym is ∙ e)
other-of false r v a b w is e = a (ap verdict_number (sym is ∙ e))

last-other : (t : Bool) → elim t [ true ↦ Ok tt | false ↦ refused Unsupported ] ≡ refused EmptyName → ⊥
last-other true e = let z = ap verdict_number e in omega arith
last-other false e = let z = ap verdict_number e in omega arith

tree-other : (s : List ℕ) → tree_checked s ≡ Err EmptyName → ⊥
unfolding tree_checked
tree-other s e =
    other-of (depth_ok s) Depth _ (λ q. omega arith)
    (other-of (entries_ok s) Arms _ (λ q. omega arith)
    (other-of (cases_ok s) Twice _ (λ q. omega arith) (last-other (supported_ok s)) _ refl) _ refl)
    (tree_checked s) refl e

-- where one of 1 to 4 holds, one of them is answered
early : (s : List ℕ) → (Before s → ⊥) → (1 ≤ verdict_number (checked s)) × (verdict_number (checked s) ≤ 4)
early s out = by (sizes_ok s) refl (shape_ok s) refl (texts_ok s) refl (numbers_ok s) refl
  where
    by : (a : Bool) → sizes_ok s ≡ a → (b : Bool) → shape_ok s ≡ b → (c : Bool) → texts_ok s ≡ c → (d : Bool) → numbers_ok s ≡ d
        → (1 ≤ verdict_number (checked s)) × (verdict_number (checked s) ≤ 4)
    by false e b f c g d h = let z = ap verdict_number (says-1 s e) in (omega arith, omega arith)
    by true e false f c g d h = let z = ap verdict_number (says-2 s e f) in (omega arith, omega arith)
    by true e true f false g d h = let z = ap verdict_number (says-3 s e f g) in (omega arith, omega arith)
    by true e true f true g false h = let z = ap verdict_number (says-4 s e f g h) in (omega arith, omega arith)
    by true e true f true g true h = absurd (out (record { sizes = e; shape = f; texts = g; numbers = h }))

apart : (s : List ℕ) (r : Refusal) → checked s ≡ Err EmptyName → (refusal_number r ≡ 14 → ⊥) → checked s ≡ Err r → ⊥
apart s r a n b = n (ap verdict_number (sym b ∙ a))

before-14 : (s : List ℕ) → checked s ≡ Err EmptyName → Before s
before-14 s a =
    before s (apart s Size a (λ e. omega arith)) (apart s Shape a (λ e. omega arith)) (apart s Text a (λ e. omega arith))
    (apart s Number a (λ e. omega arith))

names-14 : (s : List ℕ) → checked s ≡ Err EmptyName → names_ok s ≡ false
names-14 s a = false-unless (names_ok s) (λ e. tree-other s (sym (goes-past s (before-14 s a) e) ∙ a))

pub empty_names_right : (s : List ℕ) → Statement s
empty_names_right s = record {
  refused = λ a. (before-14 s a, nameless-of s (before-14 s a) (names-14 s a));
  refuses = λ b n. says-14 s b.sizes b.shape b.texts b.numbers (names-not s b n);
  earlier = early s;
  later = λ b named. goes-past s b (names-are s b named);
  other = tree-other s;
  accepted = λ a. let z = ap verdict_number a in names-some s (accepted-before s z) (accepted-names s z);
}
