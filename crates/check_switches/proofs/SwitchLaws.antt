-- Laws of the Switch's checks, in the shapes of the code.
use Prim.Native.Nat.{ℕ, zero, suc, ◌+◌, ◌-◌, ◌*◌, ◌≤◌}
use mathlib.Core.Path.{◌≡◌, refl, ap, ap₂, sym, ◌∙◌}
use mathlib.Core.Bool.{Bool, true, false, ◌&&◌}
use mathlib.Core.List.{List, [], ◌∷◌}
use native.Mathlib.Omega.{arith}
use native.Mathlib.Decide.{dec_le}
use lib.Dec.{leb, eqb}
use borrow.Author.Tests.{eq-eqb, ne_eqb, le-leb, lt-leb}
use Rattle.laws.proofs.Bool.{and-lazy}
use Rattle.std.specs.List.{list_all}
use Rattle.text.specs.Same.{same}
use Rattle.sheet.specs.Limits.{max_entries}
use Rattle.sheet.specs.Kinds.{string_kind}
use Rattle.sheet.specs.Node.{kind, field_a, field_b, child, next}
use Rattle.sheet.specs.Text.{text_by, text}
use Rattle.sheet.specs.Walk.{siblings, sibling_list, skip}
use Rattle.sheet.proofs.SiblingLaws.{list_all-siblings}
use Rattle.sheet.proofs.WalkLaws.{skip-add}
use Rattle.check_switches.specs.Switch.{first_case_by, entries_by, same_value_by, distinct_by, cases_by}
use Rattle.check_switches.specs.Switch.{is_switch, case_count, first_case, refs_ok, counts_ok, entries_ok, same_value, apart, distinct}
use Rattle.check_switches.specs.Switch.{cases_ok}

-- K siblings, K more, and one more
pub first-case : (s : List ℕ) → first_case s ≡ next s (skip s (field_a s 0) (skip s (field_a s 0) (child 0)))
unfolding first_case skip
first-case s =
    let K = field_a s 0 in
    let e : 1 + 2 * K ≡ K + (K + 1) = omega arith in
    ap (λ m. skip s m (child 0)) e
    ∙ skip-add s K (K + 1) (child 0)
    ∙ skip-add s K 1 (skip s K (child 0))

-- few ranges, without a difference
pub few-ranges : (m others : ℕ) → leb (m - others) max_entries ≡ leb m (others + max_entries)
few-ranges m others = by (dec_le m (others + max_entries))
  where
    by : Dec (m ≤ others + max_entries) → leb (m - others) max_entries ≡ leb m (others + max_entries)
    by (yes h) = le-leb (m - others) max_entries (omega arith) ∙ sym (le-leb m (others + max_entries) h)
    by (no h) = lt-leb (m - others) max_entries (omega arith) ∙ sym (lt-leb m (others + max_entries) (omega arith))

module _ (s : List ℕ) where
  pub entries-other : is_switch s ≡ false → entries_ok s ≡ true
  unfolding entries_by
  entries-other h = rw (h, entries_by)

  pub entries-many : is_switch s ≡ true → counts_ok s ≡ false → entries_ok s ≡ false
  unfolding entries_by
  entries-many h k = rw (h, k, entries_by)

  pub entries-refs : is_switch s ≡ true → counts_ok s ≡ true → entries_ok s ≡ siblings (refs_ok s) s (case_count s) (first_case s)
  unfolding entries_by first_case_by
  entries-refs h k = rw (h, k, entries_by)

  pub cases_other : is_switch s ≡ false → cases_ok s ≡ true
  unfolding cases_by
  cases_other h = rw (h, cases_by)

  pub cases-distinct : is_switch s ≡ true → cases_ok s ≡ distinct s (case_count s) (first_case s)
  unfolding cases_by first_case_by
  cases-distinct h = rw (h, cases_by)

  pub value-kinds : (v w : ℕ) → (kind s v ≡ kind s w → ⊥) → same_value s v w ≡ false
  unfolding same_value_by
  value-kinds v w h = rw (ne_eqb (kind s v) (kind s w) h, same_value_by)

  pub value-text : (v w : ℕ) → kind s v ≡ kind s w → kind s v ≡ string_kind
      → same_value s v w ≡ same (text s (field_a s v)) (text s (field_a s w))
  unfolding same_value_by text_by
  value-text v w h k = rw (eq-eqb (kind s v) (kind s w) h, eq-eqb (kind s v) string_kind k, same_value_by)

  pub value-bits : (v w : ℕ) → kind s v ≡ kind s w → (kind s v ≡ string_kind → ⊥)
      → same_value s v w ≡ (eqb (field_a s v) (field_a s w) && eqb (field_b s v) (field_b s w))
  unfolding same_value_by
  value-bits v w h k = rw (eq-eqb (kind s v) (kind s w) h, ne_eqb (kind s v) string_kind k, same_value_by)

  -- Cases in a list differ, each from each
  abbrev pub list_distinct : List ℕ → Bool
  list_distinct [] = true
  list_distinct (p ∷ ps) = list_all (apart s p) ps && list_distinct ps

  -- those of a walk are its siblings
  pub list_distinct-siblings : (m p : ℕ) → list_distinct (sibling_list s m p) ≡ distinct s m p
  unfolding distinct_by sibling_list
  list_distinct-siblings zero p = refl
  list_distinct-siblings (suc m) p =
      ap₂ ◌&&◌ (list_all-siblings (apart s p) s m (next s p)) (list_distinct-siblings m (next s p))
      ∙ sym (and-lazy (siblings (apart s p) s m (next s p)) (distinct s m (next s p)))

  -- The Case p and those behind it, ps, where q is the whole.
  module _ {xs ps : List ℕ} {p : ℕ} {q t : Bool} (first : xs ≡ p ∷ ps) (whole : list_distinct xs ≡ q) (test : t ≡ list_all (apart s p) ps) where
    pub pass-goes : t ≡ true → list_distinct ps ≡ q
    pass-goes h = sym (ap list_distinct first ∙ ap (λ b. b && list_distinct ps) (sym test ∙ h)) ∙ whole

    pub pass-stops : t ≡ false → false ≡ q
    pass-stops h = sym (ap list_distinct first ∙ ap (λ b. b && list_distinct ps) (sym test ∙ h)) ∙ whole

  pub pass-ends : {xs : List ℕ} {q : Bool} → xs ≡ [] → list_distinct xs ≡ q → true ≡ q
  pass-ends e whole = sym (ap list_distinct e) ∙ whole
