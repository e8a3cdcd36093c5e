-- Laws of the Switch's checks on what the code has read, each in the form of one answer.
use Prim.Native.Nat.{ℕ, ◌+◌, ◌*◌}
use mathlib.Core.Path.{◌≡◌, ap, ap₂, sym, ◌∙◌}
use mathlib.Core.Bool.{Bool, true, false, ◌&&◌}
use mathlib.Core.List.{List}
use lib.Dec.{leb, eqb}
use Rattle.text.specs.Same.{same}
use Rattle.sheet.specs.Limits.{max_entries}
use Rattle.sheet.specs.Kinds.{string_kind}
use Rattle.sheet.specs.Node.{kind, count, field_a, field_b, child, next}
use Rattle.sheet.specs.Text.{text}
use Rattle.sheet.specs.Walk.{siblings, skip}
use Rattle.check_switches.specs.Switch.{counts_by, first_case, refs_ok, counts_ok, is_switch, entries_ok, same_value, distinct}
use Rattle.check_switches.specs.Switch.{cases_ok}
use Rattle.check_switches.proofs.SwitchLaws.{
  first-case,
  few-ranges,
  entries-refs,
  cases-distinct,
  value-kinds,
  value-text,
  value-bits,
}

module _ (s : List ℕ) where
  pub first_read : {K f j q r : ℕ} → K ≡ field_a s 0 → f ≡ child 0 → j ≡ skip s K f → q ≡ skip s K j → r ≡ next s q → r ≡ first_case s
  first_read hK hf hj hq h = cc (first-case s)

  pub counts-read : {a b m : ℕ} → a ≡ field_a s 0 → b ≡ field_b s 0 → m ≡ count s 0
      → (leb a max_entries && leb b max_entries && leb m (1 + 2 * a + b + max_entries)) ≡ counts_ok s
  unfolding counts_by
  counts-read {a} {b} {m} ha hb hm = cc (few-ranges m (1 + 2 * a + b))

  pub entries-read : {b f : ℕ} {r : Bool} → is_switch s ≡ true → counts_ok s ≡ true → b ≡ field_b s 0 → f ≡ first_case s
      → r ≡ siblings (refs_ok s) s b f → r ≡ entries_ok s
  entries-read h k hb hf q = q ∙ ap₂ (siblings (refs_ok s) s) hb hf ∙ sym (entries-refs s h k)

  pub cases-read : {b f : ℕ} {r : Bool} → is_switch s ≡ true → b ≡ field_b s 0 → f ≡ first_case s → r ≡ distinct s b f → r ≡ cases_ok s
  cases-read h hb hf q = q ∙ ap₂ (distinct s) hb hf ∙ sym (cases-distinct s h)

-- Nodes v and w, of kinds k and l.
module _ (s : List ℕ) (v w : ℕ) {k l : ℕ} (hk : k ≡ kind s v) (hl : l ≡ kind s w) where
  pub values-apart : (k ≡ l → ⊥) → false ≡ same_value s v w
  values-apart h = sym (value-kinds s v w (λ e. h (hk ∙ e ∙ sym hl)))

  module _ (same_kind : k ≡ l) {a b : ℕ} (ha : a ≡ field_a s v) (hb : b ≡ field_a s w) where
    pub values-text : {x y : List ℕ} {r : Bool} → k ≡ string_kind → x ≡ text s a → y ≡ text s b → r ≡ same x y → r ≡ same_value s v w
    values-text six hx hy h =
        h
        ∙ ap₂ same (hx ∙ ap (text s) ha) (hy ∙ ap (text s) hb)
        ∙ sym (value-text s v w (sym hk ∙ same_kind ∙ hl) (sym hk ∙ six))

    pub values-bits : {c d : ℕ} → (k ≡ string_kind → ⊥) → c ≡ field_b s v → d ≡ field_b s w → (eqb a b && eqb c d) ≡ same_value s v w
    values-bits h hc hd =
        ap₂ ◌&&◌ (ap₂ eqb ha hb) (ap₂ eqb hc hd)
        ∙ sym (value-bits s v w (sym hk ∙ same_kind ∙ hl) (λ e. h (hk ∙ e)))
