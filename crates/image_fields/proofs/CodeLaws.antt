-- The test of an instruction's words, over the bounds of a by kind, is the test of its rules.
use Prim.Native.Nat.{ℕ, zero, suc, ◌+◌, ◌*◌, ◌/◌, ◌%◌, ◌<◌, ◌≤◌}
use mathlib.Core.Path.{◌≡◌, refl, sym, ap, ap₂, ◌∙◌, subst}
use mathlib.Core.Bool.{Bool, true, false, ◌&&◌, and-true, and-false, and_assoc}
use mathlib.Core.List.{List, [], ◌∷◌}
use native.Mathlib.Omega.{arith}
use borrow.Author.Tests.{eqb-true, eqb-false, ltb-true, ltb-false, ne_eqb, lt-ltb, le-ltb, le-leb, lt-leb}
use lib.Dec.{ltb, leb, eqb, leb-suc-suc}
use lib.ListN.{get_or}
use Rattle.sheet.specs.Sections.{local_count}
use Rattle.lowering.specs.Limits.{max_args, max_elements, sizes_words, op_width}
use Rattle.lowering.specs.Words.{word, kind_at, a_at, b_at}
use Rattle.image_read.specs.Placed.{c_at}
use Rattle.image_fields.specs.Records.{instruction_right}
use Rattle.image_rule.specs.Rules.{constants, names, tokens, residuals, chains, tables, receiver_rule, only, code_table}
use Rattle.image_rule.specs.Rules.{Rule, free, unused, below, up_to, between, packed}
use Rattle.image_rule.specs.Test.{fits, obeys}
use Rattle.image_fields.specs.Fields.{any, bounds_by, code_bounds, ref_fits, rest_fits, code_fits}
use Rattle.image_fields.proofs.FitLaws.{code-none}
use Rattle.image_fields.proofs.ObeysLaws.{obeys-4, obeys-none}

-- being below a bound is fitting a rule
unused-is : (a : ℕ) → ltb a 1 ≡ eqb a 0
unused-is zero = refl
unused-is (suc a) = le-ltb (suc a) 1 (omega arith) ∙ sym (ne_eqb (suc a) 0 (λ e. omega arith))

-- a fact of each number from k on, below n
data Each (P : ℕ → Type 0) : ℕ → ℕ → Type 0 where
  end : {n : ℕ} → Each P n n
  ◌▸◌ : {k n : ℕ} → P k → Each P (suc k) n → Each P k n

infixr 5 ◌▸◌
each_at : {P : ℕ → Type 0} {k n : ℕ} → Each P k n → (j : ℕ) → k ≤ j → j < n → P j
each_at end j l h = absurd (omega arith)
each_at {P} {k} {n} (p ▸ more) j l h = by (each_at more) (eqb k j) refl
  where
    by : ((j : ℕ) → suc k ≤ j → j < n → P j) → (t : Bool) → eqb k j ≡ t → P j
    by later true e = subst P (eqb-true k j e) p
    by later false e =
        let other = eqb-false k j e in
        later j (omega arith) h

-- with b known
module _ (s w : List ℕ) (b : ℕ) where
  -- kind k has rules for a, b and c, and the test is theirs
  record Row (k : ℕ) : Type 0 where
    r₁ : Rule
    r₂ : Rule
    r₃ : Rule
    row : get_or (code_table s w b) k [] ≡ r₁ ∷ r₂ ∷ r₃ ∷ []
    same : (a c : ℕ) → a < any → code_fits (code_bounds s w) (tokens w) k a b c ≡ (fits r₁ a && fits r₂ b && fits r₃ c)

  -- it uses only a, which must be below n
  abbrev Only : Rule → ℕ → ℕ → Type 0
  Only r n k =
      (get_or (code_table s w b) k [] ≡ only r)
      × ((a c : ℕ) → code_fits (code_bounds s w) (tokens w) k a b c ≡ (ltb a n && (eqb b 0 && eqb c 0)))

  -- from a rule for a that says the same as the bound n
  only_row : {k : ℕ} (r : Rule) (n : ℕ) → Only r n k → ((a : ℕ) → a < any → ltb a n ≡ fits r a) → Row k
  unfolding fits
  only_row r n o law = record {
    r₁ = r;
    r₂ = unused;
    r₃ = unused;
    row = o.0;
    same = λ a c h. o.1 a c ∙ ap (λ (t : Bool). t && (eqb b 0 && eqb c 0)) (law a h) ∙ sym (and_assoc (fits r a) (eqb b 0) (eqb c 0));
  }

  free-row : (k : ℕ) → Only free any k → Row k
  unfolding fits
  free-row k o = only_row free any o (λ a h. lt-ltb a any h)

  unused-row : (k : ℕ) → Only unused 1 k → Row k
  unfolding fits
  unused-row k o = only_row unused 1 o (λ a h. unused-is a)

  below_row : (k n : ℕ) → Only (below n) n k → Row k
  unfolding fits
  below_row k n o = only_row (below n) n o (λ a h. refl)

  up_to-row : (k n : ℕ) → Only (up_to n) (suc n) k → Row k
  unfolding fits
  up_to-row k n o = only_row (up_to n) (suc n) o (λ a h. leb-suc-suc a n)

  -- Call, CallRef and CallFnPtr
  call-row : Row 12
  unfolding code_table code_bounds bounds_by code_fits rest_fits fits
  call-row = record {
    r₁ = below (names w);
    r₂ = packed 0 2;
    r₃ = up_to (tokens w);
    row = refl;
    same = λ a c h.
        ap (λ (t : Bool). ltb a (names w) && (t && ltb (b / 256) 2 && leb c (tokens w))) (sym (le-leb 0 (b % 256) (omega arith)))
        ∙ sym (and_assoc (ltb a (names w)) (leb 0 (b % 256) && ltb (b / 256) 2) (leb c (tokens w)));
  }

  -- c of CallRef, by the receiver
  receiver-is : (some : Bool) (receiver c : ℕ)
      → elim (ltb 2 receiver) [ true ↦ false | false ↦ some && ltb c (get_or (code_bounds s w) (4 + receiver) 0) ]
      ≡ (some && ltb receiver 3 && fits (receiver_rule s w receiver) c)
  unfolding code_bounds bounds_by receiver_rule fits
  receiver-is some zero c = ap (λ (t : Bool). t && ltb c (local_count s)) (sym (and-true some))
  receiver-is some (suc zero) c = ap (λ (t : Bool). t && ltb c (names w)) (sym (and-true some))
  receiver-is some (suc (suc zero)) c = ap₂ ◌&&◌ (sym (and-true some)) (unused-is c)
  receiver-is some (suc (suc (suc k))) c =
      let k3 = suc (suc (suc k)) in
      rw (lt-ltb 2 k3 (omega arith), le-ltb k3 3 (omega arith), and-false some) refl

  ref-row : Row 13
  unfolding code_table code_bounds bounds_by code_fits rest_fits ref_fits fits
  ref-row = record {
    r₁ = below (names w);
    r₂ = packed 1 3;
    r₃ = receiver_rule s w (b / 256);
    row = refl;
    same = λ a c h.
        ap (λ (t : Bool). ltb a (names w) && t) (receiver-is (leb 1 (b % 256)) (b / 256) c)
        ∙ sym (and_assoc (ltb a (names w)) (leb 1 (b % 256) && ltb (b / 256) 3) (fits (receiver_rule s w (b / 256)) c));
  }

  ptr-row : Row 17
  unfolding code_table code_bounds bounds_by code_fits rest_fits fits
  ptr-row = record {
    r₁ = up_to max_args;
    r₂ = up_to 1;
    r₃ = unused;
    row = refl;
    same =
        λ a c h. ap (λ (t : Bool). t && (leb b 1 && eqb c 0)) (leb-suc-suc a max_args) ∙ sym (and_assoc (leb a max_args) (leb b 1) (eqb c 0));
  }

  -- every kind has its row
  rows : Each Row 1 25
  unfolding code_table code_bounds bounds_by code_fits rest_fits
  rows =
      -- Const, Unit, Bool, LoadLocal, LoadNamed, LoadThis
      below_row 1 (constants w) (refl, λ a c. refl)
      ▸ unused-row 2 (refl, λ a c. refl)
      ▸ up_to-row 3 1 (refl, λ a c. refl)
      ▸ below_row 4 (local_count s) (refl, λ a c. refl)
      ▸ below_row 5 (names w) (refl, λ a c. refl)
      ▸ unused-row 6 (refl, λ a c. refl)
      -- Pop, Jump, JumpIfTrue, JumpIfFalse, SkipIfNotUnit
      ▸ unused-row 7 (refl, λ a c. refl)
      ▸ free-row 8 (refl, λ a c. refl)
      ▸ free-row 9 (refl, λ a c. refl)
      ▸ free-row 10 (refl, λ a c. refl)
      ▸ free-row 11 (refl, λ a c. refl)
      -- Call, CallRef, Rotate, Switch
      ▸ call-row
      ▸ ref-row
      ▸ up_to-row 14 max_args (refl, λ a c. refl)
      ▸ below_row 15 (tables w) (refl, λ a c. refl)
      -- MakeFnPtr, CallFnPtr
      ▸ unused-row 16 (refl, λ a c. refl)
      ▸ ptr-row
      -- InterpolateStart, InterpolateAppend, InterpolateEnd
      ▸ unused-row 18 (refl, λ a c. refl)
      ▸ unused-row 19 (refl, λ a c. refl)
      ▸ unused-row 20 (refl, λ a c. refl)
      -- MakeArray, CheckSize, Chain, EvalAst
      ▸ up_to-row 21 max_elements (refl, λ a c. refl)
      ▸ up_to-row 22 max_elements (refl, λ a c. refl)
      ▸ below_row 23 (chains w) (refl, λ a c. refl)
      ▸ below_row 24 (residuals w) (refl, λ a c. refl)
      ▸ end

-- the instruction whose kind stands at `at`
module _ (s w : List ℕ) (at a b c : ℕ) (small : a < any)
    (e₁ : a ≡ word w (at + 1)) (e₂ : b ≡ word w (at + 2)) (e₃ : c ≡ word w (at + 3)) where
  abbrev Same : ℕ → Type 0
  Same k = code_fits (code_bounds s w) (tokens w) k a b c ≡ obeys (between 1 24 ∷ get_or (code_table s w b) k []) w at

  -- kind 0 and kinds above 24 have no rules
  kind-zero : 0 ≡ word w at → Same 0
  unfolding code_bounds bounds_by code_fits code_table fits
  kind-zero e₀ =
      ap (λ (t : Bool). t && rest_fits (code_bounds s w) (tokens w) 0 b c) (le-ltb a 0 (omega arith))
      ∙ obeys-none w at e₀ (between 1 24) [] refl

  kind-past : (k : ℕ) → 24 < k → k ≡ word w at → Same k
  unfolding fits
  kind-past k h e₀ =
      let none : fits (between 1 24) k ≡ false = ap (λ (t : Bool). leb 1 k && t) (lt-leb k 24 h) ∙ and-false (leb 1 k) in
      sym (code-none (code_bounds s w) (tokens w) k b c a h) ∙ obeys-none w at e₀ (between 1 24) (get_or (code_table s w b) k []) none

  -- a kind with rules
  kind_row : (k : ℕ) → 1 ≤ k → k ≤ 24 → k ≡ word w at → Row s w b k → Same k
  unfolding fits
  kind_row k l h e₀ R =
      let kind : fits (between 1 24) k ≡ true = ap₂ ◌&&◌ (le-leb 1 k l) (le-leb k 24 h) in
      R.same a c small
      ∙ ap (λ (t : Bool). t && fits R.r₁ a && fits R.r₂ b && fits R.r₃ c) (sym kind)
      ∙ obeys-4 w at e₀ (between 1 24) R.r₁ R.r₂ R.r₃ e₁ e₂ e₃
      ∙ ap (λ (rs : List Rule). obeys (between 1 24 ∷ rs) w at) (sym R.row)

  -- every kind
  kind-any : (k : ℕ) → k ≡ word w at → Same k
  kind-any zero e₀ = kind-zero e₀
  kind-any (suc j) e₀ = by (ltb 24 (suc j)) refl
    where
      by : (t : Bool) → ltb 24 (suc j) ≡ t → Same (suc j)
      by true e = kind-past (suc j) (ltb-true 24 (suc j) e) e₀
      by false e =
          let h = ltb-false 24 (suc j) e in
          kind_row (suc j) (omega arith) h e₀ (each_at (rows s w b) (suc j) (omega arith) (omega arith))

-- the answer for instruction p, by the words that were read
pub code-right : (s w : List ℕ) (p : ℕ) {bounds : List ℕ} {tokens' k a b c : ℕ} {r : Bool}
    → r ≡ code_fits bounds tokens' k a b c → bounds ≡ code_bounds s w → tokens' ≡ tokens w
    → k ≡ kind_at w p → a ≡ a_at w p → b ≡ b_at w p → c ≡ c_at w p → a < any → r ≡ instruction_right s w p
code-right s w p {k = k} {a} {b} {c} q m t e₀ e₁ e₂ e₃ small = cc (kind-any s w (sizes_words + op_width * p) a b c small e₁ e₂ e₃ k e₀)
