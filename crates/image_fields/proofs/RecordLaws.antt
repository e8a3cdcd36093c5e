-- Each record's test, over the words that were read, is the test of its rules.
use Prim.Native.Nat.{ℕ, zero, suc, ◌+◌, ◌*◌, ◌<◌}
use mathlib.Core.Path.{◌≡◌, refl, ap, ◌∙◌}
use mathlib.Core.Bool.{Bool, true, false, ◌&&◌, and-true, and-false, or-false}
use mathlib.Core.List.{List, [], ◌∷◌, ◌++◌}
use native.Mathlib.Omega.{arith}
use native.Mathlib.Nat.{add-zero}
use borrow.Author.Tests.{ne_eqb, lt-leb}
use lib.Dec.{ltb, leb, eqb}
use lib.ListN.{get_or}
use Rattle.sheet.specs.Sections.{node_count, text_count, local_count}
use Rattle.lowering.specs.Limits.{max_args, max_elements, const_width, name_width, chain_width, step_width, switch_width, case_width, range_width}
use Rattle.lowering.specs.Words.{word, instructions, consts_at, chains_at, switches_at, cases_at, ranges_at, const_word, chain_word, switch_word}
use Rattle.lowering.specs.Words.{case_word, range_word}
use Rattle.image_read.specs.Placed.{name_word, token, residual}
use Rattle.image_fields.specs.Records.{const_right, name_right, token_right, residual_right, chain_right, step_right, table_right}
use Rattle.image_fields.specs.Records.{case_right, range_right}
use Rattle.image_rule.specs.Rules.{Rule, free, unused, below, up_to, between, scalar, within}
use Rattle.image_rule.specs.Rules.{constants, names, steps, names_at, tokens_at, residuals_at, steps_at, step_word, rows_there}
use Rattle.image_rule.specs.Rules.{const_table, root_table, step_table}
use Rattle.image_rule.specs.Test.{fits, obeys}
use Rattle.std.specs.Prelude.{Option}
use Rattle.image_read.specs.Kinds.{root_of, step_of}
use Rattle.image_read.specs.Pools.{kind_of, rows_of}
use Rattle.image_read.specs.declared.RootKind.{RootKind}
use Rattle.image_read.specs.declared.StepKind.{StepKind}
use Rattle.image_read.specs.declared.Rows.{Rows}
use Rattle.image_read.proofs.KindLaws.{root-past, step-past}
use Rattle.image_fields.specs.Fields.{const_fits, run_fits, root_fits, step_fits}
use Rattle.image_fields.proofs.ObeysLaws.{obeys-1, obeys-2, obeys-3, obeys-4, obeys-6, obeys-none}

-- the first word of a record
first-of : (w : List ℕ) (at : ℕ) {x : ℕ} → x ≡ word w (at + 0) → x ≡ word w at
first-of w at e = e ∙ ap (word w) (add-zero at)

-- constants, by their kind
const-past : (texts k a b : ℕ) → 6 < k → const_fits texts k a b ≡ false
unfolding const_fits
const-past texts k a b h =
    rw (ne_eqb k 3 (λ e. omega arith), ne_eqb k 4 (λ e. omega arith), ne_eqb k 5 (λ e. omega arith), ne_eqb k 6 (λ e. omega arith)) refl

-- the answer by the kind is that of the rules
const-by : (s w : List ℕ) (at k a b : ℕ) → k ≡ word w at → a ≡ word w (at + 1) → b ≡ word w (at + 2)
    → const_fits (text_count s) k a b ≡ obeys (between 3 6 ∷ get_or (const_table s) k []) w at
unfolding const_fits const_table fits
const-by s w at zero a b e₀ e₁ e₂ = obeys-none w at e₀ (between 3 6) [] refl
const-by s w at (suc zero) a b e₀ e₁ e₂ = obeys-none w at e₀ (between 3 6) [] refl
const-by s w at (suc (suc zero)) a b e₀ e₁ e₂ = obeys-none w at e₀ (between 3 6) [] refl
const-by s w at (suc (suc (suc zero))) a b e₀ e₁ e₂ = obeys-3 w at e₀ (between 3 6) free free e₁ e₂
const-by s w at (suc (suc (suc (suc zero)))) a b e₀ e₁ e₂ = obeys-3 w at e₀ (between 3 6) free free e₁ e₂
const-by s w at (suc (suc (suc (suc (suc zero))))) a b e₀ e₁ e₂ = or-false _ ∙ obeys-3 w at e₀ (between 3 6) scalar unused e₁ e₂
const-by s w at (suc (suc (suc (suc (suc (suc zero)))))) a b e₀ e₁ e₂ = obeys-3 w at e₀ (between 3 6) (below (text_count s)) unused e₁ e₂
const-by s w at (suc (suc (suc (suc (suc (suc (suc k))))))) a b e₀ e₁ e₂ =
    let k7 = suc (suc (suc (suc (suc (suc (suc k)))))) in
    const-past (text_count s) k7 a b (omega arith)
    ∙ obeys-none w at e₀ (between 3 6) [] (ap (λ (x : Bool). leb 3 k7 && x) (lt-leb k7 6 (omega arith)) ∙ and-false (leb 3 k7))

-- the answer for record i, by the words that were read; so in each section below
pub const-right : (s w : List ℕ) (i : ℕ) {texts k a b : ℕ} {r : Bool} → r ≡ const_fits texts k a b → texts ≡ text_count s
    → k ≡ const_word w i 0 → a ≡ const_word w i 1 → b ≡ const_word w i 2 → r ≡ const_right s w i
unfolding const_word
const-right s w i {texts} {k} {a} {b} q t e₀ e₁ e₂ =
    let at = consts_at w + const_width * i in
    cc (const-by s w at k a b (first-of w at e₀) e₁ e₂)

pub name-right : (s w : List ℕ) (i : ℕ) {texts a b c : ℕ} → texts ≡ text_count s → a ≡ name_word w i 0 → b ≡ name_word w i 1
    → c ≡ name_word w i 2 → (ltb a texts && leb b 1 && leb c texts) ≡ name_right s w i
unfolding fits name_word
name-right s w i {texts} t e₀ e₁ e₂ =
    let at = names_at w + name_width * i in
    cc (obeys-3 w at (first-of w at e₀) (below texts) (up_to 1) (up_to texts) e₁ e₂)

pub token-right : (w : List ℕ) (i : ℕ) {a : ℕ} → a ≡ token w i → (leb 1 a && leb a 65535) ≡ token_right w i
unfolding fits token
token-right w i e₀ = obeys-1 w (tokens_at w + i) e₀ (between 1 65535)

pub residual-right : (s w : List ℕ) (i : ℕ) {nodes a : ℕ} → nodes ≡ node_count s → a ≡ residual w i → ltb a nodes ≡ residual_right s w i
unfolding fits residual
residual-right s w i {nodes} t e₀ = cc (obeys-1 w (residuals_at w + i) e₀ (below nodes))

pub case-right : (w : List ℕ) (i : ℕ) {code consts a b : ℕ} → code ≡ instructions w → consts ≡ constants w
    → a ≡ case_word w i 0 → b ≡ case_word w i 1 → (leb a code && ltb b consts) ≡ case_right w i
unfolding fits case_word
case-right w i {code} {consts} p q e₀ e₁ =
    let at = cases_at w + case_width * i in
    cc (obeys-2 w at (first-of w at e₀) (up_to code) (below consts) e₁)

pub range-right : (w : List ℕ) (i : ℕ) {code a b : ℕ} → code ≡ instructions w → a ≡ range_word w i 4 → b ≡ range_word w i 5
    → (leb a 1 && leb b code) ≡ range_right w i
unfolding fits range_word
range-right w i {code} p e₄ e₅ =
    cc (obeys-6 w (ranges_at w + range_width * i) refl free free free free (up_to 1) (up_to code) refl refl refl e₄ e₅)

-- chains, by their root
module _ (s w : List ℕ) (at x y first count operands : ℕ)
    (e₁ : x ≡ word w (at + 1)) (e₂ : y ≡ word w (at + 2)) (e₃ : first ≡ word w (at + 3))
    (e₄ : count ≡ word w (at + 4)) (e₅ : operands ≡ word w (at + 5)) where
  -- with rules for the two words behind the root
  by-rules : {k : ℕ} → k ≡ word w at → (r₁ r₂ : Rule)
      → (leb k 3 && fits r₁ x && fits r₂ y && leb (first + count) (steps w) && leb operands max_elements)
      ≡ obeys (up_to 3 ∷ r₁ ∷ r₂ ∷ free ∷ within first (steps w) ∷ up_to max_elements ∷ []) w at
  unfolding fits
  by-rules e₀ r₁ r₂ =
      simp and-true at (obeys-6 w at e₀ (up_to 3) r₁ r₂ free (within first (steps w)) (up_to max_elements) e₁ e₂ e₃ e₄ e₅)

  -- the answer by the root is that of the rules
  chain-by : (k : ℕ) → k ≡ word w at
      → (root_fits (local_count s) (names w) (root_of k) x y && run_fits first count (steps w) && leb operands max_elements)
      ≡ obeys (up_to 3 ∷ get_or (root_table s w) k [] ++ (free ∷ within first (steps w) ∷ up_to max_elements ∷ [])) w at
  unfolding root_fits root_of run_fits root_table fits
  chain-by zero e₀ = by-rules e₀ (below (local_count s)) (below (names w))
  chain-by (suc zero) e₀ = simp and-true at (by-rules e₀ (below (names w)) free)
  chain-by (suc (suc zero)) e₀ = simp and-true at (by-rules e₀ unused free)
  chain-by (suc (suc (suc zero))) e₀ = by-rules e₀ unused unused
  chain-by (suc (suc (suc (suc k)))) e₀ =
      let k4 = suc (suc (suc (suc k))) in
      ap (λ o. root_fits (local_count s) (names w) o x y && leb (first + count) (steps w) && leb operands max_elements)
      (root-past k4 (omega arith))
      ∙ obeys-none w at e₀ (up_to 3) (free ∷ within first (steps w) ∷ up_to max_elements ∷ []) (lt-leb k4 3 (omega arith))

pub chain-right : (s w : List ℕ) (i : ℕ) {locals names' steps' k x y first count operands : ℕ} {o : Option RootKind} {root run : Bool}
    → locals ≡ local_count s → names' ≡ names w → steps' ≡ steps w
    → k ≡ chain_word w i 0 → x ≡ chain_word w i 1 → y ≡ chain_word w i 2 → o ≡ root_of k → root ≡ root_fits locals names' o x y
    → first ≡ chain_word w i 3 → count ≡ chain_word w i 4 → run ≡ run_fits first count steps' → operands ≡ chain_word w i 5
    → (root && run && leb operands max_elements) ≡ chain_right s w i
unfolding chain_word
chain-right s w i {k = k} {x} {y} {first} {count} {operands} l m n e₀ e₁ e₂ j r e₃ e₄ q e₅ =
    let at = chains_at w + chain_width * i in
    cc (chain-by s w at x y first count operands e₁ e₂ e₃ e₄ e₅ k (first-of w at e₀))

-- steps, by their kind
-- the answer by the kind is that of the rules
step-by : (w : List ℕ) (at k a b c d e : ℕ) → k ≡ word w at
    → a ≡ word w (at + 1) → b ≡ word w (at + 2) → c ≡ word w (at + 3) → d ≡ word w (at + 4) → e ≡ word w (at + 5)
    → step_fits (names w) (step_of k) a b c d e ≡ obeys (up_to 2 ∷ get_or (step_table w) k []) w at
unfolding step_fits step_of step_table fits
step-by w at zero a b c d e e₀ e₁ e₂ e₃ e₄ e₅ =
    simp and-true at (obeys-6 w at e₀ (up_to 2) free (up_to 1) free free unused e₁ e₂ e₃ e₄ e₅)
step-by w at (suc zero) a b c d e e₀ e₁ e₂ e₃ e₄ e₅ =
    let named = below (names w) in
    simp and-true at (obeys-6 w at e₀ (up_to 2) named named named (up_to 1) free e₁ e₂ e₃ e₄ e₅)
step-by w at (suc (suc zero)) a b c d e e₀ e₁ e₂ e₃ e₄ e₅ =
    simp and-true at (obeys-6 w at e₀ (up_to 2) (below (names w)) (up_to max_args) free (up_to 1) free e₁ e₂ e₃ e₄ e₅)
step-by w at (suc (suc (suc k))) a b c d e e₀ e₁ e₂ e₃ e₄ e₅ =
    let k3 = suc (suc (suc k)) in
    ap (λ o. step_fits (names w) o a b c d e) (step-past k3 (omega arith)) ∙ obeys-none w at e₀ (up_to 2) [] (lt-leb k3 2 (omega arith))

pub step-right : (w : List ℕ) (i : ℕ) {names' k a b c d e : ℕ} {o : Option StepKind} {r : Bool} → r ≡ step_fits names' o a b c d e
    → o ≡ step_of k → names' ≡ names w
    → k ≡ step_word w i 0 → a ≡ step_word w i 1 → b ≡ step_word w i 2 → c ≡ step_word w i 3 → d ≡ step_word w i 4 → e ≡ step_word w i 5
    → r ≡ step_right w i
unfolding step_word
step-right w i {k = k} {a} {b} {c} {d} {e} q j m e₀ e₁ e₂ e₃ e₄ e₅ =
    let at = steps_at w + step_width * i in
    cc (step-by w at k a b c d e (first-of w at e₀) e₁ e₂ e₃ e₄ e₅)

-- the rows of a table are those of the pool that its kind names
pool_rows : (w : List ℕ) (k : ℕ) → rows_there w (kind_of (rows_of k)) ≡ rows_there w k
unfolding rows_there kind_of rows_of
pool_rows w k = by (eqb k 0) refl
  where
    by : (b : Bool) → eqb k 0 ≡ b → rows_there w (kind_of (rows_of k)) ≡ rows_there w k
    by true e = rw (e, rows_of, rows_there) refl
    by false e = rw (e, rows_of, rows_there) refl

-- the answer by the pool is that of the rules
table-by : (w : List ℕ) (at k first rows n default : ℕ) → k ≡ word w at
    → first ≡ word w (at + 1) → rows ≡ word w (at + 2) → default ≡ word w (at + 3) → n ≡ rows_there w k
    → (leb k 1 && leb (first + rows) n && leb default (instructions w))
    ≡ obeys (up_to 1 ∷ free ∷ within first (rows_there w k) ∷ up_to (instructions w) ∷ []) w at
unfolding fits
table-by w at k first rows n default e₀ e₁ e₂ e₃ h =
    ap (λ m. leb k 1 && leb (first + rows) m && leb default (instructions w)) h
    ∙ simp and-true at (obeys-4 w at e₀ (up_to 1) free (within first (rows_there w k)) (up_to (instructions w)) e₁ e₂ e₃)

pub table-right : (w : List ℕ) (i : ℕ) {places n k first rows default : ℕ} {pool : Rows} {run : Bool} → places ≡ instructions w
    → k ≡ switch_word w i 0 → first ≡ switch_word w i 1 → rows ≡ switch_word w i 2 → pool ≡ rows_of k → n ≡ rows_there w (kind_of pool)
    → run ≡ run_fits first rows n → default ≡ switch_word w i 3
    → (leb k 1 && run && leb default places) ≡ table_right w i
unfolding switch_word run_fits
table-right w i {n = n} {k} {first} {rows} {default} p e₀ e₁ e₂ o h q e₃ =
    let at = switches_at w + switch_width * i in
    let pool : n ≡ rows_there w k = h ∙ ap (λ r. rows_there w (kind_of r)) o ∙ pool_rows w k in
    cc (table-by w at k first rows n default (first-of w at e₀) e₁ e₂ e₃ pool)
