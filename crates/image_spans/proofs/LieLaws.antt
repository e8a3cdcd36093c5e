-- The tests of the sections give what the two tests ask for.
use Prim.Native.Nat.{ℕ, zero, suc, ◌+◌, ◌*◌, ◌≤◌, ◌<◌}
use mathlib.Core.Path.{◌≡◌, subst}
use mathlib.Core.Bool.{true, and-eq-true_iff}
use mathlib.Core.List.{List, [], ◌∷◌, ◌++◌}
use native.Mathlib.Omega.{arith}
use native.Mathlib.Nat.{add-zero}
use borrow.Author.Tests.{ltb-true, leb-true}
use lib.Dec.{leb}
use lib.ListN.{length, get_or}
use Rattle.words.proofs.CountLaws.{all-at}
use Rattle.bytecode.specs.Effect.{table}
use Rattle.lowering.specs.Limits.{max_elements, op_width, chain_width, switch_width}
use Rattle.lowering.specs.Words.{word, instructions, code_at, chains_at, switches_at, kind_at, a_at, b_at, chain_word, switch_word}
use Rattle.image_rule.specs.Rules.{chains, steps, tables, rows_there, code_table, code_rules, root_table, chain_rules, table_rules}
use Rattle.image_rule.specs.Rules.{Rule, free, up_to, between, within}
use Rattle.image_rule.specs.Marks.{flow_at}
use Rattle.image_rule.specs.Test.{fits, obeys, code_right, chains_right, switches_right}
use Rattle.image_rule.proofs.WordLaws.{is-15}
use Rattle.image_spans.specs.Premises.{ChainsLie, RowsLie}

-- one word of a record that obeys its rules
word_fits :
    (rs : List Rule) (w : List ℕ) (at f : ℕ)
    → obeys rs w at ≡ true
    → f < length rs
    → fits (get_or rs f free) (word w (at + f)) ≡ true
unfolding obeys
word_fits rs w at f o h = all-at (λ f. fits (get_or rs f free) (word w (at + f))) (length rs) f o h

-- the run and the operands of a chain, whatever its root
module _ (s w : List ℕ) (i : ℕ) where
  Lies : Type 0
  Lies = (chain_word w i 3 + chain_word w i 4 ≤ steps w) × (chain_word w i 5 ≤ max_elements)

  rules : List Rule → List Rule
  rules root = up_to 3 ∷ root ++ (free ∷ within (chain_word w i 3) (steps w) ∷ up_to max_elements ∷ [])

  -- both follow from the rules, with any two for the root
  rooted : (a b : Rule) → obeys (rules (a ∷ b ∷ [])) w (chains_at w + chain_width * i) ≡ true → Lies
  unfolding Lies rules fits chain_word
  rooted a b o =
      let at = chains_at w + chain_width * i in (
        leb-true (chain_word w i 3 + chain_word w i 4) (steps w) (word_fits (rules (a ∷ b ∷ [])) w at 4 o (omega arith)),
        leb-true (chain_word w i 5) max_elements (word_fits (rules (a ∷ b ∷ [])) w at 5 o (omega arith)),
      )

  -- the root by its number
  chain-lies : (root : ℕ) → root ≤ 3 → obeys (rules (get_or (root_table s w) root [])) w (chains_at w + chain_width * i) ≡ true → Lies
  unfolding root_table
  chain-lies zero h o = rooted _ _ o
  chain-lies (suc zero) h o = rooted _ _ o
  chain-lies (suc (suc zero)) h o = rooted _ _ o
  chain-lies (suc (suc (suc zero))) h o = rooted _ _ o
  chain-lies (suc (suc (suc (suc k)))) h o = absurd (omega arith)

-- all chains
pub chains-lie : (s w : List ℕ) → chains_right s w ≡ true → ChainsLie w
unfolding Lies rules fits chain_word
chains-lie s w right = record { runs = λ i h. (lies i h).0; operands = λ i h. (lies i h).1 }
  where
    lies : (i : ℕ) → i < chains w → Lies s w i
    lies i h =
        let o = all-at (λ i. obeys (chain_rules s w i) w (chains_at w + chain_width * i)) (chains w) i right h in
        let root = leb-true (word w (chains_at w + chain_width * i + 0)) 3
        (word_fits (chain_rules s w i) w (chains_at w + chain_width * i) 0 o (omega arith)) in
        chain-lies s w i (chain_word w i 0) root o

-- the rules of an instruction, by its kind
abbrev ruled : List ℕ → List ℕ → ℕ → ℕ → List Rule
ruled s w p kind = between 1 24 ∷ get_or (code_table s w (b_at w p)) kind []

-- a Switch names a table that is there
table-named : (s w : List ℕ) (p kind : ℕ) → kind ≡ 15 → obeys (ruled s w p kind) w (code_at + op_width * p) ≡ true → a_at w p < tables w
unfolding fits code_table
table-named s w p kind e o =
    let there = subst (λ (k : ℕ). obeys (ruled s w p k) w (code_at + op_width * p) ≡ true) e o in
    ltb-true (a_at w p) (tables w) (word_fits (ruled s w p 15) w (code_at + op_width * p) 1 there (omega arith))

-- all tables, and all that name one
pub rows_lie : (s w : List ℕ) → code_right s w ≡ true → switches_right w ≡ true → RowsLie w
unfolding fits switch_word
rows_lie s w code switches = record { runs = runs; named = named }
  where
    runs : (i : ℕ) → i < tables w → switch_word w i 1 + switch_word w i 2 ≤ rows_there w (switch_word w i 0)
    runs i h =
        let o = all-at (λ i. obeys (table_rules w i) w (switches_at w + switch_width * i)) (tables w) i switches h in
        leb-true (switch_word w i 1 + switch_word w i 2) (rows_there w (switch_word w i 0))
        (word_fits (table_rules w i) w (switches_at w + switch_width * i) 2 o (omega arith))

    named : (p : ℕ) → p < instructions w → flow_at w p ≡ table → a_at w p < tables w
    named p h e =
        let at = code_at + op_width * p in
        let o = all-at (λ p. obeys (code_rules s w p) w (code_at + op_width * p)) (instructions w) p code h in
        let k = word w (at + 0) in
        let both = (and-eq-true_iff (leb 1 k) (leb k 24)).0 (word_fits (code_rules s w p) w at 0 o (omega arith)) in
        let kind : kind_at w p ≤ 24 = subst (λ (n : ℕ). word w n ≤ 24) (add-zero at) (leb-true k 24 both.1) in
        table-named s w p (kind_at w p) (is-15 (kind_at w p) (omega arith) e) o
