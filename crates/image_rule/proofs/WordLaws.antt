-- The tests of words and of targets tell the clauses about them.
use Prim.Native.Nat.{ℕ, zero, suc, ◌+◌, ◌*◌, ◌/◌, ◌%◌, ◌≤◌, ◌<◌}
use mathlib.Core.Path.{◌≡◌, refl, sym, subst}
use mathlib.Core.Bool.{Bool, true, false, ◌&&◌, ◌||◌, not}
use mathlib.Core.List.{List, [], ◌∷◌}
use native.Mathlib.Omega.{arith}
use native.Mathlib.Nat.{add-zero}
use borrow.Author.Tests.{ltb-true, ltb-false, lt-ltb, le-ltb, eqb-true, eqb-false, eq-eqb, ne_eqb}
use lib.Dec.{leb, ltb, eqb}
use lib.ListN.{length, get_or}
use Rattle.words.specs.Count.{all_below}
use Rattle.words.proofs.CountLaws.{all-at, all_of}
use Rattle.check_shape.specs.Kinds as Kinds
use Rattle.bytecode.specs.Effect.{effect, Flow, on, jump, branch, table}
use Rattle.lowering.specs.Limits.{op_width, const_width, name_width, chain_width, step_width, switch_width, case_width, range_width}
use Rattle.lowering.specs.Words.{word, instructions, code_at, consts_at, chains_at, switches_at, cases_at, ranges_at, kind_at, a_at, b_at, chain_word}
use Rattle.lowering.specs.Words.{switch_word, case_word, range_word}
use Rattle.lowering.specs.Run.{next, goes_to, branch_target, row_target, table_target}
use Rattle.image_rule.specs.Rules.{constants, names, tokens, residuals, chains, steps, tables, cases, ranges, names_at, tokens_at}
use Rattle.image_rule.specs.Rules.{residuals_at, steps_at, Rule, free, unused, below, up_to, between, scalar, packed, within, Fits}
use Rattle.image_rule.specs.Rules.{Obeys}
use Rattle.image_rule.specs.Rules.{code_table, code_rules, const_rules, name_rules, token_rules, residual_rules, chain_rules, step_rules}
use Rattle.image_rule.specs.Rules.{operand_rules, rows_there, table_rules, case_rules, range_rules}
use Rattle.image_rule.specs.WellMade.{WordsRight}
use Rattle.image_rule.specs.Marks.{flow_at}
use Rattle.image_rule.specs.Test.{fits, obeys, words_right, least, least_target, aims, targets_right}
use Rattle.image_rule.proofs.Tells.{Tells, tells-and, tells_all, tells_as, tells-always, tells-le, tells-lt, tells-eq, tells-true}
use Rattle.image_rule.proofs.EdgeLaws.{row-all}
use Rattle.image_rule.proofs.Told.{Aims}
use Rattle.image_rule.proofs.Right.{TablesNamed}

-- one word by its rule
tells-fits : (r : Rule) (x : ℕ) → Tells (fits r x) (Fits r x)
unfolding fits Fits
tells-fits free x = tells-always tt
tells-fits unused x = tells-eq x 0
tells-fits (below n) x = tells-lt x n
tells-fits (up_to n) x = tells-le x n
tells-fits (between a b) x = tells-and (tells-le a x) (tells-le x b)
tells-fits scalar x = tells-true (Kinds.scalar x)
tells-fits (packed a k) x = tells-and (tells-le a (x % 256)) (tells-lt (x / 256) k)
tells-fits (within a n) x = tells-le (a + x) n

-- one record by its rules
tells-obeys : (rs : List Rule) (w : List ℕ) (at : ℕ) → Tells (obeys rs w at) (Obeys rs w at)
unfolding obeys
tells-obeys rs w at = tells_all (length rs) (λ f. tells-fits (get_or rs f free) (word w (at + f)))

-- one section, with a rule list for each of its records
each :
    (n : ℕ) (rules : ℕ → List Rule) (w : List ℕ) (at : ℕ → ℕ)
    → Tells (all_below n (λ i. obeys (rules i) w (at i))) ((i : ℕ) → i < n → Obeys (rules i) w (at i))
each n rules w at = tells_all n (λ i. tells-obeys (rules i) w (at i))

-- all sections
pub tells-words : (s w : List ℕ) → Tells (words_right s w) (WordsRight s w)
unfolding words_right
tells-words s w =
    tells_as
    (tells-and (tells-and (tells-and (tells-and (tells-and (tells-and (tells-and (tells-and (tells-and (tells-and
    (each (instructions w) (λ p. code_rules s w p) w (λ p. code_at + op_width * p))
    (each (constants w) (λ i. const_rules s w i) w (λ i. consts_at w + const_width * i)))
    (each (names w) (λ i. name_rules s) w (λ i. names_at w + name_width * i)))
    (each (tokens w) (λ i. token_rules) w (λ i. tokens_at w + i)))
    (each (residuals w) (λ i. residual_rules s) w (λ i. residuals_at w + i)))
    (each (chains w) (λ i. chain_rules s w i) w (λ i. chains_at w + chain_width * i)))
    (each (steps w) (λ j. step_rules w j) w (λ j. steps_at w + step_width * j)))
    (tells_all (chains w)
    (λ i.
    each (chain_word w i 4) (λ k. operand_rules w i (chain_word w i 3 + k)) w
    (λ k. steps_at w + step_width * (chain_word w i 3 + k)))))
    (each (tables w) (λ i. table_rules w i) w (λ i. switches_at w + switch_width * i)))
    (each (cases w) (λ i. case_rules w) w (λ i. cases_at w + case_width * i)))
    (each (ranges w) (λ i. range_rules w) w (λ i. ranges_at w + range_width * i)))
    (λ h. record {
      code = h.0.0.0.0.0.0.0.0.0.0;
      consts = h.0.0.0.0.0.0.0.0.0.1;
      named = h.0.0.0.0.0.0.0.0.1;
      tokened = h.0.0.0.0.0.0.0.1;
      residual = h.0.0.0.0.0.0.1;
      chained = h.0.0.0.0.0.1;
      stepped = h.0.0.0.0.1;
      operands = h.0.0.0.1;
      tabled = h.0.0.1;
      cased = h.0.1;
      ranged = h.1;
    })
    (λ r. (
      (
        ((((((((r.code, r.consts), r.named), r.tokened), r.residual), r.chained), r.stepped), r.operands), r.tabled),
        r.cased,
      ),
      r.ranged,
    ))

-- of the kinds only 15 goes by a table
goes_by_table : Flow → Bool
goes_by_table on = false
goes_by_table jump = false
goes_by_table branch = false
goes_by_table table = true

only-15 : all_below 25 (λ k. not (goes_by_table (effect k).flow) || eqb k 15) ≡ true
unfolding all_below goes_by_table effect
only-15 = refl

pub is-15 : (k : ℕ) → k < 25 → (effect k).flow ≡ table → k ≡ 15
unfolding goes_by_table
is-15 k h e =
    let there = all-at (λ k. not (goes_by_table (effect k).flow) || eqb k 15) 25 k only-15 h in
    eqb-true k 15 (subst (λ (F : Flow). (not (goes_by_table F) || eqb k 15) ≡ true) e there)

-- each Switch names a table that is there
pub words-named : (s w : List ℕ) → WordsRight s w → TablesNamed w
unfolding code_table Fits
words-named s w W p h e = go (kind_at w p) (is-15 (kind_at w p) (omega (arith, kind)) e) (W.code p h)
  where
    kind : kind_at w p ≤ 24
    kind = subst (λ (n : ℕ). word w n ≤ 24) (add-zero (code_at + op_width * p)) (W.code p h 0 (omega arith)).1

    go : (k : ℕ) → k ≡ 15 → Obeys (between 1 24 ∷ get_or (code_table s w (b_at w p)) k []) w (code_at + op_width * p) → a_at w p < tables w
    go k q o = (subst (λ (j : ℕ). Obeys (between 1 24 ∷ get_or (code_table s w (b_at w p)) j []) w (code_at + op_width * p)) q o) 1 (omega arith)

-- the target of a row, by the kind of its table
row-of-cases : (w : List ℕ) (i r : ℕ) → switch_word w i 0 ≡ 0 → row_target w i r ≡ case_word w (switch_word w i 1 + r) 0
unfolding row_target
row-of-cases w i r e = rw (eq-eqb (switch_word w i 0) 0 e, row_target)

row-of-ranges : (w : List ℕ) (i r : ℕ) → (switch_word w i 0 ≡ 0 → ⊥) → row_target w i r ≡ range_word w (switch_word w i 1 + r) 5
unfolding row_target
row-of-ranges w i r e = rw (ne_eqb (switch_word w i 0) 0 e, row_target)

-- how many rows there are, by the kind of the table
there-cases : (w : List ℕ) (k : ℕ) → k ≡ 0 → rows_there w k ≡ cases w
unfolding rows_there
there-cases w k e = rw (eq-eqb k 0 e, rows_there)

there-ranges : (w : List ℕ) (k : ℕ) → (k ≡ 0 → ⊥) → rows_there w k ≡ ranges w
unfolding rows_there
there-ranges w k e = rw (ne_eqb k 0 e, rows_there)

-- the targets of a table: its rows, then its default
pub row-there : (w : List ℕ) (i r : ℕ) → r < switch_word w i 2 → table_target w i r ≡ row_target w i r
unfolding table_target
row-there w i r h = rw (lt-ltb r (switch_word w i 2) h, table_target)

pub default-there : (w : List ℕ) (i : ℕ) → table_target w i (switch_word w i 2) ≡ switch_word w i 3
unfolding table_target
default-there w i = rw (le-ltb (switch_word w i 2) (switch_word w i 2) (omega arith), table_target)

-- the targets of a table lie inside
row_inside : (s w : List ℕ) → WordsRight s w → (i : ℕ) → i < tables w → (r : ℕ) → r < switch_word w i 2 → row_target w i r ≤ instructions w
unfolding Fits switch_word case_word range_word
row_inside s w W i h r b = by (eqb (switch_word w i 0) 0) refl
  where
    run : switch_word w i 1 + switch_word w i 2 ≤ rows_there w (switch_word w i 0)
    run = W.tabled i h 2 (omega arith)

    by : (t : Bool) → eqb (switch_word w i 0) 0 ≡ t → row_target w i r ≤ instructions w
    by true e =
        let z = eqb-true (switch_word w i 0) 0 e in
        let there = there-cases w (switch_word w i 0) z in
        rw (row-of-cases w i r z) (W.cased (switch_word w i 1 + r) (omega (arith, run, there)) 0 (omega arith))
    by false e =
        let z = eqb-false (switch_word w i 0) 0 e in
        let there = there-ranges w (switch_word w i 0) z in
        rw (row-of-ranges w i r z) (W.ranged (switch_word w i 1 + r) (omega (arith, run, there)) 5 (omega arith))

-- a fact of every row and of the default is one of every target
targets-by :
    (P : ℕ → Type 0) (w : List ℕ) (i : ℕ)
    → ((r : ℕ) → r < switch_word w i 2 → P (row_target w i r))
    → P (switch_word w i 3)
    → (r : ℕ) → P (table_target w i r)
targets-by P w i rows default = row-all P w i (λ r b. by r b (ltb r (switch_word w i 2)) refl)
  where
    by : (r : ℕ) → r < suc (switch_word w i 2) → (t : Bool) → ltb r (switch_word w i 2) ≡ t → P (table_target w i r)
    by r b true e = let h = ltb-true r (switch_word w i 2) e in subst P (sym (row-there w i r h)) (rows r h)
    by r b false e =
        let same : switch_word w i 2 ≡ r = omega (arith, ltb-false r (switch_word w i 2) e) in
        subst (λ (k : ℕ). P (table_target w i k)) same (subst P (sym (default-there w i)) default)

-- what is below the least is below each, and the other way round
least-below : (f : ℕ → ℕ) (d k p : ℕ) → p < least f d k → (p < d) × ((r : ℕ) → r < k → p < f r)
unfolding least
least-below f d zero p h = (h, λ r b. absurd (omega arith))
least-below f d (suc k) p h = more (least-below f d k p (omega arith))
  where
    more : (p < d) × ((r : ℕ) → r < k → p < f r) → (p < d) × ((r : ℕ) → r < suc k → p < f r)
    more x = (x.0, λ r b. by r b (ltb r k) refl)
      where
        by : (r : ℕ) → r < suc k → (t : Bool) → ltb r k ≡ t → p < f r
        by r b true e = x.1 r (ltb-true r k e)
        by r b false e = let same : k ≡ r = omega (arith, ltb-false r k e) in subst (λ (j : ℕ). p < f j) same (omega arith)

least-of : (f : ℕ → ℕ) (d k p : ℕ) → p < d → ((r : ℕ) → r < k → p < f r) → p < least f d k
unfolding least
least-of f d zero p h g = h
least-of f d (suc k) p h g = omega (arith, least-of f d k p h (λ r b. g r (omega arith)), g k (omega arith))

module _ (s w : List ℕ) (W : WordsRight s w) (p : ℕ) (h : p < instructions w) where
  -- the instruction at p goes forward, by its flow
  AimsBy : Flow → Type 0
  AimsBy F = (way : ℕ) → (p < goes_to F w way p) × (goes_to F w way p ≤ instructions w)

  -- the test of the target of a branch
  tells-branch : Tells (ltb p (a_at w p) && leb (a_at w p) (instructions w)) (AimsBy branch)
  unfolding AimsBy goes_to branch_target
  tells-branch =
      tells_as (tells-and (tells-lt p (a_at w p)) (tells-le (a_at w p) (instructions w)))
      (λ g. elim [ zero ↦ (omega arith, omega arith) | suc way ↦ g ])
      (λ g. g 1)

  -- a table that p names has its targets inside
  inside : flow_at w p ≡ table → (r : ℕ) → table_target w (a_at w p) r ≤ instructions w
  unfolding Fits switch_word
  inside e =
      let i = a_at w p in
      let b = words-named s w W p h e in
      targets-by (λ t. t ≤ instructions w) w i (row_inside s w W i b) (W.tabled i b 3 (omega arith))

  -- the test of the targets of p, by its flow
  tells-aims : (F : Flow) → flow_at w p ≡ F → Tells (aims F w p) (AimsBy F)
  unfolding aims AimsBy goes_to least_target
  tells-aims on e = tells-always (λ way. (omega arith, omega arith))
  tells-aims jump e =
      tells_as (tells-and (tells-lt p (a_at w p)) (tells-le (a_at w p) (instructions w))) (λ g way. g) (λ g. g 0)
  tells-aims branch e = tells-branch
  tells-aims table e =
      let i = a_at w p in
      tells_as (tells-lt p (least_target w i))
      (λ g way.
      let b = least-below (row_target w i) (switch_word w i 3) (switch_word w i 2) p g in
      (targets-by (λ t. p < t) w i b.1 b.0 way, inside e way))
      (λ g.
      least-of (row_target w i) (switch_word w i 3) (switch_word w i 2) p
      (subst (λ (t : ℕ). p < t) (default-there w i) (g (switch_word w i 2)).0)
      (λ r b. subst (λ (t : ℕ). p < t) (row-there w i r b) (g r).0))

  -- the same said of runs
  tells-there : Tells (aims (flow_at w p) w p) ((way : ℕ) → (p < next w way p) × (next w way p ≤ instructions w))
  unfolding next AimsBy
  tells-there = tells-aims (flow_at w p) refl

-- the test of all targets
pub tells-targets : (s w : List ℕ) → WordsRight s w → Tells (targets_right w) (Aims w)
unfolding targets_right
tells-targets s w W = record {
  yields = λ t p h. (tells-there s w W p h).yields (all-at (λ q. aims (flow_at w q) w q) (instructions w) p t h);
  passes = λ g. all_of (λ q. aims (flow_at w q) w q) (instructions w) (λ p h. (tells-there s w W p h).passes (g p h));
}
