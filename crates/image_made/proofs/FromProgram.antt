-- The words of a program are well made, where its records are listed right, its depths are typed, and every place is reached.
use Prim.Native.Nat.{ℕ, zero, suc, ◌+◌, ◌*◌, ◌≤◌, ◌<◌}
use mathlib.Core.Path.{◌≡◌, refl, sym, ap, ◌∙◌, subst}
use mathlib.Core.Bool.{Bool, true, false}
use mathlib.Core.List.{List, [], ◌∷◌, ◌++◌}
use native.Mathlib.Omega.{arith}
use native.Mathlib.Nat.{add-zero}
use lib.Dec.{eqb}
use lib.ListN.{length, get_or}
use Rattle.sheet.specs.Sections.{node_count}
use Rattle.bytecode.specs.declared.SwitchCase.{SwitchCase}
use Rattle.bytecode.specs.declared.SwitchRange.{SwitchRange}
use Rattle.bytecode.specs.declared.Step.{Step}
use Rattle.bytecode.specs.declared.Root.{Root}
use Rattle.bytecode.specs.declared.Root.TheVariants as Roots
use Rattle.bytecode.specs.declared.Chain as ChainRecord
use Rattle.bytecode.specs.Op.{op_words}
use Rattle.bytecode.specs.Chain.{root_words, step_words, chain_words}
use Rattle.bytecode.specs.Switch.{switch_words, case_words, range_words}
use Rattle.lowering.specs.Limits.{sizes_words, op_width, const_width, name_width, chain_width, step_width, switch_width, case_width, range_width}
use Rattle.lowering.specs.Code.{Ins}
use Rattle.lowering.specs.Pools as Pools
use Rattle.lowering.specs.Program.{Program}
use Rattle.lowering.specs.Image.{const_words, name_words, sizes, words}
use Rattle.lowering.specs.Words.{word, instructions, code_at, consts_at, chains_at, switches_at, cases_at, ranges_at, kind_at, const_word}
use Rattle.lowering.specs.Words.{chain_word, switch_word, case_word, range_word}
use Rattle.lowering.proofs.Widths.{op-width, chain-width, step-width}
use Rattle.lowering.proofs.Whole.{no_switch, WellTyped, AllReached}
use Rattle.lowering.proofs.Effect.{no_chain}
use Rattle.lowering.proofs.Tables.{TablesFit, table_of, rows_of}
use Rattle.lowering.proofs.Decode.{no_ins, ins-word, kind-at, b-at, const-word, chain-word, switch-word, case-word, range-word}
use Rattle.lowering.proofs.RunsRight.{goes-there, runs-agree, runs-right}
use Rattle.lowering.proofs.DepthReached.{depth-reached}
use Rattle.image_rule.specs.Rules.{constants, names, tokens, residuals, chains, steps, tables, cases, ranges, names_at, tokens_at}
use Rattle.image_rule.specs.Rules.{residuals_at}
use Rattle.image_rule.specs.Rules.{steps_at, step_word, end_at, Rule, between, up_to, below, Fits, Obeys, code_table, code_rules, const_table}
use Rattle.image_rule.specs.Rules.{const_rules, name_rules, token_rules, residual_rules, chain_rules, step_table, step_rules, operand_table}
use Rattle.image_rule.specs.Rules.{operand_rules, rows_there, table_rules, case_rules, range_rules}
use Rattle.image_rule.specs.WellMade.{WellMade, WordsRight}
use Rattle.image_made.proofs.Sections.{end_is, name-word, token-word, residual-word, step-word}
use Rattle.image_made.proofs.Listed.{counts_for, OpOk, ConstOk, NameOk, TokenOk, StepOk, StepIn, no_step, ChainOk, TableOk, CaseOk}
use Rattle.image_made.proofs.Listed.{RangeOk}
use Rattle.image_made.proofs.Listed.{all-in-at, Listed}
use Rattle.image_made.proofs.ListedLaws.{row-nil, row_more, row-obeys, rules_of_chain, op_row, const-row, chain-row, step_row, in_row}

-- what a lookup past the end gives
abbrev no_const : Pools.Const
no_const = record { kind = 0; a = 0; b = 0 }

abbrev no_name : Pools.Name
no_name = record { text = 0; mark = 0; namespace = 0 }

abbrev no_case : SwitchCase
no_case = record { target = 0; constant = 0 }

abbrev no_range : SwitchRange
no_range = record { from = 0; to = 0; inclusive = 0; target = 0 }

-- the words of a chain's root, with more behind them
root-first : (root : Root) (xs : List ℕ) → get_or (root_words root ++ xs) 0 0 ≡ get_or (root_words root) 0 0
unfolding root_words
root-first (Roots.Local slot name) xs = refl
root-first (Roots.Named name pos) xs = refl
root-first (Roots.This pos) xs = refl
root-first Roots.Temporary xs = refl

root-rest : (root : Root) (xs : List ℕ) (f : ℕ) → get_or (root_words root ++ xs) (suc (suc (suc f))) 0 ≡ get_or xs f 0
unfolding root_words
root-rest (Roots.Local slot name) xs f = refl
root-rest (Roots.Named name pos) xs f = refl
root-rest (Roots.This pos) xs f = refl
root-rest Roots.Temporary xs f = refl

module _ (s : List ℕ) (r : Program) (L : Listed s r) where
  abbrev w : List ℕ
  w = words r

  -- each section of the words obeys its rules
  code-right : (p : ℕ) → p < instructions w → Obeys (code_rules s w p) w (code_at + op_width * p)
  unfolding words sizes
  code-right p h =
      let op = (get_or r.code p no_ins).op in
      let rules : ℕ → ℕ → List Rule = λ b k. between 1 24 ∷ get_or (code_table s w b) k [] in
      let b = get_or (op_words op) 2 0 in
      let k = get_or (op_words op) 0 0 in
      let e : code_rules s w p ≡ rules b k = ap (λ (n : ℕ). rules n (kind_at w p)) (b-at r p h) ∙ ap (rules b) (kind-at r p h) in
      let ok = all-in-at (λ (i : Ins). OpOk (counts_for s (length r.switches) r.pools) i.op) r.code no_ins L.code p h in
      subst (λ (rs : List Rule). Obeys rs w (code_at + op_width * p)) (sym e)
      (row-obeys (rules b k) (op_words op) w (code_at + op_width * p) (λ f g. ins-word r p f h (omega (arith, op-width op)))
      (op_row s w op ok))

  const-right : (i : ℕ) → i < constants w → Obeys (const_rules s w i) w (consts_at w + const_width * i)
  unfolding words sizes const_word const_words
  const-right i h =
      let c = get_or r.pools.consts i no_const in
      let rules : ℕ → List Rule = λ k. between 3 6 ∷ get_or (const_table s) k [] in
      subst (λ (k : ℕ). Obeys (rules k) w (consts_at w + const_width * i)) (sym (const-word r no_const i 0 h (omega arith)))
      (row-obeys (rules c.kind) (const_words c) w (consts_at w + const_width * i)
      (λ f g. const-word r no_const i f h g)
      (const-row s c (all-in-at (ConstOk s) r.pools.consts no_const L.pools.consts i h)))

  name-right : (i : ℕ) → i < names w → Obeys (name_rules s) w (names_at w + name_width * i)
  unfolding words sizes name_words Fits
  name-right i h =
      let n = get_or r.pools.names i no_name in
      let ok = all-in-at (NameOk s) r.pools.names no_name L.pools.names i h in
      row-obeys (name_rules s) (name_words n) w (names_at w + name_width * i) (λ f g. name-word r no_name i f h g)
      (row_more ok.0 (row_more ok.1 (row_more (omega (arith, ok.2)) (row-nil []))))

  -- a record of one word
  single : (R : Rule) (at x : ℕ) → word w at ≡ x → Fits R x → Obeys (R ∷ []) w at
  single R at x e h = row-obeys (R ∷ []) (x ∷ []) w at by (row_more h (row-nil []))
    where
      by : (f : ℕ) → f < 1 → word w (at + f) ≡ get_or (x ∷ []) f 0
      by zero g = ap (word w) (add-zero at) ∙ e
      by (suc f) g = absurd (omega arith)

  token-right : (i : ℕ) → i < tokens w → Obeys token_rules w (tokens_at w + i)
  unfolding words sizes Fits
  token-right i h =
      let ts = r.pools.tokens in
      single (between 1 65535) (tokens_at w + i) (get_or ts i 0) (token-word r i h) (all-in-at TokenOk ts 0 L.pools.tokens i h)

  residual-right : (i : ℕ) → i < residuals w → Obeys (residual_rules s) w (residuals_at w + i)
  unfolding words sizes Fits
  residual-right i h =
      let js = r.pools.residuals in
      single (below _) (residuals_at w + i) (get_or js i 0) (residual-word r i h)
      (all-in-at (λ j. j < node_count s) js 0 L.pools.residuals i h)

  -- chain i, and its last three words
  abbrev chain_of : ℕ → ChainRecord.Chain
  chain_of i = get_or r.pools.chains i no_chain

  chain-ok : (i : ℕ) → i < length r.pools.chains → ChainOk s r.pools (chain_of i)
  chain-ok i h = all-in-at (ChainOk s r.pools) r.pools.chains no_chain L.pools.chains i h

  chain-tail : (i f : ℕ) → i < length r.pools.chains → f < 3
      → chain_word w i (suc (suc (suc f))) ≡ get_or ((chain_of i).first ∷ (chain_of i).steps ∷ (chain_of i).operands ∷ []) f 0
  unfolding chain_words
  chain-tail i f h g =
      let c = chain_of i in
      chain-word r no_chain i (suc (suc (suc f))) h (omega arith) ∙ root-rest c.root (c.first ∷ c.steps ∷ c.operands ∷ []) f

  chain-right : (i : ℕ) → i < chains w → Obeys (chain_rules s w i) w (chains_at w + chain_width * i)
  unfolding words sizes chain_word chain_words
  chain-right i h =
      let c = chain_of i in
      let ok = chain-ok i h in
      let kind = root-first c.root (c.first ∷ c.steps ∷ c.operands ∷ []) in
      let k : chain_word w i 0 ≡ get_or (root_words c.root) 0 0 = chain-word r no_chain i 0 h (omega arith) ∙ kind in
      subst (λ (n : ℕ). Obeys (rules_of_chain s w n (chain_word w i 3)) w (chains_at w + chain_width * i)) (sym k)
      (row-obeys _ (chain_words c) w (chains_at w + chain_width * i)
      (λ f g. chain-word r no_chain i f h (omega (arith, chain-width c)))
      (chain-row s w c (chain_word w i 3) (chain-tail i 0 h (omega arith)) ok.root ok.run ok.few))

  step-right : (j : ℕ) → j < steps w → Obeys (step_rules w j) w (steps_at w + step_width * j)
  unfolding words sizes step_word
  step-right j h =
      let t = get_or r.pools.steps j no_step in
      let rules : ℕ → List Rule = λ n. up_to 2 ∷ get_or (step_table w) n [] in
      subst (λ (n : ℕ). Obeys (rules n) w (steps_at w + step_width * j)) (sym (step-word r no_step j 0 h (omega arith)))
      (row-obeys (rules (get_or (step_words t) 0 0)) (step_words t) w (steps_at w + step_width * j)
      (λ f g. step-word r no_step j f h (omega (arith, step-width t)))
      (step_row w t (all-in-at (StepOk (length r.pools.names)) r.pools.steps no_step L.pools.steps j h)))

  -- each step of a chain has its operands in it
  operands-right : (i : ℕ) → i < chains w → (k : ℕ) → k < chain_word w i 4
      → Obeys (operand_rules w i (chain_word w i 3 + k)) w (steps_at w + step_width * (chain_word w i 3 + k))
  unfolding words sizes step_word
  operands-right i h k g =
      let c = chain_of i in
      let ok = chain-ok i h in
      let first = chain-tail i 0 h (omega arith) in
      let count = chain-tail i 1 h (omega arith) in
      let j = chain_word w i 3 + k in
      let t = get_or r.pools.steps j no_step in
      let n = chain_word w i 5 in
      let inside : j < length r.pools.steps = omega (arith, first, count, ok.run) in
      let same = ap (λ (n : ℕ). get_or r.pools.steps (n + k) no_step) (sym first) in
      let among = subst (λ (u : Step). StepIn c.operands u) same (ok.inside k (omega (arith, count))) in
      let rules : ℕ → List Rule = λ kind. get_or (operand_table w j n) kind [] in
      subst (λ (kind : ℕ). Obeys (rules kind) w (steps_at w + step_width * j)) (sym (step-word r no_step j 0 inside (omega arith)))
      (row-obeys (rules (get_or (step_words t) 0 0)) (step_words t) w (steps_at w + step_width * j)
      (λ f b. step-word r no_step j f inside (omega (arith, step-width t)))
      (in_row w j n t (step-word r no_step j 2 inside (omega arith))
      (subst (λ (m : ℕ). StepIn m t) (sym (chain-tail i 2 h (omega arith))) among)))

  -- how many rows there are, by the kind of the table
  rows-there : (k : ℕ) → rows_there w k ≡ rows_of r (eqb k 0)
  unfolding rows_there words sizes
  rows-there k = by (eqb k 0) refl
    where
      by : (b : Bool) → eqb k 0 ≡ b → rows_there w k ≡ rows_of r (eqb k 0)
      by true e = rw (e, rows_there)
      by false e = rw (e, rows_there)

  table-right : TablesFit r → (i : ℕ) → i < tables w → Obeys (table_rules w i) w (switches_at w + switch_width * i)
  unfolding words sizes switch_word switch_words Fits
  table-right F i h =
      let t = table_of r i in
      let ok = all-in-at (TableOk (length r.code)) r.switches no_switch L.tables i h in
      let fit = F.fits i h in
      let kind = switch-word r no_switch i 0 h (omega arith) in
      let first = switch-word r no_switch i 1 h (omega arith) in
      let room = rows-there (switch_word w i 0) ∙ ap (λ (k : ℕ). rows_of r (eqb k 0)) kind in
      row-obeys (table_rules w i) (switch_words t) w (switches_at w + switch_width * i) (λ f g. switch-word r no_switch i f h g)
      (row_more ok.0 (row_more tt (row_more (omega (arith, fit, room, first)) (row_more ok.1 (row-nil [])))))

  case-right : (i : ℕ) → i < cases w → Obeys (case_rules w) w (cases_at w + case_width * i)
  unfolding words sizes case_word case_words Fits
  case-right i h =
      let ok = all-in-at (CaseOk (length r.code) (length r.pools.consts)) r.cases no_case L.cases i h in
      row-obeys (case_rules w) (case_words (get_or r.cases i no_case)) w (cases_at w + case_width * i) (λ f g. case-word r no_case i f h g)
      (row_more ok.0 (row_more ok.1 (row-nil [])))

  range-right : (i : ℕ) → i < ranges w → Obeys (range_rules w) w (ranges_at w + range_width * i)
  unfolding words sizes range_word range_words Fits
  range-right i h =
      let ok = all-in-at (RangeOk (length r.code)) r.ranges no_range L.ranges i h in
      row-obeys (range_rules w) (range_words (get_or r.ranges i no_range)) w (ranges_at w + range_width * i)
      (λ f g. range-word r no_range i f h g)
      (row_more tt (row_more tt (row_more tt (row_more tt (row_more ok.0 (row_more ok.1 (row-nil [])))))))

  -- all sections
  words-right : TablesFit r → WordsRight s w
  words-right F = record {
    code = code-right;
    consts = const-right;
    named = name-right;
    tokened = token-right;
    residual = residual-right;
    chained = chain-right;
    stepped = step-right;
    operands = operands-right;
    tabled = table-right F;
    cased = case-right;
    ranged = range-right;
  }

  -- the sizes are there
  enough : sizes_words ≤ length w
  unfolding end_at ranges_at cases_at switches_at chains_at consts_at
  enough = omega (arith, end_is r)

  -- the whole: words from the records, runs from the types, the depth from what is reached
  pub made-from : TablesFit r → WellTyped r → AllReached r → WellMade s w
  unfolding words sizes
  made-from F T A = record {
    enough = enough;
    sizes = end_is r;
    words = words-right F;
    targets = λ p h way. let g = goes-there r F T p h way in (g.0, g.1);
    runs = runs-right r F T;
    agree = runs-agree r F T;
    depth = depth-reached r F T A;
  }
