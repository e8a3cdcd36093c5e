-- The words of a program's image read back: the sizes, and word f of each record, are those of the program.
use Prim.Native.Nat.{ℕ, suc, ◌+◌, ◌*◌, ◌<◌}
use mathlib.Core.Path.{◌≡◌, refl, sym, ap, ◌∙◌, subst}
use mathlib.Core.List.{List, [], ◌∷◌, ◌++◌}
use native.Mathlib.Omega.{arith}
use native.Mathlib.Nat.{add-zero}
use lib.ListN.{length, get_or, length-append}
use Rattle.bytecode.specs.declared.Step.{Step}
use Rattle.bytecode.specs.declared.Chain.{Chain}
use Rattle.bytecode.specs.declared.Switch.{Switch}
use Rattle.bytecode.specs.declared.SwitchCase.{SwitchCase}
use Rattle.bytecode.specs.declared.SwitchRange.{SwitchRange}
use Rattle.bytecode.specs.declared.Op.TheVariants.{Unit}
use Rattle.bytecode.specs.Op.{op_words}
use Rattle.bytecode.specs.Chain.{step_words, chain_words}
use Rattle.bytecode.specs.Switch.{switch_words, case_words, range_words}
use Rattle.lowering.specs.Limits.{sizes_words, op_width, step_width, const_width, name_width, chain_width, switch_width, case_width}
use Rattle.lowering.specs.Limits.{range_width}
use Rattle.lowering.specs.Code.{Ins, Code, ins, greatest, code_words, positions}
use Rattle.lowering.specs.Pools.{Const, steps_words}
use Rattle.lowering.specs.Program.{Program}
use Rattle.lowering.specs.Image.{section, const_words, name_words, sizes, words}
use Rattle.lowering.specs.Words.{word, instructions, greatest_depth, consts_at, chains_at, switches_at, cases_at, ranges_at, kind_at, a_at}
use Rattle.lowering.specs.Words.{b_at, const_word, chain_word, switch_word, case_word, range_word}
use Rattle.lowering.proofs.Parts.{Part, part-last, part-more, section-length, record-word}
use Rattle.lowering.proofs.Widths.{op-width, const-width, name-width, chain-width, step-width, switch-width, case-width, range-width}

-- what a lookup past the end gives
abbrev pub no_ins : Ins
no_ins = ins Unit 0 0

abbrev ins_words : Ins → List ℕ
ins_words i = op_words i.op

ins-width : (i : Ins) → length (ins_words i) ≡ op_width
ins-width i = op-width i.op

code-section : (c : Code) → code_words c ≡ section ins_words c
unfolding code_words section
code-section [] = refl
code-section (i ∷ c) = ap (λ (l : List ℕ). op_words i.op ++ l) (code-section c)

pub steps-section : (xs : List Step) → steps_words xs ≡ section step_words xs
unfolding steps_words section
steps-section [] = refl
steps-section (x ∷ xs) = ap (λ (l : List ℕ). step_words x ++ l) (steps-section xs)

-- as many positions as instructions
pub positions-length : (c : Code) → length (positions c) ≡ length c
unfolding positions
positions-length [] = refl
positions-length (i ∷ c) = ap suc (positions-length c)

-- the words of code
pub code-length : (c : Code) → length (code_words c) ≡ op_width * length c
code-length c = ap length (code-section c) ∙ section-length ins_words op_width ins-width c

-- and of steps
pub steps-length : (xs : List Step) → length (steps_words xs) ≡ step_width * length xs
steps-length xs = ap length (steps-section xs) ∙ section-length step_words step_width step-width xs

-- the sizes
pub instructions-are : (r : Program) → instructions (words r) ≡ length r.code
unfolding words sizes
instructions-are r = refl

pub greatest-is : (r : Program) → greatest_depth (words r) ≡ greatest r.code
unfolding words sizes
greatest-is r = refl

-- the words in front of each section
abbrev to_positions : Program → List ℕ
to_positions r = sizes r ++ code_words r.code

abbrev pub to_consts : Program → List ℕ
to_consts r = to_positions r ++ positions r.code

abbrev pub to_names : Program → List ℕ
to_names r = to_consts r ++ section const_words r.pools.consts

abbrev pub to_tokens : Program → List ℕ
to_tokens r = to_names r ++ section name_words r.pools.names

abbrev pub to_residuals : Program → List ℕ
to_residuals r = to_tokens r ++ r.pools.tokens

abbrev pub to_chains : Program → List ℕ
to_chains r = to_residuals r ++ r.pools.residuals

abbrev pub to_steps : Program → List ℕ
to_steps r = to_chains r ++ section chain_words r.pools.chains

abbrev to_switches : Program → List ℕ
to_switches r = to_steps r ++ steps_words r.pools.steps

abbrev to_cases : Program → List ℕ
to_cases r = to_switches r ++ section switch_words r.switches

abbrev pub to_ranges : Program → List ℕ
to_ranges r = to_cases r ++ section case_words r.cases

-- where the sections start
pub consts-at : (r : Program) → length (to_consts r) ≡ consts_at (words r)
unfolding consts_at words sizes
consts-at r =
    omega (
      arith,
      length-append (to_positions r) (positions r.code),
      length-append (sizes r) (code_words r.code),
      code-length r.code,
      positions-length r.code,
    )

pub chains-at : (r : Program) → length (to_chains r) ≡ chains_at (words r)
unfolding chains_at words sizes
chains-at r =
    omega (
      arith,
      consts-at r,
      length-append (to_residuals r) r.pools.residuals,
      length-append (to_tokens r) r.pools.tokens,
      length-append (to_names r) (section name_words r.pools.names),
      length-append (to_consts r) (section const_words r.pools.consts),
      section-length name_words name_width name-width r.pools.names,
      section-length const_words const_width const-width r.pools.consts,
    )

switches-at : (r : Program) → length (to_switches r) ≡ switches_at (words r)
unfolding switches_at words sizes
switches-at r =
    omega (
      arith,
      chains-at r,
      length-append (to_steps r) (steps_words r.pools.steps),
      length-append (to_chains r) (section chain_words r.pools.chains),
      section-length chain_words chain_width chain-width r.pools.chains,
      steps-length r.pools.steps,
    )

cases-at : (r : Program) → length (to_cases r) ≡ cases_at (words r)
unfolding cases_at words sizes
cases-at r =
    omega (
      arith,
      switches-at r,
      length-append (to_switches r) (section switch_words r.switches),
      section-length switch_words switch_width switch-width r.switches,
    )

pub ranges-at : (r : Program) → length (to_ranges r) ≡ ranges_at (words r)
unfolding ranges_at words sizes
ranges-at r =
    omega (
      arith,
      cases-at r,
      length-append (to_cases r) (section case_words r.cases),
      section-length case_words case_width case-width r.cases,
    )

-- each section as a part of the words
ranges-part : (r : Program) → Part (words r) (ranges_at (words r)) (section range_words r.ranges)
unfolding words
ranges-part r = part-last (to_ranges r) (section range_words r.ranges) (ranges_at (words r)) (ranges-at r)

-- a part of the words in front of the ranges, of those in front of the cases, and so on
behind-cases : (r : Program) {o : ℕ} {xs : List ℕ} → Part (to_ranges r) o xs → Part (words r) o xs
unfolding words
behind-cases r t = part-more (section range_words r.ranges) t

pub behind-switches : (r : Program) {o : ℕ} {xs : List ℕ} → Part (to_cases r) o xs → Part (words r) o xs
behind-switches r t = behind-cases r (part-more (section case_words r.cases) t)

pub behind-chains : (r : Program) {o : ℕ} {xs : List ℕ} → Part (to_steps r) o xs → Part (words r) o xs
behind-chains r t = behind-switches r (part-more (section switch_words r.switches) (part-more (steps_words r.pools.steps) t))

behind-consts : (r : Program) {o : ℕ} {xs : List ℕ} → Part (to_names r) o xs → Part (words r) o xs
behind-consts r t =
    behind-chains r
    (part-more (section chain_words r.pools.chains)
    (part-more r.pools.residuals
    (part-more r.pools.tokens
    (part-more (section name_words r.pools.names) t))))

cases-part : (r : Program) → Part (words r) (cases_at (words r)) (section case_words r.cases)
cases-part r = behind-cases r (part-last (to_cases r) (section case_words r.cases) (cases_at (words r)) (cases-at r))

switches-part : (r : Program) → Part (words r) (switches_at (words r)) (section switch_words r.switches)
switches-part r = behind-switches r (part-last (to_switches r) (section switch_words r.switches) (switches_at (words r)) (switches-at r))

chains-part : (r : Program) → Part (words r) (chains_at (words r)) (section chain_words r.pools.chains)
chains-part r = behind-chains r (part-last (to_chains r) (section chain_words r.pools.chains) (chains_at (words r)) (chains-at r))

consts-part : (r : Program) → Part (words r) (consts_at (words r)) (section const_words r.pools.consts)
consts-part r = behind-consts r (part-last (to_consts r) (section const_words r.pools.consts) (consts_at (words r)) (consts-at r))

code-part : (r : Program) → Part (words r) sizes_words (section ins_words r.code)
unfolding sizes
code-part r =
    behind-consts r
    (part-more (section const_words r.pools.consts)
    (part-more (positions r.code)
    (subst (Part (to_positions r) sizes_words) (code-section r.code) (part-last (sizes r) (code_words r.code) sizes_words refl))))

-- word f of each record
module _ (r : Program) where
  pub ins-word : (p f : ℕ) → p < length r.code → f < op_width
      → word (words r) (sizes_words + op_width * p + f) ≡ get_or (op_words (get_or r.code p no_ins).op) f 0
  ins-word p f h g = record-word ins_words op_width ins-width r.code (code-part r) no_ins p f h g

  pub const-word : (d : Const) (k f : ℕ) → k < length r.pools.consts → f < 3
      → const_word (words r) k f ≡ get_or (const_words (get_or r.pools.consts k d)) f 0
  unfolding const_word
  const-word d k f h g = record-word const_words const_width const-width r.pools.consts (consts-part r) d k f h g

  pub chain-word : (d : Chain) (k f : ℕ) → k < length r.pools.chains → f < 6
      → chain_word (words r) k f ≡ get_or (chain_words (get_or r.pools.chains k d)) f 0
  unfolding chain_word
  chain-word d k f h g = record-word chain_words chain_width chain-width r.pools.chains (chains-part r) d k f h g

  pub switch-word : (d : Switch) (k f : ℕ) → k < length r.switches → f < 4
      → switch_word (words r) k f ≡ get_or (switch_words (get_or r.switches k d)) f 0
  unfolding switch_word
  switch-word d k f h g = record-word switch_words switch_width switch-width r.switches (switches-part r) d k f h g

  pub case-word : (d : SwitchCase) (k f : ℕ) → k < length r.cases → f < 2
      → case_word (words r) k f ≡ get_or (case_words (get_or r.cases k d)) f 0
  unfolding case_word
  case-word d k f h g = record-word case_words case_width case-width r.cases (cases-part r) d k f h g

  pub range-word : (d : SwitchRange) (k f : ℕ) → k < length r.ranges → f < 6
      → range_word (words r) k f ≡ get_or (range_words (get_or r.ranges k d)) f 0
  unfolding range_word
  range-word d k f h g = record-word range_words range_width range-width r.ranges (ranges-part r) d k f h g

  -- kind, a and b of the instruction at a place
  pub kind-at : (p : ℕ) → p < length r.code → kind_at (words r) p ≡ get_or (op_words (get_or r.code p no_ins).op) 0 0
  kind-at p h = ap (word (words r)) (sym (add-zero (sizes_words + op_width * p))) ∙ ins-word p 0 h (omega arith)

  pub a-at : (p : ℕ) → p < length r.code → a_at (words r) p ≡ get_or (op_words (get_or r.code p no_ins).op) 1 0
  a-at p h = ins-word p 1 h (omega arith)

  pub b-at : (p : ℕ) → p < length r.code → b_at (words r) p ≡ get_or (op_words (get_or r.code p no_ins).op) 2 0
  b-at p h = ins-word p 2 h (omega arith)
