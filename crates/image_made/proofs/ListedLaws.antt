-- Records that are listed right have words that obey the rules.
use Prim.Native.Nat.{ℕ, zero, suc, ◌+◌, ◌*◌, ◌/◌, ◌≤◌, ◌<◌}
use mathlib.Core.Path.{◌≡◌, refl, sym, subst}
use mathlib.Core.List.{List, [], ◌∷◌, ◌++◌}
use native.Mathlib.Omega.{arith}
use lib.ListN.{length, get_or}
use Rattle.sheet.specs.Sections.{local_count}
use Rattle.bytecode.specs.declared.Receiver.{Receiver}
use Rattle.bytecode.specs.declared.Receiver.TheVariants as Receivers
use Rattle.bytecode.specs.declared.Root.{Root}
use Rattle.bytecode.specs.declared.Root.TheVariants as Roots
use Rattle.bytecode.specs.declared.Step.{Step}
use Rattle.bytecode.specs.declared.Step.TheVariants.{Index, Property, Method}
use Rattle.bytecode.specs.declared.Chain as ChainRecord
use Rattle.bytecode.specs.declared.Op.{Op}
use Rattle.bytecode.specs.declared.Op.TheVariants.{Const, Unit, Bool, LoadLocal, LoadNamed, LoadThis, Pop, Jump, JumpIfTrue, JumpIfFalse}
use Rattle.bytecode.specs.declared.Op.TheVariants.{SkipIfNotUnit, Call, CallRef, Rotate, Switch, MakeFnPtr, CallFnPtr, InterpolateStart}
use Rattle.bytecode.specs.declared.Op.TheVariants.{InterpolateAppend, InterpolateEnd, MakeArray, CheckSize, Chain, EvalAst}
use Rattle.bytecode.specs.Op.{op_words, receiver_kind, receiver_word}
use Rattle.bytecode.specs.Chain.{root_words, step_words, chain_words}
use Rattle.lowering.specs.Limits.{max_elements}
use Rattle.lowering.specs.Pools as Pools
use Rattle.lowering.specs.Image.{const_words}
use Rattle.lowering.specs.Words.{word}
use Rattle.image_rule.specs.Rules.{Rule, free, unused, up_to, between, packed, within, Fits, Obeys, constants, names, tokens, residuals}
use Rattle.image_rule.specs.Rules.{chains, steps, tables, code_table, receiver_rule, const_table, root_table, step_table, operand_table, step_word}
use Rattle.image_made.proofs.Listed.{Counts, ReceiverOk, OpOk, ConstOk, int, float, char, string, RootOk, StepOk, StepIn}

-- the counts that the words say
abbrev pub counts_in : List ℕ → List ℕ → Counts
counts_in s w = record {
  consts = constants w;
  names = names w;
  tokens = tokens w;
  residuals = residuals w;
  chains = chains w;
  tables = tables w;
  locals = local_count s;
}

-- the words of one record obey its rules
pub record Row (rs : List Rule) (ws : List ℕ) : Type 0 where
  pub short : length rs ≤ length ws
  pub right : (f : ℕ) → f < length rs → Fits (get_or rs f free) (get_or ws f 0)

-- no rule; a rule and its word in front
pub row-nil : (ws : List ℕ) → Row [] ws
row-nil ws = record { short = omega arith; right = λ f h. absurd (omega arith) }

pub row_more : {r : Rule} {rs : List Rule} {x : ℕ} {ws : List ℕ} → Fits r x → Row rs ws → Row (r ∷ rs) (x ∷ ws)
row_more {r} {rs} {x} {ws} h t = record { short = omega (arith, t.short); right = by }
  where
    by : (f : ℕ) → f < suc (length rs) → Fits (get_or (r ∷ rs) f free) (get_or (x ∷ ws) f 0)
    by zero g = h
    by (suc f) g = t.right f (omega arith)

-- where the words stand in w, they obey there
pub row-obeys : (rs : List Rule) (ws w : List ℕ) (at : ℕ) → ((f : ℕ) → f < length ws → word w (at + f) ≡ get_or ws f 0)
    → Row rs ws → Obeys rs w at
row-obeys rs ws w at e t f h = subst (Fits (get_or rs f free)) (sym (e f (omega (arith, t.short)))) (t.right f h)

-- a word that is 0; any word
nil : Fits unused 0
unfolding Fits
nil = refl

-- kind k of an instruction, then a alone
kind : (k : ℕ) → 1 ≤ k → k ≤ 24 → Fits (between 1 24) k
unfolding Fits
kind k a b = (a, b)

alone : {r : Rule} (k x : ℕ) → 1 ≤ k → k ≤ 24 → Fits r x → Row (between 1 24 ∷ r ∷ unused ∷ unused ∷ []) (k ∷ x ∷ 0 ∷ 0 ∷ [])
alone k x a b h = row_more (kind k a b) (row_more h (row_more nil (row_more nil (row-nil []))))

-- kind and b of an instruction
abbrev kind_of : Op → ℕ
kind_of op = get_or (op_words op) 0 0

abbrev b_of : Op → ℕ
b_of op = get_or (op_words op) 2 0

-- the receiver is read back from b
receiver-of : (argc k : ℕ) → argc < 256 → (argc + 256 * k) / 256 ≡ k
receiver-of argc k h = omega arith

-- c of CallRef, by the receiver
receiver-fits : (s w : List ℕ) (argc : ℕ) (r : Receiver) → argc < 256 → ReceiverOk (counts_in s w) r
    → Fits (receiver_rule s w ((argc + 256 * receiver_kind r) / 256)) (receiver_word r)
unfolding receiver_kind receiver_word receiver_rule Fits
receiver-fits s w argc (Receivers.Local slot) a h = subst (λ (k : ℕ). Fits (receiver_rule s w k) slot) (sym (receiver-of argc 0 a)) h
receiver-fits s w argc (Receivers.Named i) a h = subst (λ (k : ℕ). Fits (receiver_rule s w k) i) (sym (receiver-of argc 1 a)) h
receiver-fits s w argc Receivers.This a h = subst (λ (k : ℕ). Fits (receiver_rule s w k) 0) (sym (receiver-of argc 2 a)) refl

receiver-small : (r : Receiver) → receiver_kind r ≤ 2
unfolding receiver_kind
receiver-small (Receivers.Local slot) = omega arith
receiver-small (Receivers.Named i) = omega arith
receiver-small Receivers.This = omega arith

fits-packed : (least kinds argc k : ℕ) → least ≤ argc → argc < 256 → k < kinds → Fits (packed least kinds) (argc + 256 * k)
unfolding Fits
fits-packed least kinds argc k a b c = (omega arith, omega arith)

-- an instruction
pub op_row : (s w : List ℕ) (op : Op) → OpOk (counts_in s w) op
    → Row (between 1 24 ∷ get_or (code_table s w (b_of op)) (kind_of op) []) (op_words op)
unfolding op_words code_table Fits
op_row s w (Const i) h = alone 1 i (omega arith) (omega arith) h
op_row s w Unit h = alone 2 0 (omega arith) (omega arith) refl
op_row s w (Bool t) h = alone 3 t (omega arith) (omega arith) h
op_row s w (LoadLocal slot) h = alone 4 slot (omega arith) (omega arith) h
op_row s w (LoadNamed i) h = alone 5 i (omega arith) (omega arith) h
op_row s w LoadThis h = alone 6 0 (omega arith) (omega arith) refl
op_row s w Pop h = alone 7 0 (omega arith) (omega arith) refl
op_row s w (Jump t) h = alone 8 t (omega arith) (omega arith) tt
op_row s w (JumpIfTrue t) h = alone 9 t (omega arith) (omega arith) tt
op_row s w (JumpIfFalse t) h = alone 10 t (omega arith) (omega arith) tt
op_row s w (SkipIfNotUnit t) h = alone 11 t (omega arith) (omega arith) tt
op_row s w (Call i argc op capture) h =
    let b = fits-packed 0 2 argc capture (omega arith) h.1 (omega (arith, h.2)) in
    row_more (kind 12 (omega arith) (omega arith)) (row_more h.0 (row_more b (row_more h.3 (row-nil []))))
op_row s w (CallRef i argc r) h =
    let b = fits-packed 1 3 argc (receiver_kind r) h.1 h.2 (omega (arith, receiver-small r)) in
    row_more (kind 13 (omega arith) (omega arith))
    (row_more h.0 (row_more b (row_more (receiver-fits s w argc r h.2 h.3) (row-nil []))))
op_row s w (Rotate n) h = alone 14 n (omega arith) (omega arith) h
op_row s w (Switch i) h = alone 15 i (omega arith) (omega arith) h
op_row s w MakeFnPtr h = alone 16 0 (omega arith) (omega arith) refl
op_row s w (CallFnPtr argc capture) h =
    row_more (kind 17 (omega arith) (omega arith)) (row_more h.0 (row_more h.1 (row_more nil (row-nil []))))
op_row s w InterpolateStart h = alone 18 0 (omega arith) (omega arith) refl
op_row s w InterpolateAppend h = alone 19 0 (omega arith) (omega arith) refl
op_row s w InterpolateEnd h = alone 20 0 (omega arith) (omega arith) refl
op_row s w (MakeArray n) h = alone 21 n (omega arith) (omega arith) h
op_row s w (CheckSize i) h = alone 22 i (omega arith) (omega arith) h
op_row s w (Chain i) h = alone 23 i (omega arith) (omega arith) h
op_row s w (EvalAst i) h = alone 24 i (omega arith) (omega arith) h

-- constants
const-by : (s : List ℕ) (c : Pools.Const) (k : ℕ) → c.kind ≡ k → 3 ≤ k → k ≤ 6 → Row (get_or (const_table s) k []) (c.a ∷ c.b ∷ [])
    → Row (between 3 6 ∷ get_or (const_table s) c.kind []) (const_words c)
unfolding const_words Fits
const-by s c k e a b t =
    row_more (omega arith, omega arith) (subst (λ (n : ℕ). Row (get_or (const_table s) n []) (c.a ∷ c.b ∷ [])) (sym e) t)

-- a constant
pub const-row : (s : List ℕ) (c : Pools.Const) → ConstOk s c → Row (between 3 6 ∷ get_or (const_table s) c.kind []) (const_words c)
unfolding const_table Fits
const-row s c (int e) = const-by s c 3 e (omega arith) (omega arith) (row_more tt (row_more tt (row-nil [])))
const-row s c (float e) = const-by s c 4 e (omega arith) (omega arith) (row_more tt (row_more tt (row-nil [])))
const-row s c (char e a b) = const-by s c 5 e (omega arith) (omega arith) (row_more a (row_more b (row-nil [])))
const-row s c (string e a b) = const-by s c 6 e (omega arith) (omega arith) (row_more a (row_more b (row-nil [])))

-- roots, steps
-- the rules of a chain whose root is of this kind and whose steps start at k
abbrev pub rules_of_chain : List ℕ → List ℕ → ℕ → ℕ → List Rule
rules_of_chain s w kind k = up_to 3 ∷ get_or (root_table s w) kind [] ++ (free ∷ within k (steps w) ∷ up_to max_elements ∷ [])

-- a chain
pub chain-row : (s w : List ℕ) (c : ChainRecord.Chain) (k : ℕ) → k ≡ c.first → RootOk s (names w) c.root
    → c.first + c.steps ≤ steps w → c.operands ≤ max_elements
    → Row (rules_of_chain s w (get_or (root_words c.root) 0 0) k) (chain_words c)
unfolding chain_words root_table root_words Fits
chain-row s w c k e h a b = by c.root h
  where
    tail : Row (free ∷ within k (steps w) ∷ up_to max_elements ∷ []) (c.first ∷ c.steps ∷ c.operands ∷ [])
    tail = row_more tt (row_more (omega arith) (row_more b (row-nil [])))

    by : (root : Root) → RootOk s (names w) root
        → Row (rules_of_chain s w (get_or (root_words root) 0 0) k) (root_words root ++ (c.first ∷ c.steps ∷ c.operands ∷ []))
    by (Roots.Local slot name) g = row_more (omega arith) (row_more g.0 (row_more g.1 tail))
    by (Roots.Named name pos) g = row_more (omega arith) (row_more g (row_more tt tail))
    by (Roots.This pos) g = row_more (omega arith) (row_more refl (row_more tt tail))
    by Roots.Temporary g = row_more (omega arith) (row_more refl (row_more refl tail))

-- a step by itself
pub step_row : (w : List ℕ) (t : Step) → StepOk (names w) t → Row (up_to 2 ∷ get_or (step_table w) (get_or (step_words t) 0 0) []) (step_words t)
unfolding step_table step_words Fits
step_row w (Index operand flags pos bracket) h =
    row_more (omega arith) (row_more tt (row_more h (row_more tt (row_more tt (row_more refl (row-nil []))))))
step_row w (Property name getter setter flags pos) h =
    row_more (omega arith) (row_more h.0 (row_more h.1 (row_more h.2 (row_more h.3 (row_more tt (row-nil []))))))
step_row w (Method name argc operand flags pos) h =
    row_more (omega arith) (row_more h.0 (row_more h.1 (row_more tt (row_more h.2 (row_more tt (row-nil []))))))

-- a step with the operands of its chain
pub in_row : (w : List ℕ) (j n : ℕ) (t : Step) → step_word w j 2 ≡ get_or (step_words t) 2 0 → StepIn n t
    → Row (get_or (operand_table w j n) (get_or (step_words t) 0 0) []) (step_words t)
unfolding operand_table step_words Fits
in_row w j n (Index operand flags pos bracket) e h = row_more tt (row_more h (row-nil (flags ∷ pos ∷ bracket ∷ 0 ∷ [])))
in_row w j n (Property name getter setter flags pos) e h = row-nil (1 ∷ name ∷ getter ∷ setter ∷ flags ∷ pos ∷ [])
in_row w j n (Method name argc operand flags pos) e h =
    row_more tt (row_more tt (row_more tt (row_more (omega (arith, e)) (row-nil (flags ∷ pos ∷ [])))))
