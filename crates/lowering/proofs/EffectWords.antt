-- An instruction's words tell its effect: what the run reads as popped, pushed, needed, and as the places gone to, is what Effect says
-- of the instruction.
use Prim.Native.Nat.{ℕ, zero, suc, ◌+◌, ◌-◌, ◌*◌, ◌/◌, ◌%◌, ◌<◌}
use mathlib.Core.Path.{◌≡◌, refl, sym, ap, ◌∙◌, subst}
use mathlib.Core.Bool.{true, false}
use mathlib.Core.List.{List, [], ◌∷◌, ◌++◌}
use native.Mathlib.Omega.{arith}
use native.Mathlib.Numerals.{add-one}
use borrow.Author.Tests.{eq-eqb, ne_eqb}
use lib.Dec.{eqb}
use lib.ListN.{length, get_or}
use Rattle.bytecode.specs.declared.Receiver.{Receiver}
use Rattle.bytecode.specs.declared.Receiver.TheVariants.{Local, Named, This}
use Rattle.bytecode.specs.declared.Root.{Root}
use Rattle.bytecode.specs.declared.Root.TheVariants.{Temporary}
use Rattle.bytecode.specs.declared.Root.TheVariants as RootIs
use Rattle.bytecode.specs.declared.Op.{Op}
use Rattle.bytecode.specs.declared.Op.TheVariants.{Const, Unit, Bool, LoadLocal, LoadNamed, LoadThis, Pop, Jump, JumpIfTrue, JumpIfFalse}
use Rattle.bytecode.specs.declared.Op.TheVariants.{SkipIfNotUnit, Call, CallRef, Rotate, Switch, MakeFnPtr, CallFnPtr, InterpolateStart}
use Rattle.bytecode.specs.declared.Op.TheVariants.{InterpolateAppend, InterpolateEnd, MakeArray, CheckSize, Chain, EvalAst}
use Rattle.bytecode.specs.Op.{receiver_kind, op_words}
use Rattle.bytecode.specs.Chain.{root_words, chain_words}
use Rattle.bytecode.specs.Effect.{Flow, on, jump, branch, table, effect, ref_argc, popped, kept}
use Rattle.lowering.specs.Chain.{on_stack}
use Rattle.lowering.specs.Program.{Program}
use Rattle.lowering.specs.Image.{words}
use Rattle.lowering.specs.Words.{kind_at, a_at, chain_word}
use Rattle.lowering.specs.Run as Run
use Rattle.lowering.specs.All.{All}
use Rattle.lowering.proofs.Effect.{Context, no_chain, chain_pops, ref_pops, pops, pushes, needs, nexts, Narrow}
use Rattle.lowering.proofs.Whole.{context_of}
use Rattle.lowering.proofs.Tables.{TablesFit, table-all, all-table}
use Rattle.lowering.proofs.Decode.{no_ins, kind-at, a-at, b-at, chain-word}

-- kind, a and b of an instruction
abbrev pub kind_of : Op → ℕ
kind_of op = get_or (op_words op) 0 0

abbrev pub a_of : Op → ℕ
a_of op = get_or (op_words op) 1 0

abbrev pub b_of : Op → ℕ
b_of op = get_or (op_words op) 2 0

-- what an instruction of this kind pops, where chain a takes n
abbrev takes : ℕ → ℕ → ℕ → ℕ → ℕ
takes kind a b n = (effect kind).pops + popped (effect kind).count a b n

-- 1 for a Temporary root (3)
abbrev on_root : ℕ → ℕ
on_root k = elim (eqb k 3) [ true ↦ 1 | false ↦ 0 ]

-- where one of this flow goes, and what its words rest on
abbrev pub flow_nexts : Context → Flow → ℕ → ℕ → List ℕ
flow_nexts X on a p = suc p ∷ []
flow_nexts X jump a p = a ∷ []
flow_nexts X branch a p = a ∷ suc p ∷ []
flow_nexts X table a p = X.table a

abbrev pub FlowNarrow : Context → Flow → ℕ → Type 0
FlowNarrow X on a = Prim.Unit {0}
FlowNarrow X jump a = Prim.Unit {0}
FlowNarrow X branch a = Prim.Unit {0}
FlowNarrow X table a = a < X.tables

-- argc shares its word
argc-alone : (argc n : ℕ) → argc < 256 → (argc + 256 * n) % 256 ≡ argc
argc-alone argc n h = omega arith

ref-local : (b : ℕ) → b / 256 ≡ 0 → ref_argc b ≡ b % 256 - 1
unfolding ref_argc
ref-local b h = rw (eq-eqb (b / 256) 0 h, ref_argc)

ref-other : (b : ℕ) → 0 < b / 256 → ref_argc b ≡ b % 256
unfolding ref_argc
ref-other b h = rw (ne_eqb (b / 256) 0 (λ e. omega arith), ref_argc)

ref-argc : (argc : ℕ) (v : Receiver) → argc < 256 → ref_argc (argc + 256 * receiver_kind v) ≡ ref_pops argc v
unfolding receiver_kind
ref-argc argc (Local slot) h = ref-local (argc + 256 * 0) (omega arith) ∙ ap (λ (n : ℕ). n - 1) (argc-alone argc 0 h)
ref-argc argc (Named i) h = ref-other (argc + 256 * 1) (omega arith) ∙ argc-alone argc 1 h
ref-argc argc This h = ref-other (argc + 256 * 2) (omega arith) ∙ argc-alone argc 2 h

-- the words of op tell its effect at place p, where the chains take what f says
abbrev Right : Context → (ℕ → ℕ) → ℕ → Op → Type 0
Right X f p op =
    (takes (kind_of op) (a_of op) (b_of op) (f (a_of op)) ≡ pops X op)
    × ((effect (kind_of op)).pushes ≡ pushes op)
    × ((effect (kind_of op)).keeps + kept (effect (kind_of op)).count (a_of op) + pops X op ≡ needs X op)
    × (flow_nexts X (effect (kind_of op)).flow (a_of op) p ≡ nexts X op p)
    × FlowNarrow X (effect (kind_of op)).flow (a_of op)

module _ (X : Context) (f : ℕ → ℕ) (chains : (i : ℕ) → i < length X.chains → f i ≡ chain_pops X i) where
  right : (p : ℕ) (op : Op) → Narrow X op → Right X f p op
  unfolding effect popped kept op_words
  right p (Const i) h = (refl, refl, refl, refl, tt)
  right p Unit h = (refl, refl, refl, refl, tt)
  right p (Bool t) h = (refl, refl, refl, refl, tt)
  right p (LoadLocal slot) h = (refl, refl, refl, refl, tt)
  right p (LoadNamed i) h = (refl, refl, refl, refl, tt)
  right p LoadThis h = (refl, refl, refl, refl, tt)
  right p Pop h = (refl, refl, refl, refl, tt)
  right p (Jump t) h = (refl, refl, refl, refl, tt)
  right p (JumpIfTrue t) h = (refl, refl, refl, refl, tt)
  right p (JumpIfFalse t) h = (refl, refl, refl, refl, tt)
  right p (SkipIfNotUnit t) h = (refl, refl, refl, refl, tt)
  right p (Call i argc op capture) h = (omega arith, refl, omega arith, refl, tt)
  right p (CallRef i argc v) h = (omega (arith, ref-argc argc v h), refl, omega arith, refl, tt)
  right p (Rotate n) h = (refl, refl, omega arith, refl, tt)
  right p (Switch i) h = (refl, refl, refl, refl, h)
  right p MakeFnPtr h = (refl, refl, refl, refl, tt)
  right p (CallFnPtr argc capture) h = (omega arith, refl, omega arith, refl, tt)
  right p InterpolateStart h = (refl, refl, refl, refl, tt)
  right p InterpolateAppend h = (refl, refl, refl, refl, tt)
  right p InterpolateEnd h = (refl, refl, refl, refl, tt)
  right p (MakeArray n) h = (omega arith, refl, omega arith, refl, tt)
  right p (CheckSize i) h = (refl, refl, refl, refl, tt)
  right p (Chain i) h = (omega (arith, chains i h), refl, omega arith, refl, tt)
  right p (EvalAst i) h = (refl, refl, refl, refl, tt)

-- a chain's operands, and one more for a root on the stack
takes_of : (root : Root) (first steps n : ℕ)
    → (get_or (root_words root ++ (first ∷ steps ∷ n ∷ [])) 5 0 ≡ n)
    × (on_root (get_or (root_words root ++ (first ∷ steps ∷ n ∷ [])) 0 0) ≡ on_stack root)
unfolding root_words on_stack
takes_of (RootIs.Local slot i) first steps n = (refl, refl)
takes_of (RootIs.Named i pos) first steps n = (refl, refl)
takes_of (RootIs.This pos) first steps n = (refl, refl)
takes_of Temporary first steps n = (refl, refl)

chain-takes : (r : Program) (i : ℕ) → i < length r.pools.chains → Run.chain_takes (words r) i ≡ chain_pops (context_of r) i
unfolding Run.chain_takes chain_words
chain-takes r i h =
    let c = get_or r.pools.chains i no_chain in
    let t = takes_of c.root c.first c.steps c.operands in
    let at-word = chain-word r no_chain i in
    ap (λ (n : ℕ). n + on_root (chain_word (words r) i 0)) (at-word 5 h (omega arith) ∙ t.0)
    ∙ ap (λ (n : ℕ). c.operands + n) (ap on_root (at-word 0 h (omega arith)) ∙ t.1)

-- the instruction at a place
abbrev pub op_at : Program → ℕ → Op
op_at r p = (get_or r.code p no_ins).op

module _ (r : Program) (p : ℕ) (h : p < length r.code) (narrow : Narrow (context_of r) (op_at r p)) where
  right-at : Right (context_of r) (Run.chain_takes (words r)) p (op_at r p)
  right-at = right (context_of r) (Run.chain_takes (words r)) (chain-takes r) p (op_at r p) narrow

  pub pops-are : Run.pops (words r) p ≡ pops (context_of r) (op_at r p)
  unfolding Run.pops
  pops-are = rw (kind-at r p h, a-at r p h, b-at r p h) right-at.0

  pub pushes-are : Run.pushes (words r) p ≡ pushes (op_at r p)
  unfolding Run.pushes
  pushes-are = ap (λ (k : ℕ). (effect k).pushes) (kind-at r p h) ∙ right-at.1

  pub needs-are : Run.needs (words r) p ≡ needs (context_of r) (op_at r p)
  unfolding Run.needs
  needs-are = rw (pops-are, kind-at r p h, a-at r p h) (omega (arith, right-at.2))

-- where a run goes from place p by an instruction of this flow with word a
abbrev pub goes : Flow → List ℕ → ℕ → ℕ → ℕ → ℕ
goes on w a way p = suc p
goes jump w a way p = a
goes branch w a way p = Run.branch_target way a p
goes table w a way p = Run.table_target w a way

goes-to : (flow : Flow) (w : List ℕ) (way p : ℕ) → Run.goes_to flow w way p ≡ goes flow w (a_at w p) way p
unfolding Run.goes_to
goes-to on w way p = add-one p
goes-to jump w way p = refl
goes-to branch w way p = refl
goes-to table w way p = refl

-- the next place, of a place where op stands
next-is : (r : Program) (p : ℕ) → p < length r.code → (op : Op) → op_at r p ≡ op → (way : ℕ)
    → Run.next (words r) way p ≡ goes (effect (kind_of op)).flow (words r) (a_of op) way p
unfolding Run.next
next-is r p h op e way =
    goes-to (effect (kind_at (words r) p)).flow (words r) way p
    ∙ ap (λ (k : ℕ). goes (effect k).flow (words r) (a_at (words r) p) way p) (kind-at r p h ∙ ap kind_of e)
    ∙ ap (λ (a : ℕ). goes (effect (kind_of op)).flow (words r) a way p) (a-at r p h ∙ ap a_of e)

-- a fact of all nexts holds where the run goes, and a fact of each place that it can go to holds of all nexts
module _ (r : Program) (F : TablesFit r) (p a : ℕ) (P : ℕ → Type 0) where
  flow-all : (flow : Flow) → FlowNarrow (context_of r) flow a → All P (flow_nexts (context_of r) flow a p) → (way : ℕ)
      → P (goes flow (words r) a way p)
  unfolding Run.branch_target
  flow-all on x h way = h.0
  flow-all jump x h way = h.0
  flow-all branch x h zero = subst P (sym (add-one p)) h.1.0
  flow-all branch x h (suc way) = h.0
  flow-all table x h way = table-all r F a x P h way

  all-flow : (flow : Flow) → FlowNarrow (context_of r) flow a → ((way : ℕ) → P (goes flow (words r) a way p))
      → All P (flow_nexts (context_of r) flow a p)
  unfolding Run.branch_target
  all-flow on x h = (h 0, tt)
  all-flow jump x h = (h 0, tt)
  all-flow branch x h = (h 1, (subst P (add-one p) (h 0), tt))
  all-flow table x h = all-table r F a x P h

module _ (r : Program) (F : TablesFit r) (p : ℕ) (h : p < length r.code) (narrow : Narrow (context_of r) (op_at r p)) where
  -- a fact of all nexts holds of the next place, whichever way the run goes
  pub next-all : (P : ℕ → Type 0) → All P (nexts (context_of r) (op_at r p) p) → (way : ℕ) → P (Run.next (words r) way p)
  next-all P k way =
      let g = right-at r p h narrow in
      let op = op_at r p in
      subst P (sym (next-is r p h op refl way))
      (flow-all r F p (a_of op) P (effect (kind_of op)).flow g.4 (subst (All P) (sym g.3) k) way)

  -- and a fact of the next place by each way holds of all nexts
  pub all-next : (P : ℕ → Type 0) → ((way : ℕ) → P (Run.next (words r) way p)) → All P (nexts (context_of r) (op_at r p) p)
  all-next P k =
      let g = right-at r p h narrow in
      let op = op_at r p in
      subst (All P) g.3
      (all-flow r F p (a_of op) P (effect (kind_of op)).flow g.4 (λ way. subst P (next-is r p h op refl way) (k way)))
