-- What is shown of every construct, so that the lowered program is listed right: from good pools it makes good pools, drops nothing, and
-- its instructions name entries that are there. It composes as the code does.
use Prim.Native.Nat.{ℕ, ◌+◌, ◌≤◌, ◌<◌}
use mathlib.Core.Path.{◌≡◌, refl, sym, ap, ◌∙◌, subst}
use mathlib.Core.Bool as Truth
use mathlib.Core.Bool.{true, false}
use mathlib.Core.List.{List, [], ◌∷◌, ◌++◌}
use native.Mathlib.Omega.{arith}
use borrow.Author.Tests.{eqb-true, eqb-false}
use lib.Dec.{eqb}
use lib.ListN.{length, get_or, length-append}
use Rattle.lowering.proofs.FirstLaws.{first-within, added_new, added-old}
use Rattle.bytecode.specs.declared.Receiver.{Receiver}
use Rattle.bytecode.specs.declared.Receiver.TheVariants as Receivers
use Rattle.bytecode.specs.declared.Root.{Root}
use Rattle.bytecode.specs.declared.Root.TheVariants as Roots
use Rattle.bytecode.specs.declared.Step.{Step}
use Rattle.bytecode.specs.declared.Step.TheVariants.{Index, Property, Method}
use Rattle.bytecode.specs.declared.Op.{Op}
use Rattle.bytecode.specs.declared.Op.TheVariants.{Const, Unit, Bool, LoadLocal, LoadNamed, LoadThis, Pop, Jump, JumpIfTrue, JumpIfFalse}
use Rattle.bytecode.specs.declared.Op.TheVariants.{SkipIfNotUnit, Call, CallRef, Rotate, Switch, MakeFnPtr, CallFnPtr, InterpolateStart}
use Rattle.bytecode.specs.declared.Op.TheVariants.{InterpolateAppend, InterpolateEnd, MakeArray, CheckSize, Chain, EvalAst}
use Rattle.lowering.specs.Code.{Ins, Code, ins}
use Rattle.lowering.specs.Pools.{Pools, first_where, added, emits}
use Rattle.lowering.specs.Out.{Out, Rec, and_then, emit_at}
use Rattle.lowering.specs.Nodes.{Valid}
use Rattle.image_made.proofs.Listed.{counts_for, ReceiverOk, OpOk, RootOk, StepOk, StepIn, no_step, ChainOk, AllIn, PoolsOk, CodeOk}

-- ---- facts of all entries

pub all_append : {A : Type 0} (P : A → Type 0) (xs ys : List A) → AllIn P xs → AllIn P ys → AllIn P (xs ++ ys)
all_append P [] ys h g = g
all_append P (x ∷ xs) ys h g = (h.0, all_append P xs ys h.1 g)

pub all_left : {A : Type 0} (P : A → Type 0) (xs ys : List A) → AllIn P (xs ++ ys) → AllIn P xs
all_left P [] ys h = tt
all_left P (x ∷ xs) ys h = (h.0, all_left P xs ys h.1)

pub all-right : {A : Type 0} (P : A → Type 0) (xs ys : List A) → AllIn P (xs ++ ys) → AllIn P ys
all-right P [] ys h = h
all-right P (x ∷ xs) ys h = all-right P xs ys h.1

pub all_more : {A : Type 0} (P : A → Type 0) (xs : List A) (x : A) → AllIn P xs → P x → AllIn P (xs ++ (x ∷ []))
all_more P xs x h g = all_append P xs (x ∷ []) h (g, tt)

pub all_map : {A : Type 0} (P Q : A → Type 0) (xs : List A) → ((x : A) → P x → Q x) → AllIn P xs → AllIn Q xs
all_map P Q [] f h = tt
all_map P Q (x ∷ xs) f h = (f x h.0, all_map P Q xs f h.1)

-- ---- pools only grow, and what names an entry stays right

-- q has at least the entries of p
pub record More (p q : Pools) : Type 0 where
  pub consts : length p.consts ≤ length q.consts
  pub names : length p.names ≤ length q.names
  pub tokens : length p.tokens ≤ length q.tokens
  pub residuals : length p.residuals ≤ length q.residuals
  pub chains : length p.chains ≤ length q.chains

pub more-refl : (p : Pools) → More p p
more-refl p = omega arith

pub more-trans : {p q r : Pools} → More p q → More q r → More p r
more-trans {p} {q} {r} g h = record {
  consts = omega (arith, g.consts, h.consts);
  names = omega (arith, g.names, h.names);
  tokens = omega (arith, g.tokens, h.tokens);
  residuals = omega (arith, g.residuals, h.residuals);
  chains = omega (arith, g.chains, h.chains);
}

module _ (s : List ℕ) (T : ℕ) (p q : Pools) (m : More p q) where
  -- what names an entry of p names one of q
  pub receiver-more : (r : Receiver) → ReceiverOk (counts_for s T p) r → ReceiverOk (counts_for s T q) r
  receiver-more (Receivers.Local slot) h = h
  receiver-more (Receivers.Named i) h = omega (arith, m.names, h)
  receiver-more Receivers.This h = h

  op-more : (op : Op) → OpOk (counts_for s T p) op → OpOk (counts_for s T q) op
  op-more (Const i) h = omega (arith, m.consts, h)
  op-more Unit h = h
  op-more (Bool t) h = h
  op-more (LoadLocal slot) h = h
  op-more (LoadNamed i) h = omega (arith, m.names, h)
  op-more LoadThis h = h
  op-more Pop h = h
  op-more (Jump t) h = h
  op-more (JumpIfTrue t) h = h
  op-more (JumpIfFalse t) h = h
  op-more (SkipIfNotUnit t) h = h
  op-more (Call i argc op capture) h = (omega (arith, m.names, h.0), h.1, h.2, omega (arith, m.tokens, h.3))
  op-more (CallRef i argc r) h = (omega (arith, m.names, h.0), h.1, h.2, receiver-more r h.3)
  op-more (Rotate n) h = h
  op-more (Switch i) h = h
  op-more MakeFnPtr h = h
  op-more (CallFnPtr argc capture) h = h
  op-more InterpolateStart h = h
  op-more InterpolateAppend h = h
  op-more InterpolateEnd h = h
  op-more (MakeArray n) h = h
  op-more (CheckSize i) h = h
  op-more (Chain i) h = omega (arith, m.chains, h)
  op-more (EvalAst i) h = omega (arith, m.residuals, h)

  pub code-more : (c : Code) → CodeOk s T p c → CodeOk s T q c
  code-more c h =
      all_map (λ (i : Ins). OpOk (counts_for s T p) i.op) (λ (i : Ins). OpOk (counts_for s T q) i.op) c (λ i g. op-more i.op g) h

module _ (m n : ℕ) (h : m ≤ n) where
  pub root-more : (s : List ℕ) (r : Root) → RootOk s m r → RootOk s n r
  root-more s (Roots.Local slot i) g = (g.0, omega (arith, g.1))
  root-more s (Roots.Named i pos) g = omega arith
  root-more s (Roots.This pos) g = g
  root-more s Roots.Temporary g = g

  pub step-more : (t : Step) → StepOk m t → StepOk n t
  step-more (Index operand flags pos bracket) g = g
  step-more (Property i getter setter flags pos) g = (omega (arith, g.0), omega (arith, g.1), omega (arith, g.2), g.3)
  step-more (Method i argc operand flags pos) g = (omega (arith, g.0), g.1, g.2)

  pub steps-more : (xs : List Step) → AllIn (StepOk m) xs → AllIn (StepOk n) xs
  steps-more xs g = all_map (StepOk m) (StepOk n) xs step-more g

-- chains stay right where the steps are the same
pub chains-more : (s : List ℕ) (p q : Pools) → length p.names ≤ length q.names → p.steps ≡ q.steps
    → AllIn (ChainOk s p) p.chains → AllIn (ChainOk s q) p.chains
chains-more s p q m e h =
    all_map (ChainOk s p) (ChainOk s q) p.chains
    (λ c k. record {
      root = root-more (length p.names) (length q.names) m s c.root k.root;
      run = subst (λ (xs : List Step). c.first + c.steps ≤ length xs) e k.run;
      few = k.few;
      inside = λ i b. subst (λ (xs : List Step). StepIn c.operands (get_or xs (c.first + i) no_step)) e (k.inside i b);
    }) h

-- ---- code c from pools p to pools q

-- from good pools: good pools, none dropped, and code that names what is there
pub record Gives (s : List ℕ) (T : ℕ) (p : Pools) (c : Code) (q : Pools) : Type 0 where
  pub good : PoolsOk s q
  pub more : More p q
  pub code : CodeOk s T q c

-- the same of what a construct gives
abbrev pub GivesOut : List ℕ → ℕ → Pools → Out → Type 0
GivesOut s T p o = Gives s T p o.code o.pools

-- the lowering of every node of the sheet
pub record GivesAll (s : List ℕ) (T : ℕ) (rec : Rec) : Type 0 where
  pub gives : (j b d : ℕ) (p : Pools) → Valid s j → PoolsOk s p → GivesOut s T p (rec j b d p)

-- to count instructions changes no pool
good-emits : {s : List ℕ} {p : Pools} (n : ℕ) → PoolsOk s p → PoolsOk s (emits n p)
unfolding emits
good-emits {s} {p} n g = record {
  consts = g.consts;
  names = g.names;
  tokens = g.tokens;
  residuals = g.residuals;
  chains = chains-more s p (emits n p) (omega arith) refl g.chains;
  steps = g.steps;
}

module _ {s : List ℕ} {T : ℕ} where
  -- no code
  pub gives_none : {p : Pools} → PoolsOk s p → Gives s T p [] p
  gives_none {p} g = record { good = g; more = more-refl p; code = tt }

  -- code behind code
  pub gives-seq : {p q r : Pools} {c c' : Code} → Gives s T p c q → Gives s T q c' r → Gives s T p (c ++ c') r
  gives-seq {p} {q} {r} {c} {c'} g h = record {
    good = h.good;
    more = more-trans g.more h.more;
    code = all_append (λ (i : Ins). OpOk (counts_for s T r) i.op) c c' (code-more s T q r h.more c g.code) h.code;
  }

  -- pools that are made behind code
  pub gives-behind : {p q r : Pools} {c : Code} → Gives s T p c q → Gives s T q [] r → Gives s T p c r
  gives-behind {p} {q} {r} {c} g h =
      record { good = h.good; more = more-trans g.more h.more; code = code-more s T q r h.more c g.code }

  -- other code, where pools stay as they are
  pub gives-code : {p q : Pools} {c c' : Code} → Gives s T p c q → (CodeOk s T q c → CodeOk s T q c') → Gives s T p c' q
  gives-code g f = record { good = g.good; more = g.more; code = f g.code }

  -- one instruction
  gives_one : {p : Pools} (i : Ins) → PoolsOk s p → OpOk (counts_for s T p) i.op → Gives s T p (i ∷ []) p
  gives_one {p} i g h = record { good = g; more = more-refl p; code = (h, tt) }

  -- n instructions are counted
  pub gives-emits : {p q : Pools} {c : Code} (n : ℕ) → Gives s T p c q → Gives s T p c (emits n q)
  unfolding emits
  gives-emits {p} {q} {c} n g = record {
    good = good-emits n g.good;
    more = record {
      consts = g.more.consts;
      names = g.more.names;
      tokens = g.more.tokens;
      residuals = g.more.residuals;
      chains = g.more.chains;
    };
    code = g.code;
  }

  -- one instruction that is emitted; behind code; behind pools that were made for it
  pub gives-ins : {p : Pools} (i : Ins) → PoolsOk s p → OpOk (counts_for s T p) i.op → Gives s T p (i ∷ []) (emits 1 p)
  gives-ins i g h = gives-emits 1 (gives_one i g h)

  pub gives_then : {p : Pools} (o : Out) (i : Ins) → GivesOut s T p o → OpOk (counts_for s T o.pools) i.op
      → GivesOut s T p (and_then o (i ∷ []))
  unfolding and_then
  gives_then o i g h = gives-seq g (gives-ins i g.good h)

  pub gives_at : {p q : Pools} (op : Op) (pos d : ℕ) → Gives s T p [] q → OpOk (counts_for s T q) op → GivesOut s T p (emit_at op pos d q)
  unfolding emit_at
  gives_at op pos d g h = gives-seq g (gives-ins (ins op d pos) g.good h)

-- ---- an entry that is looked for is there after it is added

-- x is looked for by a test and added where it is not found
pub record Added {A : Type 0} (P : A → Type 0) (test : A → Truth.Bool) (x : A) (xs : List A) : Type 0 where
  pub good : AllIn P (added test x xs)
  pub more : length xs ≤ length (added test x xs)
  pub there : first_where test xs < length (added test x xs)

pub added-right : {A : Type 0} (P : A → Type 0) (test : A → Truth.Bool) (x : A) (xs : List A) → AllIn P xs → P x → Added P test x xs
added-right P test x xs h g = by (eqb (first_where test xs) (length xs)) refl
  where
    by : (b : Truth.Bool) → eqb (first_where test xs) (length xs) ≡ b → Added P test x xs
    by true e =
        let q = added_new test x xs e in
        let l : length (added test x xs) ≡ length xs + 1 = ap length q ∙ length-append xs (x ∷ []) in
        record {
          good = subst (AllIn P) (sym q) (all_more P xs x h g);
          more = omega arith;
          there = omega (arith, eqb-true (first_where test xs) (length xs) e);
        }
    by false e =
        let q = added-old test x xs e in
        let l : length (added test x xs) ≡ length xs = ap length q in
        let n : first_where test xs ≡ length xs → ⊥ = eqb-false (first_where test xs) (length xs) e in
        record {
          good = subst (AllIn P) (sym q) h;
          more = omega arith;
          there = omega (arith, first-within test xs, n);
        }
