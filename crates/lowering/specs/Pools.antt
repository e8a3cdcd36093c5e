-- What the lowering carries along besides the code: the pools, the count of instructions emitted, and whether an `eval` was reached.
-- Nothing of this is taken back.
use Rattle.std.specs.Prelude.{ℕ, suc, ◌+◌, ◌-◌, Bool, true, false, ◌&&◌, List, [], ◌∷◌, ◌++◌, eqb, length, take, drop, replicate}
use Rattle.text.specs.Same.{same}
use Rattle.sheet.specs.Node.{kind, field_a, field_b}
use Rattle.sheet.specs.Text.{text}
use Rattle.sheet.specs.Namespace.{namespace}
use Rattle.bytecode.specs.declared.Root.{Root}
use Rattle.bytecode.specs.declared.Step.{Step}
use Rattle.bytecode.specs.declared.Chain.{Chain}
use Rattle.bytecode.specs.Chain.{root_words, step_words}
use Rattle.lowering.specs.Kinds.{string_kind}

-- a constant: node kind and fields a, b of the node that it was first met at
pub record Const : Type 0 where
  pub kind : ℕ
  pub a : ℕ
  pub b : ℕ

-- a name: text number, 1 if `!` is added, and its namespace: text number plus 1, or 0 for none
pub record Name : Type 0 where
  pub text : ℕ
  pub mark : ℕ
  pub namespace : ℕ

pub record Pools : Type 0 where
  pub consts : List Const
  pub names : List Name
  pub tokens : List ℕ
  pub residuals : List ℕ
  pub chains : List Chain
  pub steps : List Step
  pub emitted : ℕ
  pub defeated : Bool

abbrev pub pools : List Const → List Name → List ℕ → List ℕ → List Chain → List Step → ℕ → Bool → Pools
pools cs ns ts rs hs ss n f =
    record { consts = cs; names = ns; tokens = ts; residuals = rs; chains = hs; steps = ss; emitted = n; defeated = f }

unfoldable pub no_pools : Pools
no_pools = pools [] [] [] [] [] [] 0 false

-- the place of the first entry that passes a test, or the length
unfoldable pub first_where : {A : Type 0} → (A → Bool) → List A → ℕ
first_where test [] = 0
first_where test (x ∷ xs) = elim (test x) [ true ↦ 0 | false ↦ suc (first_where test xs) ]

-- x at the end, unless an entry passes the test
unfoldable pub added : {A : Type 0} → (A → Bool) → A → List A → List A
added test x xs = elim (eqb (first_where test xs) (length xs)) [ true ↦ xs ++ (x ∷ []) | false ↦ xs ]

-- n more instructions emitted
unfoldable pub emits : ℕ → Pools → Pools
emits n p =
    pools p.consts p.names p.tokens p.residuals p.chains p.steps (p.emitted + n) p.defeated

unfoldable pub defeat : Pools → Pools
defeat p =
    pools p.consts p.names p.tokens p.residuals p.chains p.steps p.emitted true

-- constants: equal by kind, and by bits or, for a String, by text bytes
abbrev pub const_of : List ℕ → ℕ → Const
const_of s j = record { kind = kind s j; a = field_a s j; b = field_b s j }

unfoldable pub same_const : List ℕ → Const → Const → Bool
same_const s x y =
    elim (eqb x.kind y.kind) [
      | true ↦
          elim (eqb x.kind string_kind) [
            | true ↦ same (text s x.a) (text s y.a)
            | false ↦ eqb x.a y.a && eqb x.b y.b
          ]
      | false ↦ false
    ]

unfoldable pub const_at : List ℕ → Const → Pools → ℕ
const_at s c p = first_where (same_const s c) p.consts

unfoldable pub push_const : List ℕ → Const → Pools → Pools
push_const s c p =
    pools (added (same_const s c) c p.consts) p.names p.tokens p.residuals p.chains p.steps p.emitted p.defeated

-- names: equal by whole bytes, the namespace with its separator `::` and `!` included
abbrev pub bang : ℕ
bang = 33

abbrev pub separator : List ℕ
separator = 58 ∷ 58 ∷ []

-- what a namespace (its text plus 1, or 0) puts before a name
unfoldable pub prefix : List ℕ → ℕ → List ℕ
prefix s w = elim (eqb w 0) [ true ↦ [] | false ↦ text s (w - 1) ++ separator ]

unfoldable pub name_bytes : List ℕ → Name → List ℕ
name_bytes s n = prefix s n.namespace ++ (text s n.text ++ replicate n.mark bang)

-- a name without a namespace
abbrev pub name : ℕ → ℕ → Name
name text mark = record { text = text; mark = mark; namespace = 0 }

-- the own name of node j, in its namespace if it has one
abbrev pub own_name : List ℕ → ℕ → ℕ → Name
own_name s j mark = record { text = field_a s j; mark = mark; namespace = namespace s j }

unfoldable pub same_name : List ℕ → Name → Name → Bool
same_name s x y = same (name_bytes s x) (name_bytes s y)

unfoldable pub name_at : List ℕ → Name → Pools → ℕ
name_at s n p = first_where (same_name s n) p.names

unfoldable pub push_name : List ℕ → Name → Pools → Pools
push_name s n p =
    pools p.consts (added (same_name s n) n p.names) p.tokens p.residuals p.chains p.steps p.emitted p.defeated

unfoldable pub token_at : ℕ → Pools → ℕ
token_at t p = first_where (eqb t) p.tokens

unfoldable pub push_token : ℕ → Pools → Pools
push_token t p =
    pools p.consts p.names (added (eqb t) t p.tokens) p.residuals p.chains p.steps p.emitted p.defeated

-- residuals are kept as they come
unfoldable pub push_residual : ℕ → Pools → Pools
push_residual j p =
    pools p.consts p.names p.tokens (p.residuals ++ (j ∷ [])) p.chains p.steps p.emitted p.defeated

-- a chain's steps, as a part of all
unfoldable pub steps_of : Pools → Chain → List Step
steps_of p c = take c.steps (drop c.first p.steps)

unfoldable pub steps_words : List Step → List ℕ
steps_words [] = []
steps_words (x ∷ xs) = step_words x ++ steps_words xs

-- chains: equal by root, steps and operands
unfoldable pub same_chain : Pools → Root → List Step → ℕ → Chain → Bool
same_chain p root steps operands c =
    same (root_words root) (root_words c.root)
    && eqb operands c.operands
    && same (steps_words steps) (steps_words (steps_of p c))

unfoldable pub chain_at : Root → List Step → ℕ → Pools → ℕ
chain_at root steps operands p = first_where (same_chain p root steps operands) p.chains

unfoldable pub new_chain : Root → List Step → ℕ → Pools → Pools
new_chain root steps operands p =
    let c : Chain = record { root = root; first = length p.steps; steps = length steps; operands = operands } in
    pools p.consts p.names p.tokens p.residuals (p.chains ++ (c ∷ [])) (p.steps ++ steps) p.emitted p.defeated

unfoldable pub push_chain : Root → List Step → ℕ → Pools → Pools
push_chain root steps operands p =
    elim (eqb (chain_at root steps operands p) (length p.chains)) [ true ↦ new_chain root steps operands p | false ↦ p ]
