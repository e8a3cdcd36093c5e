-- Worked rows of names with namespaces, as one table with one theorem. The answers are worked out by hand from documents 01 and 02.
use Rattle.std.specs.Prelude.{ℕ, List, [], ◌∷◌, ◌++◌, map}
use Rattle.refusals.specs.declared.Refusal.TheVariants.{Size, Shape, Number, Unsupported, Eval}
use Rattle.bytecode.specs.declared.Receiver.TheVariants.{Local, Named, This}
use Rattle.bytecode.specs.declared.Op.{Op}
use Rattle.bytecode.specs.declared.Op.TheVariants.{Const, Bool, LoadLocal, LoadNamed, LoadThis, Pop, Jump, JumpIfFalse, SkipIfNotUnit}
use Rattle.bytecode.specs.declared.Op.TheVariants.{Call, CallRef, MakeFnPtr, InterpolateStart, InterpolateAppend, InterpolateEnd}
use Rattle.bytecode.specs.declared.Op.TheVariants.{MakeArray, CheckSize, Chain, EvalAst}
use Rattle.bytecode.specs.Op.{four}
use Rattle.lowering.specs.Code.{Ins}
use Rattle.lowering.specs.MakeSheet.{Sheet, node, node_in, sheet}
use Rattle.lowering.specs.Outcome.{Outcome, refused, image, lower}
use Rattle.lowering.specs.Compute.{answer}
use Rattle.lowering.specs.Rows.{at_line, listed}

-- a sheet with its instructions and its image, or with its refusal; with buffers of 16,384 words
pub data Row : Type 0 where
  lowers : Sheet → List Op → Outcome → Row
  refuses : Sheet → Outcome → Row

-- ---- texts

abbrev pub m : List ℕ
m = 109 ∷ []

abbrev pub g : List ℕ
g = 103 ∷ []

abbrev pub v : List ℕ
v = 118 ∷ []

abbrev pub x : List ℕ
x = 120 ∷ []

abbrev pub fn : List ℕ
fn = 70 ∷ 110 ∷ []

abbrev pub call : List ℕ
call = 99 ∷ 97 ∷ 108 ∷ 108 ∷ []

abbrev pub curry : List ℕ
curry = 99 ∷ 117 ∷ 114 ∷ 114 ∷ 121 ∷ []

abbrev pub eval : List ℕ
eval = 101 ∷ 118 ∷ 97 ∷ 108 ∷ []

-- ---- variables

-- m::x, with these locals: never a local, at the namespace's position, whatever its own is
unfoldable pub variable : ℕ → List ℕ → Row
variable p locals =
    lowers
    (record { nodes = node_in 9 1 0 1 0 0 1 (at_line 1 1) ∷ []; positions = p ∷ []; texts = m ∷ x ∷ []; locals = locals })
    (LoadNamed 0 ∷ [])
    (image
    (listed (1 ∷ 0 ∷ 1 ∷ 0 ∷ 0 ∷ 0 ∷ 0 ∷ 0 ∷ 0 ∷ 0 ∷ 1 ∷ 1 ∷ []) (four 5 0 0 0) (at_line 1 1 ∷ []) (1 ∷ 0 ∷ 1 ∷ [])))

-- a namespace without bytes, x local 0: the local
unfoldable pub empty_local : Row
empty_local =
    lowers
    (record {
      nodes = node_in 9 1 0 1 0 0 1 (at_line 1 1) ∷ [];
      positions = at_line 1 4 ∷ [];
      texts = [] ∷ x ∷ [];
      locals = 1 ∷ [];
    })
    (LoadLocal 0 ∷ [])
    (image (listed (1 ∷ 0 ∷ 0 ∷ 0 ∷ 0 ∷ 0 ∷ 0 ∷ 0 ∷ 0 ∷ 0 ∷ 1 ∷ 1 ∷ []) (four 4 0 0 0) (0 ∷ []) []))

-- the same, no local: a name without a namespace, at its own position
unfoldable pub empty_named : Row
empty_named =
    lowers
    (record {
      nodes = node_in 9 1 0 1 0 0 1 (at_line 1 1) ∷ [];
      positions = at_line 1 4 ∷ [];
      texts = [] ∷ x ∷ [];
      locals = [];
    })
    (LoadNamed 0 ∷ [])
    (image
    (listed (1 ∷ 0 ∷ 1 ∷ 0 ∷ 0 ∷ 0 ∷ 0 ∷ 0 ∷ 0 ∷ 0 ∷ 1 ∷ 1 ∷ []) (four 5 0 0 0) (at_line 1 4 ∷ []) (1 ∷ 0 ∷ 0 ∷ [])))

-- And of m::x: its value is tested at its own position
unfoldable pub and_variable : Row
and_variable =
    lowers
    (record {
      nodes = node 16 2 1 0 0 0 ∷ node_in 9 1 0 1 0 0 1 (at_line 1 1) ∷ [];
      positions = at_line 1 5 ∷ at_line 1 4 ∷ [];
      texts = m ∷ x ∷ [];
      locals = [];
    })
    (LoadNamed 0 ∷ JumpIfFalse 4 ∷ Bool 1 ∷ Jump 5 ∷ Bool 0 ∷ [])
    (image
    (listed (5 ∷ 0 ∷ 1 ∷ 0 ∷ 0 ∷ 0 ∷ 0 ∷ 0 ∷ 0 ∷ 0 ∷ 5 ∷ 1 ∷ [])
    (four 5 0 0 0 ++ four 10 4 0 0 ++ four 3 1 0 0 ++ four 8 5 0 0 ++ four 3 0 0 0)
    (at_line 1 1 ∷ at_line 1 4 ∷ 0 ∷ 0 ∷ 0 ∷ [])
    (1 ∷ 0 ∷ 1 ∷ [])))

-- Coalesce of m::x and 1: tested and taken off at its own position
unfoldable pub coalesce_variable : Row
coalesce_variable =
    lowers
    (record {
      nodes = node 18 3 2 0 0 0 ∷ node_in 9 1 0 1 0 0 1 (at_line 1 1) ∷ node 3 1 0 1 0 0 ∷ [];
      positions = at_line 1 6 ∷ at_line 1 4 ∷ at_line 1 9 ∷ [];
      texts = m ∷ x ∷ [];
      locals = [];
    })
    (LoadNamed 0 ∷ SkipIfNotUnit 4 ∷ Pop ∷ Const 0 ∷ [])
    (image
    (listed (4 ∷ 1 ∷ 1 ∷ 0 ∷ 0 ∷ 0 ∷ 0 ∷ 0 ∷ 0 ∷ 0 ∷ 4 ∷ 1 ∷ [])
    (four 5 0 0 0 ++ four 11 4 0 0 ++ four 7 0 0 0 ++ four 1 0 0 0)
    (at_line 1 1 ∷ at_line 1 4 ∷ at_line 1 4 ∷ 0 ∷ [])
    (3 ∷ 1 ∷ 0 ∷ 1 ∷ 0 ∷ 1 ∷ [])))

-- Interpolated of m::x: appended at its own position
unfoldable pub interpolated_variable : Row
interpolated_variable =
    lowers
    (record {
      nodes = node 7 2 1 0 0 0 ∷ node_in 9 1 0 1 0 0 1 (at_line 1 4) ∷ [];
      positions = at_line 1 1 ∷ at_line 1 7 ∷ [];
      texts = m ∷ x ∷ [];
      locals = [];
    })
    (InterpolateStart ∷ LoadNamed 0 ∷ InterpolateAppend ∷ InterpolateEnd ∷ [])
    (image
    (listed (4 ∷ 0 ∷ 1 ∷ 0 ∷ 0 ∷ 0 ∷ 0 ∷ 0 ∷ 0 ∷ 0 ∷ 4 ∷ 2 ∷ [])
    (four 18 0 0 0 ++ four 5 0 0 0 ++ four 19 0 0 0 ++ four 20 0 0 0)
    (0 ∷ at_line 1 4 ∷ at_line 1 7 ∷ 0 ∷ [])
    (1 ∷ 0 ∷ 1 ∷ [])))

-- m::x.p, x local 0: the root is a value, loaded after the property's names, and the chain takes it off
unfoldable pub chain_root : Row
chain_root =
    lowers
    (record {
      nodes = node 14 3 2 0 0 0 ∷ node_in 9 1 0 1 0 0 1 (at_line 1 1) ∷ node 11 1 0 2 3 4 ∷ [];
      positions = at_line 1 5 ∷ at_line 1 4 ∷ at_line 1 6 ∷ [];
      texts = m ∷ x ∷ (112 ∷ []) ∷ g ∷ (115 ∷ []) ∷ [];
      locals = 1 ∷ [];
    })
    (LoadNamed 3 ∷ Chain 0 ∷ [])
    (image
    (listed (2 ∷ 0 ∷ 4 ∷ 0 ∷ 0 ∷ 1 ∷ 1 ∷ 0 ∷ 0 ∷ 0 ∷ 2 ∷ 1 ∷ [])
    (four 5 3 0 0 ++ four 23 0 0 0)
    (at_line 1 1 ∷ at_line 1 5 ∷ [])
    ((2 ∷ 0 ∷ 0 ∷ 3 ∷ 0 ∷ 0 ∷ 4 ∷ 0 ∷ 0 ∷ 1 ∷ 0 ∷ 1 ∷ [])
    ++ (3 ∷ 0 ∷ 0 ∷ 0 ∷ 1 ∷ 0 ∷ [])
    ++ (1 ∷ 0 ∷ 1 ∷ 2 ∷ 0 ∷ at_line 1 6 ∷ []))))

-- v[m::x], v local 0: the step is at the namespace's position
unfoldable pub index_variable : Row
index_variable =
    lowers
    (record {
      nodes = node 15 3 2 0 0 0 ∷ node 9 1 0 2 0 0 ∷ node_in 9 1 0 1 0 0 1 (at_line 1 3) ∷ [];
      positions = at_line 1 2 ∷ at_line 1 1 ∷ at_line 1 6 ∷ [];
      texts = m ∷ x ∷ v ∷ [];
      locals = 2 ∷ [];
    })
    (LoadNamed 1 ∷ Chain 0 ∷ [])
    (image
    (listed (2 ∷ 0 ∷ 2 ∷ 0 ∷ 0 ∷ 1 ∷ 1 ∷ 0 ∷ 0 ∷ 0 ∷ 2 ∷ 1 ∷ [])
    (four 5 1 0 0 ++ four 23 0 0 0)
    (at_line 1 3 ∷ at_line 1 2 ∷ [])
    ((2 ∷ 0 ∷ 0 ∷ 1 ∷ 0 ∷ 1 ∷ []) ++ (0 ∷ 0 ∷ 0 ∷ 0 ∷ 1 ∷ 1 ∷ []) ++ (0 ∷ 0 ∷ 0 ∷ at_line 1 3 ∷ at_line 1 2 ∷ 0 ∷ []))))

-- v[m::g()]: the step is at the call's own position
unfoldable pub index_call : Row
index_call =
    lowers
    (record {
      nodes = node 15 3 2 0 0 0 ∷ node 9 1 0 2 0 0 ∷ node_in 13 1 0 1 0 0 1 (at_line 1 3) ∷ [];
      positions = at_line 1 2 ∷ at_line 1 1 ∷ at_line 1 6 ∷ [];
      texts = m ∷ g ∷ v ∷ [];
      locals = 2 ∷ [];
    })
    (Call 1 0 0 0 ∷ Chain 0 ∷ [])
    (image
    (listed (2 ∷ 0 ∷ 2 ∷ 0 ∷ 0 ∷ 1 ∷ 1 ∷ 0 ∷ 0 ∷ 0 ∷ 2 ∷ 1 ∷ [])
    (four 12 1 0 0 ++ four 23 0 0 0)
    (at_line 1 6 ∷ at_line 1 2 ∷ [])
    ((2 ∷ 0 ∷ 0 ∷ 1 ∷ 0 ∷ 1 ∷ []) ++ (0 ∷ 0 ∷ 0 ∷ 0 ∷ 1 ∷ 1 ∷ []) ++ (0 ∷ 0 ∷ 0 ∷ at_line 1 6 ∷ at_line 1 2 ∷ 0 ∷ []))))

-- ---- calls with a receiver

-- m::g(v), v local 0
unfoldable pub call_local : Row
call_local =
    lowers
    (record {
      nodes = node_in 13 2 1 1 0 0 1 (at_line 1 1) ∷ node 9 1 0 2 0 0 ∷ [];
      positions = at_line 1 4 ∷ at_line 1 6 ∷ [];
      texts = m ∷ g ∷ v ∷ [];
      locals = 2 ∷ [];
    })
    (CallRef 0 1 (Local 0) ∷ [])
    (image
    (listed (1 ∷ 0 ∷ 1 ∷ 0 ∷ 0 ∷ 0 ∷ 0 ∷ 0 ∷ 0 ∷ 0 ∷ 1 ∷ 1 ∷ []) (four 13 0 1 0) (at_line 1 4 ∷ []) (1 ∷ 0 ∷ 1 ∷ [])))

-- m::g(v, m::v), v local 0: the call's name before its arguments'
unfoldable pub call_first : Row
call_first =
    lowers
    (record {
      nodes = node_in 13 3 2 1 0 0 1 (at_line 1 1) ∷ node 9 1 0 2 0 0 ∷ node_in 9 1 0 2 0 0 1 (at_line 1 9) ∷ [];
      positions = at_line 1 4 ∷ at_line 1 6 ∷ at_line 1 12 ∷ [];
      texts = m ∷ g ∷ v ∷ [];
      locals = 2 ∷ [];
    })
    (LoadNamed 1 ∷ CallRef 0 2 (Local 0) ∷ [])
    (image
    (listed (2 ∷ 0 ∷ 2 ∷ 0 ∷ 0 ∷ 0 ∷ 0 ∷ 0 ∷ 0 ∷ 0 ∷ 2 ∷ 1 ∷ [])
    (four 5 1 0 0 ++ four 13 0 2 0)
    (at_line 1 9 ∷ at_line 1 4 ∷ [])
    (1 ∷ 0 ∷ 1 ∷ 2 ∷ 0 ∷ 1 ∷ [])))

-- m::g(v, 1), no local: v is loaded first and not moved; the names of m::g and then v; depth 2
unfoldable pub call_named : Row
call_named =
    lowers
    (record {
      nodes = node_in 13 3 2 1 0 0 1 (at_line 1 1) ∷ node 9 1 0 2 0 0 ∷ node 3 1 0 1 0 0 ∷ [];
      positions = at_line 1 4 ∷ at_line 1 6 ∷ at_line 1 9 ∷ [];
      texts = m ∷ g ∷ v ∷ [];
      locals = [];
    })
    (LoadNamed 1 ∷ Const 0 ∷ CallRef 0 2 (Named 1) ∷ [])
    (image
    (listed (3 ∷ 1 ∷ 2 ∷ 0 ∷ 0 ∷ 0 ∷ 0 ∷ 0 ∷ 0 ∷ 0 ∷ 3 ∷ 2 ∷ [])
    (four 5 1 0 0 ++ four 1 0 0 0 ++ four 13 0 258 1)
    (at_line 1 6 ∷ 0 ∷ at_line 1 4 ∷ [])
    (3 ∷ 1 ∷ 0 ∷ 1 ∷ 0 ∷ 1 ∷ 2 ∷ 0 ∷ 0 ∷ [])))

-- m::g(this)
unfoldable pub call_this : Row
call_this =
    lowers
    (record {
      nodes = node_in 13 2 1 1 0 0 1 (at_line 1 1) ∷ node 10 1 0 0 0 0 ∷ [];
      positions = at_line 1 4 ∷ at_line 1 6 ∷ [];
      texts = m ∷ g ∷ [];
      locals = [];
    })
    (LoadThis ∷ CallRef 0 1 This ∷ [])
    (image
    (listed (2 ∷ 0 ∷ 1 ∷ 0 ∷ 0 ∷ 0 ∷ 0 ∷ 0 ∷ 0 ∷ 0 ∷ 2 ∷ 1 ∷ [])
    (four 6 0 0 0 ++ four 13 0 513 0)
    (at_line 1 6 ∷ at_line 1 4 ∷ [])
    (1 ∷ 0 ∷ 1 ∷ [])))

-- ---- calls without a receiver

-- m::g(1) with operator 5 and capture: `!`, the capture mark, no token
unfoldable pub call_marked : Row
call_marked =
    lowers
    (record {
      nodes = node_in 13 2 1 1 1 5 1 (at_line 1 1) ∷ node 3 1 0 1 0 0 ∷ [];
      positions = at_line 1 4 ∷ at_line 1 6 ∷ [];
      texts = m ∷ g ∷ [];
      locals = [];
    })
    (Const 0 ∷ Call 0 1 0 1 ∷ [])
    (image
    (listed (2 ∷ 1 ∷ 1 ∷ 0 ∷ 0 ∷ 0 ∷ 0 ∷ 0 ∷ 0 ∷ 0 ∷ 2 ∷ 1 ∷ [])
    (four 1 0 0 0 ++ four 12 0 257 0)
    (0 ∷ at_line 1 4 ∷ [])
    (3 ∷ 1 ∷ 0 ∷ 1 ∷ 1 ∷ 1 ∷ [])))

-- m::g(v) with operator 5, v local 0: no receiver, no token
unfoldable pub call_operator : Row
call_operator =
    lowers
    (record {
      nodes = node_in 13 2 1 1 0 5 1 (at_line 1 1) ∷ node 9 1 0 2 0 0 ∷ [];
      positions = at_line 1 4 ∷ at_line 1 6 ∷ [];
      texts = m ∷ g ∷ v ∷ [];
      locals = 2 ∷ [];
    })
    (LoadLocal 0 ∷ Call 0 1 0 0 ∷ [])
    (image
    (listed (2 ∷ 0 ∷ 1 ∷ 0 ∷ 0 ∷ 0 ∷ 0 ∷ 0 ∷ 0 ∷ 0 ∷ 2 ∷ 1 ∷ [])
    (four 4 0 0 0 ++ four 12 0 1 0)
    (0 ∷ at_line 1 4 ∷ [])
    (1 ∷ 0 ∷ 1 ∷ [])))

-- g(m::x), x local 0: m::x is no receiver; the name of g last
unfoldable pub plain_call : Row
plain_call =
    lowers
    (record {
      nodes = node 13 2 1 2 0 0 ∷ node_in 9 1 0 1 0 0 1 (at_line 1 3) ∷ [];
      positions = at_line 1 1 ∷ at_line 1 6 ∷ [];
      texts = m ∷ x ∷ g ∷ [];
      locals = 1 ∷ [];
    })
    (LoadNamed 0 ∷ Call 1 1 0 0 ∷ [])
    (image
    (listed (2 ∷ 0 ∷ 2 ∷ 0 ∷ 0 ∷ 0 ∷ 0 ∷ 0 ∷ 0 ∷ 0 ∷ 2 ∷ 1 ∷ [])
    (four 5 0 0 0 ++ four 12 1 1 0)
    (at_line 1 3 ∷ at_line 1 1 ∷ [])
    (1 ∷ 0 ∷ 1 ∷ 2 ∷ 0 ∷ 0 ∷ [])))

-- m::g(m::x): the same, the name of m::g first
unfoldable pub value_call : Row
value_call =
    lowers
    (record {
      nodes = node_in 13 2 1 2 0 0 1 (at_line 1 1) ∷ node_in 9 1 0 1 0 0 1 (at_line 1 6) ∷ [];
      positions = at_line 1 4 ∷ at_line 1 9 ∷ [];
      texts = m ∷ x ∷ g ∷ [];
      locals = 1 ∷ [];
    })
    (LoadNamed 1 ∷ Call 0 1 0 0 ∷ [])
    (image
    (listed (2 ∷ 0 ∷ 2 ∷ 0 ∷ 0 ∷ 0 ∷ 0 ∷ 0 ∷ 0 ∷ 0 ∷ 2 ∷ 1 ∷ [])
    (four 5 1 0 0 ++ four 12 0 1 0)
    (at_line 1 6 ∷ at_line 1 4 ∷ [])
    (2 ∷ 0 ∷ 1 ∷ 1 ∷ 0 ∷ 1 ∷ [])))

-- ---- keywords

-- m::k(1) for a keyword k: kept as it is, the argument not lowered
unfoldable pub kept : List ℕ → Row
kept k =
    lowers
    (record {
      nodes = node_in 13 2 1 1 0 0 1 (at_line 1 1) ∷ node 3 1 0 1 0 0 ∷ [];
      positions = at_line 1 4 ∷ at_line 1 9 ∷ [];
      texts = m ∷ k ∷ [];
      locals = [];
    })
    (EvalAst 0 ∷ [])
    (image (listed (1 ∷ 0 ∷ 0 ∷ 0 ∷ 1 ∷ 0 ∷ 0 ∷ 0 ∷ 0 ∷ 0 ∷ 1 ∷ 1 ∷ []) (four 24 0 0 0) (0 ∷ []) (0 ∷ [])))

-- Fn(m::x): made at the own position of m::x
unfoldable pub fn_variable : Row
fn_variable =
    lowers
    (record {
      nodes = node 13 2 1 2 0 0 ∷ node_in 9 1 0 1 0 0 1 (at_line 1 4) ∷ [];
      positions = at_line 1 1 ∷ at_line 1 7 ∷ [];
      texts = m ∷ x ∷ fn ∷ [];
      locals = [];
    })
    (LoadNamed 0 ∷ MakeFnPtr ∷ [])
    (image
    (listed (2 ∷ 0 ∷ 1 ∷ 0 ∷ 0 ∷ 0 ∷ 0 ∷ 0 ∷ 0 ∷ 0 ∷ 2 ∷ 1 ∷ [])
    (four 5 0 0 0 ++ four 16 0 0 0)
    (at_line 1 4 ∷ at_line 1 7 ∷ [])
    (1 ∷ 0 ∷ 1 ∷ [])))

-- Fn(1) in a namespace without bytes: as without a namespace
unfoldable pub empty_fn : Row
empty_fn =
    lowers
    (record {
      nodes = node_in 13 2 1 1 0 0 1 (at_line 1 1) ∷ node 3 1 0 1 0 0 ∷ [];
      positions = at_line 1 4 ∷ at_line 1 7 ∷ [];
      texts = [] ∷ fn ∷ [];
      locals = [];
    })
    (Const 0 ∷ MakeFnPtr ∷ [])
    (image
    (listed (2 ∷ 1 ∷ 0 ∷ 0 ∷ 0 ∷ 0 ∷ 0 ∷ 0 ∷ 0 ∷ 0 ∷ 2 ∷ 1 ∷ [])
    (four 1 0 0 0 ++ four 16 0 0 0)
    (0 ∷ at_line 1 7 ∷ [])
    (3 ∷ 1 ∷ 0 ∷ [])))

-- m::eval()
unfoldable pub reached_eval : Row
reached_eval =
    refuses
    (record {
      nodes = node_in 13 1 0 1 0 0 1 (at_line 1 1) ∷ [];
      positions = at_line 1 4 ∷ [];
      texts = m ∷ eval ∷ [];
      locals = [];
    })
    (refused Eval)

-- m::curry(1, 1)
unfoldable pub long_curry : Row
long_curry =
    refuses
    (record {
      nodes = node_in 13 3 2 1 0 0 1 (at_line 1 1) ∷ node 3 1 0 1 0 0 ∷ node 3 1 0 1 0 0 ∷ [];
      positions = at_line 1 4 ∷ at_line 1 10 ∷ at_line 1 13 ∷ [];
      texts = m ∷ curry ∷ [];
      locals = [];
    })
    (refused Unsupported)

-- ---- equal names

-- `b::c` in `a`, `c` in `a::b`, and `a::b::c`, in an array: one name, the first
unfoldable pub one_name : Row
one_name =
    lowers
    (record {
      nodes =
          node 8 4 3 0 0 0
          ∷ node_in 9 1 0 1 0 0 1 (at_line 1 2)
          ∷ node_in 9 1 0 3 0 0 3 (at_line 1 11)
          ∷ node 9 1 0 4 0 0
          ∷ [];
      positions = at_line 1 1 ∷ at_line 1 5 ∷ at_line 1 17 ∷ at_line 1 20 ∷ [];
      texts =
          (97 ∷ [])
          ∷ (98 ∷ 58 ∷ 58 ∷ 99 ∷ [])
          ∷ (97 ∷ 58 ∷ 58 ∷ 98 ∷ [])
          ∷ (99 ∷ [])
          ∷ (97 ∷ 58 ∷ 58 ∷ 98 ∷ 58 ∷ 58 ∷ 99 ∷ [])
          ∷ [];
      locals = [];
    })
    (LoadNamed 0 ∷ CheckSize 0 ∷ LoadNamed 0 ∷ CheckSize 1 ∷ LoadNamed 0 ∷ CheckSize 2 ∷ MakeArray 3 ∷ [])
    (image
    (listed (7 ∷ 0 ∷ 1 ∷ 0 ∷ 0 ∷ 0 ∷ 0 ∷ 0 ∷ 0 ∷ 0 ∷ 7 ∷ 3 ∷ [])
    (four 5 0 0 0 ++ four 22 0 0 0 ++ four 5 0 0 0 ++ four 22 1 0 0 ++ four 5 0 0 0 ++ four 22 2 0 0 ++ four 21 3 0 0)
    (at_line 1 2 ∷ at_line 1 5 ∷ at_line 1 11 ∷ at_line 1 17 ∷ at_line 1 20 ∷ at_line 1 20 ∷ at_line 1 1 ∷ [])
    (1 ∷ 0 ∷ 1 ∷ [])))

-- m::g() with capture and `g!` in m without, in an array: one name, the first
unfoldable pub one_mark : Row
one_mark =
    lowers
    (record {
      nodes =
          node 8 3 2 0 0 0 ∷ node_in 13 1 0 1 1 0 1 (at_line 1 2) ∷ node_in 13 1 0 2 0 0 1 (at_line 1 10) ∷ [];
      positions = at_line 1 1 ∷ at_line 1 5 ∷ at_line 1 13 ∷ [];
      texts = m ∷ g ∷ (103 ∷ 33 ∷ []) ∷ [];
      locals = [];
    })
    (Call 0 0 0 1 ∷ CheckSize 0 ∷ Call 0 0 0 0 ∷ CheckSize 1 ∷ MakeArray 2 ∷ [])
    (image
    (listed (5 ∷ 0 ∷ 1 ∷ 0 ∷ 0 ∷ 0 ∷ 0 ∷ 0 ∷ 0 ∷ 0 ∷ 5 ∷ 2 ∷ [])
    (four 12 0 256 0 ++ four 22 0 0 0 ++ four 12 0 0 0 ++ four 22 1 0 0 ++ four 21 2 0 0)
    (at_line 1 5 ∷ at_line 1 5 ∷ at_line 1 13 ∷ at_line 1 13 ∷ at_line 1 1 ∷ [])
    (1 ∷ 1 ∷ 1 ∷ [])))

-- one Unit node of six words
unfoldable pub six_words : Row
six_words =
    refuses
    (record { nodes = (2 ∷ 1 ∷ 0 ∷ 0 ∷ 0 ∷ 0 ∷ []) ∷ []; positions = 0 ∷ []; texts = []; locals = [] })
    (refused Size)

-- Unit in a namespace; a namespace's position without a namespace
unfoldable pub unit_in : Row
unit_in =
    refuses
    (record { nodes = node_in 2 1 0 0 0 0 1 0 ∷ []; positions = 0 ∷ []; texts = m ∷ []; locals = [] })
    (refused Shape)

unfoldable pub position_alone : Row
position_alone =
    refuses
    (record { nodes = node_in 9 1 0 0 0 0 0 (at_line 1 1) ∷ []; positions = 0 ∷ []; texts = m ∷ []; locals = [] })
    (refused Shape)

-- a namespace beyond the texts
unfoldable pub no_text : Row
no_text =
    refuses
    (record { nodes = node_in 9 1 0 0 0 0 2 (at_line 1 1) ∷ []; positions = 0 ∷ []; texts = m ∷ []; locals = [] })
    (refused Number)

-- the rows, the first two of them for every position of the name
unfoldable pub module_rows : ℕ → List Row
module_rows p =
    variable p []
    ∷ variable p (1 ∷ [])
    ∷ empty_local
    ∷ empty_named
    ∷ and_variable
    ∷ coalesce_variable
    ∷ interpolated_variable
    ∷ chain_root
    ∷ index_variable
    ∷ index_call
    ∷ call_local
    ∷ call_first
    ∷ call_named
    ∷ call_this
    ∷ call_marked
    ∷ call_operator
    ∷ plain_call
    ∷ value_call
    ∷ kept fn
    ∷ kept call
    ∷ kept curry
    ∷ fn_variable
    ∷ empty_fn
    ∷ reached_eval
    ∷ long_curry
    ∷ one_name
    ∷ one_mark
    ∷ six_words
    ∷ unit_in
    ∷ position_alone
    ∷ no_text
    ∷ []

-- a row with its answers computed
unfoldable pub computed : Row → Row
computed (lowers sh ops out) =
    lowers sh (map (λ (i : Ins). i.op) (lower (sheet sh)).code) (answer (sheet sh) 16384 16384)
computed (refuses sh out) = refuses sh (answer (sheet sh) 16384 16384)
