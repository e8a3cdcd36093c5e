-- The rows of document 01 that are marked P, as one table with one theorem.
use Rattle.std.specs.Prelude.{ℕ, ◌+◌, ◌*◌, true, false, List, [], ◌∷◌, ◌++◌, map}
use Rattle.switch_split.specs.Range.{Range, range}
use Rattle.switch_split.specs.Split.{Entry, split}
use Rattle.switch_split.specs.Rows.{small, least, greatest, entry}
use Rattle.bytecode.specs.declared.Receiver.TheVariants.{Local, Named}
use Rattle.bytecode.specs.declared.Op.{Op}
use Rattle.bytecode.specs.declared.Op.TheVariants.{Const, Unit, Bool, LoadNamed, Pop, Jump, JumpIfFalse, CallRef, Rotate, Switch, EvalAst}
use Rattle.bytecode.specs.Op.{four}
use Rattle.lowering.specs.Code.{Ins}
use Rattle.lowering.specs.MakeSheet.{Sheet, node, sheet}
use Rattle.lowering.specs.Outcome.{Outcome, image, lower}
use Rattle.lowering.specs.Compute.{answer}

-- a row on ranges: their split. A row on a sheet: its instructions, and the outcome with buffers of 16,384 words
pub data Row : Type 0 where
  splits : List Range → List Entry → Row
  lowers : Sheet → List Op → Outcome → Row

abbrev pub at_line : ℕ → ℕ → ℕ
at_line line column = 65536 * line + column

-- an image: sizes, code, positions, then the pools and tables
abbrev pub listed : List ℕ → List ℕ → List ℕ → List ℕ → List ℕ
listed sizes code positions pools = sizes ++ code ++ positions ++ pools

-- texts `g` and `v`; `p` and `eval`
abbrev pub textsGV : List (List ℕ)
textsGV = (103 ∷ []) ∷ (118 ∷ []) ∷ []

abbrev pub textsPEval : List (List ℕ)
textsPEval = (112 ∷ []) ∷ (101 ∷ 118 ∷ 97 ∷ 108 ∷ []) ∷ []

-- one Unit node, at any position
unfoldable pub unit : ℕ → Row
unit p =
    lowers
    (record { nodes = node 2 1 0 0 0 0 ∷ []; positions = p ∷ []; texts = []; locals = [] })
    (Unit ∷ [])
    (image (1 ∷ 0 ∷ 0 ∷ 0 ∷ 0 ∷ 0 ∷ 0 ∷ 0 ∷ 0 ∷ 0 ∷ 1 ∷ 1 ∷ 2 ∷ 0 ∷ 0 ∷ 0 ∷ 0 ∷ []))

-- And of Bool 1
unfoldable pub and_bool : Row
and_bool =
    lowers
    (record { nodes = node 16 2 1 0 0 0 ∷ node 1 1 0 1 0 0 ∷ []; positions = at_line 1 2 ∷ at_line 1 1 ∷ []; texts = []; locals = [] })
    (Bool 1 ∷ JumpIfFalse 4 ∷ Bool 1 ∷ Jump 5 ∷ Bool 0 ∷ [])
    (image
    (listed (5 ∷ 0 ∷ 0 ∷ 0 ∷ 0 ∷ 0 ∷ 0 ∷ 0 ∷ 0 ∷ 0 ∷ 5 ∷ 1 ∷ [])
    (four 3 1 0 0 ++ four 10 4 0 0 ++ four 3 1 0 0 ++ four 8 5 0 0 ++ four 3 0 0 0)
    (0 ∷ at_line 1 1 ∷ 0 ∷ 0 ∷ 0 ∷ [])
    []))

-- Coalesce of Unit
unfoldable pub coalesce_unit : Row
coalesce_unit =
    lowers
    (record { nodes = node 18 2 1 0 0 0 ∷ node 2 1 0 0 0 0 ∷ []; positions = at_line 1 2 ∷ at_line 1 1 ∷ []; texts = []; locals = [] })
    (Unit ∷ [])
    (image (1 ∷ 0 ∷ 0 ∷ 0 ∷ 0 ∷ 0 ∷ 0 ∷ 0 ∷ 0 ∷ 0 ∷ 1 ∷ 1 ∷ 2 ∷ 0 ∷ 0 ∷ 0 ∷ 0 ∷ []))

-- ranges 0..=0 block 0, 0..=255 block 1
unfoldable pub nested : Row
nested =
    splits
    (range (small 0) (small 0) true 0 ∷ range (small 0) (small 255) true 1 ∷ [])
    (entry (small 0) (small 0) true (0 ∷ 1 ∷ []) ∷ entry (small 0) (small 255) true (1 ∷ []) ∷ [])

-- 5..5 and 9..=3
unfoldable pub empties : Row
empties = splits (range (small 5) (small 5) false 0 ∷ range (small 9) (small 3) true 1 ∷ []) []

-- least..=greatest
unfoldable pub widest : Row
widest = splits (range least greatest true 0 ∷ []) (entry least greatest true (0 ∷ []) ∷ [])

-- 4..6 block 0, 5..=6 block 1
unfoldable pub overlapping : Row
overlapping =
    splits
    (range (small 4) (small 6) false 0 ∷ range (small 5) (small 6) true 1 ∷ [])
    (entry (small 4) (small 5) false (0 ∷ [])
    ∷ entry (small 5) (small 6) false (0 ∷ 1 ∷ [])
    ∷ entry (small 6) (small 6) true (1 ∷ [])
    ∷ [])

-- g(v), v local 0
unfoldable pub call_local : Row
call_local =
    lowers
    (record {
      nodes = node 13 2 1 0 0 0 ∷ node 9 1 0 1 0 0 ∷ [];
      positions = at_line 1 1 ∷ at_line 1 3 ∷ [];
      texts = textsGV;
      locals = 1 ∷ [];
    })
    (CallRef 0 1 (Local 0) ∷ [])
    (image
    (listed (1 ∷ 0 ∷ 1 ∷ 0 ∷ 0 ∷ 0 ∷ 0 ∷ 0 ∷ 0 ∷ 0 ∷ 1 ∷ 1 ∷ []) (four 13 0 1 0) (at_line 1 1 ∷ []) (0 ∷ 0 ∷ 0 ∷ [])))

-- g(v,1), no local: depth 2
unfoldable pub call_named : Row
call_named =
    lowers
    (record {
      nodes = node 13 3 2 0 0 0 ∷ node 9 1 0 1 0 0 ∷ node 3 1 0 1 0 0 ∷ [];
      positions = at_line 1 1 ∷ at_line 1 3 ∷ at_line 1 5 ∷ [];
      texts = textsGV;
      locals = [];
    })
    (Const 0 ∷ LoadNamed 0 ∷ Rotate 1 ∷ CallRef 1 2 (Named 0) ∷ [])
    (image
    (listed (4 ∷ 1 ∷ 2 ∷ 0 ∷ 0 ∷ 0 ∷ 0 ∷ 0 ∷ 0 ∷ 0 ∷ 4 ∷ 2 ∷ [])
    (four 1 0 0 0 ++ four 5 0 0 0 ++ four 14 1 0 0 ++ four 13 1 258 0)
    (0 ∷ at_line 1 3 ∷ 0 ∷ at_line 1 1 ∷ [])
    (3 ∷ 1 ∷ 0 ∷ 1 ∷ 0 ∷ 0 ∷ 0 ∷ 0 ∷ 0 ∷ [])))

-- empty Switch on Unit
unfoldable pub empty_switch : Row
empty_switch =
    lowers
    (record { nodes = node 19 2 1 0 0 0 ∷ node 2 1 0 0 0 0 ∷ []; positions = at_line 1 1 ∷ at_line 1 8 ∷ []; texts = []; locals = [] })
    (Unit ∷ Switch 0 ∷ Unit ∷ Rotate 1 ∷ Pop ∷ [])
    (image
    (listed (5 ∷ 0 ∷ 0 ∷ 0 ∷ 0 ∷ 0 ∷ 0 ∷ 1 ∷ 0 ∷ 0 ∷ 5 ∷ 2 ∷ [])
    (four 2 0 0 0 ++ four 15 0 0 0 ++ four 2 0 0 0 ++ four 14 1 0 0 ++ four 7 0 0 0)
    (0 ∷ 0 ∷ 0 ∷ 0 ∷ 0 ∷ [])
    (0 ∷ 0 ∷ 0 ∷ 2 ∷ [])))

-- the same, default body Bool 1: five instructions, max_stack 6
unfoldable pub default_switch : Row
default_switch =
    lowers
    (record {
      nodes = node 19 4 3 1 0 1 ∷ node 2 1 0 0 0 0 ∷ node 1 1 0 1 0 0 ∷ node 1 1 0 1 0 0 ∷ [];
      positions = at_line 1 1 ∷ at_line 1 8 ∷ at_line 2 1 ∷ at_line 2 6 ∷ [];
      texts = [];
      locals = [];
    })
    (Unit ∷ Switch 0 ∷ Bool 1 ∷ Rotate 1 ∷ Pop ∷ [])
    (image
    (listed (5 ∷ 0 ∷ 0 ∷ 0 ∷ 0 ∷ 0 ∷ 0 ∷ 1 ∷ 0 ∷ 0 ∷ 6 ∷ 2 ∷ [])
    (four 2 0 0 0 ++ four 15 0 0 0 ++ four 3 1 0 0 ++ four 14 1 0 0 ++ four 7 0 0 0)
    (0 ∷ 0 ∷ 0 ∷ 0 ∷ 0 ∷ [])
    (0 ∷ 0 ∷ 0 ∷ 2 ∷ [])))

-- p.eval(): one EvalAst; name p stays pooled
unfoldable pub method_eval : Row
method_eval =
    lowers
    (record {
      nodes = node 14 3 2 0 0 0 ∷ node 9 1 0 0 0 0 ∷ node 12 1 0 1 0 0 ∷ [];
      positions = at_line 1 2 ∷ at_line 1 1 ∷ at_line 1 3 ∷ [];
      texts = textsPEval;
      locals = [];
    })
    (EvalAst 0 ∷ [])
    (image
    (listed (1 ∷ 0 ∷ 1 ∷ 0 ∷ 1 ∷ 0 ∷ 0 ∷ 0 ∷ 0 ∷ 0 ∷ 1 ∷ 1 ∷ []) (four 24 0 0 0) (0 ∷ []) (0 ∷ 0 ∷ 0 ∷ 0 ∷ [])))

-- the rows, the first of them for every position
unfoldable pub rows : ℕ → List Row
rows p =
    unit p
    ∷ and_bool
    ∷ coalesce_unit
    ∷ nested
    ∷ empties
    ∷ widest
    ∷ overlapping
    ∷ call_local
    ∷ call_named
    ∷ empty_switch
    ∷ default_switch
    ∷ method_eval
    ∷ []

-- a row with its answers computed
unfoldable pub computed : Row → Row
computed (splits rs es) = splits rs (split rs)
computed (lowers sh ops out) =
    lowers sh (map (λ (i : Ins). i.op) (lower (sheet sh)).code) (answer (sheet sh) 16384 16384)
