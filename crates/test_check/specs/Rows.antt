-- The check of a sheet at its boundaries: for each number 1 to 8, and 14, sheets on both sides, worked out from the format's rules. One
-- table, one theorem.
use Rattle.std.specs.Prelude.{ℕ, ◌*◌, Bool, true, false, List, [], ◌∷◌, ◌++◌, eqb, take, set}
use Rattle.checks.specs.Checked.{verdict_number, checked}
use Rattle.check_quick.specs.Quick.{quick_number}
use Rattle.test_check.specs.Build.{NodeWords, node_of, leaf, spaced, node, copies, nest, sheet_with, sheet_of}

pub record Row : Type 0 where
  pub sheet : List ℕ
  pub number : ℕ

abbrev row : ℕ → List ℕ → Row
row n s = record { sheet = s; number = n }

-- trees
abbrev unit : List NodeWords
unit = leaf 2 0 0 0

abbrev int : ℕ → ℕ → List NodeWords
int low high = leaf 3 low high 0

abbrev ref : ℕ → List NodeWords
ref b = leaf 22 b 0 0

abbrev case : List NodeWords → List (List NodeWords) → List NodeWords
case v refs = node 20 0 0 0 (v ∷ refs)

abbrev range : ℕ → List NodeWords
range block = node 21 1 block 0 (int 1 0 ∷ int 2 0 ∷ [])

-- a switch on Unit with K blocks (guard and body Unit), b cases, a default, and the cases and ranges
abbrev switch : ℕ → ℕ → ℕ → List (List NodeWords) → List NodeWords
switch K b c entries = node 19 K b c ((unit ∷ copies (2 * K) unit) ++ entries)

-- sheets with no texts
abbrev plain : List NodeWords → List ℕ
plain t = sheet_of t [] []

abbrev call_of : ℕ → List ℕ → List ℕ
call_of n name = sheet_of (node 13 0 0 0 (copies n unit)) (name ∷ []) []

-- `curry`, `curr`
abbrev curry : List ℕ
curry = 99 ∷ 117 ∷ 114 ∷ 114 ∷ 121 ∷ []

abbrev curr : List ℕ
curr = 99 ∷ 117 ∷ 114 ∷ 114 ∷ []

-- one text of these bytes
abbrev one_text : List ℕ → List ℕ
one_text t = sheet_of unit (t ∷ []) []

-- a text from `start`, `len` bytes long, over the bytes `ab`
abbrev placed : ℕ → ℕ → List ℕ
placed start len = sheet_with unit (start ∷ []) (len ∷ []) (97 ∷ 98 ∷ []) (0 ∷ 0 ∷ []) []

-- a node without children whose fields are 0, with namespace and position, in a sheet with the one text `curr`
abbrev alone : ℕ → ℕ → ℕ → List ℕ
alone x y k = sheet_of (spaced k 0 0 0 x y []) (curr ∷ []) []

-- a node with these children
abbrev over : ℕ → ℕ → ℕ → List (List NodeWords) → List ℕ
over x y k ts = sheet_of (spaced k 0 0 0 x y ts) (curr ∷ []) []

-- under a node of kind Array
abbrev below : ℕ → ℕ → ℕ → List ℕ
below x y k = sheet_of (node 8 0 0 0 (spaced k 0 0 0 x y [] ∷ [])) (curr ∷ []) []

-- a switch of one block, with a Case, its Ref and a Range of these namespaces and positions
abbrev arms : ℕ → ℕ → ℕ → ℕ → ℕ → ℕ → List ℕ
arms cx cy fx fy rx ry =
    let c = spaced 20 0 0 0 cx cy (int 1 0 ∷ spaced 22 0 0 0 fx fy [] ∷ []) in
    let r = spaced 21 1 0 0 rx ry (int 1 0 ∷ int 2 0 ∷ []) in
    sheet_of (switch 1 1 1 (c ∷ r ∷ [])) (curr ∷ []) []

-- kinds without children that name nothing or one text, and may have no namespace
abbrev leaf_kinds : List ℕ
leaf_kinds = 1 ∷ 2 ∷ 3 ∷ 4 ∷ 5 ∷ 6 ∷ 7 ∷ 8 ∷ 10 ∷ 11 ∷ 12 ∷ []

abbrev refused_kinds : List ℕ
refused_kinds = 23 ∷ 24 ∷ 25 ∷ []

-- a row for each kind
abbrev each : ℕ → (ℕ → List ℕ) → List ℕ → List Row
each n sheet [] = []
each n sheet (k ∷ ks) = row n (sheet k) ∷ each n sheet ks

-- namespaces
abbrev spaces : List Row
spaces =
    -- 1: nodes of six words
    row 1 (plain ((2 ∷ 1 ∷ 0 ∷ 0 ∷ 0 ∷ 0 ∷ []) ∷ []))
    -- 2: a namespace, and a position of one, on kinds that have none
    ∷ (each 0 (alone 0 0) leaf_kinds
    ++ each 2 (alone 1 0) leaf_kinds
    ++ each 2 (alone 0 1) leaf_kinds
    ++ each 2 (below 1 0) leaf_kinds
    ++ each 8 (alone 0 0) refused_kinds
    ++ each 2 (alone 1 0) refused_kinds
    ++ each 2 (alone 0 1) refused_kinds)
    ++ (row 0 (over 0 0 14 (copies 2 unit))
    ∷ row 2 (over 1 0 14 (copies 2 unit))
    ∷ row 2 (over 0 1 14 (copies 2 unit))
    ∷ row 0 (over 0 0 15 (copies 2 unit))
    ∷ row 2 (over 1 0 15 (copies 2 unit))
    ∷ row 0 (over 0 0 16 (copies 1 unit))
    ∷ row 2 (over 1 0 16 (copies 1 unit))
    ∷ row 0 (over 0 0 17 (copies 1 unit))
    ∷ row 2 (over 1 0 17 (copies 1 unit))
    ∷ row 0 (over 0 0 18 (copies 1 unit))
    ∷ row 2 (over 1 0 18 (copies 1 unit))
    ∷ row 0 (over 0 0 19 (copies 1 unit))
    ∷ row 2 (over 1 0 19 (copies 1 unit))
    ∷ row 2 (over 0 1 19 (copies 1 unit))
    ∷ row 0 (arms 0 0 0 0 0 0)
    ∷ row 2 (arms 1 0 0 0 0 0)
    ∷ row 2 (arms 0 1 0 0 0 0)
    ∷ row 2 (arms 0 0 1 0 0 0)
    ∷ row 2 (arms 0 0 0 1 0 0)
    ∷ row 2 (arms 0 0 0 0 1 0)
    ∷ row 2 (arms 0 0 0 0 0 1)
    -- on a Variable and an FnCall; a position stands beside a namespace only, any word there, also where the text has no bytes
    ∷ row 0 (alone 1 0 9)
    ∷ row 0 (alone 1 0 13)
    ∷ row 0 (below 1 0 9)
    ∷ row 0 (below 1 0 13)
    ∷ row 0 (alone 1 0xffff_ffff 9)
    ∷ row 0 (alone 1 0xffff_ffff 13)
    ∷ row 2 (alone 0 1 9)
    ∷ row 2 (alone 0 1 13)
    ∷ row 2 (below 0 1 9)
    ∷ row 2 (below 0 0xffff_ffff 13)
    ∷ row 0 (sheet_of (spaced 9 0 0 0 2 0xffff_ffff []) (curr ∷ [] ∷ []) [])
    ∷ row 0 (sheet_of (spaced 13 0 0 0 2 0xffff_ffff []) (curr ∷ [] ∷ []) [])
    -- 3: a namespace's text is a text like others, and 3 goes before 4
    ∷ row 3 (sheet_of (spaced 9 0 0 0 2 0 []) (curr ∷ (0xff ∷ []) ∷ []) [])
    ∷ row 3 (sheet_of (spaced 9 0 0 0 3 0 []) (curr ∷ (0xff ∷ []) ∷ []) [])
    -- 4: the last text, and one more
    ∷ row 4 (alone 2 0 9)
    ∷ row 4 (alone 2 0 13)
    ∷ row 4 (alone 0xffff_ffff 0 9)
    ∷ row 4 (below 2 0 9)
    ∷ row 4 (below 2 1 13)
    ∷ row 0 (sheet_of (spaced 9 0 0 0 2 0 []) (curr ∷ curry ∷ []) [])
    ∷ row 4 (sheet_of (spaced 9 0 0 0 3 0 []) (curr ∷ curry ∷ []) [])
    -- 2 goes before it, of the same node and of a later one
    ∷ row 2 (alone 2 0 2)
    ∷ row 2 (sheet_of (node 8 0 0 0 (spaced 9 0 0 0 2 0 [] ∷ spaced 2 0 0 0 1 0 [] ∷ [])) (curr ∷ []) [])
    -- 8: a call's own name alone tells
    ∷ row 8 (sheet_of (spaced 13 1 0 0 1 0 (copies 2 unit)) (curr ∷ curry ∷ []) [])
    ∷ row 0 (sheet_of (spaced 13 1 0 0 1 0 (copies 1 unit)) (curr ∷ curry ∷ []) [])
    ∷ row 0 (sheet_of (spaced 13 0 0 0 2 0 (copies 2 unit)) (curr ∷ curry ∷ []) [])
    ∷ [])

-- a sheet of the texts `curr` (0) and one without bytes (1), with these locals
abbrev named : List NodeWords → List ℕ → List ℕ
named t locals = sheet_of t (curr ∷ [] ∷ []) locals

-- a switch of one case with this value
abbrev on : List NodeWords → List NodeWords
on v = switch 0 1 0 (case v [] ∷ [])

-- own names without bytes
abbrev names : List Row
names =
    -- 14: of each kind that has a name of its own, by itself, under another node and as the last of two; with a namespace too
    row 0 (named (leaf 9 0 0 0) [])
    ∷ row 14 (named (leaf 9 1 0 0) [])
    ∷ row 0 (named (leaf 11 0 0 0) [])
    ∷ row 14 (named (leaf 11 1 0 0) [])
    ∷ row 0 (named (leaf 12 0 0 0) [])
    ∷ row 14 (named (leaf 12 1 0 0) [])
    ∷ row 0 (named (leaf 13 0 0 0) [])
    ∷ row 14 (named (leaf 13 1 0 0) [])
    ∷ row 14 (named (leaf 13 1 1 0) [])
    ∷ row 14 (named (node 12 1 0 0 (copies 1 unit)) [])
    ∷ row 14 (named (node 13 1 0 0 (copies 1 unit)) [])
    ∷ row 14 (named (node 8 0 0 0 (leaf 9 1 0 0 ∷ unit ∷ [])) [])
    ∷ row 14 (named (node 8 0 0 0 (unit ∷ leaf 9 1 0 0 ∷ [])) [])
    ∷ row 14 (named (node 14 3 0 0 (leaf 9 0 0 0 ∷ leaf 11 1 0 0 ∷ [])) [])
    ∷ row 14 (named (node 14 3 0 0 (leaf 9 0 0 0 ∷ leaf 12 1 0 0 ∷ [])) [])
    ∷ row 0 (named (node 14 3 0 0 (leaf 9 0 0 0 ∷ leaf 11 0 0 0 ∷ [])) [])
    ∷ row 14 (named (spaced 9 1 0 0 1 0 []) [])
    ∷ row 14 (named (spaced 13 1 0 0 1 0 []) [])
    ∷ row 14 (named (spaced 9 1 0 0 2 0 []) [])
    ∷ row 0 (named (spaced 9 0 0 0 2 0 []) [])
    -- where no run comes to it: an argument of `Fn`
    ∷ row 14 (sheet_of (node 13 0 0 0 (leaf 9 1 0 0 ∷ [])) ((70 ∷ 110 ∷ []) ∷ [] ∷ []) [])
    -- of each local, named or not
    ∷ row 0 (named unit (0 ∷ []))
    ∷ row 14 (named unit (1 ∷ []))
    ∷ row 14 (named unit (1 ∷ 0 ∷ []))
    ∷ row 14 (named unit (0 ∷ 1 ∷ []))
    ∷ row 14 (named (leaf 9 0 0 0) (0 ∷ 1 ∷ []))
    -- a text without bytes may stand anywhere else: unused, as a String, a case's value, a getter, a setter
    ∷ row 0 (named unit [])
    ∷ row 0 (named (leaf 6 1 0 0) [])
    ∷ row 0 (named (on (leaf 6 1 0 0)) [])
    ∷ row 0 (named (leaf 11 0 1 0) [])
    ∷ row 0 (named (leaf 11 0 0 1) [])
    -- and its number may be a field of another meaning
    ∷ row 0 (named (leaf 1 1 0 0) [])
    ∷ row 0 (named (leaf 3 1 0 0) [])
    ∷ row 0 (named (leaf 5 1 0 0) [])
    ∷ row 0 (named (node 14 1 0 0 (copies 2 unit)) [])
    ∷ row 0 (named (switch 2 1 0 (case (int 1 0) (ref 1 ∷ []) ∷ [])) [])
    -- by the length alone, wherever the text starts
    ∷ row 14 (sheet_with (leaf 9 0 0 0) (2 ∷ []) (0 ∷ []) (97 ∷ 98 ∷ []) (0 ∷ 0 ∷ []) [])
    ∷ row 0 (sheet_with (leaf 9 0 0 0) (1 ∷ []) (1 ∷ []) (97 ∷ 98 ∷ []) (0 ∷ 0 ∷ []) [])
    -- 1 to 4 go before it, also of a later node or of a local
    ∷ row 1 (named (leaf 9 1 0 0) [] ++ (0 ∷ []))
    ∷ row 2 (named (leaf 9 1 1 0) [])
    ∷ row 2 (named (node 8 0 0 0 (leaf 9 1 0 0 ∷ leaf 2 1 0 0 ∷ [])) [])
    ∷ row 3 (sheet_of (leaf 9 1 0 0) (curr ∷ [] ∷ (0xff ∷ []) ∷ []) [])
    ∷ row 4 (named (node 8 0 0 0 (leaf 9 1 0 0 ∷ leaf 9 2 0 0 ∷ [])) [])
    ∷ row 4 (named (node 8 0 0 0 (leaf 9 2 0 0 ∷ leaf 9 1 0 0 ∷ [])) [])
    ∷ row 4 (named (leaf 9 1 0 0) (2 ∷ []))
    ∷ row 4 (named (leaf 9 2 0 0) (1 ∷ []))
    ∷ row 4 (named (leaf 11 1 2 0) [])
    ∷ row 4 (named (spaced 9 1 0 0 3 0 []) [])
    ∷ row 4 (named (switch 1 1 2 (case (int 1 0) [] ∷ [])) (1 ∷ []))
    -- it goes before 5, 6, 7 and 8, and these are the answer without it
    ∷ row 5 (named (nest 64 (leaf 9 0 0 0)) (0 ∷ []))
    ∷ row 14 (named (nest 64 (leaf 9 1 0 0)) (0 ∷ []))
    ∷ row 14 (named (nest 64 (leaf 9 0 0 0)) (1 ∷ []))
    ∷ row 6 (named (switch 65 0 0 []) (0 ∷ []))
    ∷ row 14 (named (switch 65 0 0 []) (1 ∷ []))
    ∷ row 6 (named (node 19 65 0 0 (leaf 9 0 0 0 ∷ copies 130 unit)) [])
    ∷ row 14 (named (node 19 65 0 0 (leaf 9 1 0 0 ∷ copies 130 unit)) [])
    ∷ row 7 (named (switch 0 2 0 (copies 2 (case (int 1 0) []))) (0 ∷ []))
    ∷ row 14 (named (switch 0 2 0 (copies 2 (case (int 1 0) []))) (1 ∷ []))
    ∷ row 7 (named (node 19 0 2 0 (leaf 9 0 0 0 ∷ copies 2 (case (int 1 0) []))) [])
    ∷ row 14 (named (node 19 0 2 0 (leaf 9 1 0 0 ∷ copies 2 (case (int 1 0) []))) [])
    ∷ row 8 (named (leaf 23 0 0 0) (0 ∷ []))
    ∷ row 14 (named (leaf 23 0 0 0) (1 ∷ []))
    ∷ row 8 (sheet_of (node 13 0 0 0 (copies 2 (leaf 9 0 0 0))) (curry ∷ [] ∷ []) [])
    ∷ row 14 (sheet_of (node 13 0 0 0 (copies 2 (leaf 9 1 0 0))) (curry ∷ [] ∷ []) [])
    ∷ []

-- the check of a row's sheet gives the row's number
unfoldable pub agrees : List Row → Bool
agrees [] = true
agrees (r ∷ rs) = elim (eqb (verdict_number (checked r.sheet)) r.number) [ true ↦ agrees rs | false ↦ false ]

-- the same by the quick check, for the prover to compute
unfoldable pub quickly : List Row → Bool
quickly [] = true
quickly (r ∷ rs) = elim (eqb (quick_number r.sheet) r.number) [ true ↦ quickly rs | false ↦ false ]

-- the table
abbrev pub rows : List Row
rows =
    -- 1: the length to the byte, no node, and each padding byte
    row 0 (plain unit)
    ∷ row 1 []
    ∷ row 1 (take 51 (plain unit))
    ∷ row 1 (plain unit ++ (0 ∷ []))
    ∷ row 1 (plain unit ++ (0 ∷ 0 ∷ 0 ∷ 0 ∷ []))
    ∷ row 1 (set (plain unit) 0 0)
    ∷ row 1 (plain [])
    ∷ row 0 (sheet_with unit (0 ∷ []) (1 ∷ []) (97 ∷ []) (0 ∷ 0 ∷ 0 ∷ []) [])
    ∷ row 1 (sheet_with unit (0 ∷ []) (1 ∷ []) (97 ∷ []) (1 ∷ 0 ∷ 0 ∷ []) [])
    ∷ row 1 (sheet_with unit (0 ∷ []) (1 ∷ []) (97 ∷ []) (0 ∷ 1 ∷ 0 ∷ []) [])
    ∷ row 1 (sheet_with unit (0 ∷ []) (1 ∷ []) (97 ∷ []) (0 ∷ 0 ∷ 1 ∷ []) [])
    -- padding goes before a wrong node
    ∷ row 1 (sheet_with (leaf 26 0 0 0) (0 ∷ []) (1 ∷ []) (97 ∷ []) (0 ∷ 0 ∷ 1 ∷ []) [])
    -- 2: kinds 1 to 25
    ∷ row 2 (plain (leaf 0 0 0 0))
    ∷ row 0 (plain (leaf 1 1 0 0))
    ∷ row 2 (plain (leaf 1 2 0 0))
    ∷ row 8 (plain (leaf 25 0 0 0))
    ∷ row 2 (plain (leaf 25 1 0 0))
    ∷ row 2 (plain (leaf 26 0 0 0))
    -- a Char is a scalar value
    ∷ row 0 (plain (leaf 5 0xd7ff 0 0))
    ∷ row 2 (plain (leaf 5 0xd800 0 0))
    ∷ row 2 (plain (leaf 5 0xdfff 0 0))
    ∷ row 0 (plain (leaf 5 0xe000 0 0))
    ∷ row 0 (plain (leaf 5 0x10_ffff 0 0))
    ∷ row 2 (plain (leaf 5 0x11_0000 0 0))
    -- operators to 65,535
    ∷ row 0 (sheet_of (leaf 13 0 1 65535) (curr ∷ []) [])
    ∷ row 2 (sheet_of (leaf 13 0 1 65536) (curr ∷ []) [])
    ∷ row 2 (sheet_of (leaf 13 0 2 0) (curr ∷ []) [])
    -- counts of children
    ∷ row 2 (plain (leaf 16 0 0 0))
    ∷ row 0 (plain (node 16 0 0 0 (copies 1 unit)))
    ∷ row 2 (plain (node 14 3 0 0 (copies 1 unit)))
    ∷ row 0 (plain (node 14 3 0 0 (copies 2 unit)))
    ∷ row 2 (plain (node 14 4 0 0 (copies 2 unit)))
    ∷ row 2 (plain (node 14 3 0 0 (copies 3 unit)))
    -- a Switch stands at node 0 only, and has a subject, its blocks and its cases
    ∷ row 0 (plain (switch 0 0 0 []))
    ∷ row 2 (plain (node 8 0 0 0 (switch 0 0 0 [] ∷ [])))
    ∷ row 2 (plain (node 19 1 0 0 (copies 2 unit)))
    ∷ row 0 (plain (node 19 1 0 0 (copies 3 unit)))
    ∷ row 2 (plain (node 19 0xffff_ffff 0 0 (copies 1 unit)))
    ∷ row 0 (plain (switch 0 1 0 (case (int 1 0) [] ∷ [])))
    ∷ row 2 (plain (switch 0 1 0 (case unit [] ∷ [])))
    ∷ row 2 (plain (ref 0))
    -- spans
    ∷ row 2 (plain (node_of 2 2 0 0 0 0 ∷ []))
    ∷ row 2 (plain (unit ++ unit))
    -- 3: a text within its bytes, well-formed
    ∷ row 0 (placed 0 2)
    ∷ row 0 (placed 2 0)
    ∷ row 3 (placed 3 0)
    ∷ row 3 (placed 1 2)
    ∷ row 3 (placed 0xffff_ffff 1)
    ∷ row 0 (one_text (0xed ∷ 0x9f ∷ 0xbf ∷ []))
    ∷ row 3 (one_text (0xed ∷ 0xa0 ∷ 0x80 ∷ []))
    ∷ row 3 (one_text (0xc1 ∷ 0xbf ∷ []))
    ∷ row 0 (one_text (0xc2 ∷ 0x80 ∷ []))
    ∷ row 0 (one_text (0xf4 ∷ 0x8f ∷ 0xbf ∷ 0xbf ∷ []))
    ∷ row 3 (one_text (0xf4 ∷ 0x90 ∷ 0x80 ∷ 0x80 ∷ []))
    ∷ row 3 (one_text (0xf0 ∷ 0x90 ∷ 0x80 ∷ []))
    -- 4: texts, locals, blocks, the default block
    ∷ row 0 (sheet_of (leaf 9 0 0 0) (curr ∷ []) (0 ∷ []))
    ∷ row 4 (sheet_of (leaf 9 1 0 0) (curr ∷ []) (0 ∷ []))
    ∷ row 4 (sheet_of (leaf 9 0 0 0) (curr ∷ []) (1 ∷ []))
    ∷ row 0 (sheet_of (leaf 11 0 0 0) (curr ∷ []) [])
    ∷ row 4 (sheet_of (leaf 11 0 1 0) (curr ∷ []) [])
    ∷ row 4 (sheet_of (leaf 11 0 0 1) (curr ∷ []) [])
    ∷ row 0 (plain (switch 1 1 1 (case (int 1 0) (ref 0 ∷ []) ∷ range 0 ∷ [])))
    ∷ row 4 (plain (switch 1 1 2 (case (int 1 0) (ref 0 ∷ []) ∷ range 0 ∷ [])))
    ∷ row 4 (plain (switch 1 1 1 (case (int 1 0) (ref 1 ∷ []) ∷ range 0 ∷ [])))
    ∷ row 4 (plain (switch 1 1 1 (case (int 1 0) (ref 0 ∷ []) ∷ range 1 ∷ [])))
    -- 5: depth 64 and 65
    ∷ row 0 (plain (nest 63 unit))
    ∷ row 5 (plain (nest 64 unit))
    -- 6: 64 and 65 blocks
    ∷ row 0 (plain (switch 64 0 0 []))
    ∷ row 6 (plain (switch 65 0 0 []))
    -- 6: 64 and 65 ranges
    ∷ row 0 (plain (switch 1 0 0 (copies 64 (range 0))))
    ∷ row 6 (plain (switch 1 0 0 (copies 65 (range 0))))
    -- 6: 64 and 65 Refs in one case
    ∷ row 0 (plain (switch 1 1 0 (case (int 1 0) (copies 64 (ref 0)) ∷ [])))
    ∷ row 6 (plain (switch 1 1 0 (case (int 1 0) (copies 65 (ref 0)) ∷ [])))
    -- 6 goes before 7: 64 equal cases are 7, and 65 are 6
    ∷ row 7 (plain (switch 0 64 0 (copies 64 (case (int 1 0) []))))
    ∷ row 6 (plain (switch 0 65 0 (copies 65 (case (int 1 0) []))))
    -- 7: equal kind and value
    ∷ row 0 (plain (switch 0 2 0 (case (int 97 0) [] ∷ case (int 97 1) [] ∷ [])))
    ∷ row 7 (plain (switch 0 2 0 (case (int 97 1) [] ∷ case (int 97 1) [] ∷ [])))
    ∷ row 0 (plain (switch 0 2 0 (case (int 97 0) [] ∷ case (leaf 5 97 0 0) [] ∷ [])))
    ∷ row 7 (plain (switch 0 3 0 (case (leaf 5 97 0 0) [] ∷ case (int 97 0) [] ∷ case (leaf 5 97 0 0) [] ∷ [])))
    ∷ row 0 (sheet_of (switch 0 2 0 (case (leaf 6 0 0 0) [] ∷ case (leaf 6 1 0 0) [] ∷ [])) (curr ∷ curry ∷ []) [])
    ∷ row 7 (sheet_of (switch 0 2 0 (case (leaf 6 0 0 0) [] ∷ case (leaf 6 1 0 0) [] ∷ [])) (curr ∷ curr ∷ []) [])
    -- 8: kinds 23 to 25, and `curry` with over one argument
    ∷ row 8 (plain (leaf 23 0 0 0))
    ∷ row 8 (plain (leaf 24 0 0 0))
    ∷ row 0 (call_of 1 curry)
    ∷ row 8 (call_of 2 curry)
    ∷ row 0 (call_of 2 curr)
    ∷ row 0 (sheet_of (node 12 0 0 0 (copies 2 unit)) (curry ∷ []) [])
    ∷ (names ++ spaces)
