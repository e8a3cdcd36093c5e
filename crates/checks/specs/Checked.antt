-- The check of a sheet: refusals 1 to 4, 14 and 5 to 8, and the first in this order that fits is the answer.
use Rattle.std.specs.Prelude.{ℕ, Bool, true, false, List, Result, Ok, Err, ⊤}
use Rattle.words.specs.Word.{word}
use Rattle.sheet.specs.Sections.{Words, node_count_by}
use Rattle.sheet.specs.Node.{Fields, field}
use Rattle.check_sizes.specs.Sizes.{sizes_ok}
use Rattle.check_shape.specs.Kinds.{Bounds, bound}
use Rattle.check_shape.specs.Shape.{shape_by}
use Rattle.check_texts.specs.Texts.{texts_by}
use Rattle.check_numbers.specs.Numbers.{numbers_by}
use Rattle.check_names.specs.Names.{names_by}
use Rattle.check_depth.specs.Depth.{depth_by, depth_ok}
use Rattle.check_switches.specs.Switch.{entries_by, cases_by, entries_ok, cases_ok}
use Rattle.check_support.specs.Support.{support_by, supported_ok}
use Rattle.refusals.specs.declared.Refusal.TheVariants.{Size, Shape, Text, Number, EmptyName, Depth, Arms, Twice, Unsupported}
use Rattle.refusals.specs.declared.Refusal.{Refusal}
use Rattle.refusals.specs.Refusal.{number_of}

-- what is answered: nothing refuses, or the first cause that fits
abbrev pub Verdict : Type 0
Verdict = Result ⊤ Refusal

-- the number of an answer; 0 is no refusal
abbrev pub verdict_number : Verdict → ℕ
verdict_number v = number_of v

-- a test that is made only where it is asked for
abbrev pub Test : Type 0
Test = Prim.Unit {0} → Bool

-- a test that is known to pass
abbrev pub passed : Test
passed asked = true

-- the order of refusals, where the test of each passes unless it fits
unfoldable pub in_order : Test → Test → Test → Test → Test → Test → Test → Test → Test → Verdict
in_order sizes shape texts numbers names depth entries cases support =
    elim (sizes tt) [
      | false ↦ Err Size
      | true ↦
          elim (shape tt) [
            | false ↦ Err Shape
            | true ↦
                elim (texts tt) [
                  | false ↦ Err Text
                  | true ↦
                      elim (numbers tt) [
                        | false ↦ Err Number
                        | true ↦
                            elim (names tt) [
                              | false ↦ Err EmptyName
                              | true ↦
                                  elim (depth tt) [
                                    | false ↦ Err Depth
                                    | true ↦
                                        elim (entries tt) [
                                          | false ↦ Err Arms
                                          | true ↦
                                              elim (cases tt) [
                                                | false ↦ Err Twice
                                                | true ↦
                                                    elim (support tt) [ false ↦ Err Unsupported | true ↦ Ok tt ]
                                              ]
                                        ]
                                  ]
                            ]
                      ]
                ]
          ]
    ]

-- the answer for any byte string s, by what reads the bounds of kinds, the fields of its nodes and its words
unfoldable pub checked_by : Bounds → Fields → Words → List ℕ → Verdict
unfolding in_order
checked_by bs g w s =
    in_order
    (λ t. sizes_ok s)
    (λ t. shape_by bs g (node_count_by w))
    (λ t. texts_by w s)
    (λ t. numbers_by g w)
    (λ t. names_by g w)
    (λ t. depth_by g)
    (λ t. entries_by g)
    (λ t. cases_by g w s)
    (λ t. support_by g w s)

-- ---- of a sheet

-- the answer; `unfolding checked` opens all of this file
unfoldable abbrev pub checked : List ℕ → Verdict
unfolding checked_by
checked s = checked_by bound (field s) (word s) s

-- from refusal 5 on
unfoldable pub tree_checked : List ℕ → Verdict
unfolding in_order
tree_checked s =
    in_order
    passed
    passed
    passed
    passed
    passed
    (λ t. depth_ok s)
    (λ t. entries_ok s)
    (λ t. cases_ok s)
    (λ t. supported_ok s)
