-- Where the parts of a switch stand, by tallies: nothing has to be lowered to know the target of a jump or of a table's row.
use Rattle.std.specs.Prelude.{ℕ, zero, suc, ◌+◌, true, false, List, [], ◌∷◌, eqb}
use Rattle.text.specs.Same.{same}
use Rattle.switch_split.specs.Split as Split
use Rattle.lowering.specs.SwitchSheet.{default_block, subject, body_of}
use Rattle.lowering.specs.Arms.{End, taken, declined, idle}
use Rattle.expr_count.specs.Count.{Rec}
use Rattle.switch_count.specs.Arms.{end_of, has_try, arm_tally}
use Rattle.switch_count.specs.Bodies.{bodies_tally, default_tally}
use Rattle.switch_count.specs.Total.{case_lists, split_lists, cases_tally, ranges_tally, bodies_of}

-- the chains of the cases start behind the subject and the Switch
unfoldable pub cases_place : List ℕ → Rec → ℕ
cases_place s t = (t subject).len + 1

-- the second Switch, if there are split ranges
unfoldable pub dispatch_place : List ℕ → Rec → List Split.Entry → ℕ
dispatch_place s t es = cases_place s t + (cases_tally s t es).len

unfoldable pub bodies_place : List ℕ → Rec → List Split.Entry → ℕ
bodies_place s t es = dispatch_place s t es + (ranges_tally s t es).len

-- the body of block k, where the bodies of the blocks ks stand from place b on
unfoldable pub body_from : List ℕ → Rec → ℕ → ℕ → List ℕ → ℕ
body_from s t k b [] = 0
body_from s t k b (j ∷ js) = elim (eqb k j) [ true ↦ b | false ↦ body_from s t k (b + (t (body_of s j)).len + 1) js ]

unfoldable pub body_place : List ℕ → Rec → List Split.Entry → ℕ → ℕ
body_place s t es k = body_from s t k (bodies_place s t es) (bodies_of s es)

-- the default (plus 1): its body, or the Unit behind the bodies in its stead
unfoldable pub default_place : List ℕ → Rec → List Split.Entry → ℕ → ℕ
default_place s t es zero = bodies_place s t es + (bodies_tally s t (bodies_of s es)).len
default_place s t es (suc k) = body_place s t es k

-- Rotate and Pop
unfoldable pub end_place : List ℕ → Rec → List Split.Entry → ℕ → ℕ
end_place s t es def = bodies_place s t es + (default_tally s t def (bodies_of s es)).len

-- where a case goes that no guard takes
unfoldable pub fallback_place : List ℕ → Rec → List Split.Entry → ℕ → ℕ
fallback_place s t [] def = default_place s t [] def
fallback_place s t (e ∷ es) def = dispatch_place s t (e ∷ es)

-- where a list goes that has no guard to be tried
unfoldable pub end_target : (ℕ → ℕ) → ℕ → End → ℕ
end_target at fallback (taken k) = at k
end_target at fallback declined = fallback
end_target at fallback idle = fallback

-- where a list goes whose chain is at place b
unfoldable pub list_target : List ℕ → (ℕ → ℕ) → ℕ → ℕ → List ℕ → ℕ
list_target s at fallback b l = elim (has_try s l) [ true ↦ b | false ↦ end_target at fallback (end_of s l) ]

-- the same by the list, where the chains of ls are laid out from place b on
unfoldable pub target_from : List ℕ → Rec → (ℕ → ℕ) → ℕ → List ℕ → ℕ → List (List ℕ) → ℕ
target_from s t at fallback l b [] = fallback
target_from s t at fallback l b (m ∷ ms) =
    elim (same l m) [
      | true ↦ list_target s at fallback b m
      | false ↦ target_from s t at fallback l (b + (arm_tally s t m).len) ms
    ]

-- the targets of the rows of both tables, by their lists of blocks
unfoldable pub case_target : List ℕ → Rec → List Split.Entry → List ℕ → ℕ
case_target s t es l =
    target_from s t (body_place s t es) (fallback_place s t es (default_block s)) l (cases_place s t) (case_lists s)

unfoldable pub range_target : List ℕ → Rec → List Split.Entry → List ℕ → ℕ
range_target s t es l =
    target_from s t (body_place s t es) (default_place s t es (default_block s)) l (dispatch_place s t es + 1) (split_lists es)
