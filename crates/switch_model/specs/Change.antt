-- The lowering of a Switch as a change of what has been made so far, part by part in the order of the code. `low` lowers a node, and
-- `body k` is where the body of block k stands.
use Rattle.std.specs.Prelude.{ℕ, zero, suc, Bool, true, false, ◌&&◌, List, [], ◌∷◌, map}
use Rattle.sheet.specs.Node.{position, child}
use Rattle.switch_split.specs.Split as Split
use Rattle.bytecode.specs.declared.Op.TheVariants.{Unit, Jump, JumpIfTrue, Rotate, Pop, Switch}
use Rattle.lowering.specs.Code.{no_pos}
use Rattle.lowering.specs.Pools.{emits, const_of}
use Rattle.lowering.specs.SwitchSheet.{block_count, subject, guard_of, body_of, cases_of, case_blocks}
use Rattle.lowering.specs.Arms.{End, taken, declined, idle, never, always, tried, guard_kind, distinct}
use Rattle.expr_model.specs.Made.{Made, with, emit, add_const, at_depth}
use Rattle.expr_model.specs.Construct.{Low}

-- an instruction that is counted and has no code
unfoldable pub dropped : Made → Made
dropped a = with (emits 1) a

-- a jump, or its count alone
unfoldable pub jump_to : Bool → ℕ → Made → Made
jump_to drop target a = elim drop [ true ↦ dropped a | false ↦ emit (Jump target) no_pos 0 a ]

-- ---- chains

-- the guard of block k, and the jump to the body
unfoldable pub try_to : List ℕ → Low → (ℕ → ℕ) → ℕ → Made → Made
try_to s low body k a = emit (JumpIfTrue (body k)) (position s (guard_of s k)) 0 (low (guard_of s k) a)

-- the guards that are tried for a list of blocks
unfoldable pub tries_to : List ℕ → Low → (ℕ → ℕ) → List ℕ → Made → Made
tries_to s low body [] a = a
tries_to s low body (k ∷ ks) a =
    elim (guard_kind s (guard_of s k)) [
      | never ↦ tries_to s low body ks a
      | always ↦ a
      | tried ↦ tries_to s low body ks (try_to s low body k a)
    ]

-- how the list ends
unfoldable pub end_of : List ℕ → List ℕ → End
end_of s [] = declined
end_of s (k ∷ ks) =
    elim (guard_kind s (guard_of s k)) [ never ↦ end_of s ks | always ↦ taken k | tried ↦ end_of s ks ]

-- a guard of the list is tried
unfoldable pub any_tried : List ℕ → List ℕ → Bool
any_tried s [] = false
any_tried s (k ∷ ks) =
    elim (guard_kind s (guard_of s k)) [ never ↦ any_tried s ks | always ↦ false | tried ↦ true ]

-- the jump at the end of a chain; the one to the fallback may be dropped
unfoldable pub end_to : (ℕ → ℕ) → ℕ → Bool → End → Made → Made
end_to body fallback drop (taken k) a = emit (Jump (body k)) no_pos 0 a
end_to body fallback drop declined a = jump_to drop fallback a
end_to body fallback drop idle a = dropped a

-- the chain of a list of blocks, if there is a guard to try
unfoldable pub arm_to : List ℕ → Low → (ℕ → ℕ) → ℕ → Bool → List ℕ → Made → Made
arm_to s low body fallback drop ks a =
    elim (any_tried s ks) [ true ↦ end_to body fallback drop (end_of s ks) (tries_to s low body ks a) | false ↦ a ]

-- none of the lists has a guard to try
unfoldable pub quiet : List ℕ → List (List ℕ) → Bool
quiet s [] = true
quiet s (l ∷ ls) = elim (any_tried s l) [ true ↦ false | false ↦ quiet s ls ]

-- the chains of these lists; `falls` says that the fallback follows, so that the last chain needs no jump to it
unfoldable pub arms_to : List ℕ → Low → (ℕ → ℕ) → ℕ → Bool → List (List ℕ) → Made → Made
arms_to s low body fallback falls [] a = a
arms_to s low body fallback falls (l ∷ ls) a =
    arms_to s low body fallback falls ls (arm_to s low body fallback (falls && quiet s ls) l a)

-- there are split entries
unfoldable pub any_split : List Split.Entry → Bool
any_split [] = false
any_split (e ∷ es) = true

abbrev pub case_lists : List ℕ → List (List ℕ)
case_lists s = distinct (map (case_blocks s) (cases_of s))

abbrev pub range_lists : List Split.Entry → List (List ℕ)
range_lists es = distinct (map (λ (x : Split.Entry). x.blocks) es)

-- the second Switch and the chains of the ranges
unfoldable pub ranges_to : List ℕ → Low → (ℕ → ℕ) → ℕ → List Split.Entry → Made → Made
ranges_to s low body default es a =
    elim (any_split es) [
      | true ↦ arms_to s low body default false (range_lists es) (emit (Switch 1) no_pos 0 a)
      | false ↦ a
    ]

-- ---- bodies

-- none of n blocks from k on is wanted
unfoldable pub none_from : (ℕ → Bool) → ℕ → ℕ → Bool
none_from want zero k = true
none_from want (suc n) k = elim (want k) [ true ↦ false | false ↦ none_from want n (suc k) ]

-- the body of block k over the subject, and the jump to the end
unfoldable pub body_to : List ℕ → Low → ℕ → Bool → ℕ → Made → Made
body_to s low end drop k a = jump_to drop end (low (body_of s k) (at_depth 1 a))

-- the bodies that are wanted of n blocks from k on; `falls` says that the end follows, so that the last body needs no jump to it
unfoldable pub bodies_to : List ℕ → Low → (ℕ → Bool) → ℕ → Bool → ℕ → ℕ → Made → Made
bodies_to s low want end falls zero k a = a
bodies_to s low want end falls (suc n) k a =
    elim (want k) [
      | true ↦ bodies_to s low want end falls n (suc k) (body_to s low end (falls && none_from want n (suc k)) k a)
      | false ↦ bodies_to s low want end falls n (suc k) a
    ]

-- there is a default block; `def` is its number plus 1, or 0
unfoldable pub has_default : ℕ → Bool
has_default zero = false
has_default (suc k) = true

-- Unit for a missing default
unfoldable pub missing_to : ℕ → Made → Made
missing_to zero a = emit Unit no_pos 0 (at_depth 1 a)
missing_to (suc k) a = a

-- the subject goes from below the value
unfoldable pub close_to : Made → Made
close_to a = emit Pop no_pos 0 (emit (Rotate 1) no_pos 0 (at_depth 2 a))

-- ---- the whole

-- the targets of the jumps
pub record Targets : Type 0 where
  pub body : ℕ → ℕ
  pub fallback : ℕ
  pub default : ℕ
  pub end : ℕ

-- up to the chains of the cases
unfoldable pub subject_to : Low → Made → Made
subject_to low a = emit (Switch 0) no_pos 0 (low subject a)

-- up to the bodies
unfoldable pub chains_to : List ℕ → Low → Targets → List Split.Entry → Made → Made
chains_to s low t es a =
    ranges_to s low t.body t.default es (arms_to s low t.body t.fallback (any_split es) (case_lists s) a)

unfoldable pub switch_to : List ℕ → Low → Targets → List Split.Entry → ℕ → (ℕ → Bool) → Made → Made
switch_to s low t es def want a =
    let x = chains_to s low t es (subject_to low a) in
    close_to (missing_to def (bodies_to s low want t.end (has_default def) (block_count s) 0 x))

-- constants of Cases, after all code
unfoldable pub cases_to : List ℕ → List ℕ → Made → Made
cases_to s [] a = a
cases_to s (c ∷ cs) a = cases_to s cs (add_const s (const_of s (child c)) a)
