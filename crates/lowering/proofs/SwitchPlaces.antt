-- Where the parts of a switch stand in its code: the places that the layout gives are the places of the code that is written.
use Prim.Native.Nat.{ℕ, zero, suc, ◌+◌}
use mathlib.Core.Path.{◌≡◌, refl, ap}
use mathlib.Core.List.{List, [], ◌∷◌, ◌++◌}
use native.Mathlib.Omega.{arith}
use native.Mathlib.Nat.{zero-add}
use lib.ListN.{length, length-append}
use Rattle.bytecode.specs.declared.Op.TheVariants.{Unit, Jump, JumpIfTrue, Rotate, Pop, Switch}
use Rattle.switch_split.specs.Split as Split
use Rattle.lowering.specs.Code.{Code, ins, no_pos}
use Rattle.lowering.specs.Out.{Rec}
use Rattle.lowering.specs.Arms.{Try, End, taken, declined, idle, Entry, to_body, to_chain, to_fallback, Arm, tries_extent, end_extent}
use Rattle.lowering.specs.Arms.{entry_extent, arms_extent}
use Rattle.lowering.specs.Bodies.{Body, bodies_extent, fall_extent, body_at}
use Rattle.lowering.specs.SwitchLaid.{SwitchLaid, layout, ranges_extent}
use Rattle.lowering.specs.SwitchCode.{over_subject, over_value, default_at, end_at, fallback_at, tries_code, end_code, entry_code, arms_code}
use Rattle.lowering.specs.SwitchCode.{ranges_code, bodies_code, bodies_fall, default_code, switch_code}
use Rattle.lowering.proofs.Stands.{Stands, stands-whole, stands_at, stands-left, stands-next}

-- ---- extents are lengths

module _ (bodies : List Body) where
  pub tries-length : (ts : List Try) → length (tries_code bodies ts) ≡ tries_extent ts
  unfolding tries_code tries_extent
  tries-length [] = refl
  tries-length (t ∷ ts) =
      let h = tries-length ts in
      let e = length-append t.code (ins (JumpIfTrue (body_at t.block bodies)) over_value t.pos ∷ tries_code bodies ts) in
      omega arith

  end-length : (fallback : ℕ) (e : End) → length (end_code bodies fallback e) ≡ end_extent e
  unfolding end_code end_extent
  end-length fallback (taken k) = refl
  end-length fallback declined = refl
  end-length fallback idle = refl

  pub entry_length : (fallback : ℕ) (e : Entry) → length (entry_code bodies fallback e) ≡ entry_extent e
  unfolding entry_code entry_extent
  entry_length fallback (to_body k) = refl
  entry_length fallback (to_chain b ts e) =
      simp (length-append, tries-length ts, end-length fallback e)
  entry_length fallback to_fallback = refl

  pub arms-length : (fallback : ℕ) (arms : List Arm) → length (arms_code bodies fallback arms) ≡ arms_extent arms
  unfolding arms_code arms_extent
  arms-length fallback [] = refl
  arms-length fallback (a ∷ arms) = simp (length-append, entry_length fallback a.entry, arms-length fallback arms)

  pub ranges-length : (fallback : ℕ) (es : List Split.Entry) (arms : List Arm)
      → length (ranges_code bodies fallback es arms) ≡ ranges_extent es arms
  unfolding ranges_code ranges_extent
  ranges-length fallback [] arms = refl
  ranges-length fallback (e ∷ es) arms = ap suc (arms-length fallback arms)

pub bodies-length : (end : ℕ) (xs : List Body) → length (bodies_code end xs) ≡ bodies_extent xs
unfolding bodies_code bodies_extent
bodies-length end [] = refl
bodies-length end (x ∷ xs) =
    let h = bodies-length end xs in
    let e = length-append x.code (ins (Jump end) over_value no_pos ∷ bodies_code end xs) in
    omega arith

pub fall-length : (end : ℕ) (xs : List Body) → length (bodies_fall end xs) ≡ fall_extent xs
unfolding bodies_fall fall_extent
fall-length end [] = refl
fall-length end (x ∷ []) = refl
fall-length end (x ∷ y ∷ xs) =
    let h = fall-length end (y ∷ xs) in
    let e = length-append x.code (ins (Jump end) over_value no_pos ∷ bodies_fall end (y ∷ xs)) in
    omega arith

-- bodies and default end where the switch ends
pub default-length : (def : ℕ) (l : SwitchLaid) → l.bodies_place + length (default_code def (end_at def l) l.bodies) ≡ end_at def l
unfolding default_code end_at
default-length zero l =
    let end = l.bodies_place + bodies_extent l.bodies + 1 in
    let h = bodies-length end l.bodies in
    let e = length-append (bodies_code end l.bodies) (ins Unit over_subject no_pos ∷ []) in
    omega arith
default-length (suc k) l =
    let h = fall-length (l.bodies_place + fall_extent l.bodies) l.bodies in
    omega arith

-- ---- where the parts stand

-- the places of a layout follow from its parts
pub record Laid (l : SwitchLaid) : Type 0 where
  pub dispatch_is : l.dispatch ≡ length l.subject_code + 1 + arms_extent l.case_arms
  pub bodies-are : l.bodies_place ≡ l.dispatch + ranges_extent l.splits l.range_arms

pub layout-laid : (s : List ℕ) (rec : Rec) → Laid (layout s rec)
unfolding layout
layout-laid s rec = record { dispatch_is = refl; bodies-are = refl }

-- the last two instructions
abbrev pub ending_code : Code
ending_code = ins (Rotate 1) over_value no_pos ∷ ins Pop over_value no_pos ∷ []

abbrev pub first_switch : Code
first_switch = ins (Switch 0) over_subject no_pos ∷ []

module _ (def : ℕ) (l : SwitchLaid) (h : Laid l) where
  abbrev cases_part : Code
  cases_part = arms_code l.bodies (fallback_at def l.splits l) l.case_arms

  abbrev ranges_part : Code
  ranges_part = ranges_code l.bodies (default_at def l) l.splits l.range_arms

  abbrev bodies_part : Code
  bodies_part = default_code def (end_at def l) l.bodies

  -- the parts up to each of them
  up_to_end : Stands (switch_code def l) 0 (l.subject_code ++ first_switch ++ cases_part ++ ranges_part ++ bodies_part ++ ending_code)
  unfolding switch_code
  up_to_end = stands-whole (switch_code def l)

  up_to_bodies : Stands (switch_code def l) 0 (l.subject_code ++ first_switch ++ cases_part ++ ranges_part ++ bodies_part)
  up_to_bodies = stands-left _ ending_code up_to_end

  up_to_ranges : Stands (switch_code def l) 0 (l.subject_code ++ first_switch ++ cases_part ++ ranges_part)
  up_to_ranges = stands-left _ bodies_part up_to_bodies

  up_to_cases : Stands (switch_code def l) 0 (l.subject_code ++ first_switch ++ cases_part)
  up_to_cases = stands-left _ ranges_part up_to_ranges

  up_to_switch : Stands (switch_code def l) 0 (l.subject_code ++ first_switch)
  up_to_switch = stands-left _ cases_part up_to_cases

  pub subject-stands : Stands (switch_code def l) 0 l.subject_code
  subject-stands = stands-left _ first_switch up_to_switch

  pub switch-stands : Stands (switch_code def l) (length l.subject_code) first_switch
  switch-stands = stands_at (zero-add (length l.subject_code)) (stands-next subject-stands up_to_switch)

  pub cases-stand : Stands (switch_code def l) (length l.subject_code + 1) cases_part
  cases-stand = stands_at (simp (length-append, zero-add)) (stands-next up_to_switch up_to_cases)

  pub ranges-stand : Stands (switch_code def l) l.dispatch ranges_part
  ranges-stand = stands_at (simp (length-append, arms-length) (omega arith)) (stands-next up_to_cases up_to_ranges)

  pub bodies-stand : Stands (switch_code def l) l.bodies_place bodies_part
  bodies-stand = stands_at (simp (length-append, arms-length, ranges-length) (omega arith)) (stands-next up_to_ranges up_to_bodies)

  pub ending-stands : Stands (switch_code def l) (end_at def l) ending_code
  ending-stands =
      let e = default-length def l in
      stands_at (simp (length-append, arms-length, ranges-length) (omega arith)) (stands-next up_to_bodies up_to_end)

  pub switch-length : length (switch_code def l) ≡ end_at def l + 2
  unfolding switch_code
  switch-length =
      let e = default-length def l in
      simp (length-append, arms-length, ranges-length) (omega arith)
