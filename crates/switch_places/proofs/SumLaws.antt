-- The sums of a switch and the places of its parts, as the code counts them.
use Prim.Native.Nat.{ℕ, zero, suc, ◌+◌, ◌-◌, ◌<◌, ◌≤◌}
use mathlib.Core.Path.{◌≡◌, refl, sym, ap}
use mathlib.Core.Bool.{Bool, true, false, ◌||◌, or-false}
use mathlib.Core.List.{List, [], ◌∷◌}
use native.Mathlib.Omega.{arith}
use lib.Dec.{eqb}
use lib.ListN.{length, take}
use Rattle.switch_split.specs.Split as Split
use Rattle.lowering.specs.Limits.{max_emitted}
use Rattle.lowering.specs.SwitchSheet.{body_of}
use Rattle.lowering.specs.Arms.{distinct, distinct_from}
use Rattle.expr_count.specs.declared.tallies.Tally.{Tally}
use Rattle.expr_count.specs.Tally.{instructions, nothing, plus, taken_back, capped}
use Rattle.expr_count.proofs.TallyLaws.{tally-path}
use Rattle.expr_count.specs.Count.{Rec}
use Rattle.switch_count.specs.Arms.{arms_tally}
use Rattle.switch_count.specs.Bodies.{bodies_tally, fall_tally, default_tally}
use Rattle.switch_count.specs.Total.{case_lists, split_lists, cases_tally, ranges_tally, bodies_of}
use Rattle.switch_count.specs.Place.{dispatch_place, bodies_place, body_from, default_place, end_place, fallback_place}
use Rattle.switch_count.proofs.ArmsAdd.{falls-emitted, falls-defeated}
use Rattle.switch_count.proofs.BodiesAdd.{fall-emitted, fall-defeated}
use Rattle.switch_places.specs.Idle.{idles_from, second_at, second_tally}
use Rattle.switch_places.specs.Finished.{if_none, end_by, fall_by, last_ones}
use Rattle.switch_places.proofs.IdleLaws.{falls-idle}

-- the second Switch, where there are n > 0 bands
unfoldable pub some_band : ℕ → ℕ
some_band zero = 0
some_band (suc n) = 1

-- ---- the second Switch

pub second-least : (n : ℕ) (i : Bool) (b : ℕ) → b ≤ second_at n i b + 1
unfolding if_none
second-least zero i b = omega arith
second-least (suc n) true b = omega arith
second-least (suc n) false b = omega arith

pub second-len : (n : ℕ) (i : Bool) (b : Tally) → b.len ≤ max_emitted + 1 → (second_tally n i b).len ≡ second_at n i b.len + some_band n
unfolding if_none some_band capped plus instructions
second-len zero i b l = omega arith
second-len (suc n) i b l = omega arith

pub one-band : (es : List Split.Entry) (q : ℕ) → q < length (split_lists es) → some_band (length es) ≡ 1
unfolding split_lists distinct distinct_from some_band
one-band [] q l = absurd (omega arith)
one-band (e ∷ es) q l = refl

-- ---- the parts, but for their lengths

pub back-plus : (a b : Tally) → taken_back (plus a b) ≡ plus (taken_back a) (taken_back b)
unfolding taken_back plus
back-plus a b = refl

pub second_back : (n : ℕ) (i : Bool) (b : Tally)
    → taken_back (second_tally n i (capped b)) ≡ capped (plus (taken_back b) (taken_back (instructions (some_band n))))
unfolding if_none some_band taken_back capped plus instructions
second_back zero i b = tally-path refl (omega arith) (sym (or-false b.defeated))
second_back (suc n) i b = tally-path refl (omega arith) refl

module _ (s : List ℕ) (t : Rec) where
  pub cases-back : (es : List Split.Entry) → taken_back (cases_tally s t es) ≡ taken_back (arms_tally s t (case_lists s))
  unfolding cases_tally taken_back
  cases-back [] = refl
  cases-back (e ∷ es) = tally-path refl (falls-emitted s t (case_lists s)) (falls-defeated s t (case_lists s))

  pub ranges-are : (es : List Split.Entry) → ranges_tally s t es ≡ plus (instructions (some_band (length es))) (arms_tally s t (split_lists es))
  unfolding ranges_tally some_band split_lists distinct distinct_from arms_tally plus instructions nothing
  ranges-are [] = refl
  ranges-are (e ∷ es) = refl

  pub default-back : (def : ℕ) (ks : List ℕ) → plus (taken_back (default_tally s t def ks)) (taken_back (instructions 2))
      ≡ plus (taken_back (bodies_tally s t ks)) (taken_back (instructions (last_ones def)))
  unfolding default_tally if_none taken_back plus instructions
  default-back zero ks = tally-path refl (omega arith) (or-false ((bodies_tally s t ks).defeated || false))
  default-back (suc k) ks = tally-path refl (omega (arith, fall-emitted s t ks)) (ap (λ x. x || false) (fall-defeated s t ks))

  -- ---- lengths

  pub take-most : (q : ℕ) (ls : List (List ℕ)) → (arms_tally s t (take q ls)).len ≤ (arms_tally s t ls).len
  unfolding arms_tally plus nothing instructions
  take-most zero ls = omega arith
  take-most (suc q) [] = omega arith
  take-most (suc q) (l ∷ ls) = omega (arith, take-most q ls)

  -- behind the chains of the cases, without the jump that is dropped
  pub second-place : (es : List Split.Entry) (p : ℕ)
      → second_at (length es) (idles_from s false (case_lists s)) (p + (arms_tally s t (case_lists s)).len) ≡ p + (cases_tally s t es).len
  unfolding if_none cases_tally
  second-place [] p = refl
  second-place (e ∷ es) p = omega (arith, falls-idle s t (case_lists s))

  -- ---- the bodies

  pub from-most : (k b : ℕ) (ks : List ℕ) → body_from s t k b ks ≤ b + (bodies_tally s t ks).len
  unfolding body_from bodies_tally plus instructions
  from-most k b [] = omega arith
  from-most k b (j ∷ js) = by (eqb k j) refl (from-most k (b + (t (body_of s j)).len + 1) js)
    where
      by : (x : Bool) → eqb k j ≡ x
          → body_from s t k (b + (t (body_of s j)).len + 1) js ≤ b + (t (body_of s j)).len + 1 + (bodies_tally s t js).len
          → body_from s t k b (j ∷ js) ≤ b + ((t (body_of s j)).len + 1 + (bodies_tally s t js).len)
      by true h r = rw (h, body_from) (omega arith)
      by false h r = rw (h, body_from) (omega (arith, r))

  fall-len : (ks : List ℕ) → (fall_tally s t ks).len ≡ (bodies_tally s t ks).len - 1
  unfolding fall_tally bodies_tally plus instructions nothing taken_back
  fall-len [] = refl
  fall-len (k ∷ []) = omega arith
  fall-len (k ∷ j ∷ ks) = omega (arith, fall-len (j ∷ ks))

  pub default-most : (def : ℕ) (ks : List ℕ) → (bodies_tally s t ks).len ≤ (default_tally s t def ks).len + 1
  unfolding default_tally plus instructions
  default-most zero ks = omega arith
  default-most (suc k) ks = omega (arith, fall-len ks)

  pub end-by : (es : List Split.Entry) (def : ℕ)
      → end_by def (bodies_place s t es) (bodies_place s t es + (bodies_tally s t (bodies_of s es)).len) ≡ end_place s t es def
  unfolding if_none end_place default_tally plus instructions
  end-by es zero = omega arith
  end-by es (suc k) = omega (arith, fall-len (bodies_of s es))

  pub fall-by : (es : List Split.Entry) (def : ℕ)
      → fall_by (length es) (default_place s t es def) (dispatch_place s t es) ≡ fallback_place s t es def
  unfolding if_none fallback_place
  fall-by [] def = refl
  fall-by (e ∷ es) def = refl
