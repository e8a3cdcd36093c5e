-- No part of a switch lowers the count of instructions emitted, none adds more to the code than to it, and the depths are known.
use Prim.Native.Nat.{ℕ, zero, suc, ◌+◌, ◌≤◌}
use mathlib.Core.Path.{◌≡◌, refl, ap, ◌∙◌}
use mathlib.Core.Bool.{Bool, true, false, ◌&&◌}
use mathlib.Core.List.{List, [], ◌∷◌}
use native.Mathlib.Omega.{arith}
use Rattle.sheet.specs.Node.{position, child}
use Rattle.switch_split.specs.Split as Split
use Rattle.bytecode.specs.declared.Op.{Op}
use Rattle.bytecode.specs.declared.Op.TheVariants.{Unit, Jump, JumpIfTrue, Rotate, Pop, Switch}
use Rattle.lowering.specs.Code.{no_pos}
use Rattle.lowering.specs.Pools.{emits, const_of}
use Rattle.lowering.specs.SwitchSheet.{block_count, subject, guard_of, body_of}
use Rattle.lowering.specs.Arms.{End, taken, declined, idle, Guard, never, always, tried, guard_kind}
use Rattle.expr_model.specs.Made.{Made, place, after, emit, add_const, at_depth}
use Rattle.expr_model.specs.Construct.{Low}
use Rattle.expr_model.proofs.AfterLaws.{after-rotate, after-pop}
use Rattle.expr_model.proofs.Rising.{Grown, Rising, grown-refl, grown-trans, emit-rises, emit-more, const-rises}
use Rattle.expr_model.proofs.Growing.{Short}
use Rattle.switch_model.specs.Change.{dropped, jump_to, try_to, tries_to, end_of, any_tried, end_to, arm_to, quiet, arms_to, any_split}
use Rattle.switch_model.specs.Change.{case_lists, range_lists, ranges_to, none_from, body_to, bodies_to, has_default, missing_to, close_to}
use Rattle.switch_model.specs.Change.{Targets, subject_to, chains_to, switch_to, cases_to}
use Rattle.switch_model.proofs.TryLaws.{tries-never, tries-always, tries-tried}
use Rattle.switch_model.proofs.ArmLaws.{arm-none, arm-some}
use Rattle.switch_model.proofs.BodyLaws.{bodies-wanted, bodies-passed}

-- ---- jumps

dropped-rises : Rising dropped
unfolding dropped emits
dropped-rises a = record { emitted = omega arith; depth = omega arith; place = omega arith }

pub jump-rises : (drop : Bool) (t : ℕ) → Rising (jump_to drop t)
unfolding jump_to
jump-rises true t a = dropped-rises a
jump-rises false t a = emit-rises (Jump t) no_pos 0 a

-- ---- chains

module _ (s : List ℕ) (low : Low) (L : (j : ℕ) → Rising (low j)) (body : ℕ → ℕ) where
  pub try-rises : (k : ℕ) → Rising (try_to s low body k)
  unfolding try_to
  try-rises k a = emit-more (JumpIfTrue (body k)) (position s (guard_of s k)) 0 (low (guard_of s k) a) (L (guard_of s k) a)

  tries-rise : (ks : List ℕ) → Rising (tries_to s low body ks)
  unfolding tries_to
  tries-rise [] a = grown-refl a
  tries-rise (k ∷ ks) a = by (guard_kind s (guard_of s k)) refl (tries-rise ks)
    where
      by : (g : Guard) → guard_kind s (guard_of s k) ≡ g → Rising (tries_to s low body ks) → Grown a (tries_to s low body (k ∷ ks) a)
      by never h more = rw (tries-never s k ks low body a h) (more a)
      by always h more = rw (tries-always s k ks low body a h) (grown-refl a)
      by tried h more = rw (tries-tried s k ks low body a h) (grown-trans (try-rises k a) (more (try_to s low body k a)))

  module _ (fallback : ℕ) where
    end-rises : (drop : Bool) (e : End) → Rising (end_to body fallback drop e)
    unfolding end_to
    end-rises drop (taken k) a = emit-rises (Jump (body k)) no_pos 0 a
    end-rises drop declined a = jump-rises drop fallback a
    end-rises drop idle a = dropped-rises a

    arm-rises : (drop : Bool) (ks : List ℕ) → Rising (arm_to s low body fallback drop ks)
    arm-rises drop ks a = by (any_tried s ks) refl
      where
        by : (t : Bool) → any_tried s ks ≡ t → Grown a (arm_to s low body fallback drop ks a)
        by true h =
            rw (arm-some s low body fallback drop ks a h)
            (grown-trans (tries-rise ks a) (end-rises drop (end_of s ks) (tries_to s low body ks a)))
        by false h = rw (arm-none s low body fallback drop ks a h) (grown-refl a)

    pub arms-rise : (falls : Bool) (ls : List (List ℕ)) → Rising (arms_to s low body fallback falls ls)
    unfolding arms_to
    arms-rise falls [] a = grown-refl a
    arms-rise falls (l ∷ ls) a =
        let d = falls && quiet s ls in
        grown-trans (arm-rises d l a) (arms-rise falls ls (arm_to s low body fallback d l a))

  ranges-rise : (default : ℕ) (es : List Split.Entry) → Rising (ranges_to s low body default es)
  unfolding ranges_to any_split
  ranges-rise default [] a = grown-refl a
  ranges-rise default (e ∷ es) a =
      grown-trans (emit-rises (Switch 1) no_pos 0 a) (arms-rise default false (range_lists (e ∷ es)) (emit (Switch 1) no_pos 0 a))

subject-rises : (low : Low) → ((j : ℕ) → Rising (low j)) → Rising (subject_to low)
unfolding subject_to
subject-rises low L a = emit-more (Switch 0) no_pos 0 (low subject a) (L subject a)

pub chains-rise : (s : List ℕ) (low : Low) → ((j : ℕ) → Rising (low j)) → (t : Targets) (es : List Split.Entry)
    → Rising (chains_to s low t es)
unfolding chains_to
chains-rise s low L t es a =
    grown-trans (arms-rise s low L t.body t.fallback (any_split es) (case_lists s) a)
    (ranges-rise s low L t.body t.default es (arms_to s low t.body t.fallback (any_split es) (case_lists s) a))

pub cases-rise : (s : List ℕ) (cs : List ℕ) → Rising (cases_to s cs)
unfolding cases_to
cases-rise s [] a = grown-refl a
cases-rise s (c ∷ cs) a =
    let v = const_of s (child c) in
    grown-trans (const-rises s v a) (cases-rise s cs (add_const s v a))

-- ---- bodies: the depth starts again at 1, so only the count and the place are compared

pub record Longer (a x : Made) : Type 0 where
  pub emitted : a.pools.emitted ≤ x.pools.emitted
  pub place : place x + a.pools.emitted ≤ x.pools.emitted + place a

abbrev pub Lengthens : (Made → Made) → Type 0
Lengthens F = (a : Made) → Longer a (F a)

longer-refl : (a : Made) → Longer a a
longer-refl a = record { emitted = omega arith; place = omega arith }

longer-trans : {a x y : Made} → Longer a x → Longer x y → Longer a y
longer-trans g h = record { emitted = omega (arith, g.emitted, h.emitted); place = omega (arith, g.place, h.place) }

grown-longer : {a x : Made} → Grown a x → Longer a x
grown-longer g = record { emitted = g.emitted; place = g.place }

pub longer-short : {a x : Made} → Longer a x → Short a → Short x
longer-short g h = omega (arith, g.emitted, g.place)

depth-lengthens : (d : ℕ) → Lengthens (at_depth d)
unfolding at_depth
depth-lengthens d a = record { emitted = omega arith; place = omega arith }

emit-lengthens : (op : Op) (pos n : ℕ) → Lengthens (emit op pos n)
emit-lengthens op pos n a = grown-longer (emit-rises op pos n a)

module _ (s : List ℕ) (low : Low) (L : (j : ℕ) → Rising (low j)) (end : ℕ) where
  pub body-lengthens : (drop : Bool) (k : ℕ) → Lengthens (body_to s low end drop k)
  unfolding body_to
  body-lengthens drop k a =
      let x = at_depth 1 a in
      longer-trans (depth-lengthens 1 a)
      (longer-trans (grown-longer (L (body_of s k) x)) (grown-longer (jump-rises drop end (low (body_of s k) x))))

  pub bodies-lengthen : (want : ℕ → Bool) (falls : Bool) (n k : ℕ) → Lengthens (bodies_to s low want end falls n k)
  unfolding bodies_to
  bodies-lengthen want falls zero k a = longer-refl a
  bodies-lengthen want falls (suc n) k a = by (want k) refl (bodies-lengthen want falls n (suc k))
    where
      by : (t : Bool) → want k ≡ t → Lengthens (bodies_to s low want end falls n (suc k))
          → Longer a (bodies_to s low want end falls (suc n) k a)
      by true h more =
          let d = falls && none_from want n (suc k) in
          rw (bodies-wanted want n k s low end falls a h) (longer-trans (body-lengthens d k a) (more (body_to s low end d k a)))
      by false h more = rw (bodies-passed want n k s low end falls a h) (more a)

pub missing-lengthens : (def : ℕ) → Lengthens (missing_to def)
unfolding missing_to
missing-lengthens zero a = longer-trans (depth-lengthens 1 a) (emit-lengthens Unit no_pos 0 (at_depth 1 a))
missing-lengthens (suc k) a = longer-refl a

pub close-lengthens : Lengthens close_to
unfolding close_to
close-lengthens a =
    let x = emit (Rotate 1) no_pos 0 (at_depth 2 a) in
    longer-trans (depth-lengthens 2 a)
    (longer-trans (emit-lengthens (Rotate 1) no_pos 0 (at_depth 2 a)) (emit-lengthens Pop no_pos 0 x))

module _ (s : List ℕ) (low : Low) (L : (j : ℕ) → Rising (low j)) (t : Targets) (es : List Split.Entry) (def : ℕ) (want : ℕ → Bool) where
  -- what follows the bodies; the bodies and what follows them; and so on, back to the whole
  abbrev pub from_missing : Made → Made
  from_missing a = close_to (missing_to def a)

  abbrev pub from_bodies : Made → Made
  from_bodies a = from_missing (bodies_to s low want t.end (has_default def) (block_count s) 0 a)

  abbrev pub from_cases : Made → Made
  from_cases a = from_bodies (chains_to s low t es a)

  from-missing : Lengthens from_missing
  from-missing a = longer-trans (missing-lengthens def a) (close-lengthens (missing_to def a))

  from-bodies : Lengthens from_bodies
  from-bodies a = longer-trans (bodies-lengthen s low L t.end want (has_default def) (block_count s) 0 a) (from-missing _)

  from-cases : Lengthens from_cases
  from-cases a = longer-trans (grown-longer (chains-rise s low L t es a)) (from-bodies _)

  pub switch-lengthens : Lengthens (switch_to s low t es def want)
  unfolding switch_to
  switch-lengthens a = longer-trans (grown-longer (subject-rises low L a)) (from-cases (subject_to low a))

-- ---- depths, where a node that is lowered leaves one value

pub close-depth : (a : Made) → (close_to a).depth ≡ 1
unfolding close_to emit at_depth
close-depth a = ap (after Pop 0) (after-rotate 0 2 1) ∙ after-pop 0 1
