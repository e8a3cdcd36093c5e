-- What a switch emits, and whether it reaches an `eval`, by tallies of its nodes that count no more than others.
use Prim.Native.Nat.{ℕ, zero, suc, ◌≤◌}
use mathlib.Core.Path.{◌≡◌, refl, sym, ap₂, ◌∙◌}
use mathlib.Core.Bool.{◌||◌}
use mathlib.Core.List.{List, [], ◌∷◌}
use native.Mathlib.Omega.{arith}
use Rattle.switch_split.specs.Split as Split
use Rattle.lowering.specs.SwitchSheet.{guard_of, body_of, subject, default_block}
use Rattle.lowering.specs.Arms.{Guard, never, always, tried, guard_kind}
use Rattle.expr_count.specs.declared.tallies.Tally.{Tally}
use Rattle.expr_count.specs.Tally.{instructions, nothing, plus}
use Rattle.expr_count.specs.Count.{Rec}
use Rattle.expr_count.proofs.BoundLaws.{Below, below-refl, below-plus, Under}
use Rattle.switch_count.specs.Arms.{tries_tally, has_try, end_tally, arm_tally, arms_tally}
use Rattle.switch_count.proofs.ArmsAdd.{falls-emitted, falls-defeated}
use Rattle.switch_count.specs.Bodies.{bodies_tally, default_tally}
use Rattle.switch_count.proofs.BodiesAdd.{fall-emitted, fall-defeated}
use Rattle.switch_count.specs.Total.{case_lists, split_lists, cases_tally, ranges_tally, bodies_of, switch_tally}

-- no more is emitted, and an `eval` is reached where the other reaches one
pub record Less (a b : Tally) : Type 0 where
  pub emitted : a.emitted ≤ b.emitted
  pub defeated : a.defeated ≡ b.defeated

pub less-of : {a b : Tally} → Below a b → Less a b
less-of g = record { emitted = g.emitted; defeated = g.defeated }

less-plus : {a b c d : Tally} → Less a b → Less c d → Less (plus a c) (plus b d)
unfolding plus
less-plus g h = record { emitted = omega (arith, g.emitted, h.emitted); defeated = ap₂ ◌||◌ g.defeated h.defeated }

same : (a : Tally) → Less a a
same a = less-of (below-refl a)

-- the same as others that are less
less_by : {a b c d : Tally} → a.emitted ≡ b.emitted → a.defeated ≡ b.defeated → c.emitted ≡ d.emitted → c.defeated ≡ d.defeated
    → Below b d → Less a c
less_by p q r v g = record { emitted = omega (arith, p, r, g.emitted); defeated = q ∙ g.defeated ∙ sym v }

module _ (s : List ℕ) (t u : Rec) (U : Under t u) where
  tries-below : (ks : List ℕ) → Below (tries_tally s t ks) (tries_tally s u ks)
  unfolding tries_tally
  tries-below [] = below-refl nothing
  tries-below (k ∷ ks) = by (guard_kind s (guard_of s k)) refl (tries-below ks)
    where
      by : (g : Guard) → guard_kind s (guard_of s k) ≡ g → Below (tries_tally s t ks) (tries_tally s u ks)
          → Below (tries_tally s t (k ∷ ks)) (tries_tally s u (k ∷ ks))
      by never h ih = rw (h, tries_tally) ih
      by always h ih = rw (h, tries_tally) (below-refl nothing)
      by tried h ih = rw (h, tries_tally) (below-plus (below-plus (U.each (guard_of s k)) (below-refl (instructions 1))) ih)

  arms-below : (ls : List (List ℕ)) → Below (arms_tally s t ls) (arms_tally s u ls)
  unfolding arms_tally arm_tally
  arms-below [] = below-refl nothing
  arms-below (l ∷ ls) = below-plus (below-plus (tries-below l) (below-refl (end_tally (has_try s l)))) (arms-below ls)

  bodies-below : (ks : List ℕ) → Below (bodies_tally s t ks) (bodies_tally s u ks)
  unfolding bodies_tally
  bodies-below [] = below-refl nothing
  bodies-below (k ∷ ks) = below-plus (below-plus (U.each (body_of s k)) (below-refl (instructions 1))) (bodies-below ks)

  cases-less : (es : List Split.Entry) → Less (cases_tally s t es) (cases_tally s u es)
  unfolding cases_tally
  cases-less [] = less-of (arms-below (case_lists s))
  cases-less (e ∷ es) =
      less_by (falls-emitted s t (case_lists s)) (falls-defeated s t (case_lists s)) (falls-emitted s u (case_lists s))
      (falls-defeated s u (case_lists s)) (arms-below (case_lists s))

  ranges-less : (es : List Split.Entry) → Less (ranges_tally s t es) (ranges_tally s u es)
  unfolding ranges_tally
  ranges-less [] = same nothing
  ranges-less (e ∷ es) = less-plus (same (instructions 1)) (less-of (arms-below (split_lists (e ∷ es))))

  default-less : (def : ℕ) (ks : List ℕ) → Less (default_tally s t def ks) (default_tally s u def ks)
  unfolding default_tally
  default-less zero ks = less-plus (less-of (bodies-below ks)) (same (instructions 1))
  default-less (suc k) ks =
      less_by (fall-emitted s t ks) (fall-defeated s t ks) (fall-emitted s u ks) (fall-defeated s u ks) (bodies-below ks)

  pub switch-less : (es : List Split.Entry) → Less (switch_tally s t es) (switch_tally s u es)
  unfolding switch_tally
  switch-less es =
      less-plus (less-plus (less-of (U.each subject)) (same (instructions 1)))
      (less-plus (cases-less es)
      (less-plus (ranges-less es) (less-plus (default-less (default_block s) (bodies_of s es)) (same (instructions 2)))))
