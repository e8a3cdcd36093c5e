-- Every image that a sheet is lowered to is well made for that sheet, and the test accepts it.
use Prim.Native.Nat.{ℕ}
use mathlib.Core.Path.{◌≡◌, refl, sym, subst}
use mathlib.Core.Bool.{Bool, true, false}
use mathlib.Core.List.{List}
use borrow.Author.Tests.{eqb-true}
use lib.Dec.{eqb}
use Rattle.sheet.specs.Limits.{max_depth}
use Rattle.sheet.specs.Node.{kind}
use Rattle.checks.specs.Checked.{verdict_number, checked}
use Rattle.lowering.specs.Kinds.{switch_kind}
use Rattle.lowering.specs.Pools.{Pools, no_pools}
use Rattle.lowering.specs.Out.{Out}
use Rattle.lowering.specs.Expression.{expression}
use Rattle.lowering.specs.Program.{plain}
use Rattle.lowering.specs.Outcome.{image, lower, outcome}
use Rattle.lowering.specs.Nodes.{Valid}
use Rattle.lowering.proofs.NodesLaws.{root-valid}
use Rattle.lowering.proofs.LowerFits.{lower-fits, lower_switch, lower-plain, image_is}
use Rattle.lowering.proofs.SoundExpression.{expression-meets}
use Rattle.checks.proofs.AcceptedLaws.{accepted-numbers}
use Rattle.lowering.proofs.SwitchAccepted.{accepted-right, accepted-blocks}
use Rattle.lowering.proofs.Demand3Holds.{not_image, lower-typed, lower-reached}
use Rattle.image_rule.specs.WellMade.{WellMade}
use Rattle.image_rule.specs.Test.{well_made}
use Rattle.image_rule.proofs.Theorem.{well-made}
use Rattle.image_made.specs.LoweredMade.{Statement}
use Rattle.image_made.proofs.Listed.{Listed}
use Rattle.image_made.proofs.Gives.{GivesOut}
use Rattle.image_made.proofs.GivesExpression.{NodeFacts, expression-gives, no-pools}
use Rattle.image_made.proofs.Facts.{node-facts}
use Rattle.image_made.proofs.SwitchListed.{tables_of, switch-listed}
use Rattle.image_made.proofs.FromProgram.{made-from}

-- a program without tables
plain-listed : (s : List ℕ) (p : Pools) (o : Out) → GivesOut s 0 p o → Listed s (plain o)
unfolding plain
plain-listed s p o g = record { code = g.code; pools = g.good; tables = tt; cases = tt; ranges = tt }

module _ (s : List ℕ) (a : verdict_number (checked s) ≡ 0) where
  -- a checked sheet
  facts : (j : ℕ) → Valid s j → NodeFacts s j
  facts = node-facts s (accepted-right s a) (accepted-numbers s a)

  -- its program is listed right
  lower-listed : Listed s (lower s)
  lower-listed = by (eqb (kind s 0) switch_kind) refl
    where
      by : (t : Bool) → eqb (kind s 0) switch_kind ≡ t → Listed s (lower s)
      by true h =
          let e = eqb-true (kind s 0) switch_kind h in
          let rec = expression max_depth s in
          subst (Listed s) (sym (lower_switch s h))
          (switch-listed s (accepted-right s a) (accepted-numbers s a) e (accepted-blocks s a e) rec (expression-meets max_depth s)
          (expression-gives s (tables_of s rec) facts max_depth))
      by false h =
          let g = (expression-gives s 0 facts max_depth).gives 0 0 0 no_pools (root-valid s (accepted-right s a)) (no-pools s) in
          subst (Listed s) (sym (lower-plain s h)) (plain-listed s no_pools (expression max_depth s 0 0 0 no_pools) g)

-- the theorem
pub lowered-made : Statement
unfolding outcome
lowered-made s image_length scratch_length w e =
    let a = not_image s image_length scratch_length (checked s) w e in
    subst (WellMade s) (image_is s image_length scratch_length w e)
    (made-from s (lower s) (lower-listed s a) (lower-fits s) (lower-typed s a) (lower-reached s a))

-- and so the test of the image accepts it
pub lowered-passes : (s : List ℕ) (image_length scratch_length : ℕ) (w : List ℕ) → outcome s image_length scratch_length ≡ image w
    → well_made s w ≡ true
lowered-passes s image_length scratch_length w e = (well-made s w).passes (lowered-made s image_length scratch_length w e)
