-- The switch of a sheet that the check accepts: its program has the right depths, and every place of it is reached.
use Prim.Native.Nat.{ℕ}
use mathlib.Core.Path.{◌≡◌}
use mathlib.Core.List.{List}
use Rattle.sheet.specs.Node.{kind}
use Rattle.checks.specs.Checked.{verdict_number, checked}
use Rattle.checks.proofs.AcceptedLaws.{accepted-sizes, accepted-shape, accepted-numbers}
use Rattle.lowering.specs.Kinds.{switch_kind}
use Rattle.lowering.specs.Out.{Rec}
use Rattle.lowering.specs.Switch.{switch}
use Rattle.lowering.proofs.Meets.{Meets}
use Rattle.lowering.proofs.Whole.{WellTyped, AllReached}
use Rattle.lowering.specs.Nodes.{Valid, Right}
use Rattle.lowering.proofs.NodesLaws.{right, subject-valid, guard-valid, body-valid}
use Rattle.lowering.proofs.SwitchBlocks.{Blocks}
use Rattle.lowering.proofs.SwitchChecked.{checked-blocks}
use Rattle.lowering.proofs.SwitchTyped.{switch-typed}
use Rattle.lowering.proofs.SwitchReached.{Links}
use Rattle.lowering.proofs.SwitchAllReached.{switch-reached}

module _ (s : List ℕ) (a : verdict_number (checked s) ≡ 0) where
  pub accepted-right : Right s
  accepted-right = right s (accepted-sizes s a) (accepted-shape s a)

  module _ (k : kind s 0 ≡ switch_kind) where
    pub accepted-blocks : Blocks s
    accepted-blocks = checked-blocks s accepted-right (accepted-numbers s a) k

    pub accepted-typed : (rec : Rec) → Meets rec → WellTyped (switch s rec)
    accepted-typed rec M = switch-typed s rec M accepted-blocks

    pub accepted-reached : (rec : Rec) → Meets rec → Links rec (Valid s) → AllReached (switch s rec)
    accepted-reached rec M K =
        switch-reached s rec M accepted-blocks (Valid s) K (subject-valid s accepted-right k) (guard-valid s accepted-right k)
        (body-valid s accepted-right k)
