-- An accepted sheet whose node 0 is a Switch is ready.
use Rattle.std.proofs.Common.{◌≡◌, ℕ, List}
use Rattle.checks.proofs.AcceptedLaws.{accepted-sizes, accepted-shape, accepted-numbers}
use Rattle.sheet.specs.Node.{kind}
use Rattle.checks.specs.Checked.{verdict_number, checked}
use Rattle.lowering.specs.Kinds.{switch_kind}
use Rattle.lowering.proofs.NodesLaws.{right}
use Rattle.switch_emit.specs.Ready.{Ready}

pub ready : (s : List ℕ) → verdict_number (checked s) ≡ 0 → kind s 0 ≡ switch_kind → Ready s
ready s h e = record { right = right s (accepted-sizes s h) (accepted-shape s h); numbers = accepted-numbers s h; accepted = h; switch = e }
