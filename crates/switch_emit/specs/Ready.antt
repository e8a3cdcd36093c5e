-- What is known of a sheet whose Switch is lowered, and which lists of blocks it names.
use Rattle.std.specs.Prelude.{◌≡◌, ℕ, ◌<◌, true, List}
use Rattle.sheet.specs.Node.{kind}
use Rattle.check_numbers.specs.Numbers.{numbers_ok}
use Rattle.checks.specs.Checked.{verdict_number, checked}
use Rattle.lowering.specs.All.{All}
use Rattle.lowering.specs.Kinds.{switch_kind}
use Rattle.lowering.specs.Nodes.{Right}
use Rattle.lowering.specs.SwitchSheet.{block_count}

-- an accepted sheet with a Switch
pub record Ready (s : List ℕ) : Type 0 where
  pub right : Right s
  pub numbers : numbers_ok s ≡ true
  pub accepted : verdict_number (checked s) ≡ 0
  pub switch : kind s 0 ≡ switch_kind

-- blocks of the Switch
pub record Named (s : List ℕ) (ks : List ℕ) : Type 0 where
  pub each : All (λ k. k < block_count s) ks
