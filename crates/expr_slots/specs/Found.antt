-- The answer of a search among the locals, as the code gives it.
use Rattle.std.specs.Prelude.{ℕ, Option, Some, None}
use Rattle.std.proofs.Math.Option as Search
use Rattle.std.proofs.Math.Option.{none, some}

unfoldable pub found : Search.Option ℕ → Option ℕ
found none = None
found (some slot) = Some slot
