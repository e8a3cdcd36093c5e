-- Locals. The last local with the name wins.
use Rattle.std.specs.Prelude.{ℕ, zero, suc, true, false, List}
use Rattle.std.proofs.Math.Option.{Option, none, some}
use Rattle.text.specs.Same.{same}
use Rattle.sheet.specs.Sections.{local_count}
use Rattle.sheet.specs.Node.{local_text}
use Rattle.sheet.specs.Text.{text}

-- the last of the first n locals with the name
unfoldable pub resolve_below : ℕ → List ℕ → List ℕ → Option ℕ
resolve_below zero s name = none
resolve_below (suc n) s name =
    elim (same (text s (local_text s n)) name) [ true ↦ some n | false ↦ resolve_below n s name ]

unfoldable pub resolve : List ℕ → List ℕ → Option ℕ
resolve s name = resolve_below (local_count s) s name
