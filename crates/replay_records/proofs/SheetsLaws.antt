-- A sheet is the front of what was read with its padding.
use Prim.Native.Nat.{ℕ, ◌≤◌}
use mathlib.Core.Path.{◌≡◌, sym, ap, subst, ◌∙◌}
use mathlib.Core.List.{List}
use native.Mathlib.Omega.{arith}
use lib.ListN.{length, take, drop}
use lib.Seq.{length-take-le}
use Rattle.std.proofs.lemmas.List.{take-append-drop}
use Rattle.std.specs.Prelude.{Option}
use Rattle.std.specs.Io.KnownBytes.{Consumes}
use Rattle.replay_records.specs.Sheets.{SheetRead, padded}

pub sheet-read : {before after : Option (List ℕ)} {n : ℕ} (bytes : List ℕ) (k : ℕ) → k ≡ n → length bytes ≡ padded n → n ≤ length bytes
    → Consumes before after bytes → SheetRead before after n (take k bytes)
sheet-read {before} {after} {n} bytes k here all within reads =
    let whole = take-append-drop k bytes in record {
      size = length-take-le k bytes (omega arith) ∙ here;
      padding = drop k bytes;
      whole = ap length whole ∙ all;
      reads = subst (Consumes before after) (sym whole) reads;
    }
