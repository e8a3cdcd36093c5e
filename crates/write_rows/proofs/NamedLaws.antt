-- docs/PORT.md names this law of a table that is written two words at a time.
use Prim.Native.Nat.{ℕ, ◌*◌}
use mathlib.Core.Path.{◌≡◌, refl}
use mathlib.Core.List.{List, [], ◌∷◌}
use native.Mathlib.Omega.{arith}
use lib.ListN.{length}
use Rattle.lowering.specs.Limits.{switch_width}
use Rattle.write_sections.specs.Written.{Written}
use Rattle.write_sections.specs.Put.{put_part}
use Rattle.write_sections.proofs.PutLaws.{written_none, written_next}
use Rattle.write_rows.specs.TableRows.{table_count}

pub one_written :
    (x : List ℕ) {y z : List ℕ} (n fallback m : ℕ) (e : length x ≡ switch_width * table_count m) (p : y ≡ put_part x 0 2 (0 ∷ 0 ∷ []))
    (q : z ≡ put_part y 2 2 (n ∷ fallback ∷ [])) → Written x z (0 ∷ 0 ∷ n ∷ fallback ∷ [])
one_written x n fallback m e p q =
    let two = written_next (written_none x) 0 2 (0 ∷ 0 ∷ []) refl refl (omega arith) in
    rw (q, p) (written_next two 2 2 (n ∷ fallback ∷ []) refl refl (omega arith))
