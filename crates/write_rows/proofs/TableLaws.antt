-- Laws of the tables: how many they are, and their words.
use Prim.Native.Nat.{ℕ, zero, suc, ◌*◌, ◌≤◌, ◌<◌}
use mathlib.Core.Path.{◌≡◌, refl, ◌∙◌}
use mathlib.Core.List.{List, [], ◌∷◌}
use native.Mathlib.Omega.{arith}
use lib.ListN.{length}
use Rattle.switch_split.specs.Split.{Entry}
use Rattle.bytecode.specs.Switch.{switch_words}
use Rattle.lowering.specs.Limits.{switch_width}
use Rattle.lowering.specs.Image.{section}
use Rattle.lowering.specs.SwitchTables.{case_table, range_table}
use Rattle.write_sections.specs.Written.{Written}
use Rattle.write_sections.specs.Put.{put_part}
use Rattle.write_sections.proofs.PutLaws.{written_none, written_next, written_all}
use Rattle.write_rows.specs.TableRows.{ranges_if, tables_of, table_count}

pub tables-length : (n fallback m default : ℕ) → length (tables_of n fallback m default) ≡ table_count m
unfolding ranges_if
tables-length n fallback zero default = omega arith
tables-length n fallback (suc m) default = omega arith

-- as the definition of the lowering says them
pub tables-are :
    (fallback default : ℕ) (cs : List ℕ) (es : List Entry)
    → tables_of (length cs) fallback (length es) default ≡ case_table fallback cs ∷ range_table default es
unfolding case_table range_table ranges_if
tables-are fallback default cs [] = refl
tables-are fallback default cs (e ∷ es) = refl

one-words :
    (n fallback m default : ℕ) → m ≤ 0 → (0 ∷ 0 ∷ n ∷ fallback ∷ []) ≡ section switch_words (tables_of n fallback m default)
unfolding section switch_words ranges_if
one-words n fallback zero default h = refl
one-words n fallback (suc m) default h = absurd (omega arith)

both_words :
    (n fallback m default : ℕ) → 0 < m
    → (0 ∷ 0 ∷ n ∷ fallback ∷ 1 ∷ 0 ∷ m ∷ default ∷ []) ≡ section switch_words (tables_of n fallback m default)
unfolding section switch_words ranges_if
both_words n fallback zero default h = absurd (omega arith)
both_words n fallback (suc m) default h = refl

module _ (x : List ℕ) {y : List ℕ} (n fallback m default : ℕ) (e : length x ≡ switch_width * table_count m)
    (p : y ≡ put_part x 0 4 (0 ∷ 0 ∷ n ∷ fallback ∷ [])) where
  one_written : Written x y (0 ∷ 0 ∷ n ∷ fallback ∷ [])
  one_written = rw p (written_next (written_none x) 0 4 (0 ∷ 0 ∷ n ∷ fallback ∷ []) refl refl (omega arith))

  -- no ranges
  pub tables-one : m ≤ 0 → y ≡ section switch_words (tables_of n fallback m default)
  tables-one h = written_all one_written (omega arith) ∙ one-words n fallback m default h

  -- and some
  pub tables-both : {z : List ℕ} → 0 < m → z ≡ put_part y 4 4 (1 ∷ 0 ∷ m ∷ default ∷ []) → z ≡ section switch_words (tables_of n fallback m default)
  tables-both {z} h r =
      let two : Written x z (0 ∷ 0 ∷ n ∷ fallback ∷ 1 ∷ 0 ∷ m ∷ default ∷ []) =
      rw r (written_next one_written 4 4 (1 ∷ 0 ∷ m ∷ default ∷ []) refl refl (omega arith)) in
      written_all two (omega arith) ∙ both_words n fallback m default h
