-- The words of a Switch that is settled: the front and the tables, each behind the other, and their count.
use Prim.Native.Nat.{ℕ, ◌+◌, ◌*◌, ◌≤◌, min}
use mathlib.Core.Path.{◌≡◌, sym, ap, ◌∙◌, subst}
use mathlib.Core.List.{List, ◌++◌}
use native.Mathlib.Omega.{arith}
use lib.ListN.{length, drop}
use Rattle.sheet.specs.Limits.{max_depth, max_entries}
use borrow.Author.Tests.{eq-eqb}
use Rattle.lowering.proofs.LowerFits.{lower_switch}
use Rattle.sheet.specs.Node.{kind}
use Rattle.check_switches.specs.Switch.{case_count}
use Rattle.bytecode.specs.Switch.{switch_words}
use Rattle.lowering.specs.Kinds.{switch_kind}
use Rattle.lowering.specs.Limits.{max_emitted, switch_width, case_width, range_width, max_bands}
use Rattle.lowering.specs.SwitchSheet.{default_block, cases_of}
use Rattle.lowering.specs.Image.{section, words}
use Rattle.lowering.specs.Outcome.{lower}
use Rattle.switch_count.specs.Total.{switch_total}
use Rattle.switch_count.proofs.TotalLaws.{total-length, total-emitted}
use Rattle.expr_model.specs.Made.{Made, made, nothing, lowered}
use Rattle.expr_model.proofs.Rising.{lowered-rises}
use Rattle.expr_model.proofs.Growing.{nothing-short, grown-short, Short}
use Rattle.switch_model.specs.Change.{switch_to}
use Rattle.switch_model.proofs.SwitchLaws.{targets_of, wanted_of, laid_out, switch-whole}
use Rattle.switch_model.proofs.GrowLaws.{cases-rise, switch-lengthens, longer-short}
use Rattle.scratch.specs.declared.Layout.{Layout}
use Rattle.scratch_store.specs.declared.State.{State}
use Rattle.scratch_store.specs.Holds.{Holds}
use Rattle.switch_tables.specs.Columns.{bands_at, default_at, fallback_at, cell}
use Rattle.write_rows.specs.TableRows.{rows_to, tables_of, table_count, case_words_in, range_words_in}
use Rattle.write_rows.proofs.TableLaws.{tables-length}
use Rattle.write_rows.proofs.RowLaws as rows
use Rattle.write_front.specs.Front.{front}
use Rattle.write_front.specs.Puts.{Puts}
use Rattle.write_front.proofs.PutsLaws.{puts-as}
use Rattle.write_tables.proofs.Tail.{cases-length, ranges-length, words-length, words_are}
use Rattle.needs.proofs.CountLaws.{total-switch}
use Rattle.to_image.specs.Making.{Ready}
use Rattle.to_image.specs.Switched.{Settled}

-- no more instructions stand than were emitted
switch-short : (s : List ℕ) → kind s 0 ≡ switch_kind → Short (made (lower s).code (lower s).pools 1)
switch-short s k =
    let def = default_block s in
    let l = laid_out s in
    let low = lowered max_depth s in
    let x = switch_to s low (targets_of def l) l.splits def (wanted_of def l) nothing in
    let longer = switch-lengthens s low (lowered-rises max_depth s) (targets_of def l) l.splits def (wanted_of def l) nothing in
    subst Short (switch-whole s ∙ ap (λ r. made r.code r.pools 1) (sym (lower_switch s (eq-eqb (kind s 0) switch_kind k))))
    (grown-short (cases-rise s (cases_of s) x) (longer-short longer nothing-short))

-- so a switch that is not refused has a place for each
pub switch-places : (s : List ℕ) (e m : ℕ) → Ready s e m → kind s 0 ≡ switch_kind → (switch_total s).len ≤ max_emitted
switch-places s e m R k =
    let q = R.emitted in
    let f = R.few in
    let h = switch-short s k in
    omega (arith, total-length s, total-emitted s, ap (λ t. t.len) (total-switch s k))

module _ {s : List ℕ} {l : Layout} {zs : List ℕ} {st : State} {w : List ℕ} (S : Settled s l zs st w) (ca ra : ℕ) (ca-is : ca ≡ case_count s)
    (ra-is : ra ≡ cell w bands_at) where
  cases-count : ca ≡ length (lower s).cases
  cases-count = omega (arith, ap length S.cases, cases-length (lower s).cases, rows.cases-length w (case_count s))

  ranges-count : ra ≡ length (lower s).ranges
  ranges-count = omega (arith, ap length S.ranges, ranges-length (lower s).ranges, rows.ranges-length w (cell w bands_at))

  switches-count : table_count ra ≡ length (lower s).switches
  switches-count =
      rw ra-is (sym (tables-length (case_count s) (cell w fallback_at) (cell w bands_at) (cell w default_at)) ∙ ap length S.switches)

  -- ---- the count of the words

  pub words-counted : (len f : ℕ) → f ≡ min (switch_width * table_count ra + case_width * ca + range_width * ra) 4294967295
      → ((a : Made) → Holds s l zs st a → (i j m : ℕ) → len ≡ length (front a i j m) + f) → len ≡ length (words (lower s))
  words-counted len f f-is counted =
      let a = made (lower s).code (lower s).pools 1 in
      let front-is = counted a S.holds (length (lower s).switches) (length (lower s).cases) (length (lower s).ranges) in
      let few-cases : ca ≤ max_entries = rw ca-is S.few_cases in
      let few-bands : ra ≤ max_bands = rw ra-is S.few_bands in
      let tables : f ≡ switch_width * table_count ra + case_width * ca + range_width * ra = omega (arith, f-is, few-cases, few-bands) in
      omega (arith, front-is, tables, words-length (lower s) 1, switches-count, cases-count, ranges-count)

  -- ---- the four parts, one behind another

  pub written : (sw fallback default : ℕ) → sw ≡ table_count ra → fallback ≡ cell w fallback_at → default ≡ cell w default_at
      → {x y z u v : List ℕ} {m₁ m₂ m₃ m₄ : ℕ} → ((a : Made) → Holds s l zs st a → Puts x y 0 m₁ (front a sw ca ra))
      → Puts y z m₁ m₂ (section switch_words (tables_of ca fallback ra default))
      → (ca ≤ max_entries → Puts z u m₂ m₃ (rows_to (case_words_in w) ca))
      → (ra ≤ max_bands → Puts u v m₃ m₄ (rows_to (range_words_in w) ra))
      → length (words (lower s)) ≤ length x → v ≡ words (lower s) ++ drop (length (words (lower s))) x
  written sw fallback default sw-is f-is d-is one two three four =
      words_are (lower s) 1
      (puts-as _ _ (rw (sw-is, switches-count, cases-count, ranges-count)) (one (made (lower s).code (lower s).pools 1) S.holds))
      (puts-as _ _ (ap (section switch_words) (rw (ca-is, ra-is, f-is, d-is) S.switches)) two)
      (puts-as _ _ (rw ca-is (sym S.cases)) (three (rw ca-is S.few_cases)))
      (puts-as _ _ (rw ra-is (sym S.ranges)) (four (rw ra-is S.few_bands)))
