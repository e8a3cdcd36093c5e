-- docs/PORT.md names these laws: the length of an expression's image, which PlainLaws has as `plain-counted`, and what the making of a
-- Switch's image leaves, which BuiltLaws has for both kinds.
use Prim.Native.Nat.{ℕ, ◌+◌, ◌*◌, ◌≤◌, ◌<◌, min}
use mathlib.Core.Path.{◌≡◌}
use mathlib.Core.List.{List, [], ◌++◌}
use native.Mathlib.Omega.{arith}
use lib.ListN.{length, drop}
use Rattle.sheet.specs.Limits.{max_depth, max_entries}
use Rattle.sheet.specs.Sections.{node_count}
use Rattle.sheet.specs.Node.{kind}
use Rattle.check_switches.specs.Switch.{case_count}
use Rattle.lowering.specs.Kinds.{switch_kind}
use Rattle.lowering.specs.Limits.{switch_width, case_width, range_width, max_bands}
use Rattle.lowering.specs.Image.{words}
use Rattle.lowering.specs.Outcome.{lower}
use Rattle.lowering.specs.Nodes.{Right, Valid}
use Rattle.expr_model.specs.Made.{Made, lowered}
use Rattle.scratch.specs.declared.Layout.{Layout}
use Rattle.scratch_locals.specs.Pass.{Begins}
use Rattle.scratch_store.specs.declared.State.{State}
use Rattle.scratch_store.specs.States as states
use Rattle.scratch_store.specs.Holds.{Holds}
use Rattle.scratch_store.specs.Does.{Does}
use Rattle.switch_tables.specs.Columns.{bands_at, cell}
use Rattle.write_rows.specs.TableRows.{table_count}
use Rattle.write_front.specs.Front.{front}
use Rattle.to_image.specs.Making.{Ready, Built}
use Rattle.to_image.specs.Switched.{Settled}
use Rattle.to_image.proofs.PlainLaws.{plain-counted}
use Rattle.to_image.proofs.WriteLaws.{words-counted}
use Rattle.to_image.proofs.BuiltLaws as built

pub len_is :
    {s : List ℕ} (h : kind s 0 ≡ switch_kind → ⊥) (l : Layout) (xs zs ys : List ℕ) (q r : State) (len : ℕ)
    (R : Ready s l.most (length xs)) (nodes : l.nodes ≡ node_count s) (c : State) (c_is : c ≡ states.start l) (begins : Begins s l xs zs)
    (done : Right s → Valid s 0 → Does s l zs c ys q (lowered max_depth s 0)) (r-is : r ≡ q)
    (counted : (a : Made) → Holds s l ys r a → (sw ca ra : ℕ) → len ≡ length (front a sw ca ra) + 0) → len ≡ length (words (lower s))
len_is h l xs zs ys q r len R nodes c c_is begins done r-is counted =
    plain-counted h l xs zs ys [] q r len R nodes c c_is begins done r-is counted

-- a Switch that is settled, with f words of tables
module _ {s : List ℕ} {l : Layout} {zs : List ℕ} {st : State} {w : List ℕ} (S : Settled s l zs st w) (ca ra : ℕ) (ca-is : ca ≡ case_count s)
    (ra-is : ra ≡ cell w bands_at) (img : List ℕ) (len f : ℕ)
    (f-is : ca ≤ max_entries → ra ≤ max_bands → f ≡ switch_width * table_count ra + case_width * ca + range_width * ra)
    (counted : (a : Made) → Holds s l zs st a → (i j m : ℕ) → len ≡ length (front a i j m) + f) where
  all-counted : len ≡ length (words (lower s))
  all-counted =
      let few-cases : ca ≤ max_entries = rw ca-is S.few_cases in
      let few-bands : ra ≤ max_bands = rw ra-is S.few_bands in
      let tables : f ≡ min (switch_width * table_count ra + case_width * ca + range_width * ra) 4294967295 =
      omega (arith, f-is few-cases few-bands, few-cases, few-bands) in
      words-counted S ca ra ca-is ra-is len f tables counted

  -- the image is too short
  pub left_out : length img < len → Built s img len img
  left_out g = built.left_out all-counted g

  -- the words are put in
  pub put_in : {img' : List ℕ} → len ≤ length img
      → (length (words (lower s)) ≤ length img → img' ≡ words (lower s) ++ drop (length (words (lower s))) img) → Built s img len img'
  put_in g wrote = built.put_in all-counted g wrote
