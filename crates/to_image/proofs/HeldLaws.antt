-- A Switch lowered with the places of the flat table: the program of the definition is held, and the table has its rows.
use Prim.Native.Nat.{ℕ}
use mathlib.Core.Path.{◌≡◌, ap, ◌∙◌, subst}
use mathlib.Core.List.{List}
use native.Mathlib.Omega.{arith}
use lib.ListN.{length}
use Rattle.sheet.specs.Limits.{max_depth}
use Rattle.lowering.specs.SwitchSheet.{default_block, cases_of}
use Rattle.lowering.specs.Outcome.{lower}
use Rattle.switch_count.specs.Total.{total}
use Rattle.switch_count.proofs.TotalLaws.{total-emitted}
use Rattle.expr_model.specs.Made.{Made, made, nothing, lowered}
use Rattle.scratch.specs.declared.Layout.{Layout}
use Rattle.scratch_locals.specs.Pass.{Begins}
use Rattle.scratch_store.specs.declared.State.{State}
use Rattle.scratch_store.specs.States as states
use Rattle.scratch_store.specs.Holds.{Holds}
use Rattle.scratch_store.specs.Does.{Does}
use Rattle.switch_model.specs.Change.{switch_to, cases_to}
use Rattle.switch_model.proofs.GrowLaws.{cases-rise}
use Rattle.switch_tables.specs.Columns.{size, case_const_at, Within}
use Rattle.switch_tables.specs.Planned.{Tables, Placed, entries, want_in}
use Rattle.switch_emit.specs.Ready.{Ready}
use Rattle.switch_emit.proofs.ReadyLaws.{ready}
use Rattle.switch_emit.specs.Parts.{targets_in}
use Rattle.switch_emit.specs.Consts.{ConstsAt}
use Rattle.switch_places.proofs.KeptLaws.{tables-kept, placed-kept}
use Rattle.to_image.specs.Switched.{Planned, Settled}
use Rattle.to_image.proofs.PlainLaws.{first_holds}
use Rattle.to_image.proofs.SwitchLaws.{switched, switch-made, cases-made}
use Rattle.to_image.proofs.TableLaws.{switches-are, case-section, range-section}

-- the table w before the constants of the Cases, and v with them
module _ (s : List ℕ) (l : Layout) (xs us ys zs : List ℕ) (c : State) (w v : List ℕ) (r q p : State) (P : Planned s l (length xs) w)
    (c_is : c ≡ states.start l) (begins : Begins s l xs us)
    (done : Ready s → Tables s w → Placed s w
    → Does s l us c ys r (switch_to s (lowered max_depth s) (targets_in w) (entries s) (default_block s) (want_in w)))
    (added : Ready s → Does s l ys r zs q (cases_to s (cases_of s)))
    (told : (a : Made) → Ready s → Holds s l ys r a → ConstsAt s v a)
    (within : Within case_const_at size w v) (p-is : p ≡ q) where
  D : Ready s
  D = ready s P.ready.accepted P.switch

  T : Tables s v
  T = tables-kept P.tables within (omega arith)

  places : Placed s v
  places = placed-kept P.tables P.placed within (omega arith)

  all : (cases_to s (cases_of s) (switched s w)).pools.emitted ≡ (total s).emitted
  all = ap (λ (a : Made). a.pools.emitted) (switch-made D P.placed) ∙ total-emitted s

  -- the switch, before the constants of the Cases
  first : Holds s l ys r (switched s w)
  first =
      let more = (cases-rise s (cases_of s) (switched s w)).emitted in
      let e-is = P.ready.emitted in
      (done D P.tables P.placed).holds nothing (first_holds xs us c P.ready P.nodes c_is begins) (omega (arith, all))

  held : Holds s l zs q (made (lower s).code (lower s).pools 1)
  held =
      let e-is = P.ready.emitted in
      subst (Holds s l zs q) (switch-made D P.placed) ((added D).holds (switched s w) first (omega (arith, all)))

  pub settled : Settled s l zs p v
  settled = record {
    holds = rw p-is held;
    few_cases = T.few_cases;
    few_bands = T.few_bands;
    switches = switches-are D T places;
    cases = case-section D T places (switched s w).pools (told (switched s w) D first).each (cases-made D P.placed);
    ranges = range-section D T places;
  }
