-- The tables of a lowered sheet have all their rows, and an accepted image is the words of the lowered sheet.
use Prim.Native.Nat.{ℕ, zero, suc, ◌<◌}
use mathlib.Core.Path.{◌≡◌, refl, sym, subst}
use mathlib.Core.Bool.{Bool, true, false}
use mathlib.Core.List.{List, [], ◌∷◌}
use native.Mathlib.Omega.{arith}
use lib.Dec.{eqb, ltb}
use lib.ListN.{length}
use Rattle.sheet.specs.Node.{kind}
use Rattle.switch_split.specs.Split as Split
use Rattle.bytecode.specs.declared.SwitchCase.{SwitchCase}
use Rattle.bytecode.specs.declared.SwitchRange.{SwitchRange}
use Rattle.checks.specs.Checked.{Verdict, checked}
use Rattle.std.specs.Prelude.{Ok, Err}
use Rattle.lowering.specs.Kinds.{switch_kind}
use Rattle.lowering.specs.Limits.{max_levels, max_emitted}
use Rattle.lowering.specs.Pools.{Pools, no_pools, emits}
use Rattle.lowering.specs.Code.{Code}
use Rattle.lowering.specs.Out.{Out}
use Rattle.lowering.specs.Expression.{expression}
use Rattle.lowering.specs.Program.{Program, plain}
use Rattle.lowering.specs.SwitchSheet.{cases_of, default_block}
use Rattle.lowering.specs.SwitchLaid.{SwitchLaid, layout}
use Rattle.lowering.specs.SwitchCode.{default_at, fallback_at, switch_code, last_emits}
use Rattle.lowering.specs.SwitchTables.{case_pools, case_rows, range_rows, case_table, range_table}
use Rattle.lowering.specs.Switch.{switch_of, switch}
use Rattle.lowering.specs.Image.{words}
use Rattle.lowering.specs.Outcome.{Outcome, refused, image, lower, scratch_needed, lowered, outcome_after, outcome, lower_with}
use Rattle.lowering.proofs.RowCounts.{case-rows-length, range-rows-length}
use Rattle.lowering.proofs.Tables.{Fits, TablesFit}

plain_fits : (o : Out) → TablesFit (plain o)
unfolding plain
plain_fits o = record { fits = λ i h. absurd (omega arith) }

-- a table of the cases, and one of the ranges where there are any
abbrev tabled : Code → Pools → List SwitchCase → List SwitchRange → ℕ → ℕ → List ℕ → List Split.Entry → Program
tabled code p cases ranges fallback default cs es =
    record { code = code; pools = p; switches = case_table fallback cs ∷ range_table default es; cases = cases; ranges = ranges }

module _ (code : Code) (p : Pools) (cases : List SwitchCase) (ranges : List SwitchRange) (fallback default : ℕ) (cs : List ℕ) where
  table_fits : (es : List Split.Entry) → length cases ≡ length cs → length ranges ≡ length es → (i : ℕ)
      → i < suc (length (range_table default es)) → Fits (tabled code p cases ranges fallback default cs es) i
  unfolding case_table range_table
  table_fits [] f g zero h = omega arith
  table_fits [] f g (suc i) h = absurd (omega arith)
  table_fits (e ∷ es) f g zero h = omega arith
  table_fits (e ∷ es) f g (suc zero) h = omega arith
  table_fits (e ∷ es) f g (suc (suc i)) h = absurd (omega arith)

pub switch_fits : (s : List ℕ) (def : ℕ) (l : SwitchLaid) → TablesFit (switch_of s def l)
unfolding switch_of
switch_fits s def l =
    let p = emits (last_emits def) l.pools in
    let default = default_at def l in
    let fallback = fallback_at def l.splits l in
    let cs = cases_of s in
    record {
      fits =
          table_fits (switch_code def l) (case_pools s cs p) (case_rows s l fallback cs p) (range_rows l default l.splits) fallback default
          cs l.splits
          (case-rows-length s l fallback cs p)
          (range-rows-length l default l.splits);
    }

-- the program of a switch, and of an expression, by any count of levels
pub with-switch : (n : ℕ) (s : List ℕ) → eqb (kind s 0) switch_kind ≡ true → lower_with n s ≡ switch s (expression n s)
with-switch n s h = rw (h, lower_with)

pub with-plain : (n : ℕ) (s : List ℕ) → eqb (kind s 0) switch_kind ≡ false → lower_with n s ≡ plain (expression n s 0 0 0 no_pools)
with-plain n s h = rw (h, lower_with)

-- and by those of the definition
pub lower_switch : (s : List ℕ) → eqb (kind s 0) switch_kind ≡ true → lower s ≡ switch s (expression max_levels s)
unfolding lower
lower_switch s h = with-switch max_levels s h

pub lower-plain : (s : List ℕ) → eqb (kind s 0) switch_kind ≡ false → lower s ≡ plain (expression max_levels s 0 0 0 no_pools)
unfolding lower
lower-plain s h = with-plain max_levels s h

pub lower-fits : (s : List ℕ) → TablesFit (lower s)
unfolding switch
lower-fits s = by (eqb (kind s 0) switch_kind) refl
  where
    by : (t : Bool) → eqb (kind s 0) switch_kind ≡ t → TablesFit (lower s)
    by true h = subst TablesFit (sym (lower_switch s h)) (switch_fits s (default_block s) (layout s (expression max_levels s)))
    by false h = subst TablesFit (sym (lower-plain s h)) (plain_fits (expression max_levels s 0 0 0 no_pools))

-- an outcome that has no image, or the program's
abbrev Carries : Program → Outcome → Type 0
Carries r (refused n) = Prim.Unit {0}
Carries r (image w) = words r ≡ w

carries-either : (r : Program) (t : Bool) (a b : Outcome) → Carries r a → Carries r b → Carries r (elim t [ true ↦ a | false ↦ b ])
carries-either r true a b f g = f
carries-either r false a b f g = g

lowered-carries : (s : List ℕ) (image_length scratch_length : ℕ) (r : Program) → Carries r (lowered s image_length scratch_length r)
unfolding lowered
lowered-carries s image_length scratch_length r =
    carries-either r r.pools.defeated _ _ tt
    (carries-either r (ltb max_emitted r.pools.emitted) _ _ tt
    (carries-either r (ltb scratch_length (scratch_needed s r.pools)) _ _ tt
    (carries-either r (ltb image_length (length (words r))) _ _ tt refl)))

after-carries : (s : List ℕ) (image_length scratch_length : ℕ) (v : Verdict) → Carries (lower s) (outcome_after s image_length scratch_length v)
unfolding outcome_after
after-carries s image_length scratch_length (Ok x) = lowered-carries s image_length scratch_length (lower s)
after-carries s image_length scratch_length (Err r) = tt

pub image_is : (s : List ℕ) (image_length scratch_length : ℕ) (w : List ℕ) → outcome s image_length scratch_length ≡ image w
    → words (lower s) ≡ w
unfolding outcome
image_is s image_length scratch_length w e = subst (Carries (lower s)) e (after-carries s image_length scratch_length (checked s))
