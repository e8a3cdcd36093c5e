-- The parts of the Switch, one after another.
use Rattle.std.proofs.Common.{◌≡◌, ℕ, Bool, true, false, List, length, sym, refl, ap, ◌∙◌, arith}
use lib.ListN.{length-map}
use Rattle.switch_tables.proofs.BandsLaws.{bands-length}
use Rattle.laws.proofs.Numbers.{positive}
use Rattle.scratch_store.proofs.GrowingLaws.{growing-emit}
use Rattle.sheet.specs.Limits.{max_depth}
use Rattle.switch_split.specs.Points.{cuts}
use Rattle.switch_split.specs.Split.{Entry}
use Rattle.bytecode.specs.declared.Op.TheVariants.{Switch}
use Rattle.lowering.specs.Code.{no_pos}
use Rattle.lowering.specs.Nodes.{Right, Valid}
use Rattle.lowering.proofs.NodesLaws.{subject-valid}
use Rattle.lowering.specs.SwitchSheet.{block_count, subject, ranges_of, default_block}
use Rattle.expr_model.specs.Made.{Made, emit, lowered}
use Rattle.expr_model.proofs.Rising.{lowered-rises, emit-counts}
use Rattle.expr_model.proofs.LoweredLaws.{lowered-depth}
use Rattle.scratch.specs.declared.Layout.{Layout}
use Rattle.scratch_store.specs.declared.State.{State}
use Rattle.scratch_store.specs.Does.{Growing, Does}
use Rattle.scratch_store.proofs.DoesLaws.{growing-seq, does-same, does-seq, does-next}
use Rattle.switch_model.specs.Change.{arms_to, any_split, case_lists, range_lists, has_default}
use Rattle.switch_model.specs.Change.{subject_to, chains_to, bodies_to, missing_to, close_to, switch_to}
use Rattle.switch_model.proofs.GrowLaws.{arms-rise, chains-rise, bodies-lengthen, missing-lengthens, close-lengthens}
use Rattle.switch_model.proofs.LastLaws.{split-none, split-some, ranges-none, ranges-some}
use Rattle.switch_model.proofs.LastLaws.{subject-steps, chains-steps, switch-steps}
use Rattle.expr_emit.proofs.Doing.{does_at}
use Rattle.switch_tables.specs.Columns.{cell, bands_at, fallback_at, default_at, end_at}
use Rattle.std.specs.Prelude.{Option, None, Some}
use Rattle.std.specs.Option.{is_some}
use Rattle.switch_tables.specs.Kinds.{coded}
use Rattle.switch_tables.specs.Bands.{bands_in, entry_of}
use Rattle.switch_tables.specs.Planned.{Tables, entries, want_in}
use Rattle.switch_emit.specs.Ready.{Ready}
use Rattle.switch_emit.specs.Parts.{place_in, targets_in}
use Rattle.switch_emit.specs.From.{Begun, From}
use Rattle.switch_emit.proofs.FromLaws.{from-seq}

-- ---- a default block

pub default_is : (def : Option ℕ) → is_some def ≡ has_default (coded def)
unfolding has_default
default_is None = refl
default_is (Some k) = refl

-- ---- the subject

pub subject-does : {s : List ℕ} {l : Layout} {xs ys zs : List ℕ} {st q r : State} (j : ℕ) → j ≡ subject → Ready s
    → (Right s → Valid s j → Does s l xs st ys q (lowered max_depth s j)) → Does s l ys q zs r (emit (Switch 0) no_pos 0)
    → Does s l xs st zs r (subject_to (lowered max_depth s))
subject-does {s} j e C d g =
    does-same (subject_to (lowered max_depth s)) (λ a h. sym (subject-steps (lowered max_depth s) a))
    (does-seq (growing-emit (Switch 0) no_pos 0)
    (does_at (lowered max_depth s) e (d C.right (rw e (subject-valid s C.right C.switch)))) g)

-- ---- what the table has

module _ {s w : List ℕ} (T : Tables s w) where
  count_is : cell w bands_at ≡ length (entries s)
  count_is =
      sym (bands-length w (cell w bands_at))
      ∙ sym (length-map (bands_in w (cell w bands_at)) (entry_of (ranges_of s) (cuts (ranges_of s))))
      ∙ ap length T.bands

  pub no-split : cell w bands_at ≡ 0 → any_split (entries s) ≡ false
  no-split h = split-none (entries s) (sym count_is ∙ h)

  pub some-split : (cell w bands_at ≡ 0 → ⊥) → any_split (entries s) ≡ true
  some-split h = split-some (entries s) (positive (λ q. h (count_is ∙ q)))

-- ---- the chains

abbrev cases_by : List ℕ → List ℕ → Bool → Made → Made
cases_by s t falls = arms_to s (lowered max_depth s) (place_in t) (cell t fallback_at) falls (case_lists s)

abbrev chains_by : List ℕ → List ℕ → List Entry → Made → Made
chains_by s t es = chains_to s (lowered max_depth s) (targets_in t) es

module _ {s : List ℕ} {l : Layout} (t : List ℕ) (es : List Entry) where
  pub chains-none : {xs ys : List ℕ} {st r : State} → any_split es ≡ false
      → Does s l xs st ys r (cases_by s t false) → Does s l xs st ys r (chains_by s t es)
  chains-none h d =
      does-same (chains_by s t es)
      (λ a m. sym (chains-steps s (lowered max_depth s) (targets_in t) es a
      ∙ ranges-none s (lowered max_depth s) (place_in t) (cell t default_at) es (cases_by s t (any_split es) a) h ∙ rw h))
      d

  pub chains-some : {xs ys zs us : List ℕ} {st p q r : State} → any_split es ≡ true
      → Does s l xs st ys p (cases_by s t true) → Does s l ys p zs q (emit (Switch 1) no_pos 0)
      → Does s l zs q us r (arms_to s (lowered max_depth s) (place_in t) (cell t default_at) false (range_lists es))
      → Does s l xs st us r (chains_by s t es)
  chains-some h d g k =
      let up = arms-rise s (lowered max_depth s) (lowered-rises max_depth s) (place_in t) (cell t default_at) false (range_lists es) in
      does-same (chains_by s t es)
      (λ a m. sym (chains-steps s (lowered max_depth s) (targets_in t) es a
      ∙ ranges-some s (lowered max_depth s) (place_in t) (cell t default_at) es (cases_by s t (any_split es) a) h ∙ rw h))
      (does-seq (record { each = λ a. (up a).emitted }) (does-seq (growing-emit (Switch 1) no_pos 0) d g) k)

-- ---- the whole

module _ (s t : List ℕ) (es : List Entry) where
  chains-grow : Growing (chains_by s t es)
  chains-grow = record { each = λ m. (chains-rise s (lowered max_depth s) (lowered-rises max_depth s) (targets_in t) es m).emitted }

  -- two instructions are emitted before the bodies
  begun : (a : Made) → Begun (chains_by s t es (subject_to (lowered max_depth s) a))
  begun a =
      let low = lowered max_depth s in
      omega (
        arith,
        (lowered-rises max_depth s subject a).depth,
        lowered-depth max_depth s subject a,
        emit-counts (Switch 0) no_pos 0 (low subject a),
        ap (λ (y : Made). y.pools.emitted) (subject-steps low a),
        chains-grow.each (subject_to low a),
      )

pub switch-does : {s : List ℕ} {l : Layout} (t : List ℕ) (es : List Entry) (def : ℕ) {us vs ws xs ys zs : List ℕ} {st a b c d r : State}
    (falls : Bool) → falls ≡ has_default def → def ≡ default_block s
    → Does s l us st vs a (subject_to (lowered max_depth s)) → Does s l vs a ws b (chains_by s t es)
    → From s l ws b xs c (bodies_to s (lowered max_depth s) (want_in t) (cell t end_at) falls (block_count s) 0)
    → From s l xs c ys d (missing_to def) → From s l ys d zs r close_to
    → Does s l us st zs r (switch_to s (lowered max_depth s) (targets_in t) es (default_block s) (want_in t))
switch-does {s} t es def falls f-is def_is first second third fourth fifth =
    let low = lowered max_depth s in
    let bodies = bodies_to s low (want_in t) (cell t end_at) falls (block_count s) 0 in
    let long = bodies-lengthen s low (lowered-rises max_depth s) (cell t end_at) (want_in t) falls (block_count s) 0 in
    let grow-bodies : Growing bodies = record { each = λ m. (long m).emitted } in
    let grow-missing : Growing (missing_to def) = record { each = λ m. (missing-lengthens def m).emitted } in
    let grow-close : Growing close_to = record { each = λ m. (close-lengthens m).emitted } in
    let tail = from-seq (growing-seq grow-bodies grow-missing) grow-close (from-seq grow-bodies grow-missing third fourth) fifth in
    rw def_is at
    (does-same (switch_to s low (targets_in t) es def (want_in t))
    (λ m h. rw f-is (sym (switch-steps s low (targets_in t) es def (want_in t) m)))
    (does-next (λ m. close_to (missing_to def (bodies m))) (growing-seq (growing-seq grow-bodies grow-missing) grow-close)
    (does-seq (chains-grow s t es) first second) (λ m h f. tail.holds (chains_by s t es (subject_to low m)) (begun s t es m) h f)))
