-- What is left and answered, way by way.
use Prim.Native.Nat.{ℕ, ◌<◌, ◌≤◌}
use mathlib.Core.Path.{◌≡◌, refl, sym, ap, ◌∙◌}
use mathlib.Core.Bool.{Bool, true, false}
use mathlib.Core.List.{List}
use native.Mathlib.Omega.{arith}
use lib.Dec.{ltb}
use lib.ListN.{length}
use borrow.Author.Tests.{lt-ltb, le-ltb, ltb-true, ltb-false}
use Rattle.sheet.specs.Sections.{node_count}
use Rattle.checks.specs.Checked as Checked
use Rattle.checks.specs.Checked.{Verdict}
use Rattle.std.specs.Prelude.{Ok, Err}
use Rattle.checks.proofs.VerdictLaws.{refused-own}
use Rattle.refusals.specs.declared.Refusal.{Refusal}
use Rattle.refusals.specs.declared.Refusal.TheVariants.{ImageLong}
use Rattle.refusals.specs.Refusal.{Left, kept, leaves, scratch_left}
use Rattle.refusals.proofs.RefusalLaws.{number-some, own-keeps}
use Rattle.expr_count.specs.declared.tallies.Tally.{Tally}
use Rattle.lowering.specs.Limits.{max_emitted}
use Rattle.lowering.specs.Image.{words}
use Rattle.lowering.specs.Outcome.{Outcome, refused, image, lower, outcome}
use Rattle.switch_count.specs.Total.{total}
use Rattle.switch_count.proofs.OutcomeLaws.{scratch_total, outcome-9, outcome-10, outcome-11, outcome-12, outcome-image}
use Rattle.needs.specs.Counts.{early, Decides}
use Rattle.needs.proofs.CountLaws.{Early, eval, many, short, none, early-told}
use Rattle.needs.proofs.NeedLaws.{refused-is}
use Rattle.zeros.specs.Zeros.{zeros, Zeroed}
use Rattle.to_image.specs.Answer.{answer, image_after, scratch_after, Answers, Answer}
use Rattle.to_image.specs.Making.{ended, Ready, Built}

module _ (s xs ys : List ℕ) where
  answers_by : {r : Answer} {xs' ys' : List ℕ} (o : Outcome) → outcome s (length xs) (length ys) ≡ o → r ≡ answer o
      → xs' ≡ image_after o xs → ys' ≡ scratch_after o ys → Answers s xs ys r xs' ys'
  answers_by o e a b c = record { answers = rw e a; image_is = rw e b; scratch_is = rw e c }

  -- a refusal that leaves both as they were
  stays : (r : Refusal) → scratch_left r ≡ kept → outcome s (length xs) (length ys) ≡ refused r → Answers s xs ys (Err r) xs ys
  unfolding answer image_after scratch_after leaves
  stays r keeps e = answers_by (refused r) e refl refl (rw (keeps, scratch_after))

-- ---- 1 to 8

pub check-stays : (s xs ys : List ℕ) (r : Refusal) {v : Verdict} → v ≡ Checked.checked s → v ≡ Err r
    → Answers s xs ys (Err r) xs ys
check-stays s xs ys r v-is q =
    let e = sym v-is ∙ q in
    stays s xs ys r (own-keeps r (refused-own s r e)) (refused-is s r e (length xs) (length ys))

-- ---- 9 to 11

-- what a refusal leaves of the scratch, and its outcome
abbrev left_by : Verdict → Left
left_by (Ok x) = kept
left_by (Err r) = scratch_left r

abbrev outcome_by : Verdict → Outcome
outcome_by (Ok x) = refused ImageLong
outcome_by (Err r) = refused r

module _ (s : List ℕ) (i m : ℕ) (ok : Checked.verdict_number (Checked.checked s) ≡ 0) where
  early-refuses : {k : Verdict} {r : Refusal} → Early (total s).defeated (total s).emitted m (node_count s) k → k ≡ Err r
      → (scratch_left r ≡ kept) × (outcome s i m ≡ refused r)
  unfolding scratch_total
  early-refuses (eval d) q = (ap left_by (sym q), outcome-9 s i m ok d ∙ ap outcome_by q)
  early-refuses (many d g) q = (ap left_by (sym q), outcome-10 s i m ok d g ∙ ap outcome_by q)
  early-refuses (short d g l) q = (ap left_by (sym q), outcome-11 s i m ok d g l ∙ ap outcome_by q)
  early-refuses {r = r} (none d g l) q = let n = ap Checked.verdict_number q in absurd (omega (arith, number-some r))

-- ---- in the shapes of the code

-- the counts as the code has them
module _ (s xs ys : List ℕ) (k : Verdict) (nodes : ℕ) (t : Tally) (ok : Checked.verdict_number (Checked.checked s) ≡ 0)
    (D : Decides s (length ys) t) (nodes-is : nodes ≡ node_count s) (k-is : k ≡ early t.defeated t.emitted (length ys) nodes) where
  counted : k ≡ early t.defeated t.emitted (length ys) (node_count s)
  counted = k-is ∙ ap (early t.defeated t.emitted (length ys)) nodes-is

  way : Early (total s).defeated (total s).emitted (length ys) (node_count s) k
  way = early-told (total s).defeated (total s).emitted (length ys) (node_count s) k (counted ∙ D.refusal_is)

  early-ready : {a : Verdict} → Early (total s).defeated (total s).emitted (length ys) (node_count s) a
      → {b : Verdict} → Early t.defeated t.emitted (length ys) (node_count s) b → Checked.verdict_number a ≡ 0
      → Checked.verdict_number b ≡ 0
      → Ready s t.emitted (length ys)
  early-ready (eval d) q z y = absurd (omega arith)
  early-ready (many d g) q z y = absurd (omega arith)
  early-ready (short d g l) q z y = absurd (omega arith)
  early-ready (none d g l) (eval c) z y = absurd (omega arith)
  early-ready (none d g l) (many c f) z y = absurd (omega arith)
  early-ready (none d g l) (short c f h) z y = absurd (omega arith)
  early-ready (none d g l) (none c f h) z y =
      record { accepted = ok; reached = d; emitted = let r = D.enough in omega arith; few = f; space = h }

  pub refused-early : (r : Refusal) → k ≡ Err r → Answers s xs ys (Err r) xs ys
  refused-early r q = let o = early-refuses s (length xs) (length ys) ok way q in stays s xs ys r o.0 o.1

  -- the end: y is the scratch before it is zeroed
  pub answered : k ≡ Ok tt → (xs' y ys' : List ℕ) (n : ℕ) (r : Answer) → (Ready s t.emitted (length ys) → Built s xs n xs')
      → Zeroed y ys'
      → length y ≡ length ys → length xs' ≡ length xs → r ≡ ended (length xs') n → Answers s xs ys r xs' ys'
  unfolding ended answer image_after scratch_after leaves scratch_total
  answered q xs' y ys' n r built zeroed y-length x-length r-is = by (ltb (length xs') n) refl
    where
      z : Checked.verdict_number k ≡ 0
      z = ap Checked.verdict_number q

      R : Ready s t.emitted (length ys)
      R = early-ready way (early-told t.defeated t.emitted (length ys) (node_count s) k counted) z z

      B : Built s xs n xs'
      B = built R

      few : (total s).emitted ≤ max_emitted
      few = let e = R.emitted in let f = R.few in omega arith

      room : scratch_total s ≤ length ys
      room = let e = R.emitted in let m = R.space in omega arith

      zero_is : ys' ≡ zeros (length ys)
      zero_is = zeroed.is ∙ ap zeros y-length

      by : (b : Bool) → ltb (length xs') n ≡ b → Answers s xs ys r xs' ys'
      by true e =
          let g = ltb-true (length xs') n e in
          let o = outcome-12 s (length xs) (length ys) ok R.reached few room (omega (arith, B.count)) in
          answers_by s xs ys (refused ImageLong) o (r-is ∙ rw (e, ended)) (B.kept (omega arith)) zero_is
      by false e =
          let g = ltb-false (length xs') n e in
          let o = outcome-image s (length xs) (length ys) ok R.reached few room (omega (arith, B.count)) in
          answers_by s xs ys (image (words (lower s))) o (r-is ∙ rw (e, ended) (ap Ok B.count)) (B.fits (omega arith)) zero_is

-- the answer of the end
pub ended-long : (room n : ℕ) → room < n → Err ImageLong ≡ ended room n
unfolding ended
ended-long room n h = rw (lt-ltb room n h, ended)

pub ended-whole : (room n : ℕ) → n ≤ room → Ok n ≡ ended room n
unfolding ended
ended-whole room n h = rw (le-ltb room n h, ended)
