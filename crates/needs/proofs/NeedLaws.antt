-- The need of a sheet, way by way, and what it means for every lowering of the sheet.
use Prim.Native.Nat.{ℕ, ◌+◌, ◌*◌, ◌<◌, ◌≤◌, min}
use mathlib.Core.Path.{◌≡◌, refl, sym, ap, ◌∙◌, subst}
use mathlib.Core.Bool.{Bool, true, false, true≢false}
use mathlib.Core.List.{List}
use native.Mathlib.Omega.{arith}
use lib.Dec.{ltb}
use lib.ListN.{length}
use borrow.Author.Tests.{lt-ltb, le-ltb, ltb-true, ltb-false}
use Rattle.sheet.specs.Sections.{node_count}
use Rattle.checks.specs.Checked as Checked
use Rattle.checks.specs.Checked.{Verdict}
use Rattle.std.specs.Prelude.{Ok, Err}
use Rattle.checks.proofs.VerdictLaws.{accepted-is, refused-own}
use Rattle.refusals.specs.declared.Refusal.{Refusal}
use Rattle.refusals.specs.declared.Refusal.TheVariants.{Eval, Emitted, ImageLong}
use Rattle.refusals.proofs.RefusalLaws.{number-some}
use Rattle.expr_count.specs.declared.tallies.Tally.{Tally}
use Rattle.expr_count.specs.Limits.{cap}
use Rattle.lowering.specs.Limits.{max_emitted, scratch_per_emitted, scratch_per_node, scratch_besides}
use Rattle.lowering.specs.Image.{words}
use Rattle.checks.proofs.AcceptedLaws.{accepted-sizes, accepted-shape}
use Rattle.lowering.proofs.NodesLaws.{right}
use Rattle.lowering.specs.Outcome.{Outcome, refused, image, lower, outcome_after, outcome}
use Rattle.switch_count.specs.Total.{total}
use Rattle.switch_count.proofs.TotalLaws.{total-emitted, total-defeated}
use Rattle.switch_count.proofs.OutcomeLaws.{scratch_total, scratch-total, outcome-9, outcome-10, outcome-11, outcome-12, outcome-image}
use Rattle.needs.specs.Needed.{needed_by, needed_after, needed, Need}
use Rattle.needs.specs.Counts.{Counts, over}
use Rattle.needs.specs.Means.{scratch_most, Means, refuses, asks}
use Rattle.needs.proofs.CountLaws.{Over, reached, above, within, over-told, decided-over, emitted-is}

-- ---- 1 to 8

module _ (s : List ℕ) (r : Refusal) (e : Checked.checked s ≡ Err r) where
  pub refused-is : (i m : ℕ) → outcome s i m ≡ refused r
  unfolding outcome outcome_after
  refused-is i m = rw e

  pub refused-need : needed s ≡ Err r
  unfolding needed needed_after
  refused-need = rw e

-- ---- 9, 10 and words of scratch

-- the need that a refusal names
abbrev named : Verdict → Need
named (Ok x) = Ok 0
named (Err r) = Err r

module _ (s : List ℕ) (ok : Checked.verdict_number (Checked.checked s) ≡ 0) where
  accepted-need : needed s ≡ needed_by s (lower s).pools
  unfolding needed needed_after
  accepted-need = rw (accepted-is (Checked.checked s) ok)

  need-9 : (total s).defeated ≡ true → needed s ≡ Err Eval
  unfolding needed_by
  need-9 d = accepted-need ∙ rw (total-defeated s ∙ d, needed_by)

  module _ (d : (total s).defeated ≡ false) where
    need-10 : max_emitted < (total s).emitted → needed s ≡ Err Emitted
    unfolding needed_by
    need-10 g =
        accepted-need
        ∙ rw (total-defeated s ∙ d, ap (ltb max_emitted) (total-emitted s) ∙ lt-ltb max_emitted (total s).emitted g, needed_by)

    need-words : (total s).emitted ≤ max_emitted → needed s ≡ Ok (scratch_total s)
    unfolding needed_by
    need-words g =
        accepted-need
        ∙ rw (total-defeated s ∙ d, ap (ltb max_emitted) (total-emitted s) ∙ le-ltb max_emitted (total s).emitted g, needed_by)
        (ap Ok (scratch-total s))

  need-over : {k : Verdict} {r : Refusal} → Over (total s).defeated (total s).emitted k → k ≡ Err r → needed s ≡ Err r
  need-over (reached d) q = need-9 d ∙ ap named q
  need-over (above d g) q = need-10 d g ∙ ap named q
  need-over {r = r} (within d g) q = let n = ap Checked.verdict_number q in absurd (omega (arith, number-some r))

  need-within : {k : Verdict} → Over (total s).defeated (total s).emitted k → k ≡ Ok tt → (e w : ℕ)
      → e ≡ min (total s).emitted cap → w ≡ scratch_per_emitted * e + scratch_per_node * node_count s + scratch_besides → needed s ≡ Ok w
  unfolding scratch_total
  need-within (reached d) z e w e-is w-is = let n = ap Checked.verdict_number z in absurd (omega arith)
  need-within (above d g) z e w e-is w-is = let n = ap Checked.verdict_number z in absurd (omega arith)
  need-within (within d g) z e w e-is w-is = need-words d g ∙ ap Ok (omega arith)

  -- in the shapes of the code
  module _ {t : Tally} (C : Counts s t) {k : Verdict} (k-is : k ≡ over t.defeated t.emitted) where
    pub counted-refused : (r : Refusal) → k ≡ Err r → Err r ≡ needed s
    counted-refused r q = sym (need-over (decided-over C k k-is) q)

    pub counted_words : k ≡ Ok tt → (n w : ℕ) → n ≡ node_count s
        → w ≡ scratch_per_emitted * t.emitted + scratch_per_node * n + scratch_besides → Ok w ≡ needed s
    counted_words z n w n-is w-is = sym (need-within (decided-over C k k-is) z t.emitted w (emitted-is C) (omega arith))

-- ---- what a need means

abbrev made : Outcome → Bool
made (refused n) = false
made (image xs) = true

-- why an outcome is refused
abbrev why : Outcome → Refusal
why (refused r) = r
why (image xs) = ImageLong

module _ (s : List ℕ) (ok : Checked.verdict_number (Checked.checked s) ≡ 0) where
  over-means : {k : Verdict} → Over (total s).defeated (total s).emitted k → Means s (needed s)
  unfolding scratch_total
  over-means (reached d) = subst (Means s) (sym (need-9 s ok d)) (refuses refl (λ i m. outcome-9 s i m ok d))
  over-means (above d g) = subst (Means s) (sym (need-10 s ok d g)) (refuses refl (λ i m. outcome-10 s i m ok d g))
  over-means (within d g) = subst (Means s) (sym (need-words s ok d g)) (asks most (λ i m l. outcome-11 s i m ok d g l) enough)
    where
      most : scratch_total s ≤ scratch_most
      most = let few = (right s (accepted-sizes s ok) (accepted-shape s ok)).few in omega arith

      enough : (i m : ℕ) (r : Refusal) → scratch_total s ≤ m → outcome s i m ≡ refused r → r ≡ ImageLong
      enough i m r l e = by (ltb i (length (words (lower s)))) refl
        where
          by : (b : Bool) → ltb i (length (words (lower s))) ≡ b → r ≡ ImageLong
          by true h = ap why (sym e ∙ outcome-12 s i m ok d g l (ltb-true i (length (words (lower s))) h))
          by false h =
              let o = outcome-image s i m ok d g l (ltb-false i (length (words (lower s))) h) in absurd (true≢false (ap made (sym o ∙ e)))

pub means : (s : List ℕ) → Means s (needed s)
means s = by (Checked.checked s) refl
  where
    by : (v : Verdict) → Checked.checked s ≡ v → Means s (needed s)
    by (Ok x) e = over-means s (ap Checked.verdict_number e) (over-told (total s).defeated (total s).emitted _ refl)
    by (Err r) e = subst (Means s) (sym (refused-need s r e)) (refuses (refused-own s r e) (refused-is s r e))
