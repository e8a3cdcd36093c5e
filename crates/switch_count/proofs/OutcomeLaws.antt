-- The outcome by the total of a sheet: the refusals 9 to 11 need no lowering.
use Prim.Native.Nat.{ℕ, ◌+◌, ◌*◌, ◌<◌, ◌≤◌}
use mathlib.Core.Path.{◌≡◌, ap, ◌∙◌}
use mathlib.Core.Bool.{Bool, true, false}
use mathlib.Core.List.{List}
use lib.Dec.{ltb}
use lib.ListN.{length}
use borrow.Author.Tests.{lt-ltb, le-ltb}
use Rattle.sheet.specs.Sections.{node_count}
use Rattle.refusals.specs.declared.Refusal.TheVariants.{Eval, Emitted, ScratchShort, ImageLong}
use Rattle.checks.specs.Checked.{verdict_number, checked}
use Rattle.checks.proofs.VerdictLaws.{accepted-is}
use Rattle.lowering.specs.Limits.{max_emitted, scratch_per_emitted, scratch_per_node, scratch_besides}
use Rattle.lowering.specs.Image.{words}
use Rattle.lowering.specs.Outcome.{Outcome, refused, image, lower, scratch_needed, lowered, outcome_after, outcome}
use Rattle.switch_count.specs.Total.{total}
use Rattle.switch_count.proofs.TotalLaws.{total-emitted, total-defeated}

-- the words of scratch that the sheet needs
unfoldable pub scratch_total : List ℕ → ℕ
scratch_total s = scratch_per_emitted * (total s).emitted + scratch_per_node * node_count s + scratch_besides

-- the check of 1 to 8 lets the sheet through
accepted : (s : List ℕ) (i l : ℕ) → verdict_number (checked s) ≡ 0 → outcome s i l ≡ lowered s i l (lower s)
unfolding outcome outcome_after
accepted s i l h = rw (accepted-is (checked s) h)

-- four tests, none of which refuses
none-refuses : (a b c d : Bool) (o : Outcome) → a ≡ false → b ≡ false → c ≡ false → d ≡ false
    → elim a [
      | true ↦ refused Eval
      | false ↦ elim b [
        | true ↦ refused Emitted
        | false ↦ elim c [ true ↦ refused ScratchShort | false ↦ elim d [ true ↦ refused ImageLong | false ↦ o ] ]
      ]
    ]
    ≡ o
none-refuses a b c d o h k l m = rw (h, k, l, m)

pub scratch-total : (s : List ℕ) → scratch_needed s (lower s).pools ≡ scratch_total s
unfolding scratch_needed scratch_total
scratch-total s = ap (λ n. scratch_per_emitted * n + scratch_per_node * node_count s + scratch_besides) (total-emitted s)

module _ (s : List ℕ) (image_length scratch_length : ℕ) (ok : verdict_number (checked s) ≡ 0) where
  pub outcome-9 : (total s).defeated ≡ true → outcome s image_length scratch_length ≡ refused Eval
  unfolding lowered
  outcome-9 d = accepted s image_length scratch_length ok ∙ rw (total-defeated s ∙ d, lowered)

  module _ (d : (total s).defeated ≡ false) where
    pub outcome-10 : max_emitted < (total s).emitted → outcome s image_length scratch_length ≡ refused Emitted
    unfolding lowered
    outcome-10 m =
        accepted s image_length scratch_length ok
        ∙ rw (total-defeated s ∙ d, ap (ltb max_emitted) (total-emitted s) ∙ lt-ltb max_emitted (total s).emitted m, lowered)

    module _ (m : (total s).emitted ≤ max_emitted) where
      few : ltb max_emitted (lower s).pools.emitted ≡ false
      few = ap (ltb max_emitted) (total-emitted s) ∙ le-ltb max_emitted (total s).emitted m

      pub outcome-11 : scratch_length < scratch_total s → outcome s image_length scratch_length ≡ refused ScratchShort
      unfolding lowered
      outcome-11 l =
          let short = ap (ltb scratch_length) (scratch-total s) ∙ lt-ltb scratch_length (scratch_total s) l in
          accepted s image_length scratch_length ok ∙ rw (total-defeated s ∙ d, few, short, lowered)

      -- scratch is long enough: the image's length decides
      module _ (l : scratch_total s ≤ scratch_length) where
        enough : ltb scratch_length (scratch_needed s (lower s).pools) ≡ false
        enough = ap (ltb scratch_length) (scratch-total s) ∙ le-ltb scratch_length (scratch_total s) l

        pub outcome-12 : image_length < length (words (lower s)) → outcome s image_length scratch_length ≡ refused ImageLong
        unfolding lowered
        outcome-12 n =
            accepted s image_length scratch_length ok
            ∙ rw (total-defeated s ∙ d, few, enough, lt-ltb image_length (length (words (lower s))) n, lowered)

        pub outcome-image : length (words (lower s)) ≤ image_length → outcome s image_length scratch_length ≡ image (words (lower s))
        unfolding lowered
        outcome-image n =
            accepted s image_length scratch_length ok
            ∙ none-refuses
            (lower s).pools.defeated
            (ltb max_emitted (lower s).pools.emitted)
            (ltb scratch_length (scratch_needed s (lower s).pools))
            (ltb image_length (length (words (lower s))))
            (image (words (lower s)))
            (total-defeated s ∙ d)
            few
            enough
            (le-ltb image_length (length (words (lower s))) n)
