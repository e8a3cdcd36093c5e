-- Each function answers 14 where an own name of a sheet has no bytes, and nowhere else (specs/Fourteen).
use Prim.Native.Nat.{ℕ}
use mathlib.Core.Path.{◌≡◌, refl, sym, ap, ◌∙◌}
use mathlib.Core.Bool.{Bool, true, false}
use mathlib.Core.List.{List}
use native.Mathlib.Omega.{arith}
use lib.Dec.{ltb}
use lib.ListN.{length}
use Rattle.std.specs.Prelude.{Ok, Err}
use Rattle.refusals.specs.declared.Refusal.TheVariants.{EmptyName, Eval, Emitted, ScratchShort, ImageLong, IllMade}
use Rattle.refusals.specs.Refusal.{leaves}
use Rattle.refusals.proofs.RefusalLaws.{fourteen}
use Rattle.checks.specs.Checked.{Verdict, verdict_number, checked}
use Rattle.checks.specs.EmptyNames.{Before, Nameless}
use Rattle.checks.proofs.EmptyNamesRight.{empty_names_right}
use Rattle.lowering.specs.Limits.{max_emitted}
use Rattle.lowering.specs.Image.{words}
use Rattle.lowering.specs.Outcome.{Outcome, refused, image, lower, lowered, outcome_after, outcome, scratch_needed}
use Rattle.lowering.specs.Program.{Program}
use Rattle.lowering.specs.Pools.{Pools}
use Rattle.needs.specs.Needed as need
use Rattle.to_image.specs.Answer as answers
use Rattle.image_check.specs.Answer as judge
use Rattle.api.specs.Fourteen.{Refuses, Fourteen}

-- 01's number of an outcome
abbrev number : Outcome → ℕ
number o = answers.answer_number (answers.answer o)

-- ---- no number from 9 on is 14

lowered-other : (s : List ℕ) (i m : ℕ) (r : Program) → number (lowered s i m r) ≡ 14 → ⊥
unfolding lowered answers.answer
lowered-other s i m r =
    by r.pools.defeated (ltb max_emitted r.pools.emitted) (ltb m (scratch_needed s r.pools)) (ltb i (length (words r)))
  where
    by : (a b c d : Bool)
        → number
        (elim a [
          | true ↦ refused Eval
          | false ↦
              elim b [
                | true ↦ refused Emitted
                | false ↦ elim c [ true ↦ refused ScratchShort | false ↦ elim d [ true ↦ refused ImageLong | false ↦ image (words r) ] ]
              ]
        ])
        ≡ 14 → ⊥
    by true b c d e = omega arith
    by false true c d e = omega arith
    by false false true d e = omega arith
    by false false false true e = omega arith
    by false false false false e = omega arith

needed-other : (s : List ℕ) (p : Pools) → need.need_number (need.needed_by s p) ≡ 14 → ⊥
unfolding need.needed_by
needed-other s p = by p.defeated (ltb max_emitted p.emitted)
  where
    by : (a b : Bool)
        → need.need_number (elim a [ true ↦ Err Eval | false ↦ elim b [ true ↦ Err Emitted | false ↦ Ok (scratch_needed s p) ] ]) ≡ 14 → ⊥
    by true b e = omega arith
    by false true e = omega arith
    by false false e = omega arith

judged-other : (s w : List ℕ) (room : ℕ) → verdict_number (judge.judged_after (Ok tt) s w room) ≡ 14 → ⊥
unfolding judge.judged_after
judged-other s w room = by (ltb room (length w)) _
  where
    by : (a b : Bool)
        → verdict_number (elim a [ true ↦ Err ScratchShort | false ↦ elim b [ true ↦ Ok tt | false ↦ Err IllMade ] ]) ≡ 14 → ⊥
    by true b e = omega arith
    by false true e = omega arith
    by false false e = omega arith

module _ (s : List ℕ) where
  -- ---- 14 by each function

  check-only : (v : Verdict) → checked s ≡ v → verdict_number v ≡ 14 → checked s ≡ Err EmptyName
  check-only (Ok x) e n = absurd (omega arith)
  check-only (Err r) e n = e ∙ ap (λ q. Err q) (fourteen r n)

  needs-only : (v : Verdict) → checked s ≡ v → need.need_number (need.needed_after s v) ≡ 14 → checked s ≡ Err EmptyName
  unfolding need.needed_after
  needs-only (Ok x) e n = absurd (needed-other s (lower s).pools n)
  needs-only (Err r) e n = check-only (Err r) e n

  lower-only : (i m : ℕ) (v : Verdict) → checked s ≡ v → number (outcome_after s i m v) ≡ 14 → checked s ≡ Err EmptyName
  unfolding outcome_after answers.answer
  lower-only i m (Ok x) e n = absurd (lowered-other s i m (lower s) n)
  lower-only i m (Err r) e n = check-only (Err r) e n

  judged-only : (w : List ℕ) (room : ℕ) (v : Verdict) → checked s ≡ v → verdict_number (judge.judged_after v s w room) ≡ 14
      → checked s ≡ Err EmptyName
  unfolding judge.judged_after
  judged-only w room (Ok x) e n = absurd (judged-other s w room n)
  judged-only w room (Err r) e n = check-only (Err r) e n

  told : checked s ≡ Err EmptyName → Before s × Nameless s
  told e = (empty_names_right s).refused e

  refuses : checked s ≡ Err EmptyName → Refuses s
  unfolding need.needed need.needed_after outcome outcome_after answers.answer answers.image_after answers.scratch_after
      judge.scratch_after leaves
  refuses e = record {
    check = ap verdict_number e;
    needs = λ A.
        let n : need.needed s ≡ Err EmptyName = ap (need.needed_after s) e in
        (A.number_is ∙ ap need.need_number n, A.words_is ∙ ap need.words_of n);
    lower = λ {xs} {ys} G.
        let o : outcome s (length xs) (length ys) ≡ refused EmptyName = ap (outcome_after s (length xs) (length ys)) e in (
          G.number_is ∙ ap number o,
          G.words_is ∙ ap (λ o. answers.words_of (answers.answer o)) o,
          G.image_is ∙ ap (λ o. answers.image_after o xs) o,
          G.scratch_is ∙ ap (λ o. answers.scratch_after o ys) o,
        );
    check_image = λ {w} {xs} J.
        let v : J.verdict ≡ Err EmptyName = J.answers.says.of-sheet EmptyName e in
        (J.number_is ∙ ap verdict_number v, J.answers.scratch_is ∙ ap (λ v. judge.scratch_after v xs) v);
  }

  pub fourteen_right : Fourteen s
  unfolding need.needed outcome judge.judged
  fourteen_right = record {
    refuses = λ b n. refuses ((empty_names_right s).refuses b n);
    by_check = λ n. told (check-only (checked s) refl n);
    by_needs = λ A. told (needs-only (checked s) refl (sym A.number_is));
    by_lower = λ {xs} {ys} G. told (lower-only (length xs) (length ys) (checked s) refl (sym G.number_is));
    by_check_image = λ {w} {xs} J.
        told (judged-only w (length xs) (checked s) refl (sym (ap verdict_number J.answers.answers) ∙ sym J.number_is));
  }
