-- `image_check::well_made` meets its contract: each test may rely on those before it.
use mathlib.Core.Path.{◌≡◌, refl, sym, ◌∙◌}
use mathlib.Core.Bool.{◌&&◌}
use lib.ListN.{length}
use Rattle.image_rule.specs.Test.{operands_right, targets_right}
use Rattle.image_fields.specs.Fields.{fields_right}
use Rattle.image_check.specs.Sizes.{sizes_agree}
use Rattle.image_check.proofs.MadeLaws.{and-then, and-else, left-holds, right-holds, sized, chains, rows, tested, made-by, depths_right}
use Rattle.image_check.proofs.well_made.Goals as goal
use Rattle.image_check.proofs.well_made.Goals.{then-sizes_agree, else-sizes_agree, then-fields_right, else-fields_right}
use Rattle.image_check.proofs.well_made.Goals.{then-operands_right, else-operands_right}
use Rattle.image_check.proofs.well_made.Goals.{Then-targets_right, Else-targets_right}

-- the value of the parts before the last, where it is true, and where it is false
where-true : (c : Then-targets_right) → let a = c.args in length a.scratch.now ≡ length a.image.now → c.if-operands_right.value
    ≡ (sizes_agree a.image.now && fields_right a.sheet.now a.image.now && operands_right a.image.now && targets_right a.image.now)
where-true c e =
    let s = c.args.sheet.now in
    let w = c.args.image.now in
    let one : c.if-sizes_agree.value ≡ (sizes_agree w && fields_right s w) =
    elim c.if-sizes_agree.branch [
      | then-sizes_agree b ↦ and-then (sym c.sizes_agree.ensures ∙ b.if-sizes_agree.true) (b.value-is ∙ b.fields_right.ensures)
      | else-sizes_agree b ↦ and-else _ (b.value-is ∙ c.sizes_agree.ensures) (sym c.sizes_agree.ensures ∙ b.if-sizes_agree.false)
    ] in
    let two : c.if-fields_right.value ≡ (sizes_agree w && fields_right s w && operands_right w) =
    elim c.if-fields_right.branch [
      | then-fields_right b ↦
          let t = b.if-fields_right.true in
          let a = left-holds _ one t in
          and-then (sym one ∙ t) (b.value-is ∙ b.operands_right.ensures (sized w _ a e) (chains s w a (right-holds _ one t)))
      | else-fields_right b ↦ and-else _ (b.value-is ∙ one) (sym one ∙ b.if-fields_right.false)
    ] in
    elim c.if-operands_right.branch [
      | then-operands_right b ↦
          let t = b.if-operands_right.true in
          let both = left-holds _ two t in
          let a = left-holds _ refl both in
          and-then (sym two ∙ t)
          (b.value-is ∙ b.targets_right.ensures (sized w _ a (c.if-fields_right.auto.scratch ∙ e)) (rows s w a (right-holds _ refl both)))
      | else-operands_right b ↦ and-else _ (b.value-is ∙ two) (sym two ∙ b.if-operands_right.false)
    ]

where-false : (c : Else-targets_right) → let a = c.args in length a.scratch.now ≡ length a.image.now → c.if-operands_right.value
    ≡ (sizes_agree a.image.now && fields_right a.sheet.now a.image.now && operands_right a.image.now && targets_right a.image.now)
where-false c e =
    let s = c.args.sheet.now in
    let w = c.args.image.now in
    let one : c.if-sizes_agree.value ≡ (sizes_agree w && fields_right s w) =
    elim c.if-sizes_agree.branch [
      | then-sizes_agree b ↦ and-then (sym c.sizes_agree.ensures ∙ b.if-sizes_agree.true) (b.value-is ∙ b.fields_right.ensures)
      | else-sizes_agree b ↦ and-else _ (b.value-is ∙ c.sizes_agree.ensures) (sym c.sizes_agree.ensures ∙ b.if-sizes_agree.false)
    ] in
    let two : c.if-fields_right.value ≡ (sizes_agree w && fields_right s w && operands_right w) =
    elim c.if-fields_right.branch [
      | then-fields_right b ↦
          let t = b.if-fields_right.true in
          let a = left-holds _ one t in
          and-then (sym one ∙ t) (b.value-is ∙ b.operands_right.ensures (sized w _ a e) (chains s w a (right-holds _ one t)))
      | else-fields_right b ↦ and-else _ (b.value-is ∙ one) (sym one ∙ b.if-fields_right.false)
    ] in
    elim c.if-operands_right.branch [
      | then-operands_right b ↦
          let t = b.if-operands_right.true in
          let both = left-holds _ two t in
          let a = left-holds _ refl both in
          and-then (sym two ∙ t)
          (b.value-is ∙ b.targets_right.ensures (sized w _ a (c.if-fields_right.auto.scratch ∙ e)) (rows s w a (right-holds _ refl both)))
      | else-operands_right b ↦ and-else _ (b.value-is ∙ two) (sym two ∙ b.if-operands_right.false)
    ]

pub returns-then-targets_right : goal.returns-then-targets_right
returns-then-targets_right c =
    let s = c.args.sheet.now in
    let w = c.args.image.now in
    λ e.
    let value = where-true (goal.at.returns-then-targets_right c).Then-targets_right e in
    let t = c.if-targets_right.true in
    let three = left-holds _ value t in
    let two = left-holds _ refl three in
    let right = tested s w (left-holds _ refl two) (right-holds _ refl two) (right-holds _ refl three) (right-holds _ value t) in
    and-then t (c.depths_right.ensures right (c.if-operands_right.auto.scratch ∙ c.if-fields_right.auto.scratch ∙ e)) ∙ made-by s w _ value

pub returns-else-targets_right : goal.returns-else-targets_right
returns-else-targets_right c =
    let s = c.args.sheet.now in
    let w = c.args.image.now in
    λ e.
    and-else (depths_right w) refl c.if-targets_right.false
    ∙ made-by s w _ (where-false (goal.at.returns-else-targets_right c).Else-targets_right e)
