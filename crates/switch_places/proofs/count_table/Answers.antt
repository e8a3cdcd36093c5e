-- `switch_places::count_table` meets its contract: the passes are put together.
use Prim.Native.Nat.{◌≤◌}
use mathlib.Core.Path.{◌≡◌, ◌∙◌}
use mathlib.Core.List.{◌++◌}
use native.Mathlib.Omega.{arith}
use Rattle.lowering.specs.SwitchSheet.{block_count, default_block}
use Rattle.switch_count.specs.Total.{case_lists, split_lists}
use Rattle.sheet.specs.Limits.{max_depth, max_entries}
use Rattle.expr_count.specs.Locals.{answer}
use Rattle.expr_count.specs.Count.{tally_by}
use Rattle.switch_tables.specs.Planned.{entries}
use Rattle.switch_places.proofs.KeptLaws.{tables-kept}
use Rattle.switch_places.proofs.CountLaws.{default-in, most, second-most, head_of, exits_of, second-in, second-by, wanted-by}
use Rattle.switch_places.proofs.CountLaws.{bodies-of}
use Rattle.switch_places.proofs.CountLaws.{counted}
use Rattle.switch_tables.proofs.KindLaws.{coded-of}
use Rattle.switch_places.proofs.count_table.Goals as goal

pub bodies-all-requires : goal.bodies-all-requires
bodies-all-requires c =
    omega (arith, c.min-n.ensures)

pub returns : goal.returns
returns c ok k t₀ =
    let a = c.args in
    let s = a.by.now.sheet.now in
    let t = tally_by (answer a.by.now.told s) max_depth s in
    let n : c.min-n.result ≡ block_count s =
    omega (arith, c.min-n.ensures, c.field_a.ensures, t₀.few_blocks) in
    let few : c.min-n.result ≤ max_entries = omega (arith, n, t₀.few_blocks) in
    let def-is = coded-of _ _ c.checked_sub-def.ensures ∙ c.field_c.ensures in
    let p₁ = c.want_default.ensures in
    let t₁ = tables-kept t₀ p₁.within (omega arith) in
    let head =
    head_of t c.child.ensures c.tally.ensures c.instructions.ensures
    c.plus-head.ensures in
    let p₂ = c.case_chains-cases.ensures t ok k t₁ (most _ head).0 (most _ head).1 in
    let t₂ = tables-kept t₁ p₂.1 (omega arith) in
    let m₂ = most _ p₂.0.sum in
    let p₃ = second-by t₂ (c.second-switched.ensures s (case_lists s) (exits_of t₂ p₂.0) m₂.0) in
    let t₃ = tables-kept t₂ (second-in p₃) (omega arith) in
    let m₃ = second-most p₃ m₂ in
    let p₄ = c.band_chains-bands.ensures s t ok k t₃ m₃.0 m₃.1 in
    let t₄ = tables-kept t₃ p₄.1 (omega arith) in
    let m₄ = most _ p₄.0.sum in
    let wanted = wanted-by n few def-is p₁.wanted p₂.0 (second-in p₃) p₄.0 in
    let p₅ =
    bodies-of n t₄ (c.bodies-all.ensures (case_lists s ++ split_lists (entries s)) (default_block s) m₄.0 m₄.1) wanted in
    counted (default-in s ok k) def-is head p₂.0 p₃ c.case_chains-cases.new.table.whole p₄ wanted p₅ (tables-kept t₄ p₅.1 (omega arith))
    c.finish.ensures.within c.finish.ensures.finished c.closing.ensures c.instructions-2.ensures
    c.plus.ensures
