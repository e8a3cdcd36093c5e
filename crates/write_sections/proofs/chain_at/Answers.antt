-- `write_sections::chain_at` meets its contract: the chain by its root.
use mathlib.Core.Path.{ap, ◌∙◌}
use Rattle.bytecode.specs.declared.Chain.{Chain}
use Rattle.scratch_index.specs.Held.{names_held}
use Rattle.write_sections.proofs.ChainRows.{chain-rooted}
use Rattle.write_sections.proofs.chain_at.Goals as goal

pub returns : goal.returns
returns c =
    let a = c.args in
    let it = a.names.now in
    let s = it.sheet.now in
    let ns = names_held s it.layout it.count it.scratch.now in
    let made = c.chain_of.ensures in (
      ap (λ (k : Chain). k.steps) made,
      λ h. made ∙ chain-rooted s ns a.j a.first c.child.ensures (c.root_at-root.ensures h),
    )
