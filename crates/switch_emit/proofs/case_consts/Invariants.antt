-- `switch_emit::case_consts` meets its contract. The invariant: the Cases passed, whose values are constants, and their places.
use Rattle.scratch.specs.declared.Layout.{Layout}
use Rattle.check_switches.specs.Switch.{first_case}
use Rattle.sheet.specs.Rest.{rest}
use Rattle.switch_tables.specs.Columns.{size, case_const_at, Within}
use Rattle.sheet.proofs.WalkedLaws.{Walked}
use Rattle.switch_emit.proofs.CaseDoes.{CasesDone}
use Rattle.switch_emit.specs.Ready.{Ready}
use Rattle.std.proofs.Common.{◌≡◌, length}
use Rattle.switch_emit.proofs.case_consts.Given as goal

abbrev pub invariant-loop-i : goal.invariant-loop-i
invariant-loop-i v =
    let i = v.i-iterator.count in
    (length v.flat ≡ length v.initial.flat) × Walked v.sheet (first_case v.sheet) v.n i (rest v.i-iterator.iter)
    × Within case_const_at size v.initial.flat v.flat
    × ((l : Layout) → Ready v.sheet
    → CasesDone v.sheet l v.initial.store.scratch.now v.initial.store.state v.store.scratch.now v.store.state v.flat i)
    × (v.store.scratch.ghost_name ≡ v.initial.store.scratch.ghost_name)
