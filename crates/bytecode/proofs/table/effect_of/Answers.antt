-- `bytecode::table::effect_of` meets its contract: the table has the definition's rows, in the code's names.
use mathlib.Core.Path.{◌≡◌, ◌∙◌, ap, sym}
use mathlib.Core.List.{map}
use native.Mathlib.Omega.{arith}
use lib.ListN.{get_or}
use Rattle.std.specs.Option.{unwrap_or}
use Rattle.bytecode.specs.Coded.{count_of, flow_of, effect_from}
use Rattle.bytecode.specs.Effect.{row, effects, effect, fixed, on}
use Rattle.bytecode.specs.Table.{numbers_of, entry}
use Rattle.bytecode.proofs.RowLaws.{coded_of, top_of, coded_flow, is_effect, counted_back, flows_back, effect_back}
use Rattle.bytecode.proofs.TableLaws.{table-entry}
use Rattle.bytecode.proofs.table.effect_of.Goals as goal

-- what is read is the row
is-row : (c : goal.After-unwrap_or) → c.unwrap_or.result ≡ coded_of (effect c.args.kind)
unfolding top_of coded_flow
is-row c =
    let k = c.args.kind in
    let none = coded_of (row 0 0 0 fixed on) in
    let read : c.unwrap_or.result ≡ get_or (map coded_of effects) k none =
    c.unwrap_or.ensures ∙ ap (λ o. unwrap_or o none) c.copied.ensures ∙ c.get.ensures.lookup.4 (omega arith) none in
    read ∙ is_effect k

pub returns-clause-pops : goal.returns-clause-pops
returns-clause-pops c = ap (λ e. e.pops) (is-row c)

pub returns-clause-pushes : goal.returns-clause-pushes
returns-clause-pushes c = ap (λ e. e.pushes) (is-row c)

pub returns-clause-keeps : goal.returns-clause-keeps
returns-clause-keeps c = ap (λ e. e.keeps) (is-row c)

pub returns-clause-top : goal.returns-clause-top
returns-clause-top c = ap (λ e. count_of e.top) (is-row c) ∙ counted_back _

pub returns-clause-flow : goal.returns-clause-flow
returns-clause-flow c = ap (λ e. flow_of e.flow) (is-row c) ∙ flows_back _

pub returns-clause-numbers : goal.returns-clause-numbers
unfolding entry
returns-clause-numbers c = λ f small.
    let told = ap effect_from (is-row c) ∙ effect_back (effect c.args.kind) in
    ap (λ e. get_or (numbers_of e) f 0) told ∙ sym (table-entry c.args.kind f small)
