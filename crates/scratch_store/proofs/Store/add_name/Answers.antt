-- `scratch_store::Store::add_name` meets its contract: by its number where it has one.
use Rattle.std.proofs.Common.{sym, ◌∙◌}
use Rattle.scratch_index.proofs.MemoLaws.{number-name}
use Rattle.scratch_index.proofs.NameLaws.{name-read}
use Rattle.scratch_store.proofs.Store.add_name.Goals as goal

pub returns-in-Some-clause-does : goal.returns-in-Some-clause-does
returns-in-Some-clause-does c = λ l.
    let s = c.args.sheet.now in
    let text = c.text_of.ensures in
    let mark = c.is_marked.ensures in
    let space = c.namespace_of.ensures in
    let is = number-name s _ _ _ (sym c.number.ensures ∙ c.in-Some.is) in
    c.known_name.ensures.does l text mark space (is ∙ name-read s c.args.k text mark space)

pub returns-in-None-clause-does : goal.returns-in-None-clause-does
returns-in-None-clause-does c = λ l. c.push_name.ensures.does l c.text_of.ensures c.is_marked.ensures c.namespace_of.ensures
