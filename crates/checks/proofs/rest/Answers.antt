-- `checks::rest` meets its contract: a law for each answer.
use Rattle.checks.proofs.AskedLaws.{passes, refuses, last}
use Rattle.checks.proofs.RestLaws.{rest_0, rest-3, rest-4, rest-6, rest-7, rest-14, numbers-all}
use Rattle.checks.proofs.rest.Goals as goal

pub returns-in_err-asked : goal.returns-in_err-asked
returns-in_err-asked c =
    refuses _ c.texts_ok.ensures c.asked.ensures c.in_err-asked.was c.from_residual.ensures.1 (λ e. rest-3 _ e)

pub returns-in_err-asked-2 : goal.returns-in_err-asked-2
returns-in_err-asked-2 c =
    let texts = passes _ c.texts_ok.ensures c.asked.ensures c.in_ok-asked.was in
    refuses _ c.locals_ok.ensures c.asked-2.ensures c.in_err-asked-2.was c.from_residual-in_err-asked-2.ensures.1 (λ e. rest-4 _ texts e)

pub returns-in_err-asked-3 : goal.returns-in_err-asked-3
returns-in_err-asked-3 c =
    let texts = passes _ c.texts_ok.ensures c.asked.ensures c.in_ok-asked.was in
    let locals = passes _ c.locals_ok.ensures c.asked-2.ensures c.in_ok-asked-2.was in
    let named = c.names_ok.ensures (numbers-all _ c.requires.numbers locals) in
    refuses _ named c.asked-3.ensures c.in_err-asked-3.was c.from_residual-in_err-asked-3.ensures.1 (λ e. rest-14 _ texts locals e)

pub returns-in_err-asked-4 : goal.returns-in_err-asked-4
returns-in_err-asked-4 c =
    let texts = passes _ c.texts_ok.ensures c.asked.ensures c.in_ok-asked.was in
    let locals = passes _ c.locals_ok.ensures c.asked-2.ensures c.in_ok-asked-2.was in
    let names = passes _ (c.names_ok.ensures (numbers-all _ c.requires.numbers locals)) c.asked-3.ensures c.in_ok-asked-3.was in
    refuses _ c.entries_ok.ensures c.asked-4.ensures c.in_err-asked-4.was c.from_residual-in_err-asked-4.ensures.1
    (λ e. rest-6 _ texts locals names e)

pub returns : goal.returns
returns c =
    let texts = passes _ c.texts_ok.ensures c.asked.ensures c.in_ok-asked.was in
    let locals = passes _ c.locals_ok.ensures c.asked-2.ensures c.in_ok-asked-2.was in
    let names = passes _ (c.names_ok.ensures (numbers-all _ c.requires.numbers locals)) c.asked-3.ensures c.in_ok-asked-3.was in
    let entries = passes _ c.entries_ok.ensures c.asked-4.ensures c.in_ok-asked-4.was in
    last _ c.cases_ok.ensures c.asked-5.ensures (λ e. rest-7 _ texts locals names entries e) (λ e. rest_0 _ texts locals names entries e)
