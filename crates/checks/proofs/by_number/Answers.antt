-- `checks::by_number` meets its contract: a law for each answer.
use mathlib.Core.Path.{sym, ◌∙◌}
use Rattle.check_sizes.specs.Sizes.{sizes_ok}
use Rattle.check_shape.specs.Shape.{shape_ok}
use Rattle.check_texts.specs.Texts.{texts_ok}
use Rattle.checks.proofs.AskedLaws.{passes, refuses}
use Rattle.checks.proofs.CheckedLaws.{says-1, says-2, says-3, says-4, says-14, goes-on}
use Rattle.checks.proofs.by_number.Goals as goal

-- First, and by `cc`, which names no test: where the tests stand in another order, it is this fact that fails.
pub returns-in_err-asked-3 : goal.returns-in_err-asked-3
returns-in_err-asked-3 c =
    let s = c.args.sheet.now in
    let sizes = passes _ {test = sizes_ok s} (cc) c.asked.ensures c.in_ok-asked.was in
    let shape = passes _ {test = shape_ok s} (cc) c.asked-2.ensures c.in_ok-asked-2.was in
    refuses _ {test = texts_ok s} (cc) c.asked-3.ensures c.in_err-asked-3.was c.from_residual-in_err-asked-3.ensures.1
    (λ e. says-3 s sizes shape e)

pub returns-in_err-asked-2 : goal.returns-in_err-asked-2
returns-in_err-asked-2 c =
    let sizes = passes _ c.sizes_ok.ensures c.asked.ensures c.in_ok-asked.was in
    refuses _ c.shape_ok.ensures c.asked-2.ensures c.in_err-asked-2.was c.from_residual-in_err-asked-2.ensures.1 (λ e. says-2 _ sizes e)

pub returns-in_err-asked : goal.returns-in_err-asked
returns-in_err-asked c =
    refuses _ c.sizes_ok.ensures c.asked.ensures c.in_err-asked.was c.from_residual.ensures.1 (λ e. says-1 _ e)

pub returns-in_err-asked-4 : goal.returns-in_err-asked-4
returns-in_err-asked-4 c =
    let sizes = passes _ c.sizes_ok.ensures c.asked.ensures c.in_ok-asked.was in
    let shape = passes _ c.shape_ok.ensures c.asked-2.ensures c.in_ok-asked-2.was in
    let texts = passes _ c.texts_ok.ensures c.asked-3.ensures c.in_ok-asked-3.was in
    refuses _ c.numbers_ok.ensures c.asked-4.ensures c.in_err-asked-4.was c.from_residual-in_err-asked-4.ensures.1
    (λ e. says-4 _ sizes shape texts e)

pub returns-in_err-asked-5 : goal.returns-in_err-asked-5
returns-in_err-asked-5 c =
    let sizes = passes _ c.sizes_ok.ensures c.asked.ensures c.in_ok-asked.was in
    let shape = passes _ c.shape_ok.ensures c.asked-2.ensures c.in_ok-asked-2.was in
    let texts = passes _ c.texts_ok.ensures c.asked-3.ensures c.in_ok-asked-3.was in
    let numbers = passes _ c.numbers_ok.ensures c.asked-4.ensures c.in_ok-asked-4.was in
    refuses _ (c.names_ok.ensures numbers) c.asked-5.ensures c.in_err-asked-5.was c.from_residual-in_err-asked-5.ensures.1
    (λ e. says-14 _ sizes shape texts numbers e)

pub returns : goal.returns
returns c =
    let sizes = passes _ c.sizes_ok.ensures c.asked.ensures c.in_ok-asked.was in
    let shape = passes _ c.shape_ok.ensures c.asked-2.ensures c.in_ok-asked-2.was in
    let texts = passes _ c.texts_ok.ensures c.asked-3.ensures c.in_ok-asked-3.was in
    let numbers = passes _ c.numbers_ok.ensures c.asked-4.ensures c.in_ok-asked-4.was in
    let names = passes _ (c.names_ok.ensures numbers) c.asked-5.ensures c.in_ok-asked-5.was in
    c.tree.ensures ∙ sym (goes-on _ sizes shape texts numbers names)
