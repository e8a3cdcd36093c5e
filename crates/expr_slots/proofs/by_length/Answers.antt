-- `expr_slots::by_length` meets its contract: the locals from the last one on.
use Rattle.std.proofs.Common.{rules, ◌≡◌, ℕ, ◌+◌, ◌*◌, ◌/◌, Bool, length, arith}
use Rattle.std.proofs.iter.Serving.{serving}
use mathlib.Core.Path.{ap, ◌∙◌}
use Rattle.words.specs.Word.{word}
use Rattle.words.proofs.CutLaws.{every-word}
use Rattle.lowering.specs.Slots.{resolve_below, resolve}
use Rattle.expr_slots.specs.Found.{found}
use Rattle.expr_slots.specs.Named.{cut_word, cut_by}
use Rattle.expr_slots.proofs.LengthLaws.{cut-is, named-is, some-length}
use Rattle.expr_slots.proofs.LastLaws.{test, found-down, found-same, last-found}
use Rattle.expr_slots.proofs.by_length.Goals as goal

pub find-requires-clause-callable : goal.find-requires-clause-callable
find-requires-clause-callable c =
    let some = some-length c.args.sheet.now c.args.name.now c.args.t c.requires.0 c.requires.1 c.text_length-n.ensures in
    search (rules, serving)

pub returns : goal.returns
unfolding resolve cut_word
returns c =
    let s = c.args.sheet.now in
    let name = c.args.name.now in
    let lengths = c.words_from-lengths in
    let locals = c.words_from-locals in
    let m = c.local_count-m.result in
    let n = c.text_length-n.result in
    let at = c.locals_at.result in
    let ls = c.lengths_at.result in
    let bs = 4 * c.bytes_at.result in
    let read : ℕ → Bool = cut_by s name n locals.result.now lengths.result.now bs in
    let each : (k : ℕ) → cut_word lengths.result.now k ≡ word s (ls + k) =
    every-word s ls (length s / 4) lengths.result.now lengths.ensures.few lengths.ensures.each (omega arith) in
    found-down read _ _ _ _ c.find.ensures.ran c.rev.ensures.source (λ x b q k. search rules)
    ∙ found-same read (test s name) m (λ x l.
    cut-is s name n x at ls bs locals.result.now lengths.result.now (locals.ensures.each x l) each
    ∙ named-is s name c.args.t x c.requires.0 c.requires.1 c.text_length-n.ensures c.lengths_at.ensures.0 c.locals_at.ensures.0 c.bytes_at.ensures.0)
    ∙ last-found s name m
    ∙ ap (λ n. found (resolve_below n s name)) c.local_count-m.ensures
