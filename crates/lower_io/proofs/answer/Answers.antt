-- `lower_io::answer` meets its contract: the image that is written fits into its buffer, and is the outcome's.
use Rattle.std.proofs.Common.{rules, ◌≤◌, ◌≡◌, length, IfSome, sym}
use lib.Seq.{length-take-le}
use Rattle.std.proofs.lemmas.Result.{on_ok_weaker}
use Rattle.lower_io.proofs.FitLaws.{lowered-fits, heard, said-image, said-refusal}
use Rattle.lower_io.proofs.answer.Goals as goal

pub slice_bounds-image-end : goal.slice_bounds-image-end
slice_bounds-image-end g c = lowered-fits _ c.lower.ensures c.in-Ok.is

pub slice_bounds-put_words-end : goal.slice_bounds-put_words-end
slice_bounds-put_words-end g c = sym (length-take-le _ _ (lowered-fits _ c.lower.ensures c.in-Ok.is))

pub returns-in-Ok : goal.returns-in-Ok
returns-in-Ok g c =
    let known = g.R.Read.remaining c.args.reader.now in
    let short : length c.in-Some.sheet.now ≤ 65536 = search rules in
    let all : IfSome known (λ input. c.in-Some.sheet.now ≡ input) = heard known _ _ _ c.in_ok-sheet.ensures.bytes c.in-Some.is in
    on_ok_weaker _ (said-image known _ _ _ c.lower.ensures c.in-Ok.is (search rules) (search rules) all short) c.put_words.ensures

pub returns-in-Err : goal.returns-in-Err
returns-in-Err g c =
    let known = g.R.Read.remaining c.args.reader.now in
    let short : length c.in-Some.sheet.now ≤ 65536 = search rules in
    let all : IfSome known (λ input. c.in-Some.sheet.now ≡ input) = heard known _ _ _ c.in_ok-sheet.ensures.bytes c.in-Some.is in
    on_ok_weaker _ (said-refusal known _ _ _ c.lower.ensures c.in-Err.is (search rules) (search rules) all short)
    c.writeln-in-Err.ensures.bytes
