-- `switch_intervals::CutList::put_span` meets its contract. The places of the two ends, the flag and the block are the span.
use mathlib.Core.Path.{◌≡◌, refl, ◌∙◌}
use mathlib.Core.Bool.{Bool, true, false}
use lib.Dec.{eqb}
use mir.Val.{bool_byte}
use Rattle.switch_tables.specs.Spans.{one_if}
use Rattle.switch_split.specs.Held.{excesses}
use Rattle.switch_intervals.proofs.SearchLaws.{place-by}
use Rattle.switch_intervals.proofs.SpanLaws.{span-put}
use borrow.Author.Rules.{sfits_of}
use Rattle.switch_intervals.proofs.CutList.put_span.Goals as goal

as_one : (b : Bool) → bool_byte b ≡ one_if b
as_one true = refl
as_one false = refl

pub returns : goal.returns
returns c =
    let cs = excesses c.args.self.now.at.now in
    λ st. span-put c.args.sheet.now cs _ _ c.args.r c.args.i
    (place-by cs c.start_of.result (sfits_of c.start_of.type_inv) (c.place_of-lo.ensures.value st) c.start_of.ensures)
    (place-by cs c.end_of.result (sfits_of c.end_of.type_inv) (c.place_of.ensures.value st) c.end_of.ensures)
    c.field_a.ensures (c.from.ensures ∙ as_one (eqb c.field_a.result 1)) c.field_b.ensures c.put.ensures c.put-2.ensures
    c.put-3.ensures c.put-4.ensures c.put-5.ensures
