-- `switched::write` meets its contract: what the calls write is put together by one law.
use Rattle.to_image.proofs.PlainLaws.{holds-in}
use Rattle.to_image.proofs.WriteLaws.{written}
use Rattle.to_image.proofs.switched.write.Goals as goal

pub returns : goal.returns
returns c =
    λ l S. written S c.field_b-cases.result c.at-bands.result c.field_b-cases.ensures c.at-bands.ensures
    c.table_count.result c.at.result c.at-2.result c.table_count.ensures c.at.ensures c.at-2.ensures
    (λ a h. c.put-a.ensures _ a (holds-in c.words.ensures h)) c.put_switches-b.ensures c.put_cases-c.ensures c.put_ranges.ensures
