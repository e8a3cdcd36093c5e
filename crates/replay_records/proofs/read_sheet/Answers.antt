-- `replay_records::read_sheet` meets its contract: what was read is the sheet, and what pads it.
use Rattle.std.proofs.Common.{rules, ◌≡◌, length, arith}
use Rattle.std.specs.Io.KnownBytes.{Consumes}
use Rattle.replay_records.proofs.SheetsLaws.{sheet-read}
use Rattle.replay_records.proofs.read_sheet.Goals as goal

pub returns-clause-bytes : goal.returns-clause-bytes
returns-clause-bytes g c =
    let bytes = c.in-Some.padded.now in
    let all : length bytes ≡ c.next_multiple_of.result = search rules in
    let reads : Consumes (g.R.Read.remaining c.args.reader.now) (g.R.Read.remaining c.fill.new.reader) bytes = search rules in
    sheet-read bytes _ (omega arith) (omega (arith, all, c.next_multiple_of.ensures.value))
    (omega (arith, all, c.next_multiple_of.ensures.lower_bound))
    reads
