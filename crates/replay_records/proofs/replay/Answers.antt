-- `replay_records::replay` meets its contract: what `compare` counted is what is written.
use Rattle.std.proofs.Common.{rules, inr, ◌≡◌, refl, length}
use Rattle.std.proofs.lemmas.Result.{on_ok_weaker}
use Rattle.std.specs.Io.KnownBytes.{Consumes}
use Rattle.replay_records.proofs.replay.Goals as goal

pub returns : goal.returns
returns g c =
    let head = c.in-Some.head.now in
    let four : length head ≡ 4 = search rules in
    let reads : Consumes (g.R.Read.remaining c.args.reader.now) (g.R.Read.remaining c.fill.new.reader) head = search rules in
    on_ok_weaker _ (λ w. inr (record {
      head = head;
      four = four;
      many = c.word_at.result;
      many-is = c.word_at.ensures;
      given = _;
      reads = reads;
      counted = c.in_ok-counted.counted;
      left = _;
      counts = c.in_ok-counted.ensures;
      leaves = refl;
      writes = w;
    })) c.writeln.ensures.bytes
