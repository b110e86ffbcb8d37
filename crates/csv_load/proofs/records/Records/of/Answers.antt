use Rattle.std.proofs.Common.{Some, List, ℕ, Bor}
use Rattle.csv_load.proofs.Lines.{left-at_start}
use Rattle.csv_load.proofs.records.Records.of.Goals as goal

pub returns : goal.returns
returns c =
    let fr = c.from_reader-reader.ensures in
    left-at_start (λ (s : Bor (List ℕ)). Some s.now) c.from_reader-reader.result c.args.separator c.args.bytes.now c.requires.feed c.requires.return_
    (rw (c.delimiter.ensures, c.quoting.ensures, c.flexible.ensures, c.has_headers.ensures, c.new.ensures.config) at fr.config) fr.state fr.source
