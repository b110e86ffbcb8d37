use Rattle.std.proofs.Common.{◌∙◌, sym}
use Rattle.csv.specs.Records.{fields_of}
use Rattle.csv_load.proofs.Lines.{left-read}
use Rattle.csv_load.proofs.records.Records.read.Goals as goal
use Rattle.csv_load.proofs.records.Records.read.Goals.{in-Ok, in-Err}

pub returns : goal.returns
returns c = elim c.match-read_byte_record.branch [
  | in-Ok w ↦ rw w.result-is (sym c.self.view_is ∙ left-read c.self.inside.reader c.read_byte_record.new.self w.in-Ok.found (fields_of c.read_byte_record.new.row) c.self.invariant (λ e. let h = w.in-Ok.ensures.failed e in cc) w.in-Ok.ensures.reads)
  | in-Err w ↦ rw w.result-is tt
]
