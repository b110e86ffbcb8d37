use Rattle.std.proofs.Common.{◌≡◌, length, map, rules, string_bytes, sym}
use Rattle.std.proofs.lemmas.List.{length-map}
use Rattle.command_words.specs.Words.{form_of}
use Rattle.service.proofs.Forms.{some_columns}
use Rattle.service.proofs.Serves.{ran_no_form}
use Rattle.service.proofs.command.run.Goals as goal

pub dryrun-requires : goal.dryrun-requires
dryrun-requires g c =
    let some = some_columns (map string_bytes c.args.words.now) c.in-Ok-Dryrun.model c.in-Ok-Dryrun.columns (search rules) in
    let same = c.as_slice.ensures in
    let long : length (map string_bytes c.as_slice.result.now) ≡ length c.as_slice.result.now = length-map c.as_slice.result.now string_bytes in
    rw (sym long) (rw same some)

pub returns-in-Err-NoMemory-clause-served : goal.returns-in-Err-NoMemory-clause-served
returns-in-Err-NoMemory-clause-served g c = ran_no_form (form_of (map string_bytes c.args.words.now)) (g.S.Source.left c.args.source.now) (g.S.Source.left c.args.source.now) (g.K.Sink.written c.args.sink.now) (g.C.Clock.given c.args.clock.now)
