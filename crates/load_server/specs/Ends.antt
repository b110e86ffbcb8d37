-- What an end of a two-phase load answers (Apache Doris documentation, "Stream Load", on two-phase commit).
use Rattle.std.specs.Prelude.{ℕ, Bool, List}
use Rattle.reply_json.specs.Ends.{end_json}
use Rattle.reply_json.specs.declared.end_report.EndReport.TheVariants as report
use Rattle.load_server.specs.Responses.{Response, well}

-- it was committed and published, or not yet published, or aborted
unfoldable pub ended : (commit published : Bool) → ℕ → Response
ended commit published txn = well (end_json (report.Done commit published txn))

-- it was refused
unfoldable pub refused_end : List ℕ → Response
refused_end message = well (end_json (report.Refused message))
