-- The JSON that answers the end of a two-phase load, its members in the byte order of their names (Apache Doris documentation,
-- "Stream Load", on two-phase commit).
use Rattle.std.specs.Prelude.{ℕ, Bool, true, false, List, [], ◌∷◌, ◌++◌, codes, decimal}
use Rattle.serde_json.specs.Data.{Data, string}
use Rattle.reply_json.specs.Texts.{text_json, object_of}
use Rattle.reply_json.specs.declared.end_report.EndReport.{EndReport}
use Rattle.reply_json.specs.declared.end_report.EndReport.TheVariants as report

-- what was done with the load
abbrev pub done_word : Bool → List ℕ
done_word true = codes "commit"
done_word false = codes "abort"

unfoldable pub done_text : Bool → ℕ → List ℕ
done_text commit txn = codes "transaction [" ++ decimal txn ++ codes "] " ++ done_word commit ++ codes " successfully."

-- a load that was committed and is not published yet is late (this project's own)
abbrev pub end_status : (commit published : Bool) → List ℕ
end_status true false = codes "Publish Timeout"
end_status _ _ = codes "Success"

abbrev pub told : Data → List ℕ → Data
told message status = object_of (
    (codes "msg", message)
    ∷ (codes "status", string status)
    ∷ [])

abbrev pub end_json : EndReport → Data
end_json (report.Done commit published txn) = told (string (done_text commit txn)) (end_status commit published)
end_json (report.Refused message) = told (text_json message) (codes "Fail")
