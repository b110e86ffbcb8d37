-- What a load answers (Apache Doris documentation, "Stream Load", "Return Results").
use Rattle.std.specs.Prelude.{ℕ, ◌-◌, ◌++◌, List, Option, Some, None, codes, decimal}
use Rattle.labels.specs.declared.txn_state.TxnState.{TxnState}
use Rattle.reply_json.specs.Loads.{load_json}
use Rattle.reply_json.specs.declared.load_report.LoadReport.{LoadReport}
use Rattle.reply_json.specs.declared.load_report.LoadReport.TheVariants as report
use Rattle.reply_texts.specs.Texts.{refusal_text}
use Rattle.reply_texts.specs.Words.{job_text}
use Rattle.front_defs.specs.Answer.{label_for}
use Rattle.front_defs.specs.Words.{state_text}
use Rattle.front_defs.specs.declared.reply.Reply.TheVariants as reply
use Rattle.load_server.specs.Responses.{Response, well}
use Rattle.load_server.specs.declared.sent.Sent.{Sent}

-- the report of a load that began: its label, or the one that the service gave
abbrev pub report_of : Sent → ℕ → List ℕ → ℕ → ℕ → ℕ → List ℕ → LoadReport
report_of sent txn message filtered loaded total status = report.Began (label_for sent.label txn) sent.bytes message filtered loaded total status txn

unfoldable pub reported : Sent → ℕ → List ℕ → ℕ → ℕ → ℕ → List ℕ → Response
reported sent txn message filtered loaded total status = well (load_json (report_of sent txn message filtered loaded total status))

-- it is visible
abbrev pub succeeded : Sent → ℕ → ℕ → ℕ → Response
succeeded sent txn filtered total = reported sent txn (codes "OK") filtered (total - filtered) total (codes "Success")

-- it is committed, and a fault came before it was visible
abbrev pub delayed : Sent → ℕ → ℕ → ℕ → Response
delayed sent txn filtered total = reported sent txn (codes "committed, not yet published") filtered (total - filtered) total (codes "Publish Timeout")

-- it has failed, and nothing of it is kept
abbrev pub failed : Sent → ℕ → List ℕ → ℕ → ℕ → Response
failed sent txn message filtered total = reported sent txn message filtered 0 total (codes "Fail")

-- it was refused before it began
unfoldable pub refused_load : Option (List ℕ) → List ℕ → Response
refused_load label message = well (load_json (report.Refused label message))

-- its label is used; of a label that the service gave the report tells no label
unfoldable pub used_load : Option (List ℕ) → ℕ → TxnState → Response
used_load None txn state = refused_load None (refusal_text (reply.Used txn state))
used_load (Some label) txn state = well (load_json (report.Used label (job_text state) (state_text state) (refusal_text (reply.Used txn state)) txn))

-- why a body was refused
abbrev pub too_many_rows : List ℕ
too_many_rows = codes "TooManyRows limit=1000000"

abbrev pub too_many_filtered : ℕ → ℕ → List ℕ
too_many_filtered filtered total = codes "TooManyFiltered filtered=" ++ decimal filtered ++ codes " total=" ++ decimal total
