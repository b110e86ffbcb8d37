-- The JSON that answers a load, its members in the byte order of their names (Apache Doris documentation, "Stream Load",
-- "Return Results").
use Rattle.std.specs.Prelude.{ℕ, List, [], ◌∷◌, codes, Option, Some, None}
use Rattle.serde_json.specs.Data.{Data, string}
use Rattle.reply_json.specs.Texts.{text_json, count_json, object_of}
use Rattle.reply_json.specs.declared.load_report.LoadReport.{LoadReport}
use Rattle.reply_json.specs.declared.load_report.LoadReport.TheVariants as report

-- a load that began
unfoldable pub began : (label : Data) (bytes : ℕ) (message : Data) (filtered loaded total : ℕ) (status : Data) (txn : ℕ) → Data
began label bytes message filtered loaded total status txn = object_of (
    (codes "Label", label)
    ∷ (codes "LoadBytes", count_json bytes)
    ∷ (codes "Message", message)
    ∷ (codes "NumberFilteredRows", count_json filtered)
    ∷ (codes "NumberLoadedRows", count_json loaded)
    ∷ (codes "NumberTotalRows", count_json total)
    ∷ (codes "Status", status)
    ∷ (codes "TxnId", count_json txn)
    ∷ [])

-- a load whose label is used
unfoldable pub used : (label job state message : Data) (txn : ℕ) → Data
used label job state message txn = object_of (
    (codes "ExistingJobStatus", job)
    ∷ (codes "ExistingTxnState", state)
    ∷ (codes "Label", label)
    ∷ (codes "Message", message)
    ∷ (codes "Status", string (codes "Label Already Exists"))
    ∷ (codes "TxnId", count_json txn)
    ∷ [])

-- what a refused load has behind its label
abbrev pub failed : List ℕ → List (List ℕ × Data)
failed message =
    (codes "Message", text_json message)
    ∷ (codes "Status", string (codes "Fail"))
    ∷ []

-- the members of a refused load, whose label may be unknown
abbrev pub refused : Option (List ℕ) → List ℕ → List (List ℕ × Data)
refused None message = failed message
refused (Some label) message = (codes "Label", text_json label) ∷ failed message

abbrev pub load_json : LoadReport → Data
load_json (report.Began label bytes message filtered loaded total status txn) =
    began (text_json label) bytes (text_json message) filtered loaded total (text_json status) txn
load_json (report.Used label job state message txn) =
    used (text_json label) (text_json job) (text_json state) (text_json message) txn
load_json (report.Refused label message) = object_of (refused label message)
