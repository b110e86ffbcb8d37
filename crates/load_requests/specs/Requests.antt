-- What a request asks for, by its head and its body.
use Rattle.std.specs.Prelude.{◌≡◌, ℕ, Bool, true, false, nat_le, List, codes, Option, Some, None, refl}
use Rattle.std.proofs.lemmas.Bool.{leb-true}
use Rattle.http_wire.specs.Fields.{has_field}
use Rattle.http_wire.specs.declared.head.Head.{Head}
use Rattle.reply_json.specs.Statements.{stmt_of}
use Rattle.csv_load.specs.Options.{may_separate, ratio_or_none, separator_or_tab}
use Rattle.csv_load.specs.declared.options.Options.{Options}
use Rattle.load_requests.specs.declared.end_key.EndKey.{EndKey}
use Rattle.load_requests.specs.declared.request.Request.{Request}
use Rattle.load_requests.specs.declared.request.Request.TheVariants as request
use Rattle.load_requests.specs.declared.statement.Statement.{Statement}
use Rattle.load_requests.specs.declared.statement.Statement.TheVariants as statement
use Rattle.load_requests.specs.Targets.{end_target, load_target, query_target}
use Rattle.load_requests.specs.LoadFields.{bad_field, fields_fault}
use Rattle.load_requests.specs.Loads.{first_value, only_label}
use Rattle.load_requests.specs.Ends.{key_of, operation_of}
use Rattle.load_requests.specs.Statements.{statement_of}

-- a body is cut at tabs, nothing of it may be filtered, and a value that cannot be read is null
abbrev pub cut_at_tabs : Options
cut_at_tabs = record { separator = 9; ratio = 0; strict = false; separates = refl; within = leb-true 0 10000 refl }

-- a body is cut at this byte, and so many of ten thousand records may be filtered, where both may be
abbrev pub filtered_at : (b : ℕ) → may_separate b ≡ true → (r : ℕ) → (fits : Bool) → nat_le r 10000 ≡ fits → Bool → Options
filtered_at b separates r true fits strict = record { separator = b; ratio = r; strict = strict; separates = separates; within = leb-true r 10000 fits }
filtered_at b separates r false fits strict = cut_at_tabs

abbrev pub cut_at : (b : ℕ) → (may : Bool) → may_separate b ≡ may → ℕ → Bool → Options
cut_at b true separates r strict = filtered_at b separates r (nat_le r 10000) refl strict
cut_at b false separates r strict = cut_at_tabs

-- how the body is read that a load's separator, ratio and mode give
abbrev pub options_at : Option ℕ → Option ℕ → Bool → Options
options_at (Some b) (Some r) strict = cut_at b (may_separate b) refl r strict
options_at _ _ strict = cut_at_tabs

unfoldable pub options_of : List (List ℕ × List ℕ) → Options
options_of fields =
    options_at (separator_or_tab (first_value (codes "column_separator") fields)) (ratio_or_none (first_value (codes "max_filter_ratio") fields))
    (has_field (codes "strict_mode") (codes "true") fields)

-- the request of a load's fields
abbrev pub loaded : List ℕ × List ℕ → List (List ℕ × List ℕ) → Option (List ℕ) → Request
loaded place fields None = request.Load place.0 place.1 (first_value (codes "label") fields) (has_field (codes "two_phase_commit") (codes "true") fields) (options_of fields)
loaded place fields (Some message) = request.BadLoad (only_label fields) message

unfoldable pub load_request : List ℕ × List ℕ → List (List ℕ × List ℕ) → Request
load_request place fields = loaded place fields (fields_fault fields)

-- the request of a statement for a database
abbrev pub stated : List ℕ → Option Statement → Request
stated db None = request.BadStatement (codes "Unsupported name=stmt")
stated db (Some (statement.CreateDb name)) = request.CreateDb name
stated db (Some (statement.CreateTable table def)) = request.CreateTable db table def
stated db (Some (statement.Select table)) = request.Select db table

abbrev pub asked : List ℕ → Option (List ℕ) → Request
asked db None = request.BadStatement (codes "BadJson")
asked db (Some text) = stated db (statement_of text)

unfoldable pub statement_request : List ℕ → List ℕ → Request
statement_request db body = asked db (stmt_of body)

-- the request of an end's fields: of what is missing or cannot be read, the transaction comes before the operation
abbrev pub ended : List ℕ → Option EndKey → Option Bool → Request
ended db None commit = request.BadEnd (bad_field (codes "txn_id"))
ended db (Some key) None = request.BadEnd (bad_field (codes "txn_operation"))
ended db (Some key) (Some commit) = request.End db key commit

unfoldable pub end_request : List ℕ → List (List ℕ × List ℕ) → Request
end_request db fields = ended db (key_of fields) (operation_of fields)

abbrev pub by_target : Option (List ℕ × List ℕ) → (ends query : Option (List ℕ)) → List (List ℕ × List ℕ) → List ℕ → Request
by_target (Some place) ends query fields body = load_request place fields
by_target None (Some db) query fields body = end_request db fields
by_target None None (Some db) fields body = statement_request db body
by_target None None None fields body = request.Unknown

-- the request of a head and a body
unfoldable pub request_of : Head → List ℕ → Request
request_of head body =
    by_target (load_target head.method head.target) (end_target head.method head.target) (query_target head.method head.target) head.fields body
