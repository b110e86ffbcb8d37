-- The fields of a load (Apache Doris documentation, "Stream Load", "Load configuration parameters"; which values are taken
-- is this project's own). Names are compared without case.
use Rattle.std.specs.Prelude.{ℕ, ◌||◌, Bool, is_some, List, [], ◌∷◌, ◌++◌, codes, Option, Some, None, if◌then◌else◌}
use Rattle.std.specs.List.{list_any}
use Rattle.std.specs.Str.{bytes_eq, is_utf8, str_eq_ignore_ascii_case}
use Rattle.http_wire.specs.Fields.{is_named}
use Rattle.csv_load.specs.Options.{ratio_of, separator_of}

-- the text that says why, where a value is not taken
abbrev pub unless : Bool → List ℕ → Option (List ℕ)
unless taken text = if taken then None else Some text

-- of a name in lower case
abbrev pub bad_field : List ℕ → List ℕ
bad_field name = codes "BadHeader name=" ++ name

abbrev pub unsupported : List ℕ → List ℕ
unsupported name = codes "Unsupported name=" ++ name

-- the fields that may stand once
abbrev pub single_names : List (List ℕ)
single_names = codes "label" ∷ codes "column_separator" ∷ codes "max_filter_ratio" ∷ codes "strict_mode" ∷ codes "two_phase_commit" ∷ []

-- the fields that no load may have
abbrev pub refused_names : List (List ℕ)
refused_names =
    codes "columns" ∷ codes "where" ∷ codes "partitions" ∷ codes "temporary_partitions" ∷ codes "jsonpaths" ∷ codes "json_root"
    ∷ codes "strip_outer_array" ∷ codes "merge_type" ∷ codes "delete" ∷ codes "negative" ∷ codes "compress_type"
    ∷ codes "content-encoding" ∷ codes "enclose" ∷ codes "escape" ∷ codes "skip_lines" ∷ codes "trim_double_quotes"
    ∷ codes "hidden_columns" ∷ codes "partial_columns" ∷ codes "function_column.sequence_col" ∷ []

-- the first of these names that a field has
abbrev pub named_in : List (List ℕ) → List ℕ → Option (List ℕ)
named_in [] name = None
named_in (n ∷ ns) name = if str_eq_ignore_ascii_case name n then Some n else named_in ns name

-- the name of a field that may stand once, or that no load may have
unfoldable pub single_name : List ℕ → Option (List ℕ)
single_name name = named_in single_names name

unfoldable pub refused_name : List ℕ → Option (List ℕ)
refused_name name = named_in refused_names name

-- whether a value stands for a separator
unfoldable pub separates : List ℕ → Bool
separates value = is_some (separator_of value)

-- whether a value stands for a ratio
unfoldable pub is_ratio : List ℕ → Bool
is_ratio value = is_some (ratio_of value)

-- whether a value says yes or no
unfoldable pub is_flag : List ℕ → Bool
is_flag value = str_eq_ignore_ascii_case value (codes "true") || str_eq_ignore_ascii_case value (codes "false")

abbrev pub text_of : (List ℕ → List ℕ) → Option (List ℕ) → Option (List ℕ)
text_of text None = None
text_of text (Some name) = Some (text name)

-- why a value is not taken, by the field's name
unfoldable pub value_fault : List ℕ → List ℕ → Option (List ℕ)
value_fault name value =
    if str_eq_ignore_ascii_case name (codes "label") then unless (is_utf8 value) (bad_field (codes "label"))
    else if str_eq_ignore_ascii_case name (codes "column_separator") then unless (separates value) (codes "BadSeparator")
    else if str_eq_ignore_ascii_case name (codes "max_filter_ratio") then unless (is_ratio value) (codes "BadRatio")
    else if str_eq_ignore_ascii_case name (codes "strict_mode") then unless (is_flag value) (bad_field (codes "strict_mode"))
    else if str_eq_ignore_ascii_case name (codes "two_phase_commit") then unless (is_flag value) (bad_field (codes "two_phase_commit"))
    else if str_eq_ignore_ascii_case name (codes "format") then unless (str_eq_ignore_ascii_case value (codes "csv")) (unsupported (codes "format"))
    else if str_eq_ignore_ascii_case name (codes "line_delimiter") then unless (bytes_eq value (codes "\\n")) (unsupported (codes "line_delimiter"))
    else text_of unsupported (refused_name name)

-- why a field is at fault behind these others: it may stand once and stood before, or its value is not taken
abbrev pub or_else : Option (List ℕ) → Option (List ℕ) → Option (List ℕ)
or_else None other = other
or_else (Some text) other = Some text

abbrev pub repeated : Bool → Option (List ℕ) → Option (List ℕ)
repeated stood name = if stood then text_of bad_field name else None

unfoldable pub field_fault : List (List ℕ × List ℕ) → List ℕ × List ℕ → Option (List ℕ)
field_fault before field = or_else (repeated (list_any (is_named field.0) before) (single_name field.0)) (value_fault field.0 field.1)

-- the first field at fault among these, behind others that are not
unfoldable pub fault_behind : List (List ℕ × List ℕ) → List (List ℕ × List ℕ) → Option (List ℕ)
fault_behind before [] = None
fault_behind before (field ∷ fields) = or_else (field_fault before field) (fault_behind (before ++ field ∷ []) fields)

-- why the fields of a head make no load: the first that is at fault decides
abbrev pub fields_fault : List (List ℕ × List ℕ) → Option (List ℕ)
fields_fault fields = fault_behind [] fields
