-- The table of a journal, and the rows that stand for its records (this project's own). Row n of the table has `seq` n, the rowid.
use Rattle.sqlite.specs.Collation.TheVariants.{Binary}
use Rattle.std.specs.Prelude.{◌≡◌, true, false, [], ◌∷◌, Some, codes, List, ℕ, suc, pos}
use Rattle.sqlite.specs.declared.types.Value.TheVariants.{Null, Int, Blob as Bytes}
use Rattle.sqlite.specs.Order.{Row}
use Rattle.sqlite.specs.Table.{Table}
use Rattle.sqlite.specs.Schema.{Schema}
use Rattle.sqlite.specs.State.{State}
use Rattle.sqlite.specs.Kind.TheVariants.{Integer, Any}

abbrev pub journal : Table
journal = record {
  name = codes "journal";
  tree = 0;
  columns = (record { name = codes "seq"; kind = Integer; is_strict = false; not_null = false; default = Null; collation = Binary })
      ∷ (record { name = codes "rec"; kind = Any; is_strict = false; not_null = true; default = Null; collation = Binary }) ∷ [];
  key = Some 0;
  primary = 0 ∷ [];
  uniques = [];
  orders = [];
  checks = [];
  references = [];
  computed = [];
  stamps = record { places = []; terms = []; formats = [] };
  is_counted = false;
}

-- the journal alone, and nothing
abbrev pub journal_schema : Schema
journal_schema = record { tables = journal ∷ []; indexes = []; views = [] }

abbrev pub no_schema : Schema
no_schema = record { tables = []; indexes = []; views = [] }

abbrev pub row_of : ℕ → List ℕ → Row
row_of n bytes = Int (pos n) ∷ Null ∷ Bytes bytes ∷ []

-- the records as rows, numbered from n
abbrev pub rows_from : ℕ → List (List ℕ) → List Row
rows_from n [] = []
rows_from n (bytes ∷ others) = row_of n bytes ∷ rows_from (suc n) others

-- the database has the table alone, with these records
abbrev pub Holds : State → List (List ℕ) → Type 0
Holds s records = (s.now.schema ≡ journal_schema) × (s.now.trees 0 ≡ rows_from 1 records)
