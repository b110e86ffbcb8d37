-- What a query answers over a list of rows (Apache Doris documentation, "SELECT"): the rows that pass its tests are grouped,
-- aggregated, ordered and limited; or the first refusal.
use Rattle.std.specs.Prelude.{◌≡◌, ℕ, List, Option, Some, None, Ok, Err, map}
use Rattle.std.specs.declared.result.Result.{Result}
use Rattle.dl_values.specs.declared.cell.Cell.{Cell}
use Rattle.dl_values.specs.declared.result_set.ResultSet.{ResultSet}
use Rattle.schema_models.specs.ShapeView.{ShapeView}
use Rattle.sql_text.specs.declared.query.Query.{Query}
use Rattle.select_defs.specs.Groups.{output_rows}
use Rattle.select_defs.specs.Items.{items_of, output_name, output_type}
use Rattle.select_defs.specs.Orders.{limited, ordered}
use Rattle.select_defs.specs.Refusals.{refusal}
use Rattle.select_defs.specs.declared.select_error.SelectError.{SelectError}

-- the columns of an answer by name and type, and its rows
pub record Answer : Type 0 where
  pub names : List (List ℕ)
  pub types : List (List ℕ)
  pub rows : List (List Cell)

-- What a query answers that is not refused. The base is the shape that the query is written for: it says what `*` names, and
-- the types. The other shape is the one of the rows.
abbrev pub answer : ShapeView → ShapeView → Query → List (List Cell) → Answer
answer base s q rows = record {
  names = map output_name (items_of base q);
  types = map (output_type base) (items_of base q);
  rows = limited q.limit (ordered (items_of base q) q.order (output_rows base s q rows));
}

abbrev pub unless : Option SelectError → Answer → Result Answer SelectError
unless None a = Ok a
unless (Some e) a = Err e

unfoldable pub Eval : ShapeView → ShapeView → Query → List (List Cell) → Result Answer SelectError
Eval base s q rows = unless (refusal base q) (answer base s q rows)

-- a result is the answer
abbrev pub IsAnswer : Answer → ResultSet → Type 0
IsAnswer a set = (set.names.items ≡ a.names) × (set.types.items ≡ a.types) × (set.rows ≡ a.rows)
