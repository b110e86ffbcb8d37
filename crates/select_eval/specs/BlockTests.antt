-- The tests of blocks that a query gives: those of its tests that see of a row its key alone (this project's own).
use Rattle.std.specs.Prelude.{ℕ, cond, nat_lt, List, [], ◌∷◌, Option, Some, None, length, map}
use Rattle.std.specs.List.{flat_map}
use Rattle.dl_values.specs.declared.cell.Cell.{Cell}
use Rattle.dl_values.specs.declared.cell.Cell.TheVariants as cell
use Rattle.schema_models.specs.ShapeView.{ShapeView, key_count}
use Rattle.schema_models.specs.declared.model.Model.{Model}
use Rattle.schema_models.specs.declared.model.Model.TheVariants as model
use Rattle.sql_text.specs.declared.query.CompareOp.{CompareOp}
use Rattle.sql_text.specs.declared.query.CompareOp.TheVariants as compare
use Rattle.sql_text.specs.declared.query.Query.{Query}
use Rattle.zones.specs.declared.test.Op.{Op}
use Rattle.zones.specs.declared.test.Op.TheVariants as op
use Rattle.zones.specs.declared.test.Test.{Test}
use Rattle.select_eval.specs.Conditions.{condition_of}
use Rattle.select_eval.specs.declared.asked.Asked.{Asked}
use Rattle.select_eval.specs.declared.asked.Asked.TheVariants as asked
use Rattle.select_eval.specs.declared.condition.Condition.{Condition}

-- how many of the first columns are the key: all of them in the Duplicate model
abbrev pub width_in : Model → ℕ → ℕ → ℕ
width_in model.Duplicate keys columns = columns
width_in model.Unique keys columns = keys
width_in model.Aggregate keys columns = keys

abbrev pub key_width : ShapeView → ℕ
key_width s = width_in s.model (key_count s.columns) (length s.columns)

abbrev pub op_of : CompareOp → Op
op_of compare.Eq = op.Eq
op_of compare.Ne = op.Ne
op_of compare.Lt = op.Lt
op_of compare.Le = op.Le
op_of compare.Gt = op.Gt
op_of compare.Ge = op.Ge

abbrev pub test_at : ℕ → Op → Cell → Test
test_at n o y = record { column = n; op = o; literal = y }

-- a comparison with a literal that is null gives no test
abbrev pub compared_at : ℕ → Op → Cell → List Test
compared_at n o cell.Null = []
compared_at n o y = test_at n o y ∷ []

-- the test of what is asked of the column at a place; nothing is equal to null
abbrev pub asked_at : ℕ → Asked → List Test
asked_at n (asked.Compare o y) = compared_at n (op_of o) y
asked_at n asked.IsNull = test_at n op.IsNull cell.Null ∷ []
asked_at n asked.IsNotNull = test_at n op.IsNotNull cell.Null ∷ []
asked_at n asked.Never = test_at n op.Eq cell.Null ∷ []

-- only of a column of the key
abbrev pub tests_at : ℕ → Option ℕ → Asked → List Test
tests_at width None a = []
tests_at width (Some n) a = cond (nat_lt n width) (asked_at n a) []

abbrev pub tests_in : ℕ → List Condition → List Test
tests_in width conditions = flat_map (λ (c : Condition). tests_at width c.place c.asked) conditions

-- the tests of blocks of a query over lists of a shape
abbrev pub block_tests : ShapeView → ShapeView → Query → List Test
block_tests base s q = tests_in (key_width s) (map (condition_of base s) q.filters)
