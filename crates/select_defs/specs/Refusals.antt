-- The first refusal of a query: columns that are not there, in the order of the text; then literals and sums that do not
-- fit their columns; then columns that stand beside groups without being grouped by (this project's own).
use Rattle.std.specs.Prelude.{ℕ, ℤ, pos, Bool, true, false, cond, not, ◌||◌, List, [], ◌∷◌, Option, Some, None, map, length, is_none, int_le}
use Rattle.std.specs.Fmt.{signed_decimal}
use Rattle.std.specs.List.{list_any}
use Rattle.std.specs.Option.{option_map}
use Rattle.std.specs.Str.{bytes_eq}
use Rattle.dl_values.specs.declared.col_type.ColType.{ColType}
use Rattle.dl_values.specs.declared.col_type.ColType.TheVariants as kind
use Rattle.schema_models.specs.Faults.{first_of}
use Rattle.schema_models.specs.ShapeView.{ShapeView}
use Rattle.sql_text.specs.declared.query.AggFn.TheVariants as fn
use Rattle.sql_text.specs.declared.query.Check.{Check}
use Rattle.sql_text.specs.declared.query.Check.TheVariants as check
use Rattle.sql_text.specs.declared.query.Filter.{Filter}
use Rattle.sql_text.specs.declared.query.Item.{Item}
use Rattle.sql_text.specs.declared.query.Item.TheVariants as item
use Rattle.sql_text.specs.declared.query.OrderBy.{OrderBy}
use Rattle.sql_text.specs.declared.query.OrderBy.TheVariants as by
use Rattle.sql_text.specs.declared.query.OrderKey.{OrderKey}
use Rattle.sql_text.specs.declared.query.Query.{Query}
use Rattle.select_defs.specs.Columns.{kind_named, has_column}
use Rattle.select_defs.specs.Filters.{literal_cell}
use Rattle.select_defs.specs.Items.{is_aggregate, items_of, output_name, same_item}
use Rattle.select_defs.specs.declared.select_error.SelectError.{SelectError}
use Rattle.select_defs.specs.declared.select_error.SelectError.TheVariants as error

-- ---- columns that are not there

abbrev pub unknown : ShapeView → List ℕ → Option (List ℕ)
unknown base name = cond (has_column base name) None (Some name)

abbrev pub unknown_item : ShapeView → Item → Option (List ℕ)
unknown_item base (item.Column a) = unknown base a
unknown_item base (item.Agg f a) = unknown base a
unknown_item base item.CountAll = None

-- a position counts from 1
abbrev pub is_position : List Item → ℤ → Bool
is_position items p = cond (int_le (pos 1) p) (int_le p (pos (length items))) false

-- a key of an order is an item of the select list, or a position in it
abbrev pub not_selected : List Item → OrderBy → Option (List ℕ)
not_selected items (by.Item i) = cond (list_any (same_item i) items) None (Some (output_name i))
not_selected items (by.Position p) = cond (is_position items p) None (Some (signed_decimal p))

abbrev pub no_column : ShapeView → Query → Option (List ℕ)
no_column base q = first_of (
    first_of (map (unknown_item base) (items_of base q))
    ∷ first_of (map (λ (f : Filter). unknown base f.column) q.filters)
    ∷ first_of (map (unknown base) q.group)
    ∷ first_of (map (λ (k : OrderKey). not_selected (items_of base q) k.by) q.order)
    ∷ [])

-- ---- literals and sums that do not fit

abbrev pub is_integer : ColType → Bool
is_integer kind.Date = false
is_integer (kind.Varchar m) = false
is_integer _ = true

abbrev pub sums_in : Option ColType → Bool
sums_in None = true
sums_in (Some t) = is_integer t

-- a sum is one of integers
abbrev pub bad_sum : ShapeView → Item → Option (List ℕ)
bad_sum base (item.Agg fn.Sum a) = cond (sums_in (kind_named base a)) None (Some a)
bad_sum base _ = None

abbrev pub fits_check : ColType → Check → Bool
fits_check t (check.Compare o l) = not (is_none (literal_cell t l))
fits_check t _ = true

abbrev pub fits_in : Option ColType → Check → Bool
fits_in None c = true
fits_in (Some t) c = fits_check t c

abbrev pub bad_filter : ShapeView → Filter → Option (List ℕ)
bad_filter base f = cond (fits_in (kind_named base f.column) f.check) None (Some f.column)

abbrev pub bad_compare : ShapeView → Query → Option (List ℕ)
bad_compare base q = first_of (first_of (map (bad_sum base) (items_of base q)) ∷ first_of (map (bad_filter base) q.filters) ∷ [])

-- ---- columns beside groups

abbrev pub is_empty : {A : Type 0} → List A → Bool
is_empty [] = true
is_empty (x ∷ xs) = false

-- the rows of the answer are groups: there is an aggregate, or GROUP BY
abbrev pub is_grouped : ShapeView → Query → Bool
is_grouped base q = list_any is_aggregate (items_of base q) || not (is_empty q.group)

abbrev pub ungrouped : List (List ℕ) → Item → Option (List ℕ)
ungrouped group (item.Column a) = cond (list_any (bytes_eq a) group) None (Some a)
ungrouped group _ = None

abbrev pub not_grouped : ShapeView → Query → Option (List ℕ)
not_grouped base q = cond (is_grouped base q) (first_of (map (ungrouped q.group) (items_of base q))) None

-- ---- the first of them

abbrev pub refusals : ShapeView → Query → List (Option SelectError)
refusals base q =
    option_map error.NoColumn (no_column base q)
    ∷ option_map error.BadCompare (bad_compare base q)
    ∷ option_map error.NotGrouped (not_grouped base q)
    ∷ []

abbrev pub refusal : ShapeView → Query → Option SelectError
refusal base q = first_of (refusals base q)
