-- Which cells a column has (Apache Doris documentation, "Data Types"; days are those of the calendar).
use Rattle.std.specs.Prelude.{ℕ, ◌/◌, ◌%◌, Bool, true, false, ◌&&◌, nat_le, List, length}
use Rattle.std.specs.Str.{is_utf8}
use Rattle.dl_values.specs.Days.{is_day}
use Rattle.dl_values.specs.Read.{is_within}
use Rattle.dl_values.specs.declared.cell.Cell.{Cell}
use Rattle.dl_values.specs.declared.cell.Cell.TheVariants as cell
use Rattle.dl_values.specs.declared.col_type.ColType.{ColType}
use Rattle.dl_values.specs.declared.col_type.ColType.TheVariants as kind
use Rattle.schema_models.specs.declared.column_def.ColumnDef.{ColumnDef}

-- a VARCHAR is of 1 to 65533 bytes
abbrev pub is_type : ColType → Bool
is_type (kind.Varchar m) = nat_le 1 m && nat_le m 65533
is_type _ = true

-- `year * 10000 + month * 100 + day` of a day of the years 0 to 9999
abbrev pub is_calendar_day : ℕ → Bool
is_calendar_day d = nat_le (d / 10000) 9999 && is_day (d / 10000) (d / 100 % 100) (d % 100)

-- at most m bytes of UTF-8
abbrev pub is_text : ℕ → List ℕ → Bool
is_text m t = nat_le (length t) m && is_utf8 t

-- a cell that is not null, and has this type
abbrev pub is_of_type : ColType → Cell → Bool
is_of_type kind.TinyInt (cell.Int x) = is_within 128 x
is_of_type kind.SmallInt (cell.Int x) = is_within 32768 x
is_of_type kind.Int (cell.Int x) = is_within 2147483648 x
is_of_type kind.BigInt (cell.Int x) = is_within 9223372036854775808 x
is_of_type kind.Date (cell.Day d) = is_calendar_day d
is_of_type (kind.Varchar m) (cell.Text t) = is_text m t
is_of_type _ _ = false

-- a cell that a column may have: of its type, or null where it is nullable
abbrev pub fits_column : ColumnDef → Cell → Bool
fits_column c cell.Null = c.nullable
fits_column c x = is_of_type c.kind x
