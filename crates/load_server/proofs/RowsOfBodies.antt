-- The rows of a body are of the shape by which it is read, and inside what they have to lie in.
use Rattle.std.proofs.Common.{◌≡◌, ◌∙◌, ◌+◌, ◌*◌, ◌/◌, ◌%◌, ◌≤◌, ◌==◌, ℕ, ℤ, Bool, true, false, not, ◌&&◌, List, [], ◌∷◌, Option, Some, None, if◌then◌else◌, nat_le, length, refl, ap, arith}
use Rattle.std.proofs.lemmas.Bool.{false≢true}
use Rattle.std.proofs.lemmas.Bool.Decides.{nat_tests}
use Rattle.std.specs.List.{AllByRecursion, cons_option, filter_map, list_all}
use Rattle.std.specs.Option.{option_map}
use Rattle.std.specs.Str.{bytes_eq, is_utf8}
use Rattle.csv_load.specs.Body.{body as parsed_of, cell_of, cells_of, null_if, onto_row, only_inside, or_null, row_of, tally, records_by}
use Rattle.csv_load.specs.declared.options.Options.{Options}
use Rattle.dl_values.specs.Days.{day_of, is_day, is_digit, two}
use Rattle.dl_values.specs.Read.{int_below, is_within, number_of, read, text_cell, without_blanks}
use Rattle.dl_values.specs.Write.{null_text}
use Rattle.dl_values.specs.declared.cell.Cell.{Cell}
use Rattle.dl_values.specs.declared.cell.Cell.TheVariants as cell
use Rattle.dl_values.specs.declared.col_type.ColType.{ColType}
use Rattle.dl_values.specs.declared.col_type.ColType.TheVariants as kind
use Rattle.schema_models.specs.CellTypes.{fits_column, is_calendar_day, is_of_type}
use Rattle.schema_models.specs.RowRules.{IsOfShape, fits_columns}
use Rattle.schema_models.specs.ShapeView.{ShapeView}
use Rattle.schema_models.specs.declared.column_def.ColumnDef.{ColumnDef}
use Rattle.partitions.specs.Places.{is_inside}
use Rattle.shadow_writes.specs.declared.plan.Plan.{Plan}
use Rattle.front_defs.specs.Stored.{AreRowsOf}
use Rattle.load_server.specs.Scripts.{parsed_by}

-- what an optional value is, where it is there
abbrev Each : {X : Type 0} → (X → Type 0) → Option X → Type 0
Each P None = Unit {0}
Each P (Some x) = P x

-- ---- days

whole_day : (y m d : ℕ) → y ≤ 9999 → m ≤ 99 → d ≤ 99 → ((y * 10000 + m * 100 + d) / 10000 ≡ y) × ((y * 10000 + m * 100 + d) / 100 % 100 ≡ m) × ((y * 10000 + m * 100 + d) % 100 ≡ d)
whole_day y m d a b c = (omega arith, omega arith, omega arith)

digits_more : (b : ℕ) (bs : List ℕ) (rest : Bool) → (rest ≡ true → AllByRecursion (λ b. b ≤ 57) bs) → (t : Bool) → is_digit b ≡ t → (t && rest) ≡ true → AllByRecursion (λ b. b ≤ 57) (b ∷ bs)
digits_more b bs rest more true e k = (grind (arith, nat_tests), more k)
digits_more b bs rest more false e k = absurd (false≢true k)

digits_small : (bs : List ℕ) → list_all is_digit bs ≡ true → AllByRecursion (λ b. b ≤ 57) bs
digits_small [] h = tt
digits_small (b ∷ bs) h = digits_more b bs (list_all is_digit bs) (digits_small bs) (is_digit b) refl h

two_small : (a b : ℕ) → a ≤ 57 → b ≤ 57 → two a b ≤ 99
two_small a b x y = omega arith

calendar : (y m d : ℕ) → y ≤ 9999 → m ≤ 99 → d ≤ 99 → is_day y m d ≡ true → is_calendar_day (y * 10000 + m * 100 + d) ≡ true
calendar y m d a b c is =
    let w = whole_day y m d a b c in
    let le : nat_le y 9999 ≡ true = grind (arith, nat_tests) in
    rw (w.0, w.1, w.2, le) is

day_in : (y m d : ℕ) (digits : Bool) → (digits ≡ true → (y ≤ 9999) × (m ≤ 99) × (d ≤ 99)) → (p q is : Bool) → is_day y m d ≡ is → Each (λ n. is_calendar_day n ≡ true) (if digits && p && q && is then Some (y * 10000 + m * 100 + d) else None)
day_in y m d true small true true true e = let w = small refl in calendar y m d w.0 w.1 w.2 e
day_in y m d true small true true false e = tt
day_in y m d true small true false is e = tt
day_in y m d true small false q is e = tt
day_in y m d false small p q is e = tt

day_fits : (t : List ℕ) → Each (λ n. is_calendar_day n ≡ true) (day_of t)
day_fits (a ∷ b ∷ c ∷ d ∷ p ∷ e ∷ f ∷ q ∷ g ∷ h ∷ []) =
    day_in (two a b * 100 + two c d) (two e f) (two g h) (list_all is_digit (a ∷ b ∷ c ∷ d ∷ e ∷ f ∷ g ∷ h ∷ []))
    (λ all. let s = digits_small (a ∷ b ∷ c ∷ d ∷ e ∷ f ∷ g ∷ h ∷ []) all in
    let x = two_small a b s.0 s.1.0 in let y = two_small c d s.1.1.0 s.1.1.1.0 in
    (omega arith, two_small e f s.1.1.1.1.0 s.1.1.1.1.1.0, two_small g h s.1.1.1.1.1.1.0 s.1.1.1.1.1.1.1.0))
    (p == 45) (q == 45) (is_day (two a b * 100 + two c d) (two e f) (two g h)) refl
day_fits _ = tt

-- ---- cells

int_fits : (m : ℕ) (t : ColType) → ((n : ℤ) → is_of_type t (cell.Int n) ≡ is_within m n) → (z : Option ℤ) → Each (λ c. is_of_type t c ≡ true) (int_below m z)
int_fits m t same None = tt
int_fits m t same (Some n) = go (is_within m n) refl
  where
    go : (b : Bool) → is_within m n ≡ b → Each (λ c. is_of_type t c ≡ true) (if b then Some (cell.Int n) else None)
    go true e = same n ∙ e
    go false e = tt

text_fits : (m : ℕ) (t : List ℕ) → Each (λ c. is_of_type (kind.Varchar m) c ≡ true) (text_cell m t)
text_fits m t = go (is_utf8 t) (nat_le (length t) m) refl refl
  where
    go : (a b : Bool) → is_utf8 t ≡ a → nat_le (length t) m ≡ b → Each (λ c. is_of_type (kind.Varchar m) c ≡ true) (if a && b then Some (cell.Text t) else None)
    go true true e f = rw (e, f) refl
    go true false e f = tt
    go false b e f = tt

date_fits : (n : Option ℕ) → Each (λ d. is_calendar_day d ≡ true) n → Each (λ c. is_of_type kind.Date c ≡ true) (option_map cell.Day n)
date_fits None h = tt
date_fits (Some d) h = h

read_fits : (t : ColType) (field : List ℕ) → Each (λ c. is_of_type t c ≡ true) (read t field)
read_fits kind.TinyInt field = int_fits 128 kind.TinyInt (λ n. refl) (number_of (without_blanks field))
read_fits kind.SmallInt field = int_fits 32768 kind.SmallInt (λ n. refl) (number_of (without_blanks field))
read_fits kind.Int field = int_fits 2147483648 kind.Int (λ n. refl) (number_of (without_blanks field))
read_fits kind.BigInt field = int_fits 9223372036854775808 kind.BigInt (λ n. refl) (number_of (without_blanks field))
read_fits kind.Date field = date_fits (day_of (without_blanks field)) (day_fits (without_blanks field))
read_fits (kind.Varchar m) field = text_fits m field

no_null : (t : ColType) → is_of_type t cell.Null ≡ true → ⊥
no_null kind.TinyInt h = false≢true h
no_null kind.SmallInt h = false≢true h
no_null kind.Int h = false≢true h
no_null kind.BigInt h = false≢true h
no_null kind.Date h = false≢true h
no_null (kind.Varchar m) h = false≢true h

of_type_fits : (column : ColumnDef) (c : Cell) → is_of_type column.kind c ≡ true → fits_column column c ≡ true
of_type_fits column cell.Null h = absurd (no_null column.kind h)
of_type_fits column (cell.Int n) h = h
of_type_fits column (cell.Day d) h = h
of_type_fits column (cell.Text t) h = h

null_fits : (column : ColumnDef) (may : Bool) → (may ≡ true → column.nullable ≡ true) → Each (λ c. fits_column column c ≡ true) (null_if may)
null_fits column true h = h refl
null_fits column false h = tt

or_null_fits : (column : ColumnDef) (may : Bool) (c : Option Cell) → (may ≡ true → column.nullable ≡ true) → Each (λ c. is_of_type column.kind c ≡ true) c → Each (λ c. fits_column column c ≡ true) (or_null may c)
or_null_fits column may None h k = null_fits column may h
or_null_fits column may (Some c) h k = of_type_fits column c k

both_true : (a b : Bool) → (a && b) ≡ true → b ≡ true
both_true true b h = h
both_true false b h = absurd (false≢true h)

cell_fits : (strict : Bool) (column : ColumnDef) (field : List ℕ) → Each (λ c. fits_column column c ≡ true) (cell_of strict column field)
cell_fits strict column field = go (bytes_eq field null_text)
  where
    go : (b : Bool) → Each (λ c. fits_column column c ≡ true) (if b then null_if column.nullable else or_null (not strict && column.nullable) (read column.kind field))
    go true = null_fits column column.nullable (λ h. h)
    go false = or_null_fits column (not strict && column.nullable) (read column.kind field) (both_true (not strict) column.nullable) (read_fits column.kind field)

-- ---- rows

onto_fits : (column : ColumnDef) (columns : List ColumnDef) (c : Option Cell) (row : Option (List Cell)) → Each (λ c. fits_column column c ≡ true) c → Each (λ r. fits_columns columns r ≡ true) row → Each (λ r. fits_columns (column ∷ columns) r ≡ true) (onto_row c row)
onto_fits column columns None row h k = tt
onto_fits column columns (Some c) None h k = tt
onto_fits column columns (Some c) (Some cs) h k = ap (λ b. b && fits_columns columns cs) h ∙ k

cells_fit : (strict : Bool) (columns : List ColumnDef) (fields : List (List ℕ)) → Each (λ r. fits_columns columns r ≡ true) (cells_of strict columns fields)
unfolding cells_of
cells_fit strict [] [] = refl
cells_fit strict [] (f ∷ fs) = tt
cells_fit strict (c ∷ cs) [] = tt
cells_fit strict (c ∷ cs) (f ∷ fs) = onto_fits c cs (cell_of strict c f) (cells_of strict cs fs) (cell_fits strict c f) (cells_fit strict cs fs)

inside_fits : (P : List Cell → Type 0) (inside : List Cell → Bool) (row : Option (List Cell)) → Each P row → Each P (only_inside inside row)
inside_fits P inside None h = tt
inside_fits P inside (Some row) h = go (inside row)
  where
    go : (b : Bool) → Each P (if b then Some row else None)
    go true = h
    go false = tt

inside_holds : (inside : List Cell → Bool) (row : Option (List Cell)) → Each (λ r. inside r ≡ true) (only_inside inside row)
inside_holds inside None = tt
inside_holds inside (Some row) = go (inside row) refl
  where
    go : (b : Bool) → inside row ≡ b → Each (λ r. inside r ≡ true) (if b then Some row else None)
    go true e = e
    go false e = tt

one_filtered : (P : List Cell → Type 0) (o : Option (List Cell)) (rows : List (List Cell)) → Each P o → AllByRecursion P rows → AllByRecursion P (cons_option o rows)
one_filtered P None rows h k = k
one_filtered P (Some row) rows h k = (h, k)

all_filtered : {X : Type 0} (P : List Cell → Type 0) (f : X → Option (List Cell)) → ((x : X) → Each P (f x)) → (xs : List X) → AllByRecursion P (filter_map f xs)
all_filtered P f h [] = tt
all_filtered P f h (x ∷ xs) = one_filtered P (f x) (filter_map f xs) (h x) (all_filtered P f h xs)

rows_are_of_shape : (s : ShapeView) (inside : List Cell → Bool) (options : Options) (bytes : List ℕ) → AllByRecursion (IsOfShape s) (parsed_of s inside options bytes).rows
unfolding tally
rows_are_of_shape s inside options bytes =
    all_filtered (IsOfShape s) (row_of inside options.strict s.columns) (λ fields. inside_fits (IsOfShape s) inside (cells_of options.strict s.columns fields) (cells_fit options.strict s.columns fields)) (records_by options bytes)

rows_are_inside : (s : ShapeView) (inside : List Cell → Bool) (options : Options) (bytes : List ℕ) → AllByRecursion (λ r. inside r ≡ true) (parsed_of s inside options bytes).rows
unfolding tally
rows_are_inside s inside options bytes =
    all_filtered (λ r. inside r ≡ true) (row_of inside options.strict s.columns) (λ fields. inside_holds inside (cells_of options.strict s.columns fields)) (records_by options bytes)

pub rows_are_of_plan : (plan : Plan) (options : Options) (bytes : List ℕ) → AreRowsOf plan.base plan.layout (parsed_by plan options bytes).rows
rows_are_of_plan plan options bytes = record { shaped = rows_are_of_shape plan.base (is_inside plan.layout) options bytes; inside = rows_are_inside plan.base (is_inside plan.layout) options bytes }
