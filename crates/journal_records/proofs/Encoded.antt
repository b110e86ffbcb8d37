-- Bytes of rows are the spelling of the rows that are read of them.
use Rattle.std.proofs.Common.{◌≡◌, ℕ, ◌-◌, ◌≤◌, ◌&&◌, Bool, true, false, List, [], ◌∷◌, ◌++◌, length, take, drop, Result, Ok, Err, refl, sym, ap, subst, ◌∙◌, arith}
use Rattle.std.specs.List.{AllByRecursion, list_all}
use Rattle.std.proofs.lemmas.Bool.{ltb-true, lt-ltb}
use Rattle.std.proofs.lemmas.List.{append-nil, take_at, drop_at, length-append}
use Rattle.dl_values.specs.declared.cell.Cell.{Cell}
use Rattle.dl_values.specs.declared.cell.Cell.TheVariants as cells
use Rattle.journal_records.specs.Spelling.{rows}
use Rattle.journal_records.specs.Fitting.{FitsList, FitsCell, FitsRow, InWidth, short_list, short_cell, short_row, short_rows, readable_cell, readable_row, readable_rows}
use Rattle.journal_records.specs.Reading.{rows_at}
use Rattle.journal_records.specs.Encoded.{value_of, rows_of, AreRows, behind}
use Rattle.journal_records.proofs.Fields.{IsBytes}
use Rattle.journal_records.proofs.Cells.{rows_read}

-- ---- lists, member by member

both : (a b : Bool) → (a && b) ≡ true → (a ≡ true) × (b ≡ true)
both true b e = (refl, e)
both false b e = absurd cc

each : {A : Type 0} (short readable : A → Bool) (W F : A → Type 0) → ((x : A) → short x ≡ true → readable x ≡ true → W x → F x)
    → (xs : List A) → list_all short xs ≡ true → list_all readable xs ≡ true → AllByRecursion W xs → AllByRecursion F xs
each short readable W F one [] s r w = tt
each short readable W F one (x ∷ xs) s r w =
    let a = both (short x) (list_all short xs) s in
    let b = both (readable x) (list_all readable xs) r in
    (one x a.0 b.0 w.0, each short readable W F one xs a.1 b.1 w.1)

fits_list : {A : Type 0} (short readable : A → Bool) (W F : A → Type 0) → ((x : A) → short x ≡ true → readable x ≡ true → W x → F x)
    → (xs : List A) → short_list short xs ≡ true → list_all readable xs ≡ true → AllByRecursion W xs → FitsList F xs
fits_list short readable W F one xs s r w =
    let a = both _ (list_all short xs) s in
    (ltb-true _ _ a.0, each short readable W F one xs a.1 r w)

each_short : {A : Type 0} (short : A → Bool) (F : A → Type 0) → ((x : A) → F x → short x ≡ true) → (xs : List A) → AllByRecursion F xs → list_all short xs ≡ true
each_short short F one [] f = refl
each_short short F one (x ∷ xs) f = rw (one x f.0, each_short short F one xs f.1) refl

short_list_fits : {A : Type 0} (short : A → Bool) (F : A → Type 0) → ((x : A) → F x → short x ≡ true) → (xs : List A) → FitsList F xs → short_list short xs ≡ true
short_list_fits short F one xs f = rw (lt-ltb _ _ f.0, each_short short F one xs f.1) refl

-- ---- rows

fits_cell : (c : Cell) → short_cell c ≡ true → readable_cell c ≡ true → InWidth c → FitsCell c
fits_cell cells.Null s r w = tt
fits_cell (cells.Int z) s r w = w
fits_cell (cells.Day d) s r w = (w, r)
fits_cell (cells.Text t) s r w = (ltb-true _ _ s, r)

fits_row : (cs : List Cell) → short_row cs ≡ true → readable_row cs ≡ true → AllByRecursion InWidth cs → FitsRow cs
fits_row cs s r w = fits_list short_cell readable_cell InWidth FitsCell fits_cell cs s r w

pub fits_rows : (rs : List (List Cell)) → short_rows rs ≡ true → readable_rows rs ≡ true → AllByRecursion (AllByRecursion InWidth) rs → FitsList FitsRow rs
fits_rows rs s r w = fits_list short_row readable_row (AllByRecursion InWidth) FitsRow fits_row rs s r w

cell_short : (c : Cell) → FitsCell c → short_cell c ≡ true
cell_short cells.Null f = refl
cell_short (cells.Int z) f = refl
cell_short (cells.Day d) f = refl
cell_short (cells.Text t) f = lt-ltb _ _ f.0

pub rows_short : (rs : List (List Cell)) → FitsList FitsRow rs → short_rows rs ≡ true
rows_short rs f = short_list_fits short_row FitsRow (λ cs g. short_list_fits short_cell FitsCell cell_short cs g) rs f

-- ---- their bytes

rows_again : (rs : List (List Cell)) → FitsList FitsRow rs → rows_at (rows rs) ≡ Ok (rs, [])
rows_again rs fit = ap rows_at (sym (append-nil (rows rs))) ∙ rows_read.again rs [] fit

pub seen : (bytes : List ℕ) (rs : List (List Cell)) → bytes ≡ rows rs → FitsList FitsRow rs → rows_of bytes ≡ rs
seen bytes rs e fit = ap rows_of e ∙ ap value_of (rows_again rs fit)

pub are_rows : (bytes : List ℕ) (rs : List (List Cell)) → bytes ≡ rows rs → FitsList FitsRow rs → AreRows bytes
are_rows bytes rs e fit =
    let s = seen bytes rs e fit in
    record { spelled = e ∙ ap rows (sym s); fit = subst (λ x. FitsList FitsRow x) (sym s) fit }

-- they are written behind nothing
pub alone : (before bytes : List ℕ) (rs : List (List Cell)) → before ≡ [] → bytes ≡ before ++ rows rs → bytes ≡ rows rs
alone before bytes rs none written = written ∙ ap (λ (l : List ℕ). l ++ rows rs) none

-- what reading the rows takes from the front
pub record Front (bytes rest : List ℕ) : Type 0 where
  pub found : List (List Cell)
  pub read : rows_at bytes ≡ Ok (found, rest)
  pub parts : bytes ≡ rows found ++ rest
  pub fit : FitsList FitsRow found

pub front_of : (bytes rest : List ℕ) → IsBytes bytes → behind (rows_at bytes) ≡ Ok rest → Front bytes rest
front_of bytes rest fits e = go (rows_at bytes) refl e
  where
    go : (r : Result (List (List Cell) × List ℕ) ℕ) → rows_at bytes ≡ r → behind r ≡ Ok rest → Front bytes rest
    go (Ok x) k h =
        let same : x.1 ≡ rest = cc in
        let t = rows_read.takes bytes x.0 x.1 fits k in
        subst (λ (l : List ℕ). Front bytes l) same (record { found = x.0; read = k; parts = t.0.parts; fit = t.1 })
    go (Err n) k h = absurd cc

pub rest_within : (bytes rest : List ℕ) → Front bytes rest → length rest ≤ length bytes
rest_within bytes rest f = omega (arith, ap length f.parts, length-append (rows f.found) rest)

front_len : (bytes rest : List ℕ) → (f : Front bytes rest) → length (rows f.found) ≡ length bytes - length rest
front_len bytes rest f = omega (arith, ap length f.parts, length-append (rows f.found) rest)

pub front_is : (bytes rest : List ℕ) → (f : Front bytes rest) → take (length bytes - length rest) bytes ≡ rows f.found
front_is bytes rest f = ap (take (length bytes - length rest)) f.parts ∙ take_at (rows f.found) rest (length bytes - length rest) (front_len bytes rest f)

pub behind_is : (bytes rest : List ℕ) → (f : Front bytes rest) → drop (length bytes - length rest) bytes ≡ rest
behind_is bytes rest f = ap (drop (length bytes - length rest)) f.parts ∙ drop_at (rows f.found) rest (length bytes - length rest) (front_len bytes rest f)
