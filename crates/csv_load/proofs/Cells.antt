-- Reading a record cell by cell.
use Rattle.std.proofs.Common.{◌≡◌, ◌≢◌, ℕ, zero, suc, ◌+◌, ◌<◌, ◌≤◌, ◌∙◌, ℤ, cond, ◌&&◌, true, false, List, [], ◌∷◌, ◌++◌, Bool, Option, Some, None, refl, sym, ap, arith, drop, length, get_or, add-one, append_assoc}
use Rattle.std.proofs.lemmas.List.{append-nil}
use Rattle.std.proofs.Math.ListN.{drop_of_length-le}
use Rattle.std.proofs.Math.Seq.{drop-cons}
use Rattle.csv.specs.Records.{field_at}
use Rattle.csv.proofs.RecordFacts.{field-get}
use Rattle.std.specs.Prelude.{nat_le, not}
use Rattle.std.specs.Str.{bytes_eq, is_utf8}
use Rattle.std.proofs.lemmas.Slice.Eq.{bytes_eq-Decides}
use Rattle.std.specs.Option.{option_map}
use Rattle.dl_values.specs.Days.{day_of}
use Rattle.dl_values.specs.Read.{read, signed_number, strip_back, strip_front, without_blanks}
use Rattle.dl_values.specs.Write.{null_text}
use Rattle.dl_values.specs.declared.cell.Cell.{Cell}
use Rattle.dl_values.specs.declared.cell.Cell.TheVariants as cell
use Rattle.dl_values.specs.declared.col_type.ColType.{ColType}
use Rattle.dl_values.specs.declared.col_type.ColType.TheVariants as kind
use Rattle.schema_models.specs.declared.column_def.ColumnDef.{ColumnDef}
use Rattle.csv_load.specs.Body.{cell_of, cells_of, null_if, onto_row, or_null, with_cell}

-- cells that were read before the others of a row
abbrev pub onto_cells : List Cell → Option (List Cell) → Option (List Cell)
onto_cells cells None = None
onto_cells cells (Some rest) = Some (cells ++ rest)

pub onto_cells-none : (row : Option (List Cell)) → onto_cells [] row ≡ row
onto_cells-none None = refl
onto_cells-none (Some row) = refl

onto-none : (x : Option Cell) → None ≡ onto_row x None
onto-none None = refl
onto-none (Some c) = refl

pub wrong-length : (strict : Bool) (cs : List ColumnDef) (fs : List (List ℕ)) → length cs ≢ length fs → None ≡ cells_of strict cs fs
unfolding cells_of
wrong-length strict [] [] h = absurd (h refl)
wrong-length strict [] (f ∷ fs) h = refl
wrong-length strict (c ∷ cs) [] h = refl
wrong-length strict (c ∷ cs) (f ∷ fs) h = onto-none (cell_of strict c f) ∙ ap (onto_row (cell_of strict c f)) (wrong-length strict cs fs (λ e. h (ap suc e)))

pub no-field : (fs : List (List ℕ)) (i : ℕ) → None ≡ field_at fs i → i < length fs → ⊥
unfolding field_at
no-field [] i e h = omega arith
no-field (f ∷ fs) zero e h = cc
no-field (f ∷ fs) (suc i) e h = no-field fs i e (omega arith)

at : (fs : List (List ℕ)) (i : ℕ) (f : List ℕ) → Some f ≡ field_at fs i → i < length fs → drop i fs ≡ f ∷ drop (i + 1) fs
at fs i f e h = rw add-one (drop-cons fs i [] h ∙ ap (λ x. x ∷ drop (suc i) fs) (field-get fs i f (sym e)))

column : (cs : List ColumnDef) (i : ℕ) (d : ColumnDef) → i < length cs → drop i cs ≡ get_or cs i d ∷ drop (i + 1) cs
column cs i d h = rw add-one (drop-cons cs i d h)

both : (strict : Bool) (cs : List ColumnDef) (fs : List (List ℕ)) (i : ℕ) (d : ColumnDef) (f : List ℕ) → Some f ≡ field_at fs i → i < length cs → i < length fs
    → cells_of strict (drop i cs) (drop i fs) ≡ onto_row (cell_of strict (get_or cs i d) f) (cells_of strict (drop (i + 1) cs) (drop (i + 1) fs))
unfolding cells_of
both strict cs fs i d f ef h k = ap (λ x. cells_of strict x (drop i fs)) (column cs i d h) ∙ ap (cells_of strict (get_or cs i d ∷ drop (i + 1) cs)) (at fs i f ef k)

pub no-cell : (strict : Bool) (cs : List ColumnDef) (fs : List (List ℕ)) (i : ℕ) (d : ColumnDef) (f : List ℕ) (cells : List Cell) → Some f ≡ field_at fs i → i < length cs → i < length fs → d ≡ get_or cs i d
    → None ≡ cell_of strict d f → None ≡ onto_cells cells (cells_of strict (drop i cs) (drop i fs))
no-cell strict cs fs i d f cells ef h k ed e = sym (ap (onto_cells cells) (both strict cs fs i d f ef h k ∙ ap (λ x. onto_row x (cells_of strict (drop (i + 1) cs) (drop (i + 1) fs))) (sym (e ∙ ap (λ y. cell_of strict y f) ed))))

onto-more : (cells : List Cell) (x : Cell) (rest : Option (List Cell)) → onto_cells (cells ++ x ∷ []) rest ≡ onto_cells cells (onto_row (Some x) rest)
onto-more cells x None = refl
onto-more cells x (Some row) = ap Some (append_assoc cells (x ∷ []) row)

pub one-more : (strict : Bool) (cs : List ColumnDef) (fs : List (List ℕ)) (i : ℕ) (d : ColumnDef) (f : List ℕ) (cells : List Cell) (x : Cell) → Some f ≡ field_at fs i → i < length cs → i < length fs → d ≡ get_or cs i d
    → Some x ≡ cell_of strict d f → onto_cells (cells ++ x ∷ []) (cells_of strict (drop (i + 1) cs) (drop (i + 1) fs)) ≡ onto_cells cells (cells_of strict (drop i cs) (drop i fs))
one-more strict cs fs i d f cells x ef h k ed e =
    onto-more cells x (cells_of strict (drop (i + 1) cs) (drop (i + 1) fs))
    ∙ sym (ap (onto_cells cells) (both strict cs fs i d f ef h k ∙ ap (λ y. onto_row y (cells_of strict (drop (i + 1) cs) (drop (i + 1) fs))) (sym (e ∙ ap (λ y. cell_of strict y f) ed))))

not-pushed : (cells : List Cell) (x : Option Cell) → with_cell cells x ≡ None → None ≡ x
not-pushed cells None e = refl
not-pushed cells (Some c) e = cc

pub no-push : (strict : Bool) (cs : List ColumnDef) (fs : List (List ℕ)) (i : ℕ) (d : ColumnDef) (f : List ℕ) (cells : List Cell) → Some f ≡ field_at fs i → i < length cs → i < length fs → d ≡ get_or cs i d
    → with_cell cells (cell_of strict d f) ≡ None → None ≡ onto_cells cells (cells_of strict (drop i cs) (drop i fs))
no-push strict cs fs i d f cells ef h k ed e = no-cell strict cs fs i d f cells ef h k ed (not-pushed cells (cell_of strict d f) e)

onto-pushed : (cells new : List Cell) (x : Option Cell) (rest : Option (List Cell)) → with_cell cells x ≡ Some new → onto_cells new rest ≡ onto_cells cells (onto_row x rest)
onto-pushed cells new None rest e = cc
onto-pushed cells new (Some c) rest e = ap (λ l. onto_cells l rest) (only _ e) ∙ onto-more cells c rest
  where
    only : (l : List Cell) → Some l ≡ Some new → new ≡ l
    only l e = cc

pub one-pushed : (strict : Bool) (cs : List ColumnDef) (fs : List (List ℕ)) (i : ℕ) (d : ColumnDef) (f : List ℕ) (cells new : List Cell) → Some f ≡ field_at fs i → i < length cs → i < length fs → d ≡ get_or cs i d
    → with_cell cells (cell_of strict d f) ≡ Some new → onto_cells new (cells_of strict (drop (i + 1) cs) (drop (i + 1) fs)) ≡ onto_cells cells (cells_of strict (drop i cs) (drop i fs))
one-pushed strict cs fs i d f cells new ef h k ed e =
    onto-pushed cells new (cell_of strict d f) (cells_of strict (drop (i + 1) cs) (drop (i + 1) fs)) e
    ∙ sym (ap (onto_cells cells) (both strict cs fs i d f ef h k ∙ ap (λ y. onto_row (cell_of strict y f) (cells_of strict (drop (i + 1) cs) (drop (i + 1) fs))) (sym ed)))

none_some : {c : Cell} → None ≡ Some c → ⊥
none_some e = cc

-- an integer is read from no null
null_is_no_int : (k : ColType) (z : ℤ) → read k null_text ≡ Some (cell.Int z) → ⊥
unfolding signed_number strip_back strip_front
null_is_no_int kind.TinyInt z e = none_some e
null_is_no_int kind.SmallInt z e = none_some e
null_is_no_int kind.Int z e = none_some e
null_is_no_int kind.BigInt z e = none_some e
null_is_no_int kind.Date z e = day_int (day_of (without_blanks null_text)) e
  where
    day_int : (o : Option ℕ) → option_map cell.Day o ≡ Some (cell.Int z) → ⊥
    day_int None e = none_some e
    day_int (Some d) e = cc
null_is_no_int (kind.Varchar m) z e = text_int (is_utf8 null_text && nat_le 2 m) e
  where
    text_int : (b : Bool) → cond b (Some (cell.Text null_text)) None ≡ Some (cell.Int z) → ⊥
    text_int true e = cc
    text_int false e = none_some e

pub int_pushed : (strict : Bool) (d : ColumnDef) (f : List ℕ) (cells : List Cell) (z : ℤ) → read d.kind f ≡ Some (cell.Int z) → with_cell cells (cell_of strict d f) ≡ Some (cells ++ cell.Int z ∷ [])
int_pushed strict d f cells z e = go (bytes_eq f null_text) refl
  where
    go : (b : Bool) → bytes_eq f null_text ≡ b → with_cell cells (cond b (null_if d.nullable) (or_null (not strict && d.nullable) (read d.kind f))) ≡ Some (cells ++ cell.Int z ∷ [])
    go true p = absurd (null_is_no_int d.kind z (sym (ap (read d.kind) ((bytes_eq-Decides f null_text).0 p)) ∙ e))
    go false p = ap (λ r. with_cell cells (or_null (not strict && d.nullable) r)) e

pub whole-row : (strict : Bool) (cs : List ColumnDef) (fs : List (List ℕ)) (i : ℕ) (cells : List Cell) → length cs ≤ i → length fs ≤ i → Some cells ≡ onto_cells cells (cells_of strict (drop i cs) (drop i fs))
unfolding cells_of
whole-row strict cs fs i cells h k = ap Some (sym (append-nil cells)) ∙ sym (ap (onto_cells cells) (ap (λ x. cells_of strict x (drop i fs)) (drop_of_length-le cs h) ∙ ap (cells_of strict []) (drop_of_length-le fs k)))
