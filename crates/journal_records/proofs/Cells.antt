-- A reader of cells, rows and ends of ranges reads what is spelled, and what is spelled is read again.
use Rattle.std.proofs.Common.{◌≡◌, ℕ, List, ◌++◌, Ok, refl}
use Rattle.dl_values.specs.declared.cell.Cell.{Cell}
use Rattle.dl_values.specs.declared.cell.Cell.TheVariants as cells
use Rattle.journal_records.specs.Spelling.{cell, row, rows, bound}
use Rattle.journal_records.specs.Fitting.{FitsList, FitsCell, FitsRow, FitsOption}
use Rattle.journal_records.specs.Reading.{cell_at, row_at, rows_at, bound_at}
use Rattle.journal_records.proofs.Fields.{Reads, Sound, none_sound, tag_sound, behind, alone, made_again, integer_reads, text_reads, day_reads, option_reads, list_reads}

cell_sound : Sound cell FitsCell cell_at
unfolding cell_at
cell_sound =
    tag_sound 0 cell FitsCell _ _ (alone 0 cell FitsCell cells.Null refl tt)
    (tag_sound 1 cell FitsCell _ _ (behind 1 cell FitsCell cells.Int integer_reads (λ z. refl) (λ z h. h))
    (tag_sound 2 cell FitsCell _ _ (behind 2 cell FitsCell cells.Day day_reads (λ d. refl) (λ d h. h))
    (tag_sound 3 cell FitsCell _ _ (behind 3 cell FitsCell cells.Text text_reads (λ t. refl) (λ t h. h)) (none_sound cell FitsCell))))

cell_again : (c : Cell) (rest : List ℕ) → FitsCell c → cell_at (cell c ++ rest) ≡ Ok (c, rest)
unfolding cell_at
cell_again cells.Null rest fits = refl
cell_again (cells.Int z) rest fits = made_again cells.Int integer_reads z rest fits
cell_again (cells.Day d) rest fits = made_again cells.Day day_reads d rest fits
cell_again (cells.Text t) rest fits = made_again cells.Text text_reads t rest fits

pub cell_reads : Reads cell FitsCell cell_at
cell_reads = record { takes = cell_sound; again = cell_again }

pub row_reads : Reads row FitsRow row_at
unfolding row_at
row_reads = list_reads cell_reads

pub rows_read : Reads rows (FitsList FitsRow) rows_at
unfolding rows_at rows
rows_read = list_reads row_reads

-- ---- ends of ranges

pub bound_reads : Reads bound (FitsOption FitsCell) bound_at
unfolding bound_at bound
bound_reads = option_reads cell_reads
