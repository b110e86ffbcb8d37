-- The text of a cell (this project's own; `\N` for null as in Apache Doris's stream load).
use Rattle.std.specs.Prelude.{ℕ, List, [], ◌∷◌}
use Rattle.std.specs.Fmt.{signed_decimal}
use Rattle.dl_values.specs.Days.{day_text}
use Rattle.dl_values.specs.declared.cell.Cell.{Cell}
use Rattle.dl_values.specs.declared.cell.Cell.TheVariants as cell

-- `\N`
abbrev pub null_text : List ℕ
null_text = 92 ∷ 78 ∷ []

abbrev pub cell_text : Cell → List ℕ
cell_text cell.Null = null_text
cell_text (cell.Int z) = signed_decimal z
cell_text (cell.Day d) = day_text d
cell_text (cell.Text t) = t
