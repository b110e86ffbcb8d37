-- Steps of reading: of a string, and of an integer.
use Rattle.std.specs.Prelude.{ℕ, ◌<◌, List, [], length, Option, Some, None, option_map}
use Rattle.dl_values.specs.declared.cell.Cell.{Cell}
use Rattle.dl_values.specs.declared.cell.Cell.TheVariants as cell
use Rattle.dl_values.specs.declared.col_type.ColType.TheVariants as type
use Rattle.dl_values.specs.Read.{read}
use Rattle.sql_tokens.specs.declared.token.TokenKind.{TokenKind}
use Rattle.sql_tokens.specs.declared.token.TokenKind.TheVariants as kind
use Rattle.sql_tokens.specs.declared.strings.Step.{Step}
use Rattle.sql_tokens.specs.declared.strings.Step.TheVariants as step
use Rattle.sql_tokens.specs.Strings.{with_first, or_closed, string_at}

-- the string, by the step and what it leaves
abbrev pub step_gives : ℕ → Step → Option (List ℕ × List ℕ)
step_gives q (step.End after) = Some ([], after.now)
step_gives q (step.Doubled after rest) = or_closed q after.now (string_at q rest.now)
step_gives q (step.Byte b rest) = option_map (with_first b) (string_at q rest.now)
step_gives q step.Stuck = None

-- what a step leaves is shorter
abbrev pub IsShorter : ℕ → Step → Type 0
IsShorter n (step.End after) = Unit {0}
IsShorter n (step.Doubled after rest) = length rest.now < n
IsShorter n (step.Byte b rest) = length rest.now < n
IsShorter n step.Stuck = Unit {0}

-- an integer by the cell that its text has in a BIGINT column
abbrev pub by_cell : Option Cell → TokenKind
by_cell (Some (cell.Int z)) = kind.Int z
by_cell _ = kind.Beyond

abbrev pub integer_of : List ℕ → TokenKind
integer_of text = by_cell (read type.BigInt text)
