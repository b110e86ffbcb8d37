-- A number for each row that is smaller only where the row is: the kind of its first cell in the top two bits, and then
-- the number, the day or the first bytes (this project's own).
use Rattle.std.specs.Prelude.{ℕ, ◌+◌, ◌-◌, ◌*◌, ◌==◌, ◌&&◌, Bool, not, nat_lt, if◌then◌else◌, min, ℤ, pos, negsuc, List, [], ◌∷◌, drop}
use Rattle.dl_values.specs.declared.cell.Cell.{Cell}
use Rattle.dl_values.specs.declared.cell.Cell.TheVariants as cell

-- rises with the integer between -2^61 and 2^61, and stays beyond
abbrev pub int_prefix : ℤ → ℕ
int_prefix (pos n) = 6917529027641081856 + min n 2305843009213693951
int_prefix (negsuc n) = 6917529027641081855 - min n 2305843009213693951

-- the first byte of a text, by its weight, before a number of the others; a byte of 255, which no UTF-8 has, is the last
-- that counts
abbrev pub front_of : List ℕ → ℕ → ℕ → ℕ
front_of [] weight others = 0
front_of (b ∷ bs) weight others = if nat_lt b 255 then b * weight + others else 255 * weight

-- the first bytes of a text, by their weights
abbrev pub text_number : List ℕ → List ℕ → ℕ
text_number [] text = 0
text_number (w ∷ ws) text = front_of text w (text_number ws (drop 1 text))

-- the first seven bytes as digits of base 256
unfoldable pub text_prefix : List ℕ → ℕ
text_prefix text = text_number (281474976710656 ∷ 1099511627776 ∷ 4294967296 ∷ 16777216 ∷ 65536 ∷ 256 ∷ 1 ∷ []) text

abbrev pub cell_prefix : Cell → ℕ
cell_prefix cell.Null = 0
cell_prefix (cell.Int x) = int_prefix x
cell_prefix (cell.Day d) = 9223372036854775808 + min d 4611686018427387903
cell_prefix (cell.Text t) = 13835058055282163712 + text_prefix t

abbrev pub row_prefix : List Cell → ℕ
row_prefix [] = 0
row_prefix (c ∷ cs) = cell_prefix c

-- whether no other cell has this number: it is that of an integer or a day, short of the numbers at which those stay
abbrev pub is_exact : ℕ → Bool
is_exact n = nat_lt 4611686018427387904 n && nat_lt n 13835058055282163711 && not (n == 9223372036854775807)
