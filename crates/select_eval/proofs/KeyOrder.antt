-- The numbers of two keys decide how the keys stand to each other.
use Rattle.std.proofs.Common.{◌≡◌, ℕ, ◌+◌, ◌<◌, List, take, length, sym, ap, ap₂, ◌∙◌, subst, arith}
use Rattle.std.proofs.lemmas.List.{take_all}
use Rattle.std.specs.Ordering.{ordering_reverse}
use Rattle.std.specs.declared.cmp.Ordering.TheVariants.{Less, Greater}
use Rattle.dl_values.specs.Order.{row_cmp}
use Rattle.dl_values.specs.OrderLemmas.{rows_total}
use Rattle.dl_values.specs.declared.cell.Cell.{Cell}
use Rattle.row_fold.specs.Prefix.{row_prefix}
use Rattle.row_fold.proofs.Below.{below_taken}

whole : (xs : List Cell) → take (length xs + 1) xs ≡ xs
whole xs = take_all (length xs + 1) xs (omega arith)

is_below : (xs ys : List Cell) → row_prefix xs < row_prefix ys → row_cmp xs ys ≡ Less
is_below xs ys h = sym (ap₂ row_cmp (whole xs) (whole ys)) ∙ below_taken (length xs + 1) (length ys + 1) xs ys (omega arith) (omega arith) h

pub below : (xs ys : List Cell) (m n : ℕ) → m ≡ row_prefix xs → n ≡ row_prefix ys → m < n → Less ≡ row_cmp xs ys
below xs ys m n a b h = sym (is_below xs ys (subst (λ z. z < row_prefix ys) a (subst (λ z. m < z) b h)))

pub above : (xs ys : List Cell) (m n : ℕ) → m ≡ row_prefix xs → n ≡ row_prefix ys → n < m → Greater ≡ row_cmp xs ys
above xs ys m n a b h = sym (rows_total.antisymm xs ys ∙ ap ordering_reverse (is_below ys xs (subst (λ z. z < row_prefix xs) b (subst (λ z. n < z) a h))))
