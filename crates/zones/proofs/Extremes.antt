-- No cell is below the least of cells, and none above the greatest.
use Rattle.std.proofs.Common.{◌≡◌, List, [], ◌∷◌, Bool, true, false, cond, fold, refl, ap, ◌∙◌}
use Rattle.std.proofs.lemmas.Cmp.{tied_itself}
use Rattle.std.specs.List.{AllByRecursion}
use Rattle.std.specs.Ordering.{is_gt, is_lt}
use Rattle.std.specs.declared.cmp.Ordering.{Ordering}
use Rattle.std.specs.declared.cmp.Ordering.TheVariants.{Less, Equal, Greater}
use Rattle.dl_values.specs.Order.{cell_cmp}
use Rattle.dl_values.specs.OrderLemmas.{cells_total}
use Rattle.dl_values.specs.declared.cell.Cell.{Cell}
use Rattle.dl_values.specs.declared.cell.Cell.TheVariants as cell
use Rattle.zones.specs.Ends.{AreEnds, ends_of, first_or, higher, lower}
use Rattle.zones.proofs.Bounds.{down_to_down_to, greater_less, less_greater, up_to_up_to}

abbrev UpTo : Cell → Cell → Type 0
UpTo a x = is_gt (cell_cmp a x) ≡ false

abbrev DownTo : Cell → Cell → Type 0
DownTo a x = is_lt (cell_cmp a x) ≡ false

up_to_itself : (a : Cell) → UpTo a a
up_to_itself a = ap is_gt (tied_itself cells_total a)

down_to_itself : (a : Cell) → DownTo a a
down_to_itself a = ap is_lt (tied_itself cells_total a)

pub not_up : (x a : Cell) → is_lt (cell_cmp x a) ≡ true → UpTo x a
not_up x a e = go (cell_cmp x a) e
  where
    go : (c : Ordering) → is_lt c ≡ true → is_gt c ≡ false
    go Less e = refl
    go Equal e = cc
    go Greater e = cc

not_down : (x a : Cell) → is_gt (cell_cmp x a) ≡ true → DownTo x a
not_down x a e = go (cell_cmp x a) e
  where
    go : (c : Ordering) → is_gt c ≡ true → is_lt c ≡ false
    go Less e = cc
    go Equal e = cc
    go Greater e = refl

-- the lower of two is up to both, and the higher down to both
lower_both : (a x : Cell) → UpTo (lower a x) a × UpTo (lower a x) x
lower_both a x = go (is_lt (cell_cmp x a)) refl
  where
    go : (b : Bool) → is_lt (cell_cmp x a) ≡ b → UpTo (cond b x a) a × UpTo (cond b x a) x
    go true e = (not_up x a e, up_to_itself x)
    go false e = (up_to_itself a, greater_less cells_total a x ∙ e)

higher_both : (a x : Cell) → DownTo (higher a x) a × DownTo (higher a x) x
higher_both a x = go (is_gt (cell_cmp x a)) refl
  where
    go : (b : Bool) → is_gt (cell_cmp x a) ≡ b → DownTo (cond b x a) a × DownTo (cond b x a) x
    go true e = (not_down x a e, down_to_itself x)
    go false e = (down_to_itself a, less_greater cells_total a x ∙ e)

pub least_up : (a : Cell) (xs : List Cell) → UpTo (fold lower a xs) a × AllByRecursion (UpTo (fold lower a xs)) xs
least_up a [] = (up_to_itself a, tt)
least_up a (x ∷ xs) =
    let rest = least_up (lower a x) xs in
    let m = fold lower (lower a x) xs in
    (up_to_up_to cells_total m (lower a x) a rest.0 (lower_both a x).0, (up_to_up_to cells_total m (lower a x) x rest.0 (lower_both a x).1, rest.1))

pub greatest_down : (a : Cell) (xs : List Cell) → DownTo (fold higher a xs) a × AllByRecursion (DownTo (fold higher a xs)) xs
greatest_down a [] = (down_to_itself a, tt)
greatest_down a (x ∷ xs) =
    let rest = greatest_down (higher a x) xs in
    let m = fold higher (higher a x) xs in
    (down_to_down_to cells_total m (higher a x) a rest.0 (higher_both a x).0, (down_to_down_to cells_total m (higher a x) x rest.0 (higher_both a x).1, rest.1))

both : {X : Type 0} (P Q : X → Type 0) (xs : List X) → AllByRecursion P xs → AllByRecursion Q xs → AllByRecursion (λ x. P x × Q x) xs
both P Q [] a b = tt
both P Q (x ∷ xs) a b = ((a.0, b.0), both P Q xs a.1 b.1)

pub ends_hold : (cells : List Cell) → AreEnds (ends_of cells) cells
ends_hold cells =
    let first = first_or cells cell.Null in
    both (UpTo (fold lower first cells)) (DownTo (fold higher first cells)) cells (least_up first cells).1 (greatest_down first cells).1
