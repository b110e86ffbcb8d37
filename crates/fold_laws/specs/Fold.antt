-- The fold of rows by key: each key once, by ascending key, with what the rows of that key come to. This project's own
-- words for the table models of Apache Doris: a table keeps, of the rows of one key, all, the newest, or their merge.
use Rattle.std.specs.Prelude.{◌≡◌, List, [], ◌∷◌, ◌++◌, Bool, false, not, map, Option, Some, None}
use Rattle.std.specs.BTreeSet.{insert_key}
use Rattle.std.specs.Cmp.{IsTotalOrder}
use Rattle.std.specs.FinMap.{IsAntisymmetric}
use Rattle.std.specs.List.{filter, flat_map, fold, AllByRecursion}
use Rattle.std.specs.Ordering.{is_eq, is_gt, match_ordering}
use Rattle.std.specs.declared.cmp.Ordering.{Ordering}
use Rattle.std.specs.declared.cmp.Ordering.TheVariants.{Less, Equal}

-- whether a row has this key
abbrev pub has_key : {R K : Type 0} → (K → K → Ordering) → (R → K) → K → R → Bool
has_key cmp key k r = is_eq (cmp k (key r))

-- the distinct keys of the rows, ascending
abbrev pub distinct : {R K : Type 0} → (K → K → Ordering) → (R → K) → List R → List K
distinct cmp key [] = []
distinct cmp key (r ∷ rs) = insert_key cmp (distinct cmp key rs) (key r)

-- the fold: of each distinct key, what the rows of that key come to, in list order
unfoldable pub folded : {R K : Type 0} → (K → K → Ordering) → (R → K) → (List R → List R) → List R → List R
folded cmp key all rows = flat_map (λ k. all (filter (has_key cmp key k) rows)) (distinct cmp key rows)

-- what the rows of one key come to where an old row and a newer one make one row
abbrev pub merged : {R : Type 0} → (R → R → R) → List R → List R
merged op [] = []
merged op (r ∷ rs) = fold op r rs ∷ []

-- no row is below this key
abbrev pub From : {R K : Type 0} → (K → K → Ordering) → (R → K) → K → List R → Type 0
From cmp key k rows = AllByRecursion (λ r. is_gt (cmp k (key r)) ≡ false) rows

-- the rows ascend by key; rows of one key may stand side by side
abbrev pub Ascends : {R K : Type 0} → (K → K → Ordering) → (R → K) → List R → Type 0
Ascends cmp key [] = Unit {0}
Ascends cmp key (r ∷ rs) = From cmp key (key r) rs × Ascends cmp key rs

-- the rows ascend by key, each key once
abbrev pub Rises : {R K : Type 0} → (K → K → Ordering) → (R → K) → List R → Type 0
Rises cmp key [] = Unit {0}
Rises cmp key (r ∷ rs) = AllByRecursion (λ s. cmp (key r) (key s) ≡ Less) rs × Rises cmp key rs

-- each row has the key k
abbrev pub AllOf : {R K : Type 0} → (K → K → Ordering) → (R → K) → K → List R → Type 0
AllOf cmp key k rows = AllByRecursion (λ r. cmp k (key r) ≡ Equal) rows

-- what a gathering of the rows of one key has to keep: it may be done in parts, and it keeps the key
pub record IsGathering {R K : Type 0} (cmp : K → K → Ordering) (key : R → K) (all : List R → List R) : Type 0 where
  pub none : all [] ≡ []
  pub left : (xs ys : List R) → all (all xs ++ ys) ≡ all (xs ++ ys)
  pub right : (xs ys : List R) → all (xs ++ all ys) ≡ all (xs ++ ys)
  pub kept : (k : K) (xs : List R) → AllOf cmp key k xs → AllOf cmp key k (all xs)

-- what a merge of an old row and a newer one of the same key has to keep
pub record IsRowMerge {R K : Type 0} (cmp : K → K → Ordering) (key : R → K) (op : R → R → R) : Type 0 where
  pub assoc : (x y z : R) → op (op x y) z ≡ op x (op y z)
  pub kept : (x y : R) → cmp (key x) (key y) ≡ Equal → key (op x y) ≡ key x

-- what a fold by key rests on: a total order of keys in which only equal keys tie, and a gathering of rows of one key
pub record IsFolding {R K : Type 0} (cmp : K → K → Ordering) (key : R → K) (all : List R → List R) : Type 0 where
  pub order : IsTotalOrder cmp
  pub apart : IsAntisymmetric cmp
  pub gathers : IsGathering cmp key all

-- the same of rows of one key that merge into one row
pub record IsMerging {R K : Type 0} (cmp : K → K → Ordering) (key : R → K) (op : R → R → R) : Type 0 where
  pub order : IsTotalOrder cmp
  pub apart : IsAntisymmetric cmp
  pub merges : IsRowMerge cmp key op

-- rows that rise with an older row, which is put before the row of its key
abbrev pub put : {R K : Type 0} → (K → K → Ordering) → (R → K) → (R → R → R) → R → List R → List R
put cmp key op x [] = x ∷ []
put cmp key op x (y ∷ ys) = match_ordering (cmp (key x) (key y)) (x ∷ y ∷ ys) (op x y ∷ ys) (y ∷ put cmp key op x ys)

-- rows that rise with a newer row
abbrev pub add : {R K : Type 0} → (K → K → Ordering) → (R → K) → (R → R → R) → List R → R → List R
add cmp key op [] x = x ∷ []
add cmp key op (y ∷ ys) x = match_ordering (cmp (key x) (key y)) (x ∷ y ∷ ys) (op y x ∷ ys) (y ∷ add cmp key op ys x)

-- a row beside its key, as a map has it
abbrev pub entry : {R K : Type 0} → (R → K) → R → K × R
entry key r = (key r, r)

-- a newer row, merged into the old one where there is one
abbrev pub more : {R : Type 0} → (R → R → R) → Option R → R → R
more op None x = x
more op (Some y) x = op y x

-- rows with an older row in its place: tie says what it and a row of the same key come to
abbrev pub put_by : {R K : Type 0} → (K → K → Ordering) → (R → K) → (R → R → List R) → R → List R → List R
put_by cmp key tie x [] = x ∷ []
put_by cmp key tie x (y ∷ ys) = match_ordering (cmp (key x) (key y)) (x ∷ y ∷ ys) (tie x y ++ ys) (y ∷ put_by cmp key tie x ys)

-- What a map h of the rows that it converts has to keep, for folds From to F: two rows of one key may be mapped
-- before they come together, and two rows of different keys may change places.
pub record IsCarried {R K S : Type 0} (cmp : K → K → Ordering) (key : R → K) (tie : R → R → List R) (F : List S → List S) (Converts : R → Type 0) (h : R → S) : Type 0 where
  pub converts : (x y : R) → cmp (key x) (key y) ≡ Equal → Converts x → Converts y → AllByRecursion Converts (tie x y)
  pub joins : (x y : R) → cmp (key x) (key y) ≡ Equal → Converts x → Converts y → (zs : List S) → F (map h (tie x y) ++ zs) ≡ F (h x ∷ h y ∷ zs)
  pub swaps : (x y : R) → is_eq (cmp (key x) (key y)) ≡ false → Converts x → Converts y → (zs : List S) → F (h y ∷ h x ∷ zs) ≡ F (h x ∷ h y ∷ zs)

-- the rows of other keys
abbrev pub others : {R K : Type 0} → (K → K → Ordering) → (R → K) → K → List R → List R
others cmp key k rows = filter (λ r. not (has_key cmp key k r)) rows

-- the head of a list, if there is one, is not below k
abbrev pub HeadFrom : {R K : Type 0} → (K → K → Ordering) → (R → K) → K → List R → Type 0
HeadFrom cmp key k [] = Unit {0}
HeadFrom cmp key k (r ∷ rs) = is_gt (cmp k (key r)) ≡ false

-- the head of a list, if there is one, is above k
abbrev pub HeadAbove : {R K : Type 0} → (K → K → Ordering) → (R → K) → K → List R → Type 0
HeadAbove cmp key k [] = Unit {0}
HeadAbove cmp key k (r ∷ rs) = cmp k (key r) ≡ Less
