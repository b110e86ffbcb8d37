-- What is left of lists that are merged, and their heads.
use Rattle.std.specs.Prelude.{◌≡◌, ◌+◌, ◌<◌, ◌≤◌, ℕ, zero, suc, Bool, true, false, cond, nat_eq, nat_lt, List, [], ◌∷◌, ◌++◌, length, drop, set, slice_index_or, Option, Some, None, IfSome, IfNone, option_to_list}
use Rattle.std.specs.BinaryHeap.{IsUpperBound}
use Rattle.std.specs.List.{AllByRecursion}
use Rattle.std.specs.List.Sorted.{IsPermutation}
use Rattle.dl_values.specs.Order.{row_cmp}
use Rattle.dl_values.specs.declared.cell.Cell.{Cell}
use Rattle.fold_laws.specs.Fold.{HeadAbove, HeadFrom}
use Rattle.schema_models.specs.Folds.{key_of}
use Rattle.schema_models.specs.ShapeView.{ShapeView}
use Rattle.merge_read.specs.HeadOrder.{head_cmp, head_key}
use Rattle.merge_read.specs.HeadsView.{HeadsView}
use Rattle.merge_read.specs.Keys.{key_width}
use Rattle.merge_read.specs.Lists.{AreSortedLists}
use Rattle.merge_read.specs.declared.head.Head.{Head}

abbrev pub RowList : Type 0
RowList = List (List Cell)

-- what is left of each list, of which so many rows were taken
abbrev pub rests_of : List RowList → List ℕ → List RowList
rests_of [] places = []
rests_of (l ∷ ls) [] = l ∷ rests_of ls []
rests_of (l ∷ ls) (p ∷ ps) = drop p l ∷ rests_of ls ps

-- whether a list has a row, as a number
abbrev pub some_row : RowList → ℕ
some_row [] = 0
some_row (x ∷ xs) = 1

-- how many rows were not looked at yet, where of the first n lists the heads were
abbrev pub unread : ℕ → List RowList → ℕ
unread n [] = 0
unread zero (r ∷ rs) = length r + unread zero rs
unread (suc n) (r ∷ rs) = length (drop 1 r) + unread n rs

-- a head is the next row of its list
pub record IsHead (s : ShapeView) (rests : List RowList) (h : Head) : Type 0 where
  pub within : h.list < length rests
  pub key : key_of s h.row ≡ head_key h
  pub is : slice_index_or rests h.list [] ≡ h.row ∷ drop 1 (slice_index_or rests h.list [])

-- a head, where there is one
abbrev pub head_if : Bool → Head → Option Head
head_if true h = Some h
head_if false h = None

-- how many of the heads are of a list
abbrev pub heads_at : ℕ → List Head → ℕ
heads_at i [] = 0
heads_at i (h ∷ hs) = cond (nat_eq h.list i) 1 0 + heads_at i hs

-- of each of the first n lists that has a row there is one head
pub record AreHeads (s : ShapeView) (n : ℕ) (rests : List RowList) (items : List Head) : Type 0 where
  pub right : AllByRecursion (IsHead s rests) items
  pub counted : (i : ℕ) → i < length rests → heads_at i items ≡ cond (nat_lt i n) (some_row (slice_index_or rests i [])) 0

-- no list has a row before this head, and those before its list have none of its key
pub record IsLeast (s : ShapeView) (rests : List RowList) (h : Head) : Type 0 where
  pub head : IsHead s rests h
  pub from : (j : ℕ) → j < length rests → HeadFrom row_cmp (key_of s) (key_of s h.row) (slice_index_or rests j [])
  pub before : (j : ℕ) → j < h.list → HeadAbove row_cmp (key_of s) (key_of s h.row) (slice_index_or rests j [])

-- what is left once the head was taken
abbrev pub without : Head → List RowList → List RowList
without h rests = set rests h.list (drop 1 (slice_index_or rests h.list []))

-- how many lists have been begun: none or all
abbrev pub begun_of : Bool → ℕ → ℕ
begun_of begun n = cond begun n 0

-- the row becomes one head more
pub record IsAdded (width list : ℕ) (row : List Cell) (before after : List Head) : Type 0 where
  pub head : Head
  pub row_is : head.row ≡ row
  pub width_is : head.width ≡ width
  pub list_is : head.list ≡ list
  pub moved : IsPermutation (head ∷ before) after

-- the next row of a list, where it has one, becomes one head more
abbrev pub AreRead : ℕ → ℕ → RowList → List Head → List Head → Type 0
AreRead width list [] before after = IsPermutation before after
AreRead width list (x ∷ xs) before after = IsAdded width list x before after

-- what contracts see of lists that are read side by side: the shape, whether the reading has begun, what is left of each
-- list, and the head that comes next
pub record StreamView : Type 0 where
  pub shape : ShapeView
  pub begun : Bool
  pub rests : List RowList
  pub first : Option Head

abbrev pub unread_in : StreamView → ℕ
unread_in v = unread (begun_of v.begun (length v.rests)) v.rests

abbrev pub stream_view : ShapeView → Bool → List RowList → List ℕ → Option Head → StreamView
stream_view s begun lists places first = record { shape = s; begun = begun; rests = rests_of lists places; first = first }

-- the heads are those of what is left, and the first comes before the others
pub record IsStream (s : ShapeView) (width : ℕ) (lists : List RowList) (places : List ℕ) (begun : Bool) (first : Option Head) (others : HeadsView) : Type 0 where
  pub wide : width ≡ key_width s
  pub some : 0 < width
  pub sorted : AreSortedLists s (rests_of lists places)
  pub placed : length places ≡ length lists
  pub few : length (option_to_list first ++ others.items) ≤ length lists
  pub room : length lists ≤ others.room
  pub heads : AreHeads s (begun_of begun (length lists)) (rests_of lists places) (option_to_list first ++ others.items)
  pub none : IfNone first (others.items ≡ [])
  pub least : IfSome first (λ x. IsUpperBound head_cmp x others.items)
  pub fresh : begun ≡ false → (rests_of lists places ≡ lists) × (first ≡ None)

-- a head is the least of lists that ascend, and its list is left without it
pub record IsPassed (s : ShapeView) (old : List RowList) (h : Head) (new : List RowList) : Type 0 where
  pub sorted : AreSortedLists s old
  pub least : IsLeast s old h
  pub rests : new ≡ without h old

-- the first head is taken; without one nothing is left
abbrev pub IsTaken : StreamView → Option Head → StreamView → Type 0
IsTaken old None new = (new ≡ old) × AllByRecursion (λ r. r ≡ []) old.rests
IsTaken old (Some h) new = IsPassed old.shape old.rests h new.rests
