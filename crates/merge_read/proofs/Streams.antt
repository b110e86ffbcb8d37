-- What is left of lists, and the heads of it, as rows are taken.
use Rattle.std.proofs.Common.{◌≡◌, ℕ, zero, suc, ◌+◌, ◌<◌, ◌≤◌, ◌∙◌, Bool, true, false, cond, nat_eq, nat_lt, List, [], ◌∷◌, ◌++◌, Option, Some, None, IfSome, IfNone, length, drop, set, get_or, replicate, refl, ap, sym, subst, arith}
use Rattle.std.specs.Prelude.{option_to_list}
use Rattle.std.proofs.lemmas.Bool.Decides.{nat_tests}
use Rattle.std.proofs.lemmas.List.{drop-drop, get_or-set_same, get_or_default, length-set}
use Rattle.std.proofs.lemmas.List.Sorted.{length_permutation}
use Rattle.std.specs.BinaryHeap.{IsUpperBound}
use Rattle.std.specs.List.{AllByRecursion}
use Rattle.std.specs.List.Sorted.{IsPermutation}
use Rattle.dl_values.specs.declared.cell.Cell.{Cell}
use Rattle.schema_models.specs.ShapeView.{ShapeView}
use Rattle.merge_read.proofs.Each.{all_get}
use Rattle.merge_read.proofs.HeadLemmas.{Taken, due, head_of, heads_moved, heads_more, read_length, taken}
use Rattle.merge_read.proofs.Least.{least, none_left}
use Rattle.merge_read.proofs.RunLemmas.{passed_length}
use Rattle.merge_read.proofs.Steps.{without_sorted}
use Rattle.merge_read.specs.HeadOrder.{head_cmp}
use Rattle.merge_read.specs.HeadsView.{HeadsView}
use Rattle.merge_read.specs.Keys.{key_width}
use Rattle.merge_read.specs.Lists.{AreSortedLists, IsSortedList}
use Rattle.merge_read.specs.Rests.{AreHeads, AreRead, IsHead, IsLeast, IsPassed, IsStream, RowList, begun_of, heads_at, rests_of, some_row, stream_view, unread, unread_in, without, StreamView}
use Rattle.merge_read.specs.declared.head.Head.{Head}

-- ---- what is left

pub rests_all : (lists : List RowList) (n : ℕ) → n ≡ length lists → rests_of lists (replicate n 0) ≡ lists
rests_all [] n e = refl
rests_all (l ∷ ls) zero e = absurd (omega arith)
rests_all (l ∷ ls) (suc n) e = ap (λ (r : List RowList). l ∷ r) (rests_all ls n (omega arith))

pub length_rests : (lists : List RowList) (places : List ℕ) → length (rests_of lists places) ≡ length lists
length_rests [] places = refl
length_rests (l ∷ ls) [] = ap suc (length_rests ls [])
length_rests (l ∷ ls) (p ∷ ps) = ap suc (length_rests ls ps)

pub rests_at : (lists : List RowList) (places : List ℕ) (i p : ℕ) → length places ≡ length lists → i < length lists → p ≡ get_or places i 0 → get_or (rests_of lists places) i [] ≡ drop p (get_or lists i [])
rests_at [] places i p e l h = absurd (omega arith)
rests_at (l ∷ ls) [] i p e k h = absurd (omega arith)
rests_at (l ∷ ls) (q ∷ ps) zero p e k h = ap (λ n. drop n l) (sym h)
rests_at (l ∷ ls) (q ∷ ps) (suc i) p e k h = rests_at ls ps i p (omega arith) (omega arith) h

pub rests_next : (lists : List RowList) (places : List ℕ) (i p : ℕ) → length places ≡ length lists → i < length lists → p ≡ get_or places i 0 → rests_of lists (set places i (p + 1)) ≡ set (rests_of lists places) i (drop 1 (get_or (rests_of lists places) i []))
rests_next [] places i p e l h = absurd (omega arith)
rests_next (l ∷ ls) [] i p e k h = absurd (omega arith)
rests_next (l ∷ ls) (q ∷ ps) zero p e k h = ap (λ (r : RowList). r ∷ rests_of ls ps) (sym (drop-drop 1 p l) ∙ ap (λ n. drop 1 (drop n l)) h)
rests_next (l ∷ ls) (q ∷ ps) (suc i) p e k h = ap (λ (r : List RowList). drop q l ∷ r) (rests_next ls ps i p (omega arith) (omega arith) h)

-- how many rows were not looked at, once a row was taken and the next one looked at
pub unread_taken : (n i : ℕ) (rests : List RowList) → i < n → i < length rests → unread n (set rests i (drop 1 (get_or rests i []))) + some_row (drop 1 (get_or rests i [])) ≡ unread n rests
unread_taken n i [] l k = absurd (omega arith)
unread_taken zero i (r ∷ rs) l k = absurd (omega arith)
unread_taken (suc n) zero (r ∷ rs) l k = first r (unread n rs)
  where
    first : (q : RowList) (m : ℕ) → length (drop 1 (drop 1 q)) + m + some_row (drop 1 q) ≡ length (drop 1 q) + m
    first [] m = omega arith
    first (x ∷ []) m = omega arith
    first (x ∷ y ∷ q) m = omega arith
unread_taken (suc n) (suc i) (r ∷ rs) l k = shift (length (drop 1 r)) (unread n (set rs i (drop 1 (get_or rs i [])))) (some_row (drop 1 (get_or rs i []))) (unread n rs) (unread_taken n i rs (omega arith) (omega arith))
  where
    shift : (a b c d : ℕ) → b + c ≡ d → a + b + c ≡ a + d
    shift a b c d h = omega arith

-- ---- the heads are refilled

due_none : (n : ℕ) (rests : List RowList) (i : ℕ) → get_or rests i [] ≡ [] → due n rests i ≡ 0
due_none n rests i e = ap (λ (r : RowList). cond (nat_lt i n) (some_row r) 0) e ∙ either (nat_lt i n)
  where
    either : (b : Bool) → cond {A = ℕ} b 0 0 ≡ 0
    either true = refl
    either false = refl

due_one : (n : ℕ) (rests : List RowList) (i : ℕ) (x : List Cell) (xs : RowList) → i < n → get_or rests i [] ≡ x ∷ xs → due n rests i ≡ 1
due_one n rests i x xs l e = ap (λ (b : Bool). cond b (some_row (get_or rests i [])) 0) (early i n l) ∙ ap (λ (r : RowList). some_row r) e
  where
    early : (a b : ℕ) → a < b → nat_lt a b ≡ true
    early a b h = grind (arith, nat_tests)

refilled : (s : ShapeView) (n width : ℕ) (rests : List RowList) (h : Head) (before after : List Head) → width ≡ key_width s → h.list < n → h.list < length rests → AreSortedLists s (without h rests) → Taken s n rests h before
    → AreRead width h.list (get_or (without h rests) h.list []) before after → AreHeads s n (without h rests) after
refilled s n width rests h before after w early l sorted t read = go (get_or (without h rests) h.list []) refl (all_get (IsSortedList s) h.list (without h rests) [] within sorted) read
  where
    within : h.list < length (without h rests)
    within = subst (λ k. h.list < k) (sym (length-set rests h.list (drop 1 (get_or rests h.list [])))) l

    is_here : (a b : ℕ) → nat_eq a b ≡ true → a ≡ b
    is_here a b e = grind (arith, nat_tests)

    is_other : (a b : ℕ) → nat_eq a b ≡ false → a ≡ b → ⊥
    is_other a b e f = grind (arith, nat_tests)

    go : (r : RowList) → get_or (without h rests) h.list [] ≡ r → IsSortedList s r → AreRead width h.list r before after → AreHeads s n (without h rests) after
    go [] e o p = heads_moved s n (without h rests) before after p (record {
      right = t.right;
      counted = λ i k. either i k (nat_eq i h.list) refl;
    })
      where
        either : (i : ℕ) → i < length (without h rests) → (b : Bool) → nat_eq i h.list ≡ b → heads_at i before ≡ due n (without h rests) i
        either i k true f = let same : i ≡ h.list = is_here i h.list f in
            ap (λ j. heads_at j before) same ∙ t.none ∙ sym (due_none n (without h rests) h.list e) ∙ sym (ap (λ j. due n (without h rests) j) same)
        either i k false f = t.others i k (is_other i h.list f)
    go (x ∷ xs) e o p =
        let head : IsHead s (without h rests) p.head = head_of s (without h rests) width h.list x xs p.head w within e o.rows.0 p.row_is p.width_is p.list_is in
        heads_moved s n (without h rests) (p.head ∷ before) after p.moved
        (heads_more s n (without h rests) before p.head head t.right
        (λ i k o. t.others i k (λ f. o (f ∙ sym p.list_is)))
        (subst (λ k. heads_at k before ≡ 0) (sym p.list_is) t.none)
        (subst (λ k. due n (without h rests) k ≡ 1) (sym p.list_is) (due_one n (without h rests) h.list x xs early e)))

-- ---- the lists are begun

pub is_begun : (s : ShapeView) (width : ℕ) (lists : List RowList) (places : List ℕ) (first now : Option Head) (others mid new : HeadsView) → IsStream s width lists places false first others
    → AreHeads s (length lists) lists mid.items → length mid.items ≤ length lists → others.room ≤ mid.room → new.room ≡ mid.room
    → IfNone now (mid.items ≡ []) → IfNone now (new.items ≡ []) → IfSome now (λ x. IsPermutation mid.items (x ∷ new.items)) → IfSome now (λ x. IsUpperBound head_cmp x new.items)
    → IsStream s width lists places true now new
is_begun s width lists places first now others mid new i heads few grown room none kept moved least = record {
  wide = i.wide;
  some = i.some;
  sorted = i.sorted;
  placed = i.placed;
  few = fewer now moved kept;
  room = omega (arith, i.room, grown, room);
  heads = subst (λ (r : List RowList). AreHeads s (length lists) r (option_to_list now ++ new.items)) (sym (i.fresh refl).0) (all now none kept moved);
  none = kept;
  least = least;
  fresh = λ e. cc;
}
  where
    fewer : (o : Option Head) → IfSome o (λ x. IsPermutation mid.items (x ∷ new.items)) → IfNone o (new.items ≡ []) → length (option_to_list o ++ new.items) ≤ length lists
    fewer None m k = let e : length new.items ≡ 0 = ap (λ (l : List Head). length l) k in omega arith
    fewer (Some x) m k = let e : length (x ∷ new.items) ≡ length mid.items = length_permutation mid.items (x ∷ new.items) m in omega (arith, few)

    all : (o : Option Head) → IfNone o (mid.items ≡ []) → IfNone o (new.items ≡ []) → IfSome o (λ x. IsPermutation mid.items (x ∷ new.items)) → AreHeads s (length lists) lists (option_to_list o ++ new.items)
    all None n k m = subst (λ (l : List Head). AreHeads s (length lists) lists l) (n ∙ sym k) heads
    all (Some x) n k m = heads_moved s (length lists) lists mid.items (x ∷ new.items) m heads

-- ---- a row is taken

pub is_passed : (s : ShapeView) (width : ℕ) (lists : List RowList) (places : List ℕ) (h : Head) (others : HeadsView) → IsStream s width lists places true (Some h) others → IsLeast s (rests_of lists places) h
is_passed s width lists places h others i =
    least s (rests_of lists places) h others.items (subst (λ n. AreHeads s n (rests_of lists places) (h ∷ others.items)) (sym (length_rests lists places)) i.heads) i.least

pub is_next : (s : ShapeView) (width p : ℕ) (lists : List RowList) (places : List ℕ) (h : Head) (now : Option Head) (others new : HeadsView) → IsStream s width lists places true (Some h) others
    → p ≡ get_or places h.list 0 → AreRead width h.list (drop (p + 1) (get_or lists h.list [])) others.items (option_to_list now ++ new.items)
    → others.room ≤ new.room → IfNone now (new.items ≡ []) → IfSome now (λ x. IsUpperBound head_cmp x new.items)
    → IsStream s width lists (set places h.list (p + 1)) true now new
is_next s width p lists places h now others new i at read grown none least =
    let rests : List RowList = rests_of lists places in
    let size : length rests ≡ length lists = length_rests lists places in
    let m : IsLeast s rests h = is_passed s width lists places h others i in
    let within : h.list < length lists = subst (λ k. h.list < k) size m.head.within in
    let left : rests_of lists (set places h.list (p + 1)) ≡ without h rests = rests_next lists places h.list p i.placed within at in
    let rest : get_or (without h rests) h.list [] ≡ drop (p + 1) (get_or lists h.list []) =
    get_or-set_same rests h.list (drop 1 (get_or rests h.list [])) [] m.head.within ∙ ap (λ (r : RowList). drop 1 r) (rests_at lists places h.list p i.placed within at) ∙ drop-drop 1 p (get_or lists h.list []) in
    let sorted : AreSortedLists s (without h rests) = without_sorted s rests h m.head.within i.sorted in
    let t : Taken s (length lists) rests h others.items = taken s (length lists) rests h others.items within i.heads in
    let after : List Head = option_to_list now ++ new.items in
    let count : length after ≤ length others.items + 1 = read_length width h.list (drop (p + 1) (get_or lists h.list [])) others.items after read in
    record {
      wide = i.wide;
      some = i.some;
      sorted = subst (λ (r : List RowList). AreSortedLists s r) (sym left) sorted;
      placed = length-set places h.list (p + 1) ∙ i.placed;
      few = omega (arith, count, i.few);
      room = omega (arith, i.room, grown);
      heads = subst (λ (r : List RowList). AreHeads s (length lists) r after) (sym left)
          (refilled s (length lists) width rests h others.items after i.wide within m.head.within sorted t (subst (λ (r : RowList). AreRead width h.list r others.items after) (sym rest) read));
      none = none;
      least = least;
      fresh = λ e. cc;
    }

-- ---- as a body finds them

begun_as : (s : ShapeView) (width : ℕ) (lists : List RowList) (places : List ℕ) (begun : Bool) (first : Option Head) (others : HeadsView) (b : Bool) → begun ≡ b → IsStream s width lists places begun first others → IsStream s width lists places b first others
begun_as s width lists places begun first others b e i = subst (λ (x : Bool). IsStream s width lists places x first others) e i

-- a reading that has not begun
pub record Unbegun (s : ShapeView) (width : ℕ) (lists : List RowList) (places : List ℕ) (first : Option Head) (others : HeadsView) : Type 0 where
  pub stream : IsStream s width lists places false first others
  pub all : rests_of lists places ≡ lists
  pub sorted : AreSortedLists s lists

pub unbegun : (s : ShapeView) (width : ℕ) (lists : List RowList) (places : List ℕ) (begun : Bool) (first : Option Head) (others : HeadsView) → begun ≡ false → IsStream s width lists places begun first others → Unbegun s width lists places first others
unbegun s width lists places begun first others b i =
    let all : rests_of lists places ≡ lists = (i.fresh b).0 in
    record { stream = begun_as s width lists places begun first others false b i; all = all; sorted = subst (λ (r : List RowList). AreSortedLists s r) all i.sorted }

pub begun_counts : (s : ShapeView) (lists : List RowList) (places : List ℕ) (begun : Bool) (first now : Option Head) (view : StreamView) (n steps more : ℕ) → stream_view s begun lists places first ≡ view → begun ≡ false → rests_of lists places ≡ lists → n ≡ length lists
    → more + unread n lists ≡ steps + unread 0 lists → more + unread_in (stream_view s true lists places now) ≡ steps + unread_in view
begun_counts s lists places begun first now view n steps more v b all size e =
    ap (λ (r : List RowList). more + unread (length r) r) all
    ∙ ap (λ k. more + unread k lists) (sym size)
    ∙ e
    ∙ ap (λ (r : List RowList). steps + unread 0 r) (sym all)
    ∙ ap (λ (x : Bool). steps + unread (begun_of x (length (rests_of lists places))) (rests_of lists places)) (sym b)
    ∙ ap (λ (x : StreamView). steps + unread_in x) v

-- no head, and so nothing is left
pub none_taken : (s : ShapeView) (width : ℕ) (lists : List RowList) (places : List ℕ) (begun : Bool) (first dest : Option Head) (others : HeadsView) (view : StreamView) → stream_view s begun lists places first ≡ view → IsStream s width lists places begun first others
    → view.begun ≡ true → dest ≡ None → first ≡ None → (stream_view s begun lists places dest ≡ view) × AllByRecursion (λ r. r ≡ []) view.rests
none_taken s width lists places begun first dest others view v i b d f =
    let is : begun ≡ true = ap (λ (x : StreamView). x.begun) v ∙ b in
    let t : IsStream s width lists places true None others = subst (λ (x : Option Head). IsStream s width lists places true x others) f (begun_as s width lists places begun first others true is i) in
    let heads : AreHeads s (length (rests_of lists places)) (rests_of lists places) [] = subst (λ n. AreHeads s n (rests_of lists places) []) (sym (length_rests lists places)) (subst (λ (l : List Head). AreHeads s (length lists) (rests_of lists places) l) t.none t.heads) in
    (ap (λ (x : Option Head). stream_view s begun lists places x) (d ∙ sym f) ∙ v, subst (λ (x : StreamView). AllByRecursion (λ r. r ≡ []) x.rests) v (none_left s (rests_of lists places) heads))

-- the first head, and the place of its row
pub record IsHere (s : ShapeView) (width : ℕ) (lists : List RowList) (places : List ℕ) (h : Head) (others : HeadsView) (p : ℕ) : Type 0 where
  pub stream : IsStream s width lists places true (Some h) others
  pub least : IsLeast s (rests_of lists places) h
  pub within : h.list < length lists
  pub place : p ≡ get_or places h.list 0
  pub before : p < length (get_or lists h.list [])

not_past : (p : ℕ) (l : RowList) (x : List Cell) (xs : RowList) → drop p l ≡ x ∷ xs → p < length l
not_past p [] x xs e = absurd (nothing p e)
  where
    nothing : (n : ℕ) → drop n [] ≡ x ∷ xs → ⊥
    nothing zero f = cc
    nothing (suc n) f = cc
not_past zero (y ∷ l) x xs e = omega arith
not_past (suc p) (y ∷ l) x xs e = let b : p < length l = not_past p l x xs e in omega arith

pub here : (s : ShapeView) (width : ℕ) (lists : List RowList) (places : List ℕ) (begun : Bool) (first : Option Head) (h : Head) (others : HeadsView) (view : StreamView) (p : ℕ) → stream_view s begun lists places first ≡ view → IsStream s width lists places begun first others
    → view.begun ≡ true → first ≡ Some h → p ≡ get_or places h.list p → IsHere s width lists places h others p
here s width lists places begun first h others view p v i b f at =
    let is : begun ≡ true = ap (λ (x : StreamView). x.begun) v ∙ b in
    let t : IsStream s width lists places true (Some h) others = subst (λ (x : Option Head). IsStream s width lists places true x others) f (begun_as s width lists places begun first others true is i) in
    let m : IsLeast s (rests_of lists places) h = is_passed s width lists places h others t in
    let within : h.list < length lists = subst (λ k. h.list < k) (length_rests lists places) m.head.within in
    let place : p ≡ get_or places h.list 0 = at ∙ get_or_default places h.list p 0 (omega (arith, within, t.placed)) in
    record {
      stream = t;
      least = m;
      within = within;
      place = place;
      before = not_past p (get_or lists h.list []) h.row (drop 1 (get_or (rests_of lists places) h.list [])) (sym (rests_at lists places h.list p t.placed within place) ∙ m.head.is);
    }

pub passed : (s : ShapeView) (width : ℕ) (lists : List RowList) (places : List ℕ) (begun : Bool) (first now : Option Head) (h : Head) (others : HeadsView) (view : StreamView) (p : ℕ) → stream_view s begun lists places first ≡ view
    → IsHere s width lists places h others p → IsPassed view.shape view.rests h (rests_of lists (set places h.list (p + 1)))
passed s width lists places begun first now h others view p v t =
    subst (λ (x : StreamView). IsPassed x.shape x.rests h (rests_of lists (set places h.list (p + 1)))) v
    (record { sorted = t.stream.sorted; least = t.least; rests = rests_next lists places h.list p t.stream.placed t.within t.place })

pub taken_counts : (s : ShapeView) (width : ℕ) (lists : List RowList) (places : List ℕ) (begun : Bool) (first now : Option Head) (h : Head) (others : HeadsView) (view : StreamView) (p steps more : ℕ) → stream_view s begun lists places first ≡ view → view.begun ≡ true
    → IsHere s width lists places h others p → more ≡ steps + some_row (drop (p + 1) (get_or lists h.list [])) → more + unread_in (stream_view s begun lists (set places h.list (p + 1)) now) ≡ steps + unread_in view
taken_counts s width lists places begun first now h others view p steps more v b t e =
    let is : begun ≡ true = ap (λ (x : StreamView). x.begun) v ∙ b in
    let rests : List RowList = rests_of lists places in
    let next : rests_of lists (set places h.list (p + 1)) ≡ without h rests = rests_next lists places h.list p t.stream.placed t.within t.place in
    let same : length (without h rests) ≡ length rests = length-set rests h.list (drop 1 (get_or rests h.list [])) in
    let row : drop (p + 1) (get_or lists h.list []) ≡ drop 1 (get_or rests h.list []) = sym (drop-drop 1 p (get_or lists h.list [])) ∙ sym (ap (λ (r : RowList). drop 1 r) (rests_at lists places h.list p t.stream.placed t.within t.place)) in
    let left : unread (length rests) (without h rests) + some_row (drop 1 (get_or rests h.list [])) ≡ unread (length rests) rests = unread_taken (length rests) h.list rests t.least.head.within t.least.head.within in
    let new : unread_in (stream_view s begun lists (set places h.list (p + 1)) now) ≡ unread (length rests) (without h rests) =
    ap (λ (x : Bool). unread_in (stream_view s x lists (set places h.list (p + 1)) now)) is ∙ ap (λ (r : List RowList). unread (length r) r) next ∙ ap (λ k. unread k (without h rests)) same in
    let old : unread_in view ≡ unread (length rests) rests = sym (ap (λ (x : StreamView). unread_in x) v) ∙ ap (λ (x : Bool). unread_in (stream_view s x lists places first)) is in
    let grown : more ≡ steps + some_row (drop 1 (get_or rests h.list [])) = e ∙ ap (λ (r : RowList). steps + some_row r) row in
    omega (arith, new, old, grown, left)

-- the first head is the least of what a stream shows
pub first_least : (s : ShapeView) (width : ℕ) (lists : List RowList) (places : List ℕ) (begun : Bool) (first : Option Head) (h : Head) (others : HeadsView) (view : StreamView) → stream_view s begun lists places first ≡ view → IsStream s width lists places begun first others
    → view.begun ≡ true → first ≡ Some h → IsLeast view.shape view.rests h
first_least s width lists places begun first h others view v i b f =
    let is : begun ≡ true = ap (λ (x : StreamView). x.begun) v ∙ b in
    let t : IsStream s width lists places true (Some h) others = subst (λ (x : Option Head). IsStream s width lists places true x others) f (begun_as s width lists places begun first others true is i) in
    subst (λ (x : StreamView). IsLeast x.shape x.rests h) v (is_passed s width lists places h others t)

-- its row is whole
pub first_length : (s : ShapeView) (width : ℕ) (lists : List RowList) (places : List ℕ) (begun : Bool) (first : Option Head) (h : Head) (others : HeadsView) (view : StreamView) → stream_view s begun lists places first ≡ view → IsStream s width lists places begun first others
    → view.begun ≡ true → first ≡ Some h → length h.row ≡ length view.shape.columns
first_length s width lists places begun first h others view v i b f =
    let rests : List RowList = rests_of lists places in
    let m : IsLeast view.shape view.rests h = first_least s width lists places begun first h others view v i b f in
    let sorted : AreSortedLists view.shape view.rests = subst (λ (x : StreamView). AreSortedLists x.shape x.rests) v i.sorted in
    passed_length view.shape view.rests (without h view.rests) h (record { sorted = sorted; least = m; rests = refl })
