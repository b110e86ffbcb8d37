-- Rowsets by rising versions: those up to a version stand first, and a rowset more or one for the first of them keeps the order.
use Rattle.std.proofs.Common.{◌≡◌, ℕ, zero, suc, ◌+◌, ◌<◌, ◌≤◌, Bool, true, false, cond, List, [], ◌∷◌, ◌++◌, map, length, take, nat_le, nat_lt, refl, ap, ◌∙◌, arith}
use Rattle.std.proofs.lemmas.Bool.Decides.{nat_tests}
use Rattle.std.specs.List.{prefix_len, AllByRecursion}
use Rattle.merge_read.specs.Lists.{AreSortedLists}
use Rattle.rowsets.specs.RowsetView.{IsListOf}
use Rattle.schema_models.specs.ShapeView.{ShapeView}
use Rattle.tablets.specs.TabletView.{AreListsOf, IsPast, IsTablet, Rises, StoredList, TabletView, is_to, list_rows, lists_past, lists_to}

none_to : (v : ℕ) (l : StoredList) (ls : List StoredList) → is_to v l ≡ false → AllByRecursion (λ m. l.last < m.last) ls → lists_to v ls ≡ []
none_to v l [] e a = refl
none_to v l (m ∷ ls) e a =
    let k : nat_le m.last v ≡ false = (let h = a.0 in grind (arith, nat_tests, h)) in
    rw k (none_to v l ls e a.1)

-- the rowsets up to a version stand first
pub to_front : (v : ℕ) (ls : List StoredList) → Rises ls → lists_to v ls ≡ take (prefix_len (is_to v) ls) ls
to_front v [] r = refl
to_front v (l ∷ ls) r = go (is_to v l) refl (to_front v ls r.1)
  where
    go : (b : Bool) → is_to v l ≡ b → lists_to v ls ≡ take (prefix_len (is_to v) ls) ls → cond b (l ∷ lists_to v ls) (lists_to v ls) ≡ take (cond b (1 + prefix_len (is_to v) ls) 0) (l ∷ ls)
    go true e rest = ap (λ (x : List StoredList). l ∷ x) rest ∙ (let s : 1 + prefix_len (is_to v) ls ≡ suc (prefix_len (is_to v) ls) = omega arith in rw s refl)
    go false e rest = none_to v l ls e r.0

pub sorted_front : (s : ShapeView) (n : ℕ) (ls : List StoredList) → AreListsOf s ls → AreSortedLists s (map (λ l. list_rows l) (take n ls))
sorted_front s zero ls a = tt
sorted_front s (suc n) [] a = tt
sorted_front s (suc n) (l ∷ ls) a = (record { rows = a.0.sorted.rows; rising = a.0.sorted.rising }, sorted_front s n ls a.1)

all_more : {X : Type 0} (P : X → Type 0) (xs : List X) (x : X) → AllByRecursion P xs → P x → AllByRecursion P (xs ++ x ∷ [])
all_more P [] x a p = (p, tt)
all_more P (y ∷ ys) x a p = (a.0, all_more P ys x a.1 p)

rises_more : (ls : List StoredList) (m : StoredList) → Rises ls → IsPast m.last ls → Rises (ls ++ m ∷ [])
rises_more [] m r p = (tt, tt)
rises_more (l ∷ ls) m r p = (all_more (λ x. l.last < x.last) ls m r.0 p.0, rises_more ls m r.1 p.1)

-- a rowset above all
pub more_is_tablet : (t : TabletView) (m : StoredList) → IsTablet t → IsPast m.last t.lists → IsListOf t.shape m.rowset → (room : ℕ) → IsTablet (record { shape = t.shape; lists = t.lists ++ m ∷ []; room = room })
more_is_tablet t m i p o room = record { rising = rises_more t.lists m i.rising p; sorted = all_more (λ x. IsListOf t.shape x.rowset) t.lists m i.sorted o }

past_all : (P : StoredList → Type 0) (v : ℕ) (ls : List StoredList) → AllByRecursion P ls → AllByRecursion P (lists_past v ls)
past_all P v [] a = tt
past_all P v (l ∷ ls) a = go (nat_lt v l.last) (past_all P v ls a.1)
  where
    go : (b : Bool) → AllByRecursion P (lists_past v ls) → AllByRecursion P (cond b (l ∷ lists_past v ls) (lists_past v ls))
    go true r = (a.0, r)
    go false r = r

past_above : (v : ℕ) (ls : List StoredList) → AllByRecursion (λ m. v < m.last) (lists_past v ls)
past_above v [] = tt
past_above v (l ∷ ls) = go (nat_lt v l.last) refl (past_above v ls)
  where
    go : (b : Bool) → nat_lt v l.last ≡ b → AllByRecursion (λ m. v < m.last) (lists_past v ls) → AllByRecursion (λ m. v < m.last) (cond b (l ∷ lists_past v ls) (lists_past v ls))
    go true e r = (grind (arith, nat_tests), r)
    go false e r = r

past_rises : (v : ℕ) (ls : List StoredList) → Rises ls → Rises (lists_past v ls)
past_rises v [] r = tt
past_rises v (l ∷ ls) r = go (nat_lt v l.last) (past_rises v ls r.1)
  where
    go : (b : Bool) → Rises (lists_past v ls) → Rises (cond b (l ∷ lists_past v ls) (lists_past v ls))
    go true k = (past_all (λ m. l.last < m.last) v ls r.0, k)
    go false k = k

pub past_short : (v : ℕ) (ls : List StoredList) → length (lists_past v ls) ≤ length ls
past_short v [] = omega arith
past_short v (l ∷ ls) = go (nat_lt v l.last) (past_short v ls)
  where
    go : (b : Bool) → length (lists_past v ls) ≤ length ls → length (cond b (l ∷ lists_past v ls) (lists_past v ls)) ≤ length (l ∷ ls)
    go true k = omega (arith, k)
    go false k = omega (arith, k)

-- a rowset for all up to its last version
pub replaced_is_tablet : (t : TabletView) (m : StoredList) → IsTablet t → IsListOf t.shape m.rowset → (room : ℕ) → IsTablet (record { shape = t.shape; lists = m ∷ lists_past m.last t.lists; room = room })
replaced_is_tablet t m i o room = record {
  rising = (past_above m.last t.lists, past_rises m.last t.lists i.rising);
  sorted = (o, past_all (λ x. IsListOf t.shape x.rowset) m.last t.lists i.sorted);
}
