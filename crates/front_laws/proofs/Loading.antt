-- What loads, compactions, drops and partitions do to the lists of a table.
use Rattle.std.proofs.Common.{◌≡◌, ℕ, zero, suc, ◌+◌, ◌≤◌, ◌<◌, Bool, true, false, cond, not, ◌&&◌, List, [], ◌∷◌, ◌++◌, Option, Some, None, IfSome, map, filter, take, drop, refl, sym, ◌∙◌, ap, arith, subst}
use Rattle.std.proofs.lemmas.Bool.Decides.{nat_tests}
use Rattle.std.proofs.lemmas.List.{map-append}
use Rattle.std.specs.Prelude.{nat_eq, nat_lt, is_some, MatchOption}
use Rattle.std.specs.Option.{option_map}
use Rattle.dl_values.specs.declared.cell.Cell.{Cell}
use Rattle.schema_models.specs.ShapeView.{ShapeView}
use Rattle.schema_models.specs.Folds.{fold_of}
use Rattle.front_defs.specs.Indexes.{Index, base_index, index_at}
use Rattle.row_map.specs.Maps.{Converts, rollup_map}
use Rattle.partitions.specs.LayoutView.{LayoutView}
use Rattle.partitions.specs.LayoutFaults.{with_part}
use Rattle.partitions.specs.LayoutRules.{IsLayout}
use Rattle.partitions.specs.declared.part_def.PartDef.{PartDef}
use Rattle.partitions.specs.Places.{AreInside, Place, is_at, lies_at, rows_at}
use Rattle.partitions.proofs.Places.{place_stays}
use Rattle.front_defs.specs.declared.event.LoadSubmitted.{LoadSubmitted}
use Rattle.front_defs.specs.declared.event.PartAdded.{PartAdded}
use Rattle.front_defs.specs.declared.catalogue.Table.{Table}
use Rattle.front_defs.specs.declared.txn.Txn.{Txn}
use Rattle.front_defs.specs.Catalogue.{table_at, part_added}
use Rattle.front_defs.specs.Transactions.{txn_at, changed, aborted_at, dropped, dropped_at, is_expired, is_over, sweep, swept_at}
use Rattle.front_defs.specs.Stored as stored
use Rattle.front_defs.specs.Stored.{AreRowsOf, StoredList, indexed, is_tablet_of, lists_to, switched, switched_to, whole_list, base_of, base_with, index_lists, list_at, fresh_of, compacted, compacted_in, is_tablet, last_of, one_of, lists_of, lists_in, lists_with, rows_in, stored_of, touches, touches_in, version_of, version_after, writes, brought}
use Rattle.front_defs.specs.Journal.{There}
use Rattle.front_laws.specs.Tidy.{Each}
use Rattle.front_laws.specs.Laws.{Chains, ChainsBy, TabletFolds, joined}
use Rattle.front_laws.proofs.Growing.{rows_stay}
use Rattle.front_laws.proofs.Lists.{each_filter, each_map, eq_is}
use Rattle.front_laws.proofs.Keeping.{found_map, found_without, made_apart, part_number}
use Rattle.front_laws.proofs.Folding.{left, fold_none, Holds, Admitted, no_lists, load_holds, none_holds, joined_append}

-- ---- what holds of every history

-- a live table holds, and of one that is not there nothing is stored
abbrev pub TableHolds : Option Table → List (List Cell) → (ℕ → Place → List StoredList) → Type 0
TableHolds None base lists = (base ≡ []) × ((index : ℕ) (w : Place) → lists index w ≡ [])
TableHolds (Some t) base lists = Holds t base lists

-- the rows of a load are inside the layout of its table, and a load of a table that is gone has none
abbrev pub IsHeldBy : Option Table → Txn → Type 0
IsHeldBy o u = MatchOption o (u.rows ≡ []) (λ b. AreRowsOf b.shape b.layout u.rows)

abbrev pub IsHeld : List Table → Txn → Type 0
IsHeld tables u = IsHeldBy (table_at u.table tables) u

pub chain_snoc : (from to : ℕ) (ls : List StoredList) (l : StoredList) → Chains from ls to → l.first ≡ to + 1 → l.first ≤ l.last → Chains from (ls ++ l ∷ []) l.last
chain_snoc from to [] l c f o = (f ∙ ap (λ (n : ℕ). n + 1) (sym c), o, refl)
chain_snoc from to (x ∷ xs) l c f o = (c.0, c.1, chain_snoc x.last to xs l c.2 f o)

pub load_chain : (o : Option Table) (w : Place) (v : ℕ) (lists : List StoredList) (rows : List (List Cell)) → ChainsBy o w lists v → ChainsBy o w (lists_with o 0 w (v + 1) lists rows) (cond (touches_in o w.part rows) (v + 1) v)
load_chain None w v lists rows c = c
load_chain (Some t) w v lists rows c = λ low. go (touches t w.part rows) (nat_lt w.bucket t.layout.buckets) (let k : nat_lt w.bucket t.layout.buckets ≡ true = grind (arith, nat_tests) in k) (c low)
  where
    go : (b n : Bool) → n ≡ true → Chains 1 lists v → Chains 1 (cond (b && n) (lists ++ list_at t (base_index t) w (v + 1) rows ∷ []) lists) (cond b (v + 1) v)
    go true true e k = chain_snoc 1 v lists (list_at t (base_index t) w (v + 1) rows) k refl (omega arith)
    go true false e k = absurd (cc)
    go false n e k = k

pub made_chain : (table : ℕ) (y : Table) (bs : List Table) (w : Place) (lists : List StoredList) (v : ℕ) → ChainsBy (table_at table bs) w lists v → ChainsBy (table_at table (bs ++ y ∷ [])) w lists v
made_chain table y [] w lists v h = go (nat_eq y.number table)
  where
    go : (c : Bool) → ChainsBy (cond c (Some y) None) w lists v
    go true = λ low. subst (λ (l : List StoredList). Chains 1 l v) (sym h.0) (sym h.1)
    go false = h
made_chain table y (b ∷ bs) w lists v h = go (nat_eq b.number table) h (made_chain table y bs w lists v)
  where
    go : (c : Bool) → ChainsBy (cond c (Some b) (table_at table bs)) w lists v → (ChainsBy (table_at table bs) w lists v → ChainsBy (table_at table (bs ++ y ∷ [])) w lists v) → ChainsBy (cond c (Some b) (table_at table (bs ++ y ∷ []))) w lists v
    go true h k = h
    go false h k = k h

pub part_chain : (a : PartAdded) (o : Option Table) (w : Place) (lists : List StoredList) (v : ℕ) → ChainsBy o w lists v → ChainsBy (option_map (part_added a) o) w lists v
part_chain a None w lists v h = h
part_chain a (Some t) w lists v h = elim (nat_eq t.number a.table) as (λ (c : Bool). w.bucket < (cond c (record t { layout = with_part a.part t.layout }) t).layout.buckets → Chains 1 lists v) [ true ↦ h | false ↦ h ]

pub dropped_chain : (table number : ℕ) (tables : List Table) (w : Place) (lists : List StoredList) (v : ℕ) → ChainsBy (table_at table tables) w lists v → ChainsBy (table_at table (filter (λ b. not (nat_eq b.number number)) tables)) w (cond (nat_eq number table) [] lists) (cond (nat_eq number table) 1 v)
dropped_chain table number tables w lists v h = subst (λ (o : Option Table). ChainsBy o w (cond (nat_eq number table) [] lists) (cond (nat_eq number table) 1 v)) (sym (found_without table number tables)) (go (nat_eq number table))
  where
    go : (c : Bool) → ChainsBy (cond c None (table_at table tables)) w (cond c [] lists) (cond c 1 v)
    go true = (refl, refl)
    go false = h

-- lists made one
pub one_folds : (s : ShapeView) (front rest : List StoredList) → fold_of s (joined (rows_in (one_of s front ++ rest))) ≡ fold_of s (joined (rows_in (front ++ rest)))
one_folds s [] rest = refl
one_folds s (l ∷ ls) rest =
    left s (joined (rows_in (l ∷ ls))) (joined (rows_in rest)) ∙ ap (fold_of s) (sym (joined_append (rows_in (l ∷ ls)) (rows_in rest)) ∙ ap joined (sym (map-append (λ (x : StoredList). x.rows) (l ∷ ls) rest)))

pub cut : (n : ℕ) (ls : List StoredList) → take n ls ++ drop n ls ≡ ls
cut zero ls = refl
cut (suc n) [] = refl
cut (suc n) (l ∷ ls) = ap (λ (x : List StoredList). l ∷ x) (cut n ls)

pub compact_tablet : (o : Option Index) (t : Table) (w : Place) (n : ℕ) (base : List (List Cell)) (lists : List StoredList) (b : Bool) → TabletFolds o t w base lists → TabletFolds o t w base (cond b (compacted_in o n lists) lists)
compact_tablet None t w n base lists true h = h
compact_tablet None t w n base lists false h = h
compact_tablet (Some x) t w n base lists true h = one_folds x.shape (take n lists) (drop n lists) ∙ ap (λ (l : List StoredList). fold_of x.shape (joined (rows_in l))) (cut n lists) ∙ h
compact_tablet (Some x) t w n base lists false h = h

pub compact_none : (b : Bool) (l : List StoredList) → l ≡ [] → cond b l l ≡ []
compact_none true l h = h
compact_none false l h = h

pub compact_holds : (o : Option Table) (n : ℕ) (which : ℕ → Place → Bool) (base : List (List Cell)) (lists : ℕ → Place → List StoredList) → TableHolds o base lists → TableHolds o base (λ index w. cond (which index w) (compacted o index n (lists index w)) (lists index w))
compact_holds None n which base lists h = (h.0, λ index w. compact_none (which index w) (lists index w) (h.1 index w))
compact_holds (Some t) n which base lists h = record { base_is = h.base_is; inside = h.inside; converts = h.converts; tablets = λ index w. compact_tablet (index_at index t) t w n base (lists index w) (which index w) (h.tablets index w) }

pub chain_skip : (a b to : ℕ) (ls rest : List StoredList) → a ≤ b → Chains b (ls ++ rest) to → (a ≤ last_of b ls) × Chains (last_of b ls) rest to
chain_skip a b to [] rest o c = (o, c)
chain_skip a b to (l ∷ ls) rest o c = chain_skip a l.last to ls rest (let f = c.0 in let g = c.1 in omega (arith, f, g, o)) c.2

pub chain_one : (s : ShapeView) (from to : ℕ) (front rest : List StoredList) → Chains from (front ++ rest) to → Chains from (one_of s front ++ rest) to
chain_one s from to [] rest c = c
chain_one s from to (l ∷ ls) rest c = let k = chain_skip l.first l.last to ls rest c.1 c.2 in (c.0, k.0, k.1)

pub compact_chain : (o : Option Table) (w : Place) (n : ℕ) (b : Bool) (lists : List StoredList) (v : ℕ) → ChainsBy o w lists v → ChainsBy o w (cond b (compacted o 0 n lists) lists) v
compact_chain None w n b lists v h = (compact_none b lists h.0, h.1)
compact_chain (Some t) w n true lists v h = λ low. chain_one t.shape 1 v (take n lists) (drop n lists) (subst (λ (l : List StoredList). Chains 1 l v) (sym (cut n lists)) (h low))
compact_chain (Some t) w n false lists v h = h

pub held_none : (tables : List Table) (u : Txn) → u.rows ≡ [] → IsHeld tables u
held_none tables u e = go (table_at u.table tables)
  where
    go : (o : Option Table) → IsHeldBy o u
    go None = e
    go (Some b) = subst (AreRowsOf b.shape b.layout) (sym e) (record { shaped = tt; inside = tt })

pub ended_held : (tables : List Table) (id : ℕ) (f : Txn → Txn) → ((u : Txn) → (f u).rows ≡ []) → (ts : List Txn) → Each (IsHeld tables) ts → Each (IsHeld tables) (map (changed id f) ts)
ended_held tables id f none ts e = each_map (IsHeld tables) (IsHeld tables) (changed id f) (λ u h. elim (nat_eq u.id id) as (λ b. IsHeld tables (cond b (f u) u)) [ true ↦ held_none tables (f u) (none u) | false ↦ h ]) ts e

-- another table is made
pub held_later : (last : ℕ) (y : Table) (tables : List Table) (u : Txn) → y.number ≡ last + 1 → u.table ≤ last → IsHeld tables u → IsHeld (tables ++ y ∷ []) u
held_later last y tables u n k h =
    let e : nat_eq y.number u.table ≡ false = grind (arith, nat_tests) in
    subst (λ (o : Option Table). IsHeldBy o u) (sym (made_apart u.table y tables e)) h

-- a partition is added
pub inside_more : (l : LayoutView) (p : PartDef) (rows : List (List Cell)) → AreInside l rows → AreInside (with_part p l) rows
inside_more l p [] a = tt
inside_more l p (r ∷ rs) a = (ap is_some (place_stays l p r a.0) ∙ a.0, inside_more l p rs a.1)

pub part_holds : (p : PartDef) (t : Table) (base : List (List Cell)) (lists : ℕ → Place → List StoredList) → Holds t base lists → Holds (record t { layout = with_part p t.layout }) base lists
part_holds p t base lists h = record { base_is = h.base_is; inside = inside_more t.layout p base h.inside; converts = h.converts; tablets = λ index w. of (index_at index t) w (lists index w) (h.tablets index w) }
  where
    of : (o : Option Index) (w : Place) (l : List StoredList) → TabletFolds o t w base l → TabletFolds o (record t { layout = with_part p t.layout }) w base l
    of None w l k = k
    of (Some x) w l k = k ∙ ap (indexed x) (sym (rows_stay t.layout p w base h.inside))

pub part_table : (a : PartAdded) (o : Option Table) (base : List (List Cell)) (lists : ℕ → Place → List StoredList) → TableHolds o base lists → TableHolds (option_map (part_added a) o) base lists
part_table a None base lists h = h
part_table a (Some t) base lists h = elim (nat_eq t.number a.table) as (λ (c : Bool). Holds (cond c (record t { layout = with_part a.part t.layout }) t) base lists) [ true ↦ part_holds a.part t base lists h | false ↦ h ]

pub part_held : (a : PartAdded) (tables : List Table) (u : Txn) → IsHeld tables u → IsHeld (map (part_added a) tables) u
part_held a tables u h = subst (λ (o : Option Table). IsHeldBy o u) (sym (found_map (part_added a) (part_number a) u.table tables)) (go (table_at u.table tables) h)
  where
    go : (o : Option Table) → IsHeldBy o u → IsHeldBy (option_map (part_added a) o) u
    go None k = k
    go (Some b) k = elim (nat_eq b.number a.table) as (λ (c : Bool). AreRowsOf (cond c (record b { layout = with_part a.part b.layout }) b).shape (cond c (record b { layout = with_part a.part b.layout }) b).layout u.rows) [ true ↦ record { shaped = k.shaped; inside = inside_more b.layout a.part u.rows k.inside } | false ↦ k ]

-- a table is dropped
pub dropped_held : (table at : ℕ) (tables : List Table) (u : Txn) → IsHeld tables u → IsHeld (filter (λ b. not (nat_eq b.number table)) tables) (dropped table at u)
dropped_held table at tables u h = go (nat_eq u.table table) refl
  where
    stays : (c : Bool) → nat_eq table u.table ≡ c → nat_eq u.table table ≡ false → IsHeldBy (cond c None (table_at u.table tables)) u
    stays true e i = absurd (let j = eq_is table u.table e in let z : nat_eq u.table table ≡ true = grind (arith, nat_tests) in cc (z, i))
    stays false e i = h

    go : (c : Bool) → nat_eq u.table table ≡ c → IsHeld (filter (λ b. not (nat_eq b.number table)) tables) (cond c (dropped_at at u) u)
    go true e = held_none (filter (λ b. not (nat_eq b.number table)) tables) (dropped_at at u) refl
    go false e = subst (λ (o : Option Table). IsHeldBy o u) (sym (found_without u.table table tables)) (stays (nat_eq table u.table) refl e)

pub dropped_table : (table number : ℕ) (tables : List Table) (base : List (List Cell)) (lists : ℕ → Place → List StoredList) → TableHolds (table_at table tables) base lists
    → TableHolds (table_at table (filter (λ b. not (nat_eq b.number number)) tables)) (cond (nat_eq number table) [] base) (λ index w. cond (nat_eq number table) [] (lists index w))
dropped_table table number tables base lists h = subst (λ (o : Option Table). TableHolds o (cond (nat_eq number table) [] base) (λ index w. cond (nat_eq number table) [] (lists index w))) (sym (found_without table number tables)) (go (nat_eq number table))
  where
    go : (c : Bool) → TableHolds (cond c None (table_at table tables)) (cond c [] base) (λ index w. cond c [] (lists index w))
    go true = (refl, λ index w. refl)
    go false = h

-- a sweep
pub swept_held : (tables : List Table) (at : ℕ) (ts : List Txn) → Each (IsHeld tables) ts → Each (IsHeld tables) (sweep at ts)
swept_held tables at ts e =
    each_map (IsHeld tables) (IsHeld tables) (swept_at at) (λ u h. elim (is_expired at u) as (λ b. IsHeld tables (cond b (aborted_at at u) u)) [ true ↦ held_none tables (aborted_at at u) refl | false ↦ h ]) (filter (λ t. not (is_over at t)) ts)
    (each_filter (IsHeld tables) (λ t. not (is_over at t)) ts e)

pub empty_holds : (y : Table) (base : List (List Cell)) (lists : ℕ → Place → List StoredList) → base ≡ [] → ((index : ℕ) (w : Place) → lists index w ≡ []) → Holds y base lists
empty_holds y base lists b l = record {
  base_is = b ∙ sym (ap (fold_of y.shape) b ∙ fold_none y.shape);
  inside = subst (AreInside y.layout) (sym b) tt;
  converts = λ names a. subst (Converts (rollup_map y.shape names)) (sym b) tt;
  tablets = λ index w. subst (λ (x : List StoredList). TabletFolds (index_at index y) y w base x) (sym (l index w)) (subst (λ (x : List (List Cell)). TabletFolds (index_at index y) y w x []) (sym b) (no_lists y index w (index_at index y)));
}

pub made_holds : (table : ℕ) (y : Table) (bs : List Table) (base : List (List Cell)) (lists : ℕ → Place → List StoredList) → TableHolds (table_at table bs) base lists → TableHolds (table_at table (bs ++ y ∷ [])) base lists
made_holds table y [] base lists h = go (nat_eq y.number table)
  where
    go : (c : Bool) → TableHolds (cond c (Some y) None) base lists
    go true = empty_holds y base lists h.0 h.1
    go false = h
made_holds table y (b ∷ bs) base lists h = go (nat_eq b.number table) h (made_holds table y bs base lists)
  where
    go : (c : Bool) → TableHolds (cond c (Some b) (table_at table bs)) base lists → (TableHolds (table_at table bs) base lists → TableHolds (table_at table (bs ++ y ∷ [])) base lists) → TableHolds (cond c (Some b) (table_at table (bs ++ y ∷ []))) base lists
    go true h k = h
    go false h k = k h

-- a load becomes visible: of this table, or of another
-- a valid layout, and admitted rollups
abbrev pub IsSturdy : Table → Type 0
IsSturdy t = IsLayout t.shape t.layout × Admitted t

pub of_table : (table : ℕ) (o : Option Table) (base : List (List Cell)) (version : ℕ → ℕ) (lists : ℕ → Place → List StoredList) (u : Txn) (same : Bool) → nat_eq u.table table ≡ same → IfSome o IsSturdy → (same ≡ true → IsHeldBy o u) → TableHolds o base lists
    → TableHolds o (cond same (stored.folded o (base ++ u.rows)) base) (λ index w. lists_with o index w (version w.part) (lists index w) (cond same u.rows []))
of_table table None base version lists u true e v i h = (ap (λ (b : List (List Cell)). b ++ u.rows) h.0 ∙ i refl, h.1)
of_table table None base version lists u false e v i h = h
of_table table (Some t) base version lists u true e v i h = load_holds t base u.rows version lists v.0 v.1 (i refl) h
of_table table (Some t) base version lists u false e v i h = none_holds t base version lists h

pub each_in : (P : Table → Type 0) (table : ℕ) (ts : List Table) → Each P ts → IfSome (table_at table ts) P
each_in P table [] e = tt
each_in P table (t ∷ ts) e = go (nat_eq t.number table) (each_in P table ts e.1)
  where
    go : (c : Bool) → IfSome (table_at table ts) P → IfSome (cond c (Some t) (table_at table ts)) P
    go true k = e.0
    go false k = k

pub same_number : (u : Txn) (table : ℕ) (b : Bool) → nat_eq u.table table ≡ b → b ≡ true → u.table ≡ table
same_number u table b e t = let z : nat_eq u.table table ≡ true = e ∙ t in grind (arith, nat_tests)

pub published : (table : ℕ) (tables : List Table) (base : List (List Cell)) (version : ℕ → ℕ) (lists : ℕ → Place → List StoredList) (txns : List Txn) (id : ℕ) (u : Txn) → txn_at id txns ≡ Some u → Each IsSturdy tables → IsHeld tables u
    → TableHolds (table_at table tables) base lists → TableHolds (table_at table tables) (base_with table (table_at table tables) base (txn_at id txns)) (λ index w. lists_with (table_at table tables) index w (version w.part) (lists index w) (brought table (txn_at id txns)))
published table tables base version lists txns id u found sturdy held h =
    subst (λ (o : Option Txn). TableHolds (table_at table tables) (base_with table (table_at table tables) base o) (λ index w. lists_with (table_at table tables) index w (version w.part) (lists index w) (brought table o))) (sym found)
    (of_table table (table_at table tables) base version lists u (nat_eq u.table table) refl (each_in IsSturdy table tables sturdy)
    (λ e. subst (λ (n : ℕ). IsHeldBy (table_at n tables) u) (same_number u table (nat_eq u.table table) refl e) held) h)

pub rows_held : (o : Option Table) (s : LoadSubmitted) (u : Txn) → u.rows ≡ s.rows → There o (λ b. (b.schema ≡ s.schema) × AreRowsOf b.shape b.layout s.rows) → IsHeldBy o u
rows_held None s u e h = absurd h
rows_held (Some b) s u e h = subst (AreRowsOf b.shape b.layout) (sym e) h.1
