-- The rowsets of the tablets of a base, gathered by partition and bucket.
use Rattle.std.proofs.Common.{◌≡◌, ℕ, zero, suc, ◌+◌, ◌<◌, Bool, true, false, cond, List, [], ◌∷◌, ◌++◌, get_or, length, Option, Some, None, Result, Ok, Err, IfOk, map, replicate, refl, sym, ◌∙◌, ap, arith, append_assoc, nat_eq}
use Rattle.std.proofs.lemmas.Bool.Decides.{nat_tests}
use Rattle.std.proofs.lemmas.List.{append-nil, map-append, map-id}
use Rattle.std.proofs.lemmas.List.Concat.{flat_map-append}
use Rattle.std.proofs.lemmas.List.FromFn.{map-range_with_len_more}
use Rattle.std.specs.List.{flat_map, range_with_len}
use Rattle.std.specs.Prelude.{MatchOption, option_and_then, slice_get}
use Rattle.front_defs.specs.Stands.{IndexTablets, index_for, lists_by}
use Rattle.front_defs.specs.Stored.{StoredList, rows_in}
use Rattle.partitions.specs.LayoutView.{LayoutView}
use Rattle.partitions.specs.Places.{Place, buckets_at}
use Rattle.rowsets.specs.RowsetView.{RowsetView, rowset_rows}
use Rattle.schema_models.specs.ShapeView.{ShapeView}
use Rattle.tablets.specs.SetView.{IndexView, OnTablet, SetView, empty_index, empty_part, empty_tablet, index_at, tablet_at, tablet_in, tablet_of}
use Rattle.tablets.specs.TabletView as tablets
use Rattle.tablets.specs.TabletView.{IsPast, TabletView, is_to, lists_to}
use Rattle.front_state.specs.Tablets.{empty_tablets, index_seen, indexes_seen, list_seen, nothing_stored, part_seen, table_seen, tablet_seen}
use Rattle.front_state.specs.declared.stored_table.StoredTable.{StoredTable}

-- tablets without a rowset

map_replicate : {X Y : Type 0} (f : X → Y) (n : ℕ) (x : X) → map f (replicate n x) ≡ replicate n (f x)
map_replicate f zero x = refl
map_replicate f (suc n) x = ap (λ ys. f x ∷ ys) (map_replicate f n x)

empty_seen : (shape : ShapeView) (parts buckets : ℕ) → indexes_seen (record { indexes = empty_index 0 None shape parts buckets ∷ []; parts = parts; buckets = buckets }) ≡ record { number = 0; parts = replicate parts (replicate buckets []) } ∷ []
empty_seen shape parts buckets =
    ap (λ (ps : List (List (List StoredList))). record { number = 0; parts = ps } ∷ [])
    (map_replicate part_seen parts (empty_part shape buckets) ∙ ap (λ (ts : List (List StoredList)). replicate parts ts) (map_replicate tablet_seen buckets (empty_tablet shape)))

pub nothing_seen : (table parts buckets : ℕ) (l : LayoutView) (shape : ShapeView) (k : StoredTable) → k.table ≡ table → k.versions.items ≡ replicate parts 1 → k.set ≡ record { indexes = empty_index 0 None shape parts buckets ∷ []; parts = parts; buckets = buckets } → parts ≡ length l.parts → buckets ≡ l.buckets → table_seen k ≡ empty_tablets table l
nothing_seen table parts buckets l shape k t v s p b =
    ap (λ (vs : List ℕ). record { table = k.table; versions = vs; indexes = indexes_seen k.set }) v
    ∙ (ap (λ (is : List IndexTablets). record { table = k.table; versions = replicate parts 1; indexes = is }) (ap (λ (w : SetView). indexes_seen w) s ∙ empty_seen shape parts buckets)
    ∙ (ap (λ (n : ℕ). nothing_stored n parts buckets) t
    ∙ (ap (λ (n : ℕ). nothing_stored table n buckets) p ∙ ap (λ (n : ℕ). nothing_stored table (length l.parts) n) b)))

-- the lists of one tablet

in_part : (bucket : ℕ) (ts : List TabletView) (t : TabletView) → slice_get ts bucket ≡ Some t → get_or (part_seen ts) bucket [] ≡ tablet_seen t
in_part bucket [] t e = absurd (cc)
in_part zero (x ∷ ts) t e = let s : x ≡ t = cc in ap (λ (y : TabletView). tablet_seen y) s
in_part (suc bucket) (x ∷ ts) t e = in_part bucket ts t e

in_parts : (part bucket : ℕ) (ps : List (List TabletView)) (t : TabletView) → tablet_in part bucket ps ≡ Some t → get_or (get_or (map part_seen ps) part []) bucket [] ≡ tablet_seen t
in_parts part bucket [] t e = absurd (cc)
in_parts zero bucket (ts ∷ ps) t e = in_part bucket ts t e
in_parts (suc part) bucket (ts ∷ ps) t e = in_parts part bucket ps t e

lists_seen : (part bucket : ℕ) (is : List IndexView) (t : TabletView) → tablet_of 0 part bucket is ≡ Some t → lists_by (record { part = part; bucket = bucket }) (index_for 0 (map index_seen is)) ≡ tablet_seen t
lists_seen part bucket [] t e = absurd (cc)
lists_seen part bucket (i ∷ is) t e = go (nat_eq i.number 0) e (lists_seen part bucket is t)
  where
    go : (b : Bool) → option_and_then (λ x. tablet_in part bucket x.parts) (cond b (Some i) (index_at 0 is)) ≡ Some t → (tablet_of 0 part bucket is ≡ Some t → lists_by (record { part = part; bucket = bucket }) (index_for 0 (map index_seen is)) ≡ tablet_seen t) → lists_by (record { part = part; bucket = bucket }) (cond b (Some (index_seen i)) (index_for 0 (map index_seen is))) ≡ tablet_seen t
    go true k r = in_parts part bucket i.parts t k
    go false k r = r k

-- no list is behind a version that is above all
all_to : (version next : ℕ) (lists : List tablets.StoredList) → next ≡ version + 1 → IsPast next lists → lists_to version lists ≡ lists
all_to version next [] n h = refl
all_to version next (l ∷ ls) n h =
    let below : l.last < next = h.0 in
    let e : is_to version l ≡ true = (let k : l.last < version + 1 = omega (arith, n, below) in grind (arith, nat_tests)) in
    rw e (ap (λ ys. l ∷ ys) (all_to version next ls n h.1))

map_map : {X Y Z : Type 0} (g : Y → Z) (f : X → Y) (xs : List X) → map g (map f xs) ≡ map (λ x. g (f x)) xs
map_map g f [] = refl
map_map g f (x ∷ xs) = ap (λ ys. g (f x) ∷ ys) (map_map g f xs)

rows_seen : (lists : List tablets.StoredList) → map rowset_rows (map (λ (l : tablets.StoredList). l.rowset) lists) ≡ rows_in (map list_seen lists)
rows_seen [] = refl
rows_seen (l ∷ ls) = ap (λ ys. rowset_rows l.rowset ∷ ys) (rows_seen ls)

pub tablet_shared : {A : Type 0} (value : A → RowsetView) (all : List A) (s : SetView) (part bucket version next : ℕ) → next ≡ version + 1 → OnTablet s 0 part bucket (λ t. IsPast next t.lists) → OnTablet s 0 part bucket (λ t. map value all ≡ map (λ (l : tablets.StoredList). l.rowset) (lists_to version t.lists)) → map (λ x. rowset_rows (value x)) all ≡ rows_in (lists_by (record { part = part; bucket = bucket }) (index_for 0 (indexes_seen s)))
tablet_shared {A} value all s part bucket version next n past same = go (tablet_at s 0 part bucket) refl past same
  where
    go : (o : Option TabletView) → tablet_at s 0 part bucket ≡ o → MatchOption o ⊥ (λ t. IsPast next t.lists) → MatchOption o ⊥ (λ t. map value all ≡ map (λ (l : tablets.StoredList). l.rowset) (lists_to version t.lists)) → map (λ x. rowset_rows (value x)) all ≡ rows_in (lists_by (record { part = part; bucket = bucket }) (index_for 0 (indexes_seen s)))
    go None e p h = absurd p
    go (Some t) e p h =
        sym (map_map rowset_rows value all)
        ∙ (ap (λ (ys : List RowsetView). map rowset_rows ys) (h ∙ ap (λ (ls : List tablets.StoredList). map (λ (l : tablets.StoredList). l.rowset) ls) (all_to version next t.lists n p))
        ∙ (rows_seen t.lists ∙ ap (λ (ls : List StoredList). rows_in ls) (sym (lists_seen part bucket s.indexes t e))))

-- a test that tells of a tablet, where it is passed
pub on_tested : (s : SetView) (index part bucket : ℕ) (P : TabletView → Type 0) (b : Bool) → OnTablet s index part bucket (λ t. (b ≡ true → P t) × (P t → b ≡ true)) → b ≡ true → OnTablet s index part bucket P
on_tested s index part bucket P b h e = go (tablet_at s index part bucket) h
  where
    go : (o : Option TabletView) → MatchOption o ⊥ (λ t. (b ≡ true → P t) × (P t → b ≡ true)) → MatchOption o ⊥ P
    go None k = k
    go (Some t) k = k.0 e

pub if_ok : {A E : Type 0} (r : Result A E) (P Q : A → Type 0) → ((x : A) → P x → Q x) → IfOk r P → IfOk r Q
if_ok (Ok x) P Q f h = f x h
if_ok (Err e) P Q f h = tt

-- one bucket, and one partition more

pub bucket_more : {X Y : Type 0} (v : X → Y) (f : Place → List Y) (part n : ℕ) (now next more : List X) (old : List Y) → map v now ≡ old ++ flat_map f (buckets_at n part) → next ≡ now ++ more → map v more ≡ f (record { part = part; bucket = n }) → map v next ≡ old ++ flat_map f (buckets_at (n + 1) part)
bucket_more v f part n now next more old h is e =
    let w : ℕ → Place = λ b. record { part = part; bucket = b } in
    ap (map v) is ∙ (map-append v now more
    ∙ (ap (λ (ys : List _). ys ++ map v more) h
    ∙ (append_assoc old (flat_map f (buckets_at n part)) (map v more)
    ∙ ap (λ (ys : List _). old ++ ys)
    (ap (λ (ys : List _). flat_map f (buckets_at n part) ++ ys) (e ∙ sym (one f (w n)))
    ∙ (sym (flat_map-append f (buckets_at n part) (w n ∷ [])) ∙ ap (λ (ws : List Place). flat_map f ws) (sym (map-range_with_len_more w 0 n n (omega arith))))))))
  where
    one : {Y : Type 0} (f : Place → List Y) (w : Place) → flat_map f (w ∷ []) ≡ f w
    one f w = append-nil (f w)

pub part_more : {Y : Type 0} (f : Place → List Y) (buckets n : ℕ) (now next : List Y) → now ≡ flat_map f (flat_map (buckets_at buckets) (range_with_len 0 n)) → next ≡ now ++ flat_map f (buckets_at buckets n) → next ≡ flat_map f (flat_map (buckets_at buckets) (range_with_len 0 (n + 1)))
part_more f buckets n now next h is =
    is ∙ (ap (λ (ys : List _). ys ++ flat_map f (buckets_at buckets n)) h
    ∙ (sym (flat_map-append f (flat_map (buckets_at buckets) (range_with_len 0 n)) (buckets_at buckets n))
    ∙ ap (λ (ws : List Place). flat_map f ws) (sym (ap (λ (ns : List ℕ). flat_map (buckets_at buckets) ns) (range_more n) ∙ (flat_map-append (buckets_at buckets) (range_with_len 0 n) (n ∷ []) ∙ ap (λ (ws : List Place). flat_map (buckets_at buckets) (range_with_len 0 n) ++ ws) (append-nil (buckets_at buckets n)))))))
  where
    range_more : (n : ℕ) → range_with_len 0 (n + 1) ≡ range_with_len 0 n ++ n ∷ []
    range_more n = sym (map-id (range_with_len 0 (n + 1))) ∙ (map-range_with_len_more (λ (k : ℕ). k) 0 n n (omega arith) ∙ ap (λ (ns : List ℕ). ns ++ n ∷ []) (map-id (range_with_len 0 n)))
