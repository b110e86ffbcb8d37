-- The version of a partition counts the visible loads with a row there.
use Rattle.std.proofs.Common.{◌≡◌, ℕ, ◌+◌, Bool, true, false, cond, not, List, [], ◌∷◌, ◌++◌, Option, Some, None, map, filter, length, length-append, append-nil, refl, sym, ◌∙◌, ap, arith, subst}
use Rattle.std.proofs.lemmas.List.Elements.{filter-append}
use Rattle.std.specs.Prelude.{nat_eq}
use Rattle.std.specs.Option.{option_map}
use Rattle.dl_values.specs.declared.cell.Cell.{Cell}
use Rattle.partitions.specs.LayoutFaults.{with_part}
use Rattle.partitions.specs.Places.{AreInside}
use Rattle.front_defs.specs.declared.event.Event.{Event}
use Rattle.front_defs.specs.declared.event.Event.TheVariants as event
use Rattle.front_defs.specs.declared.event.PartAdded.{PartAdded}
use Rattle.front_defs.specs.declared.history.Entry.{Entry}
use Rattle.front_defs.specs.declared.catalogue.Table.{Table}
use Rattle.front_defs.specs.declared.txn.Txn.{Txn}
use Rattle.alter_core.specs.declared.job.JobInfo.{JobInfo}
use Rattle.front_defs.specs.Jobs.{job_at, jobs_of}
use Rattle.front_defs.specs.Catalogue.{finished_in, table_at, tables_of, last_table_of, new_table, part_added}
use Rattle.front_defs.specs.Transactions.{txn_at, txns_of}
use Rattle.front_defs.specs.Stored.{touches, touches_in, version_of, brought}
use Rattle.front_defs.specs.History.{happened}
use Rattle.front_defs.specs.Legal.{Legal}
use Rattle.front_laws.specs.Tidy.{Each, Happens}
use Rattle.front_laws.specs.Laws.{CountsIn, CountsLoads, visible_of, visible_with}
use Rattle.front_laws.proofs.Lists.{each_found, each_imp, each_snoc}
use Rattle.front_laws.proofs.Growing.{lies_stay}
use Rattle.front_laws.proofs.Stored.{Spread, spread_first, spread_step}
use Rattle.front_laws.proofs.Loading.{IsHeld, IsHeldBy, inside_more, same_number}
use Rattle.front_laws.proofs.Tidying.{due_found, finished_any, finished_number}
use Rattle.front_laws.proofs.Keeping.{found_map, found_without, part_number}
use Rattle.front_laws.proofs.Histories.{always_holds}
use Rattle.front_laws.proofs.Plans.{Good}

abbrev Rows : Type 0
Rows = List (List Cell)

one_more : (p : Rows → Bool) (xs : List Rows) (x : Rows) → length (filter p (xs ++ x ∷ [])) ≡ cond (p x) (length (filter p xs) + 1) (length (filter p xs))
one_more p xs x = ap length (filter-append p xs (x ∷ [])) ∙ go (p x)
  where
    go : (b : Bool) → length (filter p xs ++ cond b (x ∷ []) []) ≡ cond b (length (filter p xs) + 1) (length (filter p xs))
    go true = length-append (filter p xs) (x ∷ [])
    go false = ap length (append-nil (filter p xs))

made_counts : (table : ℕ) (y : Table) (bs : List Table) (loads : List Rows) (v : ℕ → ℕ) → CountsLoads (table_at table bs) loads v → CountsLoads (table_at table (bs ++ y ∷ [])) loads v
made_counts table y [] loads v h = go (nat_eq y.number table)
  where
    go : (c : Bool) → CountsLoads (cond c (Some y) None) loads v
    go true = (subst (Each (AreInside y.layout)) (sym h.0) tt, λ part. h.1 part ∙ ap (λ (l : List Rows). 1 + length (filter (touches y part) l)) (sym h.0))
    go false = h
made_counts table y (b ∷ bs) loads v h = go (nat_eq b.number table) h (made_counts table y bs loads v)
  where
    go : (c : Bool) → CountsLoads (cond c (Some b) (table_at table bs)) loads v → (CountsLoads (table_at table bs) loads v → CountsLoads (table_at table (bs ++ y ∷ [])) loads v) → CountsLoads (cond c (Some b) (table_at table (bs ++ y ∷ []))) loads v
    go true h k = h
    go false h k = k h

same_counts : (t : Table) (a : PartAdded) (part : ℕ) (loads : List Rows) → Each (AreInside t.layout) loads → filter (touches (record t { layout = with_part a.part t.layout }) part) loads ≡ filter (touches t part) loads
same_counts t a part [] e = refl
same_counts t a part (l ∷ ls) e =
    ap (λ (b : Bool). cond b (l ∷ filter (touches (record t { layout = with_part a.part t.layout }) part) ls) (filter (touches (record t { layout = with_part a.part t.layout }) part) ls)) (lies_stay t.layout a.part part l e.0) ∙ ap (λ (x : List Rows). cond (touches t part l) (l ∷ x) x) (same_counts t a part ls e.1)

part_counts : (a : PartAdded) (o : Option Table) (loads : List Rows) (v : ℕ → ℕ) → CountsLoads o loads v → CountsLoads (option_map (part_added a) o) loads v
part_counts a None loads v h = h
part_counts a (Some t) loads v h = elim (nat_eq t.number a.table) as (λ (c : Bool). CountsLoads (Some (cond c (record t { layout = with_part a.part t.layout }) t)) loads v) [
  | true ↦ (each_imp (AreInside t.layout) (AreInside (with_part a.part t.layout)) (λ l k. inside_more t.layout a.part l k) loads h.0, λ part. h.1 part ∙ ap (λ (x : List Rows). 1 + length x) (sym (same_counts t a part loads h.0)))
  | false ↦ h
]

dropped_counts : (table number : ℕ) (tables : List Table) (loads : List Rows) (v : ℕ → ℕ) → CountsLoads (table_at table tables) loads v → CountsLoads (table_at table (filter (λ b. not (nat_eq b.number number)) tables)) (cond (nat_eq number table) [] loads) (λ part. cond (nat_eq number table) 1 (v part))
dropped_counts table number tables loads v h = subst (λ (o : Option Table). CountsLoads o (cond (nat_eq number table) [] loads) (λ part. cond (nat_eq number table) 1 (v part))) (sym (found_without table number tables)) (go (nat_eq number table))
  where
    go : (c : Bool) → CountsLoads (cond c None (table_at table tables)) (cond c [] loads) (λ part. cond c 1 (v part))
    go true = (refl, λ part. refl)
    go false = h

abbrev load_list : Option Table → Bool → Txn → List Rows → List Rows
load_list None b u loads = loads
load_list (Some t) b u loads = cond b (loads ++ u.rows ∷ []) loads

counted_more : (p : Rows → Bool) (loads : List Rows) (x : Rows) (v : ℕ) → v ≡ 1 + length (filter p loads) → cond (p x) (v + 1) v ≡ 1 + length (filter p (loads ++ x ∷ []))
counted_more p loads x v h = let k = one_more p loads x in go (p x) refl k
  where
    go : (b : Bool) → p x ≡ b → length (filter p (loads ++ x ∷ [])) ≡ cond (p x) (length (filter p loads) + 1) (length (filter p loads)) → cond b (v + 1) v ≡ 1 + length (filter p (loads ++ x ∷ []))
    go true e k = let m : length (filter p (loads ++ x ∷ [])) ≡ length (filter p loads) + 1 = k ∙ ap (λ (c : Bool). cond c (length (filter p loads) + 1) (length (filter p loads))) e in omega (arith, m, h)
    go false e k = let m : length (filter p (loads ++ x ∷ [])) ≡ length (filter p loads) = k ∙ ap (λ (c : Bool). cond c (length (filter p loads) + 1) (length (filter p loads))) e in omega (arith, m, h)

load_counts : (o : Option Table) (u : Txn) (b : Bool) (loads : List Rows) (v : ℕ → ℕ) → (b ≡ true → IsHeldBy o u) → CountsLoads o loads v → CountsLoads o (load_list o b u loads) (λ part. cond (touches_in o part (cond b u.rows [])) (v part + 1) (v part))
load_counts None u b loads v i h = h
load_counts (Some t) u true loads v i h = (each_snoc (AreInside t.layout) loads u.rows h.0 (i refl).inside, λ part. counted_more (touches t part) loads u.rows (v part) (h.1 part))
load_counts (Some t) u false loads v i h = h

seen_list : (table : ℕ) (o : Option Table) (u : Txn) (loads : List Rows) → load_list o (nat_eq u.table table) u loads ≡ visible_with table o (Some u) loads
seen_list table None u loads = refl
seen_list table (Some t) u loads = refl

published : (table : ℕ) (tables : List Table) (loads : List Rows) (v : ℕ → ℕ) (txns : List Txn) (id : ℕ) (u : Txn) → txn_at id txns ≡ Some u → IsHeld tables u → CountsLoads (table_at table tables) loads v
    → CountsLoads (table_at table tables) (visible_with table (table_at table tables) (txn_at id txns) loads) (λ part. cond (touches_in (table_at table tables) part (brought table (txn_at id txns))) (v part + 1) (v part))
published table tables loads v txns id u found held h =
    subst (λ (o : Option Txn). CountsLoads (table_at table tables) (visible_with table (table_at table tables) o loads) (λ part. cond (touches_in (table_at table tables) part (brought table o)) (v part + 1) (v part))) (sym found)
    (subst (λ (l : List Rows). CountsLoads (table_at table tables) l (λ part. cond (touches_in (table_at table tables) part (cond (nat_eq u.table table) u.rows [])) (v part + 1) (v part))) (seen_list table (table_at table tables) u loads)
    (load_counts (table_at table tables) u (nat_eq u.table table) loads v (λ e. subst (λ (n : ℕ). IsHeldBy (table_at n tables) u) (same_number u table (nat_eq u.table table) refl e) held) h))

finished_counts : (o : Option JobInfo) (table : ℕ) (tables : List Table) (loads : List Rows) (v : ℕ → ℕ) → CountsLoads (table_at table tables) loads v → CountsLoads (table_at table (map (finished_in o) tables)) loads v
finished_counts o table tables loads v h = subst (λ (x : Option Table). CountsLoads x loads v) (sym (found_map (finished_in o) (finished_number o) table tables)) (go (table_at table tables) h)
  where
    go : (x : Option Table) → CountsLoads x loads v → CountsLoads (option_map (finished_in o) x) loads v
    go None k = k
    go (Some t) k = finished_any (λ (y : Table). Each (AreInside y.layout) loads × CountsIn y loads v) (λ rs y q. q) o t k

abbrev pub Counted : List Event → Type 0
Counted Es = (table : ℕ) → CountsLoads (table_at table (tables_of Es)) (visible_of Es table) (version_of Es table)

counted_step : (e : Event) (Es : List Event) → Good Es → Happens Es e → Spread Es → Counted Es → Counted (e ∷ Es)
counted_step (event.DbMade d) Es g h s p = p
counted_step (event.TableMade m) Es g h s p = λ table. made_counts table (new_table m (last_table_of Es + 1)) (tables_of Es) (visible_of Es table) (version_of Es table) (p table)
counted_step (event.RangeDrawn r) Es g h s p = p
counted_step (event.TxnBegun b) Es g h s p = p
counted_step (event.LoadSubmitted x) Es g h s p = p
counted_step (event.TxnAborted a) Es g h s p = p
counted_step (event.LoadPublished x) Es g h s p =
    let u : Txn = h.0 in
    let found = subst (λ (n : ℕ). txn_at n (txns_of Es) ≡ Some u) h.2 (due_found Es u g.tidy h.1) in
    let held = each_found (IsHeld (tables_of Es)) (λ t. nat_eq t.id x.txn) (txns_of Es) u s.held found in
    λ table. published table (tables_of Es) (visible_of Es table) (version_of Es table) (txns_of Es) x.txn u found held (p table)
counted_step (event.PartAdded a) Es g h s p = λ table. subst (λ (o : Option Table). CountsLoads o (visible_of Es table) (version_of Es table)) (sym (found_map (part_added a) (part_number a) table (tables_of Es))) (part_counts a (table_at table (tables_of Es)) (visible_of Es table) (version_of Es table) (p table))
counted_step (event.TableDropped d) Es g h s p = λ table. dropped_counts table d.table (tables_of Es) (visible_of Es table) (version_of Es table) (p table)
counted_step (event.LoadCommitted c) Es g h s p = p
counted_step (event.Swept x) Es g h s p = p
counted_step (event.SweptUntold x) Es g h s p = p
counted_step (event.Compacted c) Es g h s p = p
counted_step (event.JobAdded x) Es g h s p = p
counted_step (event.JobWaiting x) Es g h s p = p
counted_step (event.WatershedDrawn x) Es g h s p = p
counted_step (event.JobRan x) Es g h s p = p
counted_step (event.TaskTaken x) Es g h s p = p
counted_step (event.TaskGiven x) Es g h s p = p
counted_step (event.JobCancelled x) Es g h s p = p
counted_step (event.JobFinished x) Es g h s p = λ table. finished_counts (job_at x.job (jobs_of Es)) table (tables_of Es) (visible_of Es table) (version_of Es table) (p table)
counted_step (event.TxnEnded x) Es g h s p = p
counted_step event.Opened Es g h s p = p

pub versions_count : (H : List Entry) → Legal H → (table : ℕ) → CountsLoads (table_at table (tables_of (happened H))) (visible_of (happened H) table) (version_of (happened H) table)
versions_count H l = (always_holds (λ Es. Spread Es × Counted Es) (spread_first, λ table. (refl, λ part. refl)) (λ e Es g h p. (spread_step e Es g h p.0, counted_step e Es g h p.0 p.1)) H l).1
