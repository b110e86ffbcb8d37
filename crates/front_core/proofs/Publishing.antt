-- A load becomes visible: what its tablets got is stored.
use Rattle.std.proofs.Common.{◌≡◌, ℕ, zero, suc, ◌+◌, Bool, true, false, cond, not, ◌&&◌, ◌||◌, List, [], ◌∷◌, ◌++◌, Option, Some, None, MatchOption, map, refl, sym, ◌∙◌, ap, arith, subst, nat_eq}
use Rattle.std.proofs.lemmas.Bool.Decides.{nat_tests}
use Rattle.std.specs.Prelude.{is_some, nat_lt}
use Rattle.std.specs.List.{AllByRecursion}
use Rattle.dl_values.specs.declared.cell.Cell.{Cell}
use Rattle.schema_models.specs.ShapeView.{ShapeView}
use Rattle.partitions.specs.LayoutFaults.{are_buckets}
use Rattle.partitions.specs.LayoutRules.{IsLayout}
use Rattle.partitions.specs.LayoutView.{LayoutView}
use Rattle.partitions.specs.Places.{Place}
use Rattle.labels.specs.declared.txn_state.TxnState.TheVariants as state
use Rattle.alter_core.specs.declared.job.JobInfo.{JobInfo}
use Rattle.front_defs.specs.declared.event.Event.{Event}
use Rattle.front_defs.specs.declared.catalogue.Table.{Table}
use Rattle.front_defs.specs.declared.txn.Txn.{Txn}
use Rattle.front_defs.specs.declared.command.Command.TheVariants as command
use Rattle.front_defs.specs.Catalogue.{table_at, tables_of}
use Rattle.front_defs.specs.Indexes.{Index, base_index, first_new, index_at}
use Rattle.front_defs.specs.Jobs.{jobs_of}
use Rattle.front_defs.specs.Stands.{HasGrid, HasIndex, TableTablets, View, StandsOpen, lists_for, stored_for, version_for, waiting_for}
use Rattle.front_defs.specs.Stored.{PlacedRows, StoredList, brought, lists_of, lists_in, lists_to, lists_with, same_place, set_at, set_for, sets_of, touches, touches_in, version_of, waiting_by, waiting_in, writes}
use Rattle.front_defs.specs.Transactions.{is_committed, has_lower, place_of, txn_at, due, txns_of, changed}
use Rattle.front_laws.specs.Tidy.{Each, Tidy}
use Rattle.front_laws.proofs.Lists.{at_found, each_found, eq_is}
use Rattle.front_laws.proofs.Sets.{set_found}
use Rattle.front_state.specs.Catalogued.{IsPlainTable}
use Rattle.front_state.specs.Parts.{ended_at}
use Rattle.front_core.specs.Parts.{IsFront, IsPublished, StoresSets}
use Rattle.front_state.specs.Tablets.{Stores, is_touched, set_lists, with_sets}
use Rattle.front_core.proofs.Alters.{no_jobs, stands_so}
use Rattle.front_core.proofs.Going.{Acts}
use Rattle.front_core.proofs.Loads.{waiting_ended}
use Rattle.front_core.proofs.Taking.{no_index}

abbrev is_due : List Txn → Txn → Bool
is_due txns t = is_committed t.state && not (has_lower txns (place_of t))

-- ---- what a load adds, by what waits of it
-- the tablets that it writes are those for which something waits
record Gets (t : Table) (rows : List (List Cell)) (sets : List PlacedRows) : Type 0 where
  pub gets : (w : Place) → set_for w sets ≡ cond (writes t w rows) (Some (set_at t.layout (base_index t) rows w)) None

gets_of : (t : Table) (rows : List (List Cell)) (sets : List PlacedRows) → IsLayout t.shape t.layout → sets ≡ sets_of t.layout (base_index t) rows → Gets t rows sets
gets_of t rows sets v e = record { gets = λ w. ap (set_for w) e ∙ set_found t.shape t.layout (base_index t) v rows w }

no_lists : (b : Bool) (lists : List StoredList) → cond b lists lists ≡ lists
no_lists true lists = refl
no_lists false lists = refl

-- the lists of a tablet of an index that is not there stay
other_index : (t : Table) (n : ℕ) (w : Place) (version : ℕ) (lists : List StoredList) (rows : List (List Cell)) → t.rollups ≡ [] → lists_to t (index_at (suc n) t) w version lists rows ≡ lists
other_index t n w version lists rows e = ap (λ (o : Option Index). lists_to t o w version lists rows) (no_index n t e) ∙ no_lists (writes t w rows) lists

-- the lists of the tablets of the base get those that wait
base_written : (t : Table) (w : Place) (version : ℕ) (lists : List StoredList) (rows : List (List Cell)) (b : Bool) → set_lists (cond b (Some (set_at t.layout (base_index t) rows w)) None) version lists ≡ cond b (lists_in (Some (base_index t)) t w version rows lists) lists
base_written t w version lists rows true = refl
base_written t w version lists rows false = refl

written : (t : Table) (index : ℕ) (w : Place) (sets : List PlacedRows) (version : ℕ) (lists : List StoredList) (rows : List (List Cell)) → Gets t rows sets → t.rollups ≡ [] → with_sets sets version index w lists ≡ lists_to t (index_at index t) w version lists rows
written t zero w sets version lists rows g e = ap (λ (o : Option PlacedRows). set_lists o version lists) (g.gets w) ∙ base_written t w version lists rows (writes t w rows)
written t (suc n) w sets version lists rows g e = sym (other_index t n w version lists rows e)

-- ---- the versions of its table
some_buckets : (s : ShapeView) (l : LayoutView) → IsLayout s l → nat_lt 0 l.buckets ≡ true
some_buckets s l v = go l.buckets v.buckets
  where
    go : (n : ℕ) → are_buckets n ≡ true → nat_lt 0 n ≡ true
    go zero e = absurd (cc)
    go (suc n) e = grind (arith, nat_tests)

touched : (a b : Bool) → b ≡ true → (a && b) ≡ a
touched true b e = e
touched false b e = refl

-- whether a load has a row in a partition, by its first bucket
writes_first : (t : Table) (part : ℕ) (rows : List (List Cell)) → IsLayout t.shape t.layout → writes t (record { part = part; bucket = 0 }) rows ≡ touches t part rows
writes_first t part rows v = touched (touches t part rows) (nat_lt 0 t.layout.buckets) (some_buckets t.shape t.layout v)

-- a load has a list for a tablet of a partition where it has one for its first bucket
found_step : (w : Place) (s : PlacedRows) (sets : List PlacedRows) (a b : Bool) → (is_some (set_for w sets) ≡ true → is_touched w.part sets ≡ true) → is_some (cond (a && b) (Some s) (set_for w sets)) ≡ true → (a || is_touched w.part sets) ≡ true
found_step w s sets true b f k = refl
found_step w s sets false b f k = f k

is_found : (w : Place) (sets : List PlacedRows) → is_some (set_for w sets) ≡ true → is_touched w.part sets ≡ true
is_found w [] h = absurd (cc)
is_found w (s ∷ sets) h = found_step w s sets (nat_eq s.place.part w.part) (nat_eq s.place.bucket w.bucket) (is_found w sets) h

same_self : (w : Place) → same_place w w ≡ true
same_self w = let a : nat_eq w.part w.part ≡ true = grind (arith, nat_tests) in let b : nat_eq w.bucket w.bucket ≡ true = grind (arith, nat_tests) in rw (a, b) refl

-- and a list that it has is found under its place
record Holder (part : ℕ) (sets : List PlacedRows) : Type 0 where
  at : Place
  in_part : at.part ≡ part
  there : is_some (set_for at sets) ≡ true

held_later : (part : ℕ) (s : PlacedRows) (sets : List PlacedRows) → Holder part sets → Holder part (s ∷ sets)
held_later part s sets h = record { at = h.at; in_part = h.in_part; there = go (same_place h.at s.place) }
  where
    go : (b : Bool) → is_some (cond b (Some s) (set_for h.at sets)) ≡ true
    go true = refl
    go false = h.there

holder_step : (part : ℕ) (s : PlacedRows) (sets : List PlacedRows) (b : Bool) → nat_eq s.place.part part ≡ b → (is_touched part sets ≡ true → Holder part sets) → (b || is_touched part sets) ≡ true → Holder part (s ∷ sets)
holder_step part s sets true e f k = record { at = s.place; in_part = eq_is s.place.part part e; there = let z = same_self s.place in rw z refl }
holder_step part s sets false e f k = held_later part s sets (f k)

holder : (part : ℕ) (sets : List PlacedRows) → is_touched part sets ≡ true → Holder part sets
holder part [] h = absurd (cc)
holder part (s ∷ sets) h = holder_step part s sets (nat_eq s.place.part part) refl (holder part sets) h

some_written : (b : Bool) (x : PlacedRows) → is_some (cond b (Some x) None) ≡ b
some_written true x = refl
some_written false x = refl

and_first : (a b : Bool) → (a && b) ≡ true → a ≡ true
and_first true b h = refl
and_first false b h = absurd (cc)

by_both : (a b : Bool) → (a ≡ true → b ≡ true) → (b ≡ true → a ≡ true) → a ≡ b
by_both true true f g = refl
by_both true false f g = sym (f refl)
by_both false true f g = g refl
by_both false false f g = refl

all_touched : (t : Table) (part : ℕ) (sets : List PlacedRows) (rows : List (List Cell)) → IsLayout t.shape t.layout → Gets t rows sets → is_touched part sets ≡ touches t part rows
all_touched t part sets rows v g = by_both (is_touched part sets) (touches t part rows) there back
  where
    there : is_touched part sets ≡ true → touches t part rows ≡ true
    there h =
        let k = holder part sets h in
        let here : writes t k.at rows ≡ true = sym (ap (λ (o : Option PlacedRows). is_some o) (g.gets k.at) ∙ some_written (writes t k.at rows) (set_at t.layout (base_index t) rows k.at)) ∙ k.there in
        ap (λ (n : ℕ). touches t n rows) (sym k.in_part) ∙ and_first (touches t k.at.part rows) (nat_lt k.at.bucket t.layout.buckets) here

    back : touches t part rows ≡ true → is_touched part sets ≡ true
    back h =
        let w : Place = record { part = part; bucket = 0 } in
        is_found w sets (ap (λ (o : Option PlacedRows). is_some o) (g.gets w) ∙ some_written (writes t w rows) (set_at t.layout (base_index t) rows w) ∙ writes_first t part rows v ∙ h)

-- ---- what is stored afterwards
-- where the table is there, its tablets get what waits; where it is gone, nothing does
abbrev Written : Option Table → List (List Cell) → List PlacedRows → Type 0
Written None rows sets = sets ≡ []
Written (Some t) rows sets = IsPlainTable t × Gets t rows sets

written_by : (o : Option Table) (n id : ℕ) (tables : List Table) (jobs : List JobInfo) (rows : List (List Cell)) (sets : List PlacedRows) → table_at n tables ≡ o → Each IsPlainTable tables → sets ≡ waiting_in o jobs 0 id rows → Written o rows sets
written_by None n id tables jobs rows sets f p e = e
written_by (Some t) n id tables jobs rows sets f p e = let plain = each_found IsPlainTable (λ (x : Table). nat_eq x.number n) tables t p f in (plain, gets_of t rows sets plain.laid e)

-- what is found of the table that got rows
found_after : (table n : ℕ) (sets : List PlacedRows) (old new : List TableTablets) (h : Stores table sets old new) (b : Bool) → nat_eq table n ≡ b → stored_for n new ≡ cond b (Some h.after) (stored_for n old)
found_after table n sets old new h b is = h.has n ∙ ap (λ (c : Bool). cond c (Some h.after) (stored_for n old)) is

found_before : (table n : ℕ) (sets : List PlacedRows) (old new : List TableTablets) (h : Stores table sets old new) → nat_eq table n ≡ true → stored_for n old ≡ Some h.before
found_before table n sets old new h is = ap (λ (m : ℕ). stored_for m old) (sym (eq_is table n is)) ∙ h.had

not_here : (o : Option Table) (index : ℕ) (w : Place) (version : ℕ) (lists : List StoredList) → lists ≡ lists_with o index w version lists []
not_here None index w version lists = refl
not_here (Some t) index w version lists = refl

none_with : (index : ℕ) (w : Place) (version : ℕ) (lists : List StoredList) → with_sets [] version index w lists ≡ lists
none_with zero w version lists = refl
none_with (suc n) w version lists = refl

stored_lists : (sets : List PlacedRows) (old new : List TableTablets) (table n index : ℕ) (w : Place) (b : Bool) (o : Option Table) (rows : List (List Cell)) (version : ℕ) (lists : List StoredList) → nat_eq table n ≡ b → StoresSets table sets old new → (b ≡ true → Written o rows sets) → lists_for index w (stored_for n old) ≡ lists → version_for w.part (stored_for n old) ≡ version → lists_for index w (stored_for n new) ≡ lists_with o index w (version + 1) lists (cond b rows [])
stored_lists [] old new table n index w false o rows version lists is h k e v = ap (λ (ks : List TableTablets). lists_for index w (stored_for n ks)) h ∙ e ∙ not_here o index w (version + 1) lists
stored_lists [] old new table n index w true None rows version lists is h k e v = ap (λ (ks : List TableTablets). lists_for index w (stored_for n ks)) h ∙ e
stored_lists [] old new table n index w true (Some t) rows version lists is h k e v = ap (λ (ks : List TableTablets). lists_for index w (stored_for n ks)) h ∙ e ∙ sym (none_with index w (version + 1) lists) ∙ written t index w [] (version + 1) lists rows (k refl).1 (k refl).0.rollups
stored_lists (s ∷ ss) old new table n index w false o rows version lists is h k e v = ap (lists_for index w) (found_after table n (s ∷ ss) old new h false is) ∙ e ∙ not_here o index w (version + 1) lists
stored_lists (s ∷ ss) old new table n index w true None rows version lists is h k e v = absurd (let z = k refl in cc)
stored_lists (s ∷ ss) old new table n index w true (Some t) rows version lists is h k e v =
    let before = found_before table n (s ∷ ss) old new h is in
    let now : lists_for index w (Some h.before) ≡ lists = ap (lists_for index w) (sym before) ∙ e in
    let at : version_for w.part (Some h.before) ≡ version = ap (version_for w.part) (sym before) ∙ v in
    ap (lists_for index w) (found_after table n (s ∷ ss) old new h true is) ∙ h.change.lists index w
    ∙ ap (λ (ls : List StoredList). with_sets (s ∷ ss) (version_for w.part (Some h.before) + 1) index w ls) now
    ∙ ap (λ (m : ℕ). with_sets (s ∷ ss) (m + 1) index w lists) at
    ∙ written t index w (s ∷ ss) (version + 1) lists rows (k refl).1 (k refl).0.rollups

no_part : (o : Option Table) (part version : ℕ) → version ≡ cond (touches_in o part []) (version + 1) version
no_part None part version = refl
no_part (Some t) part version = refl

stored_versions : (sets : List PlacedRows) (old new : List TableTablets) (table n part : ℕ) (b : Bool) (o : Option Table) (rows : List (List Cell)) (version : ℕ) → nat_eq table n ≡ b → StoresSets table sets old new → (b ≡ true → Written o rows sets) → version_for part (stored_for n old) ≡ version → version_for part (stored_for n new) ≡ cond (touches_in o part (cond b rows [])) (version + 1) version
stored_versions [] old new table n part false o rows version is h k v = ap (λ (ks : List TableTablets). version_for part (stored_for n ks)) h ∙ v ∙ no_part o part version
stored_versions [] old new table n part true None rows version is h k v = ap (λ (ks : List TableTablets). version_for part (stored_for n ks)) h ∙ v
stored_versions [] old new table n part true (Some t) rows version is h k v = ap (λ (ks : List TableTablets). version_for part (stored_for n ks)) h ∙ v ∙ ap (λ (c : Bool). cond c (version + 1) version) (all_touched t part [] rows (k refl).0.laid (k refl).1)
stored_versions (s ∷ ss) old new table n part false o rows version is h k v = ap (version_for part) (found_after table n (s ∷ ss) old new h false is) ∙ v ∙ no_part o part version
stored_versions (s ∷ ss) old new table n part true None rows version is h k v = absurd (let z = k refl in cc)
stored_versions (s ∷ ss) old new table n part true (Some t) rows version is h k v =
    let before = found_before table n (s ∷ ss) old new h is in
    let at : version_for part (Some h.before) ≡ version = ap (version_for part) (sym before) ∙ v in
    ap (version_for part) (found_after table n (s ∷ ss) old new h true is) ∙ h.change.versions part
    ∙ ap (λ (m : ℕ). cond (is_touched part (s ∷ ss)) (m + 1) m) at
    ∙ ap (λ (c : Bool). cond c (version + 1) version) (all_touched t part (s ∷ ss) rows (k refl).0.laid (k refl).1)

abbrev Grid : Table → TableTablets → Type 0
Grid t k = (index : ℕ) → nat_lt index (first_new t) ≡ true → HasIndex t k index

stored_grid : (sets : List PlacedRows) (old new : List TableTablets) (table : ℕ) (t : Table) → StoresSets table sets old new → HasGrid old t → HasGrid new t
stored_grid [] old new table t h g = subst (λ (ks : List TableTablets). HasGrid ks t) (sym h) g
stored_grid (s ∷ ss) old new table t h g = go (nat_eq table t.number) refl
  where
    go : (b : Bool) → nat_eq table t.number ≡ b → HasGrid new t
    go true is =
        let had : Grid t h.before = subst (λ (o : Option TableTablets). MatchOption o ⊥ (Grid t)) (found_before table t.number (s ∷ ss) old new h is) g in
        let has : Grid t h.after = λ index lt. h.change.grid t index (had index lt) in
        subst (λ (o : Option TableTablets). MatchOption o ⊥ (Grid t)) (sym (found_after table t.number (s ∷ ss) old new h true is)) has
    go false is = subst (λ (o : Option TableTablets). MatchOption o ⊥ (Grid t)) (sym (found_after table t.number (s ∷ ss) old new h false is)) g

stored_grids : (sets : List PlacedRows) (old new : List TableTablets) (table : ℕ) (ts : List Table) → StoresSets table sets old new → AllByRecursion (HasGrid old) ts → AllByRecursion (HasGrid new) ts
stored_grids sets old new table [] h g = tt
stored_grids sets old new table (t ∷ ts) h g = (stored_grid sets old new table t h g.0, stored_grids sets old new table ts h g.1)

pub publishes_load : (v new : View) (Es : List Event) (at : ℕ) → IsPublished at v new → IsFront v → Tidy Es → StandsOpen v Es → Acts v new Es (command.Publish at)
publishes_load v new Es at h p g s =
    let u = h.load in
    let sets = waiting_for u.id 0 v.waiting in
    let tables = tables_of Es in
    let first : due (txns_of Es) ≡ Some u = ap due (sym s.txns.txns) ∙ h.due_is in
    let found : txn_at u.id (txns_of Es) ≡ Some u = at_found (is_due (txns_of Es)) (txns_of Es) u g.ascends first in
    let waits : sets ≡ waiting_in (table_at u.table tables) (jobs_of Es) 0 u.id u.rows = s.tablets.waiting u.id 0 ∙ ap (λ (o : Option Txn). waiting_by o 0 tables (jobs_of Es)) found in
    let plain : Each IsPlainTable tables = subst (Each IsPlainTable) s.cat.tables p.plain in
    let there : (n : ℕ) → nat_eq u.table n ≡ true → Written (table_at n tables) u.rows sets = λ n e. subst (λ (m : ℕ). Written (table_at m tables) u.rows sets) (eq_is u.table n e) (written_by (table_at u.table tables) u.table u.id tables (jobs_of Es) u.rows sets refl plain waits) in
    rw first (record {
      live = refl;
      taken = refl;
      parts = stands_so v Es (record { none = ap (λ (x : View). x.jobs) h.rest ∙ p.jobless; last = ap (λ (x : View). x.last_job) h.rest; marks = ap (λ (x : View). x.tasks) h.rest; jobs = no_jobs v Es p.jobless s; last_job = refl; tasks = refl }) s
          (record { databases = ap (λ (x : View). x.databases) h.rest ∙ s.cat.databases; tables = ap (λ (x : View). x.tables) h.rest ∙ s.cat.tables; last_table = ap (λ (x : View). x.last_table) h.rest ∙ s.cat.last_table })
          (record { txns = ap (λ (x : View). x.txns) h.rest ∙ ap (map (changed u.id (ended_at state.Visible at))) s.txns.txns; range = ap (λ (x : View). x.range) h.rest ∙ s.txns.range; next = ap (λ (x : View). x.next) h.rest ∙ s.txns.next; places = ap (λ (x : View). x.places) h.rest ∙ s.txns.places })
          (record {
            grid = stored_grids sets v.tablets new.tablets u.table tables h.stored s.tablets.grid;
            lists = λ n index w. stored_lists sets v.tablets new.tablets u.table n index w (nat_eq u.table n) (table_at n tables) u.rows (version_of Es n w.part) (lists_of Es n index w) refl h.stored (there n) (s.tablets.lists n index w) (s.tablets.versions n w.part) ∙ ap (λ (o : Option Txn). lists_with (table_at n tables) index w (version_of Es n w.part + 1) (lists_of Es n index w) (brought n o)) (sym found);
            versions = λ n part. stored_versions sets v.tablets new.tablets u.table n part (nat_eq u.table n) (table_at n tables) u.rows (version_of Es n part) refl h.stored (there n) (s.tablets.versions n part) ∙ ap (λ (o : Option Txn). cond (touches_in (table_at n tables) part (brought n o)) (version_of Es n part + 1) (version_of Es n part)) (sym found);
            waiting = λ n index. ap (λ (x : View). waiting_for n index x.waiting) h.rest ∙ waiting_ended u.id n index (ended_at state.Visible at) v.waiting (txns_of Es) tables (jobs_of Es) (λ x. refl) (λ x. refl) (s.tablets.waiting n index);
          });
    })
