-- The records of a legal history tell a story, which agrees with the history and an opening.
use Rattle.std.proofs.Common.{◌≡◌, ℕ, Bool, true, false, cond, not, ◌&&◌, ◌||◌, List, [], ◌∷◌, Option, Some, inl, refl, sym, ◌∙◌, ap, subst}
use Rattle.std.specs.Prelude.{nat_eq}
use Rattle.std.specs.List.{list_any}
use Rattle.dl_values.specs.declared.cell.Cell.{Cell}
use Rattle.row_map.specs.declared.map.RowMap.{RowMap}
use Rattle.row_map.specs.Maps.{Admits, Converts, is_bad, rollup_map}
use Rattle.row_map.proofs.Rollups.{rollup_converts}
use Rattle.alter_core.specs.declared.job.Change.{Change}
use Rattle.alter_core.specs.declared.job.Change.TheVariants as change
use Rattle.alter_core.specs.declared.job.JobInfo.{JobInfo}
use Rattle.front_laws.proofs.Journals.{journal_cons}
use Rattle.front_defs.specs.declared.event.Event.{Event}
use Rattle.front_defs.specs.declared.event.Event.TheVariants as event
use Rattle.front_defs.specs.declared.history.Entry.{Entry}
use Rattle.front_defs.specs.declared.catalogue.Table.{Table}
use Rattle.front_defs.specs.declared.txn.Txn.{Txn}
use Rattle.front_defs.specs.Catalogue.{table_at, tables_of, last_table_of}
use Rattle.front_defs.specs.Transactions.{is_committed, txns_of}
use Rattle.front_defs.specs.Jobs.{jobs_of}
use Rattle.front_defs.specs.Indexes.{change_maps}
use Rattle.front_defs.specs.Stored.{StoredList, base_of, fresh_of}
use Rattle.front_defs.specs.History.{is_told, journal, happened}
use Rattle.front_defs.specs.Journal.{Agrees, HasNoBad, IsStory, journal_of, story}
use Rattle.front_defs.specs.Legal.{Legal}
use Rattle.partitions.specs.Places.{Place}
use Rattle.front_laws.specs.Tidy.{Each, Happens}
use Rattle.front_laws.proofs.Lists.{each_found, each_imp, eq_is}
use Rattle.front_laws.proofs.Keeping.{table_number}
use Rattle.front_laws.proofs.Following.{Ends, follows_on, follows_same, match_is, none_any}
use Rattle.front_laws.proofs.Openings.{agreement}
use Rattle.front_laws.proofs.Histories.{always_holds, kept, kept_of, story_happened}
use Rattle.front_laws.proofs.Plans.{Good}
use Rattle.front_laws.proofs.Stored.{Spread, live_ends, spread_first, spread_step}
use Rattle.front_laws.proofs.Ending.{ChangeAdmits, JobHolds}
use Rattle.front_laws.proofs.Folding.{Holds}
use Rattle.front_laws.proofs.Loading.{IsHeld, IsHeldBy, TableHolds}

good_rows : (m : RowMap) (rows : List (List Cell)) → Converts m rows → is_bad m rows ≡ false
good_rows m [] c = refl
good_rows m (r ∷ rs) c = ap (λ (b : Bool). not b || is_bad m rs) c.0 ∙ good_rows m rs c.1

good_load : (tables : List Table) (t : Table) (names : List (List ℕ)) (u : Txn) → table_at t.number tables ≡ Some t → Admits t.shape names → IsHeld tables u → (is_committed u.state && nat_eq u.table t.number && is_bad (rollup_map t.shape names) u.rows) ≡ false
good_load tables t names u f a h = go (is_committed u.state) (nat_eq u.table t.number) refl
  where
    rows : nat_eq u.table t.number ≡ true → is_bad (rollup_map t.shape names) u.rows ≡ false
    rows e =
        let i = eq_is u.table t.number e in
        let held : IsHeldBy (table_at t.number tables) u = subst (λ (n : ℕ). IsHeldBy (table_at n tables) u) i h in
        let own : IsHeldBy (Some t) u = subst (λ (o : Option Table). IsHeldBy o u) f held in
        good_rows (rollup_map t.shape names) u.rows (rollup_converts t.shape names u.rows a.known own.shaped)

    go : (x y : Bool) → nat_eq u.table t.number ≡ y → (x && y && is_bad (rollup_map t.shape names) u.rows) ≡ false
    go true true e = rows e
    go true false e = refl
    go false true e = refl
    go false false e = refl

no_bad : (c : Change) (tables : List Table) (t : Table) (base : List (List Cell)) (txns : List Txn) → table_at t.number tables ≡ Some t → ChangeAdmits t.shape c → ((names : List (List ℕ)) → Admits t.shape names → Converts (rollup_map t.shape names) base) → Each (IsHeld tables) txns
    → list_any (λ (m : RowMap). is_bad m base || list_any (λ u. is_committed u.state && nat_eq u.table t.number && is_bad m u.rows) txns) (change_maps c t) ≡ false
no_bad (change.Rollup name columns) tables t base txns f a k h =
    let m = rollup_map t.shape columns in
    let x : is_bad m base ≡ false = good_rows m base (k columns a) in
    let y : list_any (λ u. is_committed u.state && nat_eq u.table t.number && is_bad m u.rows) txns ≡ false = none_any (λ u. is_committed u.state && nat_eq u.table t.number && is_bad m u.rows) txns (each_imp (IsHeld tables) (λ u. (is_committed u.state && nat_eq u.table t.number && is_bad m u.rows) ≡ false) (λ u q. good_load tables t columns u f a q) txns h) in
    ap (λ (b : Bool). (b || list_any (λ u. is_committed u.state && nat_eq u.table t.number && is_bad m u.rows) txns) || false) x ∙ ap (λ (b : Bool). b || false) y

pub held_table : (o : Option Table) (t : Table) (base : List (List Cell)) (lists : ℕ → Place → List StoredList) → o ≡ Some t → TableHolds o base lists → Holds t base lists
held_table o t base lists e h = subst (λ (x : Option Table). TableHolds x base lists) e h

pub ends : (Es : List Event) → Good Es → Spread Es → Ends Es
ends Es g p j f h =
    let own : JobHolds (tables_of Es) (last_table_of Es) j = each_found (JobHolds (tables_of Es) (last_table_of Es)) (λ (k : JobInfo). nat_eq k.job j.job) (jobs_of Es) j p.jobs f in
    let there = kept_of (table_at j.table (tables_of Es)) (λ (t : Table). ChangeAdmits t.shape j.change) (own.admits (live_ends Es j (inl h))) in
    let t : Table = there.0 in
    let n : t.number ≡ j.table = table_number j.table (tables_of Es) t there.1 in
    let holds = held_table (table_at j.table (tables_of Es)) t (base_of Es j.table) (fresh_of Es j.table) there.1 (p.fresh j.table) in
    match_is (table_at j.table (tables_of Es)) t (HasNoBad j (base_of Es j.table) (txns_of Es)) there.1
    (no_bad j.change (tables_of Es) t (base_of Es j.table) (txns_of Es) (subst (λ (k : ℕ). table_at k (tables_of Es) ≡ Some t) (sym n) there.1) there.2 holds.converts p.held)

story_on : (e : Event) (Es : List Event) (b : Bool) → is_told e ≡ b → Good Es → Spread Es → Happens Es e → IsStory (journal Es) → IsStory (cond b (e ∷ journal Es) (journal Es))
story_on e Es true is g p h s = (follows_same (event.Opened ∷ Es) (journal Es) e (agreement Es g.sound) (follows_on Es e is g.tidy g.alters (ends Es g p) h), s)
story_on e Es false is g p h s = s

pub record Told (Es : List Event) : Type 0 where
  pub spread : Spread Es
  pub story : IsStory (journal Es)

pub always_told : (H : List Entry) → Legal H → Told (happened H)
always_told H l = always_holds Told (record { spread = spread_first; story = tt }) (λ e Es g h p. record { spread = spread_step e Es g h p.spread; story = subst IsStory (sym (journal_cons e Es)) (story_on e Es (is_told e) refl g p.spread h p.story) }) H l

-- The story of a journal exists, and agrees with the history and an opening.
pub reopens : (H : List Entry) → Legal H → IsStory (journal_of H) × Agrees (event.Opened ∷ happened H) (happened (story (journal_of H)))
reopens H l = ((always_told H l).story, subst (λ (Js : List Event). Agrees (event.Opened ∷ happened H) Js) (sym (story_happened (journal_of H))) (agreement (happened H) (kept H l).good.sound))
