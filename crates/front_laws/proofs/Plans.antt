-- What a plan says goes on to hold, and what a call made happen may happen.
use Rattle.std.proofs.Common.{◌≡◌, ℕ, ◌+◌, ◌<◌, ◌≤◌, Bool, true, false, cond, not, List, [], ◌∷◌, ◌++◌, Option, Some, None, IfSome, ◌⊎◌, inl, inr, refl, sym, ◌∙◌, ap, arith, subst}
use Rattle.std.proofs.lemmas.Bool.Decides.{nat_tests}
use Rattle.std.specs.Prelude.{nat_eq, map, filter, is_some}
use Rattle.dl_values.specs.declared.cell.Cell.{Cell}
use Rattle.schema_models.specs.ShapeView.{ShapeView}
use Rattle.partitions.specs.LayoutView.{LayoutView}
use Rattle.partitions.specs.LayoutFaults.{with_part}
use Rattle.partitions.specs.Places.{AreInside}
use Rattle.partitions.proofs.Places.{place_stays}
use Rattle.front_laws.proofs.Replies.{refused_well}
use Rattle.front_defs.specs.declared.event.PartAdded.{PartAdded}
use Rattle.schema_models.specs.Faults.{first_of}
use Rattle.shadow_writes.specs.declared.plan.Plan.{Plan}
use Rattle.shadow_writes.specs.declared.built.Built.{Built}
use Rattle.front_defs.specs.declared.event.Event.{Event}
use Rattle.front_defs.specs.declared.event.Event.TheVariants as event
use Rattle.front_defs.specs.declared.event.LoadSubmitted.{LoadSubmitted}
use Rattle.front_defs.specs.declared.catalogue.Table.{Table}
use Rattle.front_defs.specs.declared.txn.Txn.{Txn}
use Rattle.front_defs.specs.declared.command.Command.{Command}
use Rattle.front_defs.specs.declared.command.Command.TheVariants as command
use Rattle.front_defs.specs.declared.reply.Reply.{Reply}
use Rattle.front_defs.specs.declared.reply.Reply.TheVariants as reply
use Rattle.front_defs.specs.declared.history.Call.{Call}
use Rattle.front_defs.specs.declared.history.Entry.{Entry}
use Rattle.front_defs.specs.declared.history.Entry.TheVariants.{Told, Made}
use Rattle.front_defs.specs.Ids.{next_of}
use Rattle.front_defs.specs.Catalogue.{finished_in, is_named, table_named, table_at, db_of, tables_of, last_table_of, new_table, part_added}
use Rattle.front_defs.specs.Transactions.{txn_at, txns_of, changed, submitted_txn, begun_txn, aborted_at, visible_at, committed_at, dropped, dropped_at, is_expired, is_over, sweep, swept_at, places_of}
use Rattle.front_defs.specs.Stored.{AreRowsOf}
use Rattle.front_defs.specs.Answer.{refusals, plan_of, Answer}
use Rattle.front_defs.specs.History.{new_range, begins, acted, done_by, journal, would, would_by, Outcome, Well, Refused, Faulted, outcome, effect, effect_of, opening, happened}
use Rattle.alter_core.specs.declared.job.JobInfo.{JobInfo}
use Rattle.front_defs.specs.Jobs.{job_at, jobs_of}
use Rattle.front_defs.specs.May.{May, HasCause, PlannedBy, IsBuilt}
use Rattle.front_defs.specs.Legal.{IsLegal, IsAllTold}
use Rattle.front_laws.specs.Tidy.{Alters, Each, Tidy, Happens, IsKept, HappenAll, Sound, PlanHolds, KeepsPlaces, IsPlanned}
use Rattle.front_laws.proofs.Lists.{each_imp, each_both, each_filter, each_map, each_snoc, each_found, each_put, found_id}
use Rattle.front_laws.proofs.Tidying.{finished_any, finished_number, if_mapped, tidy_on}
use Rattle.front_laws.proofs.Growing.{sets_keep}
use Rattle.front_laws.proofs.Keeping.{found_map, found_without, made_apart, part_if, part_number}
use Rattle.front_laws.proofs.Jobs.{alters_on}
use Rattle.front_laws.proofs.Following.{some_is, fits_on}
use Rattle.front_laws.proofs.Acting.{acted_happens, told_happens}
use Rattle.front_laws.proofs.Submitting.{Shaped, ranged_txns, ranged_tables, key_found, begun_now}
use Rattle.front_laws.proofs.Replies.{went_well, is_rare, BeginsBy, begins_by}

pub record Good (Es : List Event) : Type 0 where
  pub tidy : Tidy Es
  pub sound : Sound Es
  pub alters : Alters Es

-- one law for every kind of event: it keeps what is good
pub good_one : (e : Event) (Es : List Event) → Happens Es e → Good Es → Good (e ∷ Es)
good_one e Es h g = record { tidy = tidy_on Es e g.tidy h; sound = (fits_on Es e g.tidy g.alters h, g.sound); alters = alters_on Es e g.tidy g.alters h }

pub good_on : (new Es : List Event) → HappenAll new Es → Good Es → Good (new ++ Es)
good_on [] Es h g = g
good_on (e ∷ new) Es h g = good_one e (new ++ Es) h.0 (good_on new Es h.2 g)

pub empty_good : Good []
empty_good = record {
  tidy = record { tells = tt; ascends = tt; labels = tt; below = tt; known = tt; homes = tt; labelled = tt; from = tt; laid = tt; used = tt; ids = tt; within = omega arith; spent = omega arith; numbers = tt; numbered = tt };
  sound = tt;
  alters = record { numbers = tt; numbered = tt; alone = tt; marked = tt; settled = tt };
}

-- A plan goes on to hold.
abbrev pub OfShape : List Table → ℕ → ShapeView → LayoutView → Txn → Type 0
OfShape tables id base layout t = t.id ≡ id → IfSome (table_at t.table tables) (IsPlanned base layout)

pub shaped_changed : (tables : List Table) (id : ℕ) (base : ShapeView) (layout : LayoutView) (at : ℕ) (f : Txn → Txn) → ((t : Txn) → OfShape tables id base layout t → OfShape tables id base layout (f t)) → (ts : List Txn) → Each (OfShape tables id base layout) ts → Each (OfShape tables id base layout) (map (changed at f) ts)
shaped_changed tables id base layout at f keeps ts e = each_map (OfShape tables id base layout) (OfShape tables id base layout) (changed at f) (λ t h. elim (nat_eq t.id at) as (λ b. OfShape tables id base layout (cond b (f t) t)) [ true ↦ keeps t h | false ↦ h ]) ts e

pub shaped_swept : (tables : List Table) (id : ℕ) (base : ShapeView) (layout : LayoutView) (at : ℕ) (ts : List Txn) → Each (OfShape tables id base layout) ts → Each (OfShape tables id base layout) (sweep at ts)
shaped_swept tables id base layout at ts e =
    each_map (OfShape tables id base layout) (OfShape tables id base layout) (swept_at at) (λ t h. elim (is_expired at t) as (λ b. OfShape tables id base layout (cond b (aborted_at at t) t)) [ true ↦ h | false ↦ h ]) (filter (λ t. not (is_over at t)) ts)
    (each_filter (OfShape tables id base layout) (λ t. not (is_over at t)) ts e)

pub kept_shape : (tables : List Table) (id : ℕ) (base : ShapeView) (layout : LayoutView) (s : LoadSubmitted) (w : Txn) → w.id ≡ s.txn → w.table ≡ s.table → OfShape tables id base layout w → s.txn ≡ id → IfSome (table_at s.table tables) (IsPlanned base layout)
kept_shape tables id base layout s w i same h j = subst (λ (n : ℕ). IfSome (table_at n tables) (IsPlanned base layout)) same (h (i ∙ j))

pub planned_later : (last : ℕ) (y : Table) (tables : List Table) (x : Txn) (base : ShapeView) (layout : LayoutView) → y.number ≡ last + 1 → x.table ≤ last → IfSome (table_at x.table tables) (IsPlanned base layout) → IfSome (table_at x.table (tables ++ y ∷ [])) (IsPlanned base layout)
planned_later last y tables x base layout n u h =
    let e : nat_eq y.number x.table ≡ false = grind (arith, nat_tests) in
    subst (λ (o : Option Table). IfSome o (IsPlanned base layout)) (sym (made_apart x.table y tables e)) h

pub inside_later : (l k : LayoutView) (rows : List (List Cell)) → KeepsPlaces l k → AreInside l rows → AreInside k rows
inside_later l k [] h a = tt
inside_later l k (r ∷ rs) h a = (ap is_some (h r a.0) ∙ a.0, inside_later l k rs h a.1)

-- a partition more keeps the places of rows that have one
pub planned_part : (a : PartAdded) (base : ShapeView) (layout : LayoutView) (b : Table) → IsPlanned base layout b → IsPlanned base layout (record b { layout = with_part a.part b.layout })
planned_part a base layout b h = (h.0, λ row k. place_stays b.layout a.part row (ap is_some (h.1 row k) ∙ k) ∙ h.1 row k, λ x rows k. sets_keep b.layout a.part x rows (inside_later layout b.layout rows h.1 k) ∙ h.2 x rows k)

pub planned_more : (a : PartAdded) (tables : List Table) (n : ℕ) (base : ShapeView) (layout : LayoutView) → IfSome (table_at n tables) (IsPlanned base layout) → IfSome (table_at n (map (part_added a) tables)) (IsPlanned base layout)
planned_more a tables n base layout h = subst (λ (o : Option Table). IfSome o (IsPlanned base layout)) (sym (found_map (part_added a) (part_number a) n tables)) (part_if a (table_at n tables) (IsPlanned base layout) (planned_part a base layout) h)

pub planned_less : (m n : ℕ) (tables : List Table) (base : ShapeView) (layout : LayoutView) → IfSome (table_at n tables) (IsPlanned base layout) → IfSome (table_at n (filter (λ b. not (nat_eq b.number m)) tables)) (IsPlanned base layout)
planned_less m n tables base layout h = subst (λ (o : Option Table). IfSome o (IsPlanned base layout)) (sym (found_without n m tables)) (go (nat_eq m n))
  where
    go : (c : Bool) → IfSome (cond c None (table_at n tables)) (IsPlanned base layout)
    go true = tt
    go false = h

pub planned_finished : (o : Option JobInfo) (tables : List Table) (n : ℕ) (base : ShapeView) (layout : LayoutView) → IfSome (table_at n tables) (IsPlanned base layout) → IfSome (table_at n (map (finished_in o) tables)) (IsPlanned base layout)
planned_finished o tables n base layout h =
    let P : Table → Type 0 = IsPlanned base layout in
    subst (λ (x : Option Table). IfSome x P) (sym (found_map (finished_in o) (finished_number o) n tables)) (if_mapped (finished_in o) P P (λ b. finished_any P (λ rs y q. q) o b) (table_at n tables) h)

pub plan_on : (Es : List Event) (e : Event) (id : ℕ) (base : ShapeView) (layout : LayoutView) → Tidy Es → Happens Es e → IsKept Es e → PlanHolds Es id base layout → PlanHolds (e ∷ Es) id base layout
plan_on Es (event.DbMade d) id base layout t h k p = record { begun = p.begun; shaped = p.shaped }
plan_on Es (event.TableMade m) id base layout t h k p =
    let y = new_table m (last_table_of Es + 1) in
    record { begun = p.begun; shaped = each_imp (λ x. (x.table ≤ last_table_of Es) × OfShape (tables_of Es) id base layout x) (OfShape (tables_of Es ++ y ∷ []) id base layout) (λ x q i. planned_later (last_table_of Es) y (tables_of Es) x base layout refl q.0 (q.1 i)) (txns_of Es) (each_both (λ x. x.table ≤ last_table_of Es) (OfShape (tables_of Es) id base layout) (txns_of Es) t.used p.shaped) }
plan_on Es (event.RangeDrawn r) id base layout t h k p = record { begun = p.begun; shaped = p.shaped }
plan_on Es (event.TxnBegun b) id base layout t h k p = record {
  begun = let x = p.begun in let y = h.fresh in omega (arith, x, y);
  shaped = each_snoc (OfShape (tables_of Es) id base layout) (txns_of Es) (begun_txn b) p.shaped (λ i. absurd (let x = p.begun in let y = h.fresh in omega (arith, x, y, i)));
}
plan_on Es (event.LoadSubmitted s) id base layout t h k p =
    let y = submitted_txn s (db_of s.table (tables_of Es)) (places_of Es) in
    let w : Txn = k.0 in
    record {
      begun = p.begun;
      shaped = each_put (OfShape (tables_of Es) id base layout) y (txns_of Es) (each_imp (OfShape (tables_of Es) id base layout) (λ u. (u.id ≡ s.txn → ⊥) → OfShape (tables_of Es) id base layout u) (λ u q _. q) (txns_of Es) p.shaped)
          (kept_shape (tables_of Es) id base layout s w (found_id s.txn (txns_of Es) w k.1) k.2 (each_found (OfShape (tables_of Es) id base layout) (λ u. nat_eq u.id s.txn) (txns_of Es) w p.shaped k.1));
    }
plan_on Es (event.TxnAborted a) id base layout t h k p = record { begun = p.begun; shaped = shaped_changed (tables_of Es) id base layout a.txn (aborted_at a.at) (λ t h. h) (txns_of Es) p.shaped }
plan_on Es (event.LoadPublished x) id base layout t h k p = record { begun = p.begun; shaped = shaped_changed (tables_of Es) id base layout x.txn (visible_at x.at) (λ t h. h) (txns_of Es) p.shaped }
plan_on Es (event.TxnEnded x) id base layout t h k p = record { begun = p.begun; shaped = shaped_changed (tables_of Es) id base layout x.txn (aborted_at x.at) (λ t h. h) (txns_of Es) p.shaped }
plan_on Es (event.PartAdded a) id base layout t h k p = record { begun = p.begun; shaped = each_imp (OfShape (tables_of Es) id base layout) (OfShape (map (part_added a) (tables_of Es)) id base layout) (λ x q i. planned_more a (tables_of Es) x.table base layout (q i)) (txns_of Es) p.shaped }
plan_on Es (event.TableDropped d) id base layout t h k p =
    let without : List Table = filter (λ b. not (nat_eq b.number d.table)) (tables_of Es) in
    record {
      begun = p.begun;
      shaped = each_map (OfShape (tables_of Es) id base layout) (OfShape without id base layout) (dropped d.table d.at) (λ x q. elim (nat_eq x.table d.table) as (λ b. OfShape without id base layout (cond b (dropped_at d.at x) x)) [ true ↦ (λ i. planned_less d.table x.table (tables_of Es) base layout (q i)) | false ↦ (λ i. planned_less d.table x.table (tables_of Es) base layout (q i)) ]) (txns_of Es) p.shaped;
    }
plan_on Es (event.LoadCommitted c) id base layout t h k p = record { begun = p.begun; shaped = shaped_changed (tables_of Es) id base layout c.txn (committed_at (places_of Es + 1) c.at) (λ t h. h) (txns_of Es) p.shaped }
plan_on Es (event.Swept s) id base layout t h k p = record { begun = p.begun; shaped = shaped_swept (tables_of Es) id base layout s.at (txns_of Es) p.shaped }
plan_on Es (event.SweptUntold s) id base layout t h k p = record { begun = p.begun; shaped = shaped_swept (tables_of Es) id base layout s.at (txns_of Es) p.shaped }
plan_on Es (event.Compacted c) id base layout t h k p = record { begun = p.begun; shaped = p.shaped }
plan_on Es (event.JobAdded x) id base layout t h k p = record { begun = p.begun; shaped = p.shaped }
plan_on Es (event.JobWaiting x) id base layout t h k p = record { begun = p.begun; shaped = p.shaped }
plan_on Es (event.WatershedDrawn x) id base layout t h k p = record { begun = p.begun; shaped = p.shaped }
plan_on Es (event.JobRan x) id base layout t h k p = record { begun = p.begun; shaped = p.shaped }
plan_on Es (event.TaskTaken x) id base layout t h k p = record { begun = p.begun; shaped = p.shaped }
plan_on Es (event.TaskGiven x) id base layout t h k p = record { begun = p.begun; shaped = p.shaped }
plan_on Es (event.JobCancelled x) id base layout t h k p = record { begun = p.begun; shaped = p.shaped }
plan_on Es (event.JobFinished x) id base layout t h k p =
    let o = job_at x.job (jobs_of Es) in
    record { begun = p.begun; shaped = each_imp (OfShape (tables_of Es) id base layout) (OfShape (map (finished_in o) (tables_of Es)) id base layout) (λ u q i. planned_finished o (tables_of Es) u.table base layout (q i)) (txns_of Es) p.shaped }
plan_on Es event.Opened id base layout t h k p = record { begun = p.begun; shaped = each_filter (OfShape (tables_of Es) id base layout) (λ u. u.told) (txns_of Es) p.shaped }

pub plans_on : (new Es : List Event) (id : ℕ) (base : ShapeView) (layout : LayoutView) → HappenAll new Es → Good Es → PlanHolds Es id base layout → PlanHolds (new ++ Es) id base layout
plans_on [] Es id base layout h g p = p
plans_on (e ∷ new) Es id base layout h g p = plan_on (new ++ Es) e id base layout (good_on new Es h.2 g).tidy h.0 h.1 (plans_on new Es id base layout h.2 g p)

-- What a call made happen, with its opening.
abbrev pub Went : Call → List Event → Type 0
Went c Es = HappenAll (effect (opening c.opened Es) c.command c.reply c.took) (opening c.opened Es)

pub no_cause : (c : Command) (H : List Entry) → IsAllTold H → HasCause c H → ⊥
no_cause c [] a h = h
no_cause c (Told e ∷ H) a h = no_cause c H a h
no_cause c (Made x ∷ H) a h = a

-- what a load that may be submitted has: its plan holds, and its rows are of the plan's base
abbrev pub Plans : List Entry → Type 0
Plans H = (txn : ℕ) (built : Built) (at : ℕ) → HasCause (command.Submit txn built at) H → PlanHolds (happened H) txn built.plan.base built.plan.layout × AreRowsOf built.plan.base built.plan.layout built.rows

pub there_rows : (o : Option Table) (base : ShapeView) (layout : LayoutView) (rows : List (List Cell)) → IfSome o (IsPlanned base layout) → AreRowsOf base layout rows → IfSome o (λ b. AreRowsOf b.shape b.layout rows)
there_rows None base layout rows h r = tt
there_rows (Some b) base layout rows h r = subst (λ (s : ShapeView). AreRowsOf s b.layout rows) (sym h.0) (record { shaped = r.shaped; inside = inside_later layout b.layout rows h.1 r.inside })

-- The rows that a command carries are of its table, also after an opening.
pub found_shape : (Es : List Event) (id : ℕ) (built : Built) (o : Option Txn) → txn_at id (txns_of Es) ≡ o → PlanHolds Es id built.plan.base built.plan.layout → AreRowsOf built.plan.base built.plan.layout built.rows → IfSome o (λ x. IfSome (table_at x.table (tables_of Es)) (λ b. AreRowsOf b.shape b.layout built.rows))
found_shape Es id built None f p r = tt
found_shape Es id built (Some x) f p r =
    there_rows (table_at x.table (tables_of Es)) built.plan.base built.plan.layout built.rows (each_found (OfShape (tables_of Es) id built.plan.base built.plan.layout) (λ u. nat_eq u.id id) (txns_of Es) x p.shaped f (found_id id (txns_of Es) x f)) r

pub opened_plan : (opened : Bool) (Es : List Event) (id : ℕ) (base : ShapeView) (layout : LayoutView) → Good Es → PlanHolds Es id base layout → PlanHolds (opening opened Es) id base layout
opened_plan true Es id base layout g p = plan_on Es event.Opened id base layout g.tidy tt tt p
opened_plan false Es id base layout g p = p

pub opened_good : (opened : Bool) (Es : List Event) → Good Es → Good (opening opened Es)
opened_good true Es g = good_one event.Opened Es tt g
opened_good false Es g = g

pub shaped_now : (H : List Entry) (c : Command) (opened : Bool) → Good (happened H) → Plans H → May H c → Shaped (opening opened (happened H)) c
shaped_now H (command.CreateDb name if_not_exists) opened g p m = tt
shaped_now H (command.CreateTable db table def if_not_exists) opened g p m = tt
shaped_now H (command.Begin db table label two_phase at) opened g p m = tt
shaped_now H (command.Submit txn built at) opened g p m =
    let k = p txn built at m in
    found_shape (opening opened (happened H)) txn built (txn_at txn (txns_of (opening opened (happened H)))) refl (opened_plan opened (happened H) txn built.plan.base built.plan.layout g k.0) k.1
shaped_now H (command.Publish at) opened g p m = tt
shaped_now H (command.Abort db txn at) opened g p m = tt
shaped_now H (command.Snapshot db table query) opened g p m = tt
shaped_now H (command.DropTable db table if_exists at) opened g p m = tt
shaped_now H (command.AddPartition db table part) opened g p m = tt
shaped_now H (command.Commit db txn at) opened g p m = tt
shaped_now H (command.Sweep at) opened g p m = tt
shaped_now H (command.AddAlter db table def at) opened g p m = tt
shaped_now H (command.CancelAlter db table kind at) opened g p m = tt
shaped_now H (command.Advance at) opened g p m = tt
shaped_now H command.Take opened g p m = tt
shaped_now H (command.Give piece at) opened g p m = tt
shaped_now H (command.Show db what) opened g p m = tt
shaped_now H command.Restart opened g p m = tt

-- The records of what a command would make happen now may happen.
pub would_told : (Es : List Event) (c : Command) (o : Option Reply) → first_of (refusals Es c) ≡ o → Good Es → Shaped Es c → HappenAll (journal (would_by o (acted Es c))) Es
would_told Es c None is g s = told_happens Es c g.tidy g.alters s is
would_told Es c (Some r) is g s = go (outcome r) refl
  where
    go : (x : Outcome) → outcome r ≡ x → HappenAll (journal (done_by x (acted Es c))) Es
    go Well e = subst (λ (l : List Event). HappenAll (journal l) Es) (sym (refused_well Es c r is e)) tt
    go Refused e = tt
    go Faulted e = tt

pub by_outcome : (Es : List Event) (c : Command) (r : Reply) (took : Bool) (o : Outcome) → outcome r ≡ o → Good Es → Shaped Es c → Answer Es c r ⊎ (r ≡ reply.KeeperFault) → HappenAll (effect_of o took (acted Es c) (journal (would Es c))) Es
by_outcome Es c r took Well is g s (inl a) = elim (went_well Es c r a is) [ inl h ↦ acted_happens Es c g.tidy g.alters s h | inr n ↦ subst (λ (l : List Event). HappenAll l Es) (sym n) tt ]
by_outcome Es c r took Well is g s (inr f) = absurd (let z : outcome r ≡ Faulted = ap outcome f in cc (z, is))
by_outcome Es c r took Refused is g s a = tt
by_outcome Es c r true Faulted is g s a = would_told Es c (first_of (refusals Es c)) refl g s
by_outcome Es c r false Faulted is g s a = tt

pub went : (c : Call) (H : List Entry) → IsLegal c H → Good (happened H) → Plans H → Went c (happened H)
went c H l g p =
    let Es = opening c.opened (happened H) in
    by_outcome Es c.command c.reply c.took (outcome c.reply) refl (opened_good c.opened (happened H) g) (shaped_now H c.command c.opened g p l.may) l.answer

-- The plan that a Begin gives holds from then on.
pub begun_here : (Es : List Event) (db table : List ℕ) (label : Option (List ℕ)) (two_phase : Bool) (at : ℕ) (t : Table) → Good Es → table_named db table (tables_of Es) ≡ Some t → PlanHolds (begins (next_of Es) label two_phase at (Some t) ++ new_range Es ++ Es) (next_of Es) t.shape t.layout
begun_here Es db table label two_phase at t g found =
    let n = next_of Es in
    let Gs = new_range Es ++ Es in
    let below = subst (λ (l : List Txn). Each (λ u. u.id < n) l) (sym (ranged_txns Es)) g.tidy.below in
    let there = some_is (table_at t.number (tables_of Gs)) t (IsPlanned t.shape t.layout) (ap (table_at t.number) (ranged_tables Es) ∙ key_found (λ (b : Table). b.number) (is_named db table) (tables_of Es) t g.tidy.numbers found) (refl, λ row h. refl, λ x rows h. refl) in
    record {
      begun = omega arith;
      shaped = each_snoc (OfShape (tables_of Gs) n t.shape t.layout) (txns_of Gs) (begun_txn (begun_now n label two_phase at t)) (each_imp (λ u. u.id < n) (OfShape (tables_of Gs) n t.shape t.layout) (λ u lt i. absurd (omega (arith, lt, i))) (txns_of Gs) below) (λ i. there);
    }

pub begin_holds : (Es : List Event) (c : Command) (r : Reply) (took : Bool) (txn : ℕ) (plan : Plan) → Good Es → BeginsBy Es c r → r ≡ reply.Begun txn plan → PlanHolds (effect Es c r took ++ Es) txn plan.base plan.layout
begin_holds Es (command.Begin db table label two_phase at) r took txn plan g (t, found, is) e =
    let both : reply.Begun (next_of Es) (plan_of (next_of Es) t (jobs_of Es)) ≡ reply.Begun txn plan = sym is ∙ e in
    let id_is : next_of Es ≡ txn = cc in
    let plan_is : plan_of (next_of Es) t (jobs_of Es) ≡ plan = cc in
    let here = begun_here Es db table label two_phase at t g found in
    let there = subst (λ (o : Option Table). PlanHolds (begins (next_of Es) label two_phase at o ++ new_range Es ++ Es) (next_of Es) t.shape t.layout) (sym found) here in
    let now = subst (λ (x : Reply). PlanHolds (effect Es (command.Begin db table label two_phase at) x took ++ Es) (next_of Es) t.shape t.layout) (sym is) there in
    subst (λ (n : ℕ). PlanHolds (effect Es (command.Begin db table label two_phase at) r took ++ Es) n plan.base plan.layout) id_is (subst (λ (q : Plan). PlanHolds (effect Es (command.Begin db table label two_phase at) r took ++ Es) (next_of Es) q.base q.layout) plan_is now)
begin_holds Es (command.CreateDb name if_not_exists) r took txn plan g b e = absurd b
begin_holds Es (command.CreateTable db table def if_not_exists) r took txn plan g b e = absurd b
begin_holds Es (command.Submit id built at) r took txn plan g b e = absurd b
begin_holds Es (command.Publish at) r took txn plan g b e = absurd b
begin_holds Es (command.Abort db id at) r took txn plan g b e = absurd b
begin_holds Es (command.Snapshot db table query) r took txn plan g b e = absurd b
begin_holds Es (command.DropTable db table if_exists at) r took txn plan g b e = absurd b
begin_holds Es (command.AddPartition db table part) r took txn plan g b e = absurd b
begin_holds Es (command.Commit db id at) r took txn plan g b e = absurd b
begin_holds Es (command.Sweep at) r took txn plan g b e = absurd b
begin_holds Es (command.AddAlter db table def at) r took txn plan g b e = absurd b
begin_holds Es (command.CancelAlter db table kind at) r took txn plan g b e = absurd b
begin_holds Es (command.Advance at) r took txn plan g b e = absurd b
begin_holds Es command.Take r took txn plan g b e = absurd b
begin_holds Es (command.Give piece at) r took txn plan g b e = absurd b
begin_holds Es (command.Show db what) r took txn plan g b e = absurd b
begin_holds Es command.Restart r took txn plan g b e = absurd b

pub planned_is : (txn : ℕ) (built : Built) (r : Reply) → PlannedBy txn built r → (plan : Plan) × (r ≡ reply.Begun txn plan) × IsBuilt plan built
planned_is txn built (reply.Begun id plan) h = (plan, ap (λ (n : ℕ). reply.Begun n plan) (sym h.0), h.1)
planned_is txn built _ h = absurd h

pub built_rows : (plan : Plan) (built : Built) → IsBuilt plan built → AreRowsOf built.plan.base built.plan.layout built.rows
built_rows plan built h = subst (λ (p : Plan). AreRowsOf p.base p.layout built.rows) (sym h.plan_is) h.rows

pub new_plan : (c : Call) (H : List Entry) (txn : ℕ) (built : Built) → Good (happened H) → Answer (opening c.opened (happened H)) c.command c.reply ⊎ (c.reply ≡ reply.KeeperFault) → PlannedBy txn built c.reply → PlanHolds (happened (Made c ∷ H)) txn built.plan.base built.plan.layout × AreRowsOf built.plan.base built.plan.layout built.rows
new_plan c H txn built g (inr f) p = absurd (let k = planned_is txn built c.reply p in let z = k.1 in cc (z, f))
new_plan c H txn built g (inl a) p =
    let k = planned_is txn built c.reply p in
    let Es = opening c.opened (happened H) in
    let b : is_rare c.reply ≡ true = ap is_rare k.1 in
    let holds = begin_holds Es c.command c.reply c.took txn k.0 (opened_good c.opened (happened H) g) (begins_by Es c.command c.reply a b) k.1 in
    (subst (λ (q : Plan). PlanHolds (happened (Made c ∷ H)) txn q.base q.layout) (sym k.2.plan_is) holds, built_rows k.0 built k.2)

pub plans_call : (c : Call) (H : List Entry) → IsLegal c H → Good (happened H) → Plans H → Plans (Made c ∷ H)
plans_call c H l g p txn built at cause =
    elim cause [
      | inl h ↦ new_plan c H txn built g l.answer h
      | inr h ↦ let Es = opening c.opened (happened H) in let k = p txn built at h in (plans_on (effect Es c.command c.reply c.took) Es txn built.plan.base built.plan.layout (went c H l g p) (opened_good c.opened (happened H) g) (opened_plan c.opened (happened H) txn built.plan.base built.plan.layout g k.0), k.1)
    ]
