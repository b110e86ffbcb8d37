-- The rows of a load are taken at its Submit.
use Rattle.std.proofs.Common.{◌≡◌, ℕ, zero, suc, ◌+◌, Bool, true, false, cond, List, [], ◌∷◌, Option, Some, None, IfSome, MatchOption, inl, inr, map, get_or, nat_eq, refl, sym, ◌∙◌, ap, subst}
use Rattle.dl_values.specs.declared.cell.Cell.{Cell}
use Rattle.schema_models.specs.Faults.{first_of}
use Rattle.schema_models.specs.ShapeView.{ShapeView}
use Rattle.partitions.specs.LayoutView.{LayoutView}
use Rattle.partitions.specs.Places.{AreInside}
use Rattle.labels.specs.declared.txn_state.TxnState.{TxnState}
use Rattle.labels.specs.declared.txn_state.TxnState.TheVariants as state
use Rattle.shadow_writes.specs.declared.built.Built.{Built}
use Rattle.shadow_writes.specs.declared.built.Mapped.{Mapped}
use Rattle.shadow_writes.specs.declared.built.Mapped.TheVariants as mapped
use Rattle.shadow_writes.specs.declared.plan.Plan.{Plan}
use Rattle.alter_core.specs.declared.job.JobInfo.{JobInfo}
use Rattle.front_defs.specs.declared.event.Event.{Event}
use Rattle.front_defs.specs.declared.event.LoadSubmitted.{LoadSubmitted}
use Rattle.front_defs.specs.declared.catalogue.Rollup.{Rollup}
use Rattle.front_defs.specs.declared.catalogue.Table.{Table}
use Rattle.front_defs.specs.declared.txn.Txn.{Txn}
use Rattle.front_defs.specs.declared.reply.Reply.{Reply}
use Rattle.front_defs.specs.declared.reply.Reply.TheVariants as reply
use Rattle.front_defs.specs.declared.command.Command.TheVariants as command
use Rattle.front_defs.specs.Answer.{placed_for, submit_refusals, Answer, Submits}
use Rattle.front_defs.specs.Catalogue.{table_at, db_in, db_of, tables_of}
use Rattle.front_defs.specs.History.{Well, outcome}
use Rattle.front_defs.specs.Indexes.{Index, mapped_index, nth, rollup_maps, spoiled_by}
use Rattle.front_defs.specs.Jobs.{jobs_of, spoiled_job}
use Rattle.front_defs.specs.May.{IsBuilt, TargetsOf}
use Rattle.front_defs.specs.Refusals.{Answers}
use Rattle.front_defs.specs.Stands.{View, StandsOpen}
use Rattle.front_defs.specs.Stored.{PlacedRows, first_index, sets_in, sets_of, waiting_by, waiting_in}
use Rattle.front_defs.specs.Transactions.{txn_at, txns_of, places_of, changed, put_txn, submitted_txn}
use Rattle.row_map.specs.Maps.{rollup_map}
use Rattle.front_laws.specs.Laws.{HasShape}
use Rattle.front_laws.specs.Tidy.{Each, HasHome, HomeBy, IsHome, IsPlanned, Tidy}
use Rattle.front_laws.proofs.Lists.{found_id, each_found}
use Rattle.front_state.specs.Catalogued.{IsPlainTable}
use Rattle.front_state.specs.Parts.{places_by, submitted_at}
use Rattle.front_core.specs.Parts.{IsFront, TakesRows, is_for_base, sets_by, with_rows}
use Rattle.front_core.proofs.Alters.{no_jobs, stands_so}
use Rattle.front_core.proofs.Changing.{put_changed}
use Rattle.front_core.proofs.Going.{Acts}
use Rattle.front_core.proofs.Loads.{waiting_taken}

-- ---- what is built for the base
built_sets : (plan : Plan) (rows : List (List Cell)) (targets : List Mapped) → is_for_base targets ≡ true → TargetsOf plan rows targets → sets_by targets ≡ sets_of plan.layout (record { shape = plan.base; map = None }) rows
built_sets plan rows [] b h = absurd h
built_sets plan rows (mapped.Sets sets ∷ []) b h = h.0.folded
built_sets plan rows (mapped.Sets sets ∷ m ∷ ms) b h = absurd (cc)
built_sets plan rows (mapped.Bad row column ∷ ms) b h = absurd h.0

-- it is what waits for the base of its table, and for no other index
pub no_index : (n : ℕ) (b : Table) → b.rollups ≡ [] → nth n (map mapped_index (rollup_maps b)) ≡ None
no_index n b e = ap (λ (rs : List Rollup). nth n (map mapped_index (map (λ (r : Rollup). rollup_map b.shape r.columns) rs))) e

waits_for : (index id : ℕ) (b : Table) (layout : LayoutView) (base : ShapeView) (rows : List (List Cell)) (sets : List PlacedRows) → b.rollups ≡ [] → IsPlanned base layout b → AreInside layout rows → sets ≡ sets_of layout (record { shape = base; map = None }) rows → get_or (sets ∷ []) index [] ≡ waiting_in (Some b) [] index id rows
waits_for zero id b layout base rows sets none p a e =
    e ∙ sym (p.2 (record { shape = base; map = None }) rows a) ∙ ap (λ (s : ShapeView). sets_of b.layout (record { shape = s; map = None }) rows) (sym p.0)
waits_for (suc n) id b layout base rows sets none p a e = sym (by_index (nth n (map mapped_index (rollup_maps b))) (no_index n b none))
  where
    by_index : (o : Option Index) → o ≡ None → sets_in (first_index o None) b rows ≡ []
    by_index None f = refl
    by_index (Some x) f = absurd (cc)

-- ---- a load that is taken is open
prepares : (t : Txn) (at : ℕ) (ok : Reply → Type 0) (r : Reply) → outcome r ≡ Well → Answers (submit_refusals at (Some t)) ok r → t.state ≡ state.Prepare
prepares t at ok r w (inl e) = absurd (let x = ap outcome e in cc (x, w))
prepares t at ok r w (inr h) = by_state t.state refl h
  where
    by_state : (s : TxnState) → t.state ≡ s → MatchOption (first_of (submit_refusals at (Some t))) (ok r) (λ refusal. r ≡ refusal) → t.state ≡ state.Prepare
    by_state state.Prepare e m = e
    by_state state.Precommitted e m = absurd (let x : r ≡ reply.WrongState state.Precommitted = rw e at m in let y = ap outcome x in cc (y, w))
    by_state state.Committed e m = absurd (let x : r ≡ reply.WrongState state.Committed = rw e at m in let y = ap outcome x in cc (y, w))
    by_state state.Visible e m = absurd (let x : r ≡ reply.WrongState state.Visible = rw e at m in let y = ap outcome x in cc (y, w))
    by_state state.Aborted e m = absurd (let x : r ≡ reply.WrongState state.Aborted = rw e at m in let y = ap outcome x in cc (y, w))

home_there : (s : TxnState) (o : Option Table) (P : Table → Type 0) → s ≡ state.Prepare → HomeBy s o P → (b : Table) × (o ≡ Some b) × P b
home_there s None P e h = absurd (let k : HomeBy state.Prepare None P = subst (λ (x : TxnState). HomeBy x None P) e h in k)
home_there s (Some b) P e h = (b, refl, (let k : HomeBy state.Prepare (Some b) P = subst (λ (x : TxnState). HomeBy x (Some b) P) e h in k))

-- ---- the transaction after its Submit
abbrev loaded : Txn → List (List Cell) → ℕ → Option ℕ → LoadSubmitted
loaded t rows at cancelled = record { txn = t.id; table = t.table; label = t.label; at = at; two_phase = t.two_phase; schema = t.schema; cancelled = cancelled; rows = rows }

placed_txn : (t : Txn) (txns : List Txn) (rows : List (List Cell)) (at last now : ℕ) (cancelled : Option ℕ) (db : List ℕ) (b : Bool) → t.two_phase ≡ b → t.db ≡ db → last ≡ now → submitted_at (placed_for (Some t) txns last) rows at t ≡ submitted_txn (loaded t rows at cancelled) db now
placed_txn t txns rows at last now cancelled db true is e f = rw (is, e) refl
placed_txn t txns rows at last now cancelled db false is e f = rw (is, e, f) refl

placed_last : (t : Txn) (txns : List Txn) (last now : ℕ) (b : Bool) → t.two_phase ≡ b → last ≡ now → places_by (placed_for (Some t) txns last) last ≡ cond t.two_phase now (now + 1)
placed_last t txns last now true is f = rw is f
placed_last t txns last now false is f = rw (is, f) refl

take_at : (P : Txn → Type 0) (id : ℕ) (ts : List Txn) (t : Txn) → txn_at id ts ≡ Some t → Each P ts → P t
take_at P id ts t f e = each_found P (λ (x : Txn). nat_eq x.id id) ts t e f

plain_at : (n : ℕ) (ts : List Table) (b : Table) → Each IsPlainTable ts → table_at n ts ≡ Some b → b.rollups ≡ []
plain_at n ts b h f = (each_found IsPlainTable (λ (x : Table). nat_eq x.number n) ts b h f).rollups

-- what the commands of a load rest on
pub record LoadFits (Es : List Event) (id : ℕ) (built : Built) : Type 0 where
  pub shapes : Each (HasShape (tables_of Es) id built.plan.base built.plan.layout) (txns_of Es)
  pub built_is : IsBuilt built.plan built
  pub for_base : is_for_base built.targets ≡ true

taken_by : (v : View) (Es : List Event) (id : ℕ) (built : Built) (at : ℕ) (t : Txn) → txn_at id (txns_of Es) ≡ Some t → t.state ≡ state.Prepare → IsFront v → Tidy Es → LoadFits Es id built → StandsOpen v Es → Acts v (with_rows id (placed_for (Some t) v.txns v.places) built.rows (sets_by built.targets) at v) Es (command.Submit id built at)
taken_by v Es id built at t found prepare p g fits s =
    let same = found_id id (txns_of Es) t found in
    let placed = placed_for (Some t) v.txns v.places in
    let f = submitted_at placed built.rows at in
    let cancelled = spoiled_by (jobs_of Es) (table_at t.table (tables_of Es)) built.rows in
    let y = submitted_txn (loaded t built.rows at cancelled) (db_of t.table (tables_of Es)) (places_of Es) in
    let home = home_there t.state (table_at t.table (tables_of Es)) (IsHome t.db t.schema) prepare (take_at (HasHome (tables_of Es)) id (txns_of Es) t found g.homes) in
    let b = home.0 in
    let there = home.1 in
    let db : t.db ≡ db_of t.table (tables_of Es) = sym home.2.0 ∙ ap db_in (sym there) in
    let is = placed_txn t v.txns built.rows at v.places (places_of Es) cancelled (db_of t.table (tables_of Es)) t.two_phase refl db s.txns.places in
    let put = put_changed id f (txns_of Es) t y g.ascends found same is in
    let planned : IsPlanned built.plan.base built.plan.layout b = subst (λ (o : Option Table). IfSome o (IsPlanned built.plan.base built.plan.layout)) there (take_at (HasShape (tables_of Es) id built.plan.base built.plan.layout) id (txns_of Es) t found fits.shapes same) in
    let none = plain_at t.table (tables_of Es) b (subst (Each IsPlainTable) s.cat.tables p.plain) there in
    let folds = built_sets built.plan built.rows built.targets fits.for_base fits.built_is.targets in
    let al = p.aligned ∙ ap (map (λ (x : Txn). x.id)) s.txns.txns in
    let before = no_jobs v Es p.jobless s in
    let after : map (spoiled_job cancelled t.id at) (jobs_of Es) ≡ [] = ap (map (spoiled_job cancelled t.id at)) before in
    let waits : (index : ℕ) → get_or (sets_by built.targets ∷ []) index [] ≡ waiting_in (table_at (f t).table (tables_of Es)) (jobs_of Es) index (f t).id (f t).rows = λ index. waits_for index (f t).id b built.plan.layout built.plan.base built.rows (sets_by built.targets) none planned fits.built_is.rows.inside folds ∙ ap (λ (o : Option Table). waiting_in o [] index (f t).id built.rows) (sym there) ∙ ap (λ (js : List JobInfo). waiting_in (table_at t.table (tables_of Es)) js index (f t).id built.rows) (sym before) in
    rw found (record {
      live = refl;
      taken = refl;
      parts = stands_so v Es (record { none = p.jobless; last = refl; marks = refl; jobs = after; last_job = refl; tasks = refl }) s
          (record { databases = s.cat.databases; tables = s.cat.tables; last_table = s.cat.last_table })
          (record { txns = ap (map (changed id f)) s.txns.txns ∙ sym put; range = s.txns.range; next = s.txns.next; places = placed_last t v.txns v.places (places_of Es) t.two_phase refl s.txns.places })
          (record {
            grid = s.tablets.grid;
            lists = s.tablets.lists;
            versions = s.tablets.versions;
            waiting = λ n index. waiting_taken id n index f (sets_by built.targets) v.waiting (txns_of Es) t (tables_of Es) (jobs_of Es) (λ x. refl) al found (waits index) (s.tablets.waiting n index) ∙ ap (λ (ts : List Txn). waiting_by (txn_at n ts) index (tables_of Es) (jobs_of Es)) (sym put) ∙ ap (λ (js : List JobInfo). waiting_by (txn_at n (put_txn y (txns_of Es))) index (tables_of Es) js) (before ∙ sym after);
          });
    })

takes_by : (v new : View) (Es : List Event) (id : ℕ) (built : Built) (at : ℕ) (o : Option Txn) → txn_at id (txns_of Es) ≡ o → ((t : Txn) → o ≡ Some t → t.state ≡ state.Prepare) → TakesRows o id built.rows (sets_by built.targets) at v new → IsFront v → Tidy Es → LoadFits Es id built → StandsOpen v Es → Acts v new Es (command.Submit id built at)
takes_by v new Es id built at None found open_now h p g fits s = absurd h
takes_by v new Es id built at (Some t) found open_now h p g fits s = subst (λ (x : View). Acts v x Es (command.Submit id built at)) (sym h) (taken_by v Es id built at t found (open_now t refl) p g fits s)

-- what answers a Submit after what the front has answers it after what happened
pub submits : (v : View) (Es : List Event) (id : ℕ) (built : Built) (at : ℕ) (r : Reply) → Submits id at v.txns v.places r → StandsOpen v Es → Answer Es (command.Submit id built at) r
submits v Es id built at r h s = rw (s.txns.txns, s.txns.places) at h

pub takes_load : (v new : View) (Es : List Event) (id : ℕ) (built : Built) (at : ℕ) (r : Reply) → outcome r ≡ Well → Submits id at v.txns v.places r → TakesRows (txn_at id v.txns) id built.rows (sets_by built.targets) at v new → IsFront v → Tidy Es → LoadFits Es id built → StandsOpen v Es → Acts v new Es (command.Submit id built at)
takes_load v new Es id built at r w a h p g fits s =
    takes_by v new Es id built at (txn_at id v.txns) (ap (txn_at id) (sym s.txns.txns))
    (λ t e. prepares t at (λ x. x ≡ reply.Submitted (placed_for (Some t) v.txns v.places)) r w (subst (λ (o : Option Txn). Answers (submit_refusals at o) (λ x. x ≡ reply.Submitted (placed_for o v.txns v.places)) r) e a)) h p g fits s
