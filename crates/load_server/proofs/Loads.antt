-- What the preparing of a load makes of its script.
use Rattle.std.proofs.Common.{◌≡◌, ◌∙◌, ◌<◌, ◌≤◌, true, false, cond, nat_lt, ℕ, Bool, List, length, sym, ap, subst, arith}
use Rattle.std.proofs.lemmas.Bool.Decides.{nat_tests}
use Rattle.csv_load.specs.Body.{records_by}
use Rattle.csv_load.specs.Limit.{fails}
use Rattle.csv_load.specs.Refusal.{max_records}
use Rattle.dl_values.specs.declared.cell.Cell.{Cell}
use Rattle.front_defs.specs.declared.command.Command.TheVariants as command
use Rattle.front_defs.specs.May.{IsBuilt, TargetsOf}
use Rattle.front_defs.specs.Stored.{AreRowsOf}
use Rattle.front_defs.specs.Script.{Asks}
use Rattle.shadow_writes.specs.declared.built.Built.{Built}
use Rattle.shadow_writes.specs.declared.plan.Plan.{Plan}
use Rattle.load_build.specs.Building.{IsBuiltOf}
use Rattle.load_server.specs.Preparing.{Prepares}
use Rattle.load_server.specs.Reports.{failed, too_many_filtered, too_many_rows}
use Rattle.load_server.specs.Scripts.{aborting, after_submit, parsed_by, reading, submitting}
use Rattle.load_server.specs.declared.load.Load.{Load}
use Rattle.load_server.specs.declared.prepare.Prepared.TheVariants as prepared
use Rattle.load_server.specs.declared.report.Counts.{Counts}
use Rattle.load_server.proofs.BuildingFacts.{building_by, building_same}
use Rattle.load_server.proofs.RowsOfBodies.{rows_are_of_plan}

few : (load : Load) (body : List ℕ) → length (records_by load.options body) ≤ max_records → nat_lt max_records (length (records_by load.options body)) ≡ false
few load body h = grind (arith, nat_tests)

many : (load : Load) (body : List ℕ) → max_records < length (records_by load.options body) → nat_lt max_records (length (records_by load.options body)) ≡ true
many load body h = grind (arith, nat_tests)

-- a load that is ready is submitted
pub reading_ready : (load : Load) (body : List ℕ) (txn : ℕ) (plan : Plan) (built : Built) (counts : Counts) → Prepares plan load.options body (prepared.Ready built counts)
    → reading (building_by built.targets) load body txn plan ≡ Asks (command.Submit txn built load.at) (after_submit load txn counts.filtered counts.total)
reading_ready load body txn plan built counts (short, (passes, is, are)) =
    let p = parsed_by plan load.options body in
    let way = building_by built.targets in
    ap (λ (b : Bool). cond b (aborting load txn (failed load.sent txn too_many_rows 0 0)) (submitting way load txn plan p)) (few load body short)
    ∙ ap (λ (b : Bool). cond b (aborting load txn (failed load.sent txn (too_many_filtered p.filtered p.total) p.filtered p.total)) (Asks (command.Submit txn (way plan p.rows) load.at) (after_submit load txn p.filtered p.total))) passes
    ∙ ap (λ (x : Built). Asks (command.Submit txn x load.at) (after_submit load txn p.filtered p.total)) (building_same plan p.rows built is)
    ∙ ap (λ (n : ℕ). Asks (command.Submit txn built load.at) (after_submit load txn n p.total)) (sym are.filtered)
    ∙ ap (λ (n : ℕ). Asks (command.Submit txn built load.at) (after_submit load txn counts.filtered n)) (sym are.total)

-- one with too many records fails
pub reading_many : (way : Plan → List (List Cell) → Built) (load : Load) (body : List ℕ) (txn : ℕ) (plan : Plan) → max_records < length (records_by load.options body) → reading way load body txn plan ≡ aborting load txn (failed load.sent txn too_many_rows 0 0)
reading_many way load body txn plan h =
    ap (λ (b : Bool). cond b (aborting load txn (failed load.sent txn too_many_rows 0 0)) (submitting way load txn plan (parsed_by plan load.options body))) (many load body h)

-- and so does one of which too many were filtered
pub reading_filtered : (way : Plan → List (List Cell) → Built) (load : Load) (body : List ℕ) (txn : ℕ) (plan : Plan) (counts : Counts) → Prepares plan load.options body (prepared.TooManyFiltered counts)
    → reading way load body txn plan ≡ aborting load txn (failed load.sent txn (too_many_filtered counts.filtered counts.total) counts.filtered counts.total)
reading_filtered way load body txn plan counts (short, (fails, are)) =
    let p = parsed_by plan load.options body in
    ap (λ (b : Bool). cond b (aborting load txn (failed load.sent txn too_many_rows 0 0)) (submitting way load txn plan p)) (few load body short)
    ∙ ap (λ (b : Bool). cond b (aborting load txn (failed load.sent txn (too_many_filtered p.filtered p.total) p.filtered p.total)) (Asks (command.Submit txn (way plan p.rows) load.at) (after_submit load txn p.filtered p.total))) fails
    ∙ ap (λ (n : ℕ). aborting load txn (failed load.sent txn (too_many_filtered n p.total) n p.total)) (sym are.filtered)
    ∙ ap (λ (n : ℕ). aborting load txn (failed load.sent txn (too_many_filtered counts.filtered n) counts.filtered n)) (sym are.total)

-- it is built as a seat has to build it
pub is_built : (load : Load) (body : List ℕ) (plan : Plan) (built : Built) → IsBuiltOf plan (parsed_by plan load.options body).rows built → IsBuilt plan built
is_built load body plan built is =
    record {
      plan_is = is.plan_is;
      rows = subst (λ (rows : List (List Cell)). AreRowsOf plan.base plan.layout rows) (sym is.rows_are) (rows_are_of_plan plan load.options body);
      targets = subst (λ (rows : List (List Cell)). TargetsOf plan rows built.targets) (sym is.rows_are) is.targets;
    }
