-- What the body of a load that has begun gives: a built load, a refusal, or want of memory.
use Rattle.std.specs.Prelude.{◌≡◌, ◌<◌, ◌≤◌, ℕ, true, false, List, length}
use Rattle.csv_load.specs.Body.{records_by}
use Rattle.csv_load.specs.Limit.{fails}
use Rattle.csv_load.specs.Refusal.{max_records}
use Rattle.csv_load.specs.declared.options.Options.{Options}
use Rattle.csv_load.specs.declared.parsed.Parsed.{Parsed}
use Rattle.shadow_writes.specs.declared.plan.Plan.{Plan}
use Rattle.load_build.specs.Building.{IsBuiltOf}
use Rattle.load_server.specs.Scripts.{parsed_by}
use Rattle.load_server.specs.declared.prepare.Prepared.{Prepared}
use Rattle.load_server.specs.declared.prepare.Prepared.TheVariants as prepared
use Rattle.load_server.specs.declared.report.Counts.{Counts}

-- the counts are those of the body
pub record AreCounts (parsed : Parsed) (counts : Counts) : Type 0 where
  pub filtered : counts.filtered ≡ parsed.filtered
  pub total : counts.total ≡ parsed.total

-- of a body that was read
abbrev pub Judges : Plan → Options → Parsed → Prepared → Type 0
Judges plan options parsed (prepared.Ready built counts) = (fails parsed.filtered parsed.total options.ratio ≡ false) × IsBuiltOf plan parsed.rows built × AreCounts parsed counts
Judges plan options parsed prepared.TooManyRows = ⊥
Judges plan options parsed (prepared.TooManyFiltered counts) = (fails parsed.filtered parsed.total options.ratio ≡ true) × AreCounts parsed counts
Judges plan options parsed prepared.NoMemory = Unit {0}

-- of a body
abbrev pub Prepares : Plan → Options → List ℕ → Prepared → Type 0
Prepares plan options body prepared.TooManyRows = max_records < length (records_by options body)
Prepares plan options body prepared.NoMemory = Unit {0}
Prepares plan options body result = (length (records_by options body) ≤ max_records) × Judges plan options (parsed_by plan options body) result
