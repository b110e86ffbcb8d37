-- Why a body is not read.
use Rattle.std.specs.Prelude.{◌≡◌, ◌<◌, ℕ}
use Rattle.csv_load.specs.declared.fault.BodyFault.{BodyFault}
use Rattle.csv_load.specs.declared.fault.BodyFault.TheVariants as fault

-- how many records a body has at most (this project's own)
abbrev pub max_records : ℕ
max_records = 1000000

-- the refusal of a body with this many records: they are more than the limit, which the refusal tells, or memory was short
abbrev pub Explains : ℕ → BodyFault → Type 0
Explains count (fault.TooManyRows limit) = (limit ≡ max_records) × (max_records < count)
Explains count fault.NoMemory = Unit {0}
