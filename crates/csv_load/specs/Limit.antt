-- How much of a body may be filtered (Apache Doris documentation, "Stream Load": `max_filter_ratio`).
use Rattle.std.specs.Prelude.{ℕ, ◌*◌, Bool, nat_lt}

-- more of the records were filtered than the ratio, in ten-thousandths, allows
abbrev pub fails : ℕ → ℕ → ℕ → Bool
fails filtered total ratio = nat_lt (ratio * total) (filtered * 10000)
