-- What contracts see of a keeper over a database, and how its count goes on (this project's own).
use Rattle.std.specs.Prelude.{◌≡◌, ◌+◌, ◌-◌, ◌<◌, ◌^◌, ℕ, min, List, length, Option, Some, None, Result, Ok, Err}
use Rattle.record_keeper.specs.declared.error.KeeperError.{KeeperError}
use Rattle.record_keeper.specs.declared.error.KeeperError.TheVariants.{Failed, NoMemory}

-- how often it has failed
pub record KeeperView : Type 0 where
  pub faults : ℕ

-- a fault is counted, up to the end of the type of the count; want of memory is none
abbrev pub Counts : {T : Type 0} → ℕ → ℕ → Result T KeeperError → Type 0
Counts before now (Ok value) = now ≡ before
Counts before now (Err Failed) = now ≡ min (before + 1) (2 ^ 64 - 1)
Counts before now (Err NoMemory) = now ≡ before

-- who tells no records tells few
pub none_are_few : (rs : List (List ℕ)) → ◌≡◌ {A = Option (List (List ℕ))} None (Some rs) → length rs < 2 ^ 63
none_are_few rs told = absurd cc
