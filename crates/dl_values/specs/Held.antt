-- The bytes that a text holds, in itself or in memory of its own.
use Rattle.std.specs.Prelude.{ℕ, ◌≤◌, List, take}
use Rattle.dl_values.specs.declared.text.Held.{Held}
use Rattle.dl_values.specs.declared.text.Held.TheVariants as held

abbrev pub held_bytes : Held → List ℕ
held_bytes (held.Short len bytes) = take len bytes
held_bytes (held.Long bytes) = bytes.value.items

-- a short text is not longer than its room
abbrev pub IsHeld : Held → Type 0
IsHeld (held.Short len bytes) = len ≤ 22
IsHeld (held.Long bytes) = Unit {0}
