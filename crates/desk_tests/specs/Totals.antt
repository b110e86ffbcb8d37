-- Histories of a total, the newest entry first (this project's own).
use Rattle.std.specs.Prelude.{◌≡◌, ℕ, ◌+◌, ◌%◌, ◌^◌, List, [], ◌∷◌, Option, Some, None}
use Rattle.std.proofs.Common.{ap}
use Rattle.desk_tests.specs.declared.total.Entry.{Entry}
use Rattle.desk_tests.specs.declared.total.Entry.TheVariants.{Told, Made}

abbrev pub seat_of : Entry → Option (List ℕ)
seat_of (Told n) = None
seat_of (Made x) = Some x.seat

abbrev pub IsCall : Entry → List ℕ → ℕ → ℕ → Type 0
IsCall (Told n) seat command reply = ⊥
IsCall (Made x) seat command reply = (x.seat ≡ seat) × (x.command ≡ command) × (x.reply ≡ reply)

pub call_named : (e : Entry) (seat : List ℕ) (command reply : ℕ) → IsCall e seat command reply → seat_of e ≡ Some seat
call_named (Told n) seat command reply call = absurd call
call_named (Made x) seat command reply call = ap Some call.0

-- what an entry adds
abbrev pub amount : Entry → ℕ
amount (Told n) = n
amount (Made x) = x.command

abbrev pub total_of : List Entry → ℕ
total_of [] = 0
total_of (e ∷ log) = (total_of log + amount e) % 2 ^ 64

-- a call is marked with the total before it, and answered by the one after it
abbrev pub IsMarked : Entry → ℕ → Type 0
IsMarked (Told n) before = Unit {0}
IsMarked (Made x) before = (x.before ≡ before) × (x.reply ≡ (before + x.command) % 2 ^ 64)

abbrev pub IsLegal : List Entry → Type 0
IsLegal [] = Unit {0}
IsLegal (e ∷ log) = IsMarked e (total_of log) × IsLegal log
