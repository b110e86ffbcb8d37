-- The book beside an engine: a table of one word, which the one pen writes.
use Rattle.std.specs.Prelude.{◌≡◌, ℕ, ◌%◌, ◌^◌, List, [], ◌∷◌, length, Option, Some, None}
use Rattle.atomic_table.specs.Table.{State, Me, Step}
use Rattle.desk.specs.declared.book.Log.{Log}

abbrev pub empty_log : {N : Type 0} → Log N
empty_log = record { since = [] }

-- the word is the number of entries, and the pen knows them
abbrev pub IsBook : {N : Type 0} → State (Unit {0}) (Log N) → Type 0
IsBook {N} s = (log : List N) × (s.words ≡ length log % 2 ^ 64 ∷ []) × (s.views ≡ record { since = log } ∷ [])

-- the pen has written the entry
abbrev pub Written : {N : Type 0} → Option N → Step (Unit {0}) → Me (Unit {0}) (Log N) → ℕ → Me (Unit {0}) (Log N) → Type 0
Written {N} entry st m n m' = (e : N) → entry ≡ Some e → m'.0.since ≡ e ∷ m.0.since

-- the newest entry of what a seat holds
abbrev pub first_of : {N : Type 0} → List N → Option N
first_of [] = None
first_of (e ∷ es) = Some e

abbrev pub newest : {N : Type 0} → Option (List N) → Option N
newest None = None
newest (Some log) = first_of log
