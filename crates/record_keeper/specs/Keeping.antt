-- What a call of a keeper leaves, by what the keeper tells after it (this project's own). Where it then tells records, it told
-- records before. It may stop telling at any call.
use Rattle.std.specs.Prelude.{◌≡◌, ◌⊎◌, ℕ, List, [], ◌∷◌, ◌++◌, Option, Some, None, Result, Ok, Err, slice_get, ⊤}
use Rattle.dl_outside.specs.Faults.{HasRisen}
use Rattle.record_keeper.specs.declared.error.KeeperError.{KeeperError}
use Rattle.record_keeper.specs.declared.error.KeeperError.TheVariants.{Failed, NoMemory}

abbrev pub Records : Type 0
Records = Option (List (List ℕ))

-- one record more, at the end; after a failure it may be there
abbrev pub Added : List (List ℕ) → List ℕ → List (List ℕ) → Result (Unit {0}) KeeperError → Type 0
Added before bytes now (Ok done) = now ≡ before ++ bytes ∷ []
Added before bytes now (Err Failed) = (now ≡ before) ⊎ (now ≡ before ++ bytes ∷ [])
Added before bytes now (Err NoMemory) = now ≡ before

abbrev pub Appends : Records → List ℕ → Records → Result (Unit {0}) KeeperError → Type 0
Appends old bytes None result = ⊤
Appends None bytes (Some now) result = ⊥
Appends (Some before) bytes (Some now) result = Added before bytes now result

-- this record alone; after a failure it may be so
abbrev pub Replaced : List (List ℕ) → List ℕ → List (List ℕ) → Result (Unit {0}) KeeperError → Type 0
Replaced before bytes now (Ok done) = now ≡ bytes ∷ []
Replaced before bytes now (Err Failed) = (now ≡ before) ⊎ (now ≡ bytes ∷ [])
Replaced before bytes now (Err NoMemory) = now ≡ before

abbrev pub Replaces : Records → List ℕ → Records → Result (Unit {0}) KeeperError → Type 0
Replaces old bytes None result = ⊤
Replaces None bytes (Some now) result = ⊥
Replaces (Some before) bytes (Some now) result = Replaced before bytes now result

-- the record at a place, or none past the end
abbrev pub FoundAt : List (List ℕ) → ℕ → Result (Option (List ℕ)) KeeperError → Type 0
FoundAt records place (Ok found) = slice_get records place ≡ found
FoundAt records place (Err e) = ⊤

-- nothing has changed
abbrev pub ReadsAt : Records → ℕ → Records → Result (Option (List ℕ)) KeeperError → Type 0
ReadsAt old place None result = ⊤
ReadsAt None place (Some now) result = ⊥
ReadsAt (Some before) place (Some now) result = (now ≡ before) × FoundAt now place result

-- the count of faults rises at a fault, and stands still at every other answer
abbrev pub CountsFaults : {T : Type 0} → ℕ → ℕ → Result T KeeperError → Type 0
CountsFaults before now (Ok value) = now ≡ before
CountsFaults before now (Err Failed) = HasRisen before now
CountsFaults before now (Err NoMemory) = now ≡ before
