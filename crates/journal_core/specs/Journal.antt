-- What is kept of a record, and what records are read, by what the keeper tells after the call (this project's own). Where it
-- then tells records, it told records before.
use Rattle.std.specs.Prelude.{◌≡◌, ◌⊎◌, ℕ, ◌+◌, List, [], ◌∷◌, ◌++◌, map, length, Option, Some, None, Result, Ok, Err, slice_get, ⊤}
use Rattle.std.specs.List.{AllByRecursion}
use Rattle.record_keeper.specs.Keeping.{Records}
use Rattle.journal_records.specs.declared.record.Record.{Record}
use Rattle.journal_records.specs.Spelling.{spelling}
use Rattle.journal_records.specs.Fitting.{Fits}
use Rattle.journal_core.specs.declared.error.JournalError.{JournalError}
use Rattle.journal_core.specs.declared.error.JournalError.TheVariants as journal

-- ---- keeping

-- one record more, at the end; after a fault of the keeper it may be there
abbrev pub Kept : List (List ℕ) → List ℕ → List (List ℕ) → Result (Unit {0}) JournalError → Type 0
Kept before bytes now (Ok done) = now ≡ before ++ bytes ∷ []
Kept before bytes now (Err journal.KeeperFault) = (now ≡ before) ⊎ (now ≡ before ++ bytes ∷ [])
Kept before bytes now (Err (journal.BadJournal seq)) = ⊥
Kept before bytes now (Err journal.TooLong) = now ≡ before
Kept before bytes now (Err journal.NoMemory) = now ≡ before

abbrev pub Keeps : Records → List ℕ → Records → Result (Unit {0}) JournalError → Type 0
Keeps old bytes None result = ⊤
Keeps None bytes (Some now) result = ⊥
Keeps (Some before) bytes (Some now) result = Kept before bytes now result

-- ---- reading

-- no record has these bytes
abbrev pub NoRecord : List ℕ → Type 0
NoRecord bytes = (r : Record) → Fits r → bytes ≡ spelling r → ⊥

-- what is read of the bytes at a place
abbrev pub IsReadOf : List ℕ → ℕ → Result Record JournalError → Type 0
IsReadOf bytes place (Ok told) = Fits told × (bytes ≡ spelling told)
IsReadOf bytes place (Err journal.KeeperFault) = ⊥
IsReadOf bytes place (Err (journal.BadJournal seq)) = (seq ≡ place + 1) × NoRecord bytes
IsReadOf bytes place (Err journal.TooLong) = ⊥
IsReadOf bytes place (Err journal.NoMemory) = ⊤

-- what stands at a place
abbrev pub RecordAt : List (List ℕ) → ℕ → Result (Option Record) JournalError → Type 0
RecordAt records place (Ok None) = slice_get records place ≡ None
RecordAt records place (Ok (Some told)) = Fits told × (slice_get records place ≡ Some (spelling told))
RecordAt records place (Err journal.KeeperFault) = ⊤
RecordAt records place (Err (journal.BadJournal seq)) = (bytes : List ℕ) × (slice_get records place ≡ Some bytes) × (seq ≡ place + 1) × NoRecord bytes
RecordAt records place (Err journal.TooLong) = ⊥
RecordAt records place (Err journal.NoMemory) = ⊤

-- nothing has changed
abbrev pub Reads : Records → ℕ → Records → Result (Option Record) JournalError → Type 0
Reads old place None result = ⊤
Reads None place (Some now) result = ⊥
Reads (Some before) place (Some now) result = (now ≡ before) × RecordAt now place result

-- ---- reading all

abbrev pub AllFit : List Record → Type 0
AllFit all = AllByRecursion Fits all

-- records stand in front of what is none
pub record FirstBad (records : List (List ℕ)) (seq : ℕ) : Type 0 where
  pub front : List Record
  pub bad : List ℕ
  pub behind : List (List ℕ)
  pub parts : records ≡ map spelling front ++ bad ∷ behind
  pub fit : AllFit front
  pub no_record : NoRecord bad
  pub seq-is : seq ≡ length front + 1

abbrev pub Replayed : List (List ℕ) → Result (List Record) JournalError → Type 0
Replayed records (Ok all) = AllFit all × (records ≡ map spelling all)
Replayed records (Err journal.KeeperFault) = ⊤
Replayed records (Err (journal.BadJournal seq)) = FirstBad records seq
Replayed records (Err journal.TooLong) = ⊥
Replayed records (Err journal.NoMemory) = ⊤

-- nothing has changed
abbrev pub Replays : Records → Records → Result (List Record) JournalError → Type 0
Replays old None result = ⊤
Replays None (Some now) result = ⊥
Replays (Some before) (Some now) result = (now ≡ before) × Replayed now result
