-- When each answer of a journal may come (this project's own). Want of memory is free. The count of faults stands still at every answer
-- but a fault of the keeper.
use Rattle.std.specs.Prelude.{◌≡◌, ◌≤◌, ◌<◌, ◌^◌, ℕ, ◌+◌, true, false, List, length, Option, Some, None, Result, Ok, Err, ⊤}
use Rattle.dl_outside.specs.Faults.{HasRisen}
use Rattle.record_keeper.specs.Keeping.{Records}
use Rattle.record_keeper.specs.declared.error.KeeperError.{KeeperError}
use Rattle.record_keeper.specs.declared.error.KeeperError.TheVariants as keeping
use Rattle.journal_records.specs.declared.errors.EncodeError.{EncodeError}
use Rattle.journal_records.specs.declared.errors.EncodeError.TheVariants as encoding
use Rattle.journal_records.specs.declared.record.Record.{Record}
use Rattle.journal_records.specs.Fitting.{short, Fits}
use Rattle.journal_core.specs.Journal.{AllFit, FirstBad}
use Rattle.journal_core.specs.declared.error.JournalError.{JournalError}
use Rattle.journal_core.specs.declared.error.JournalError.TheVariants as journal

abbrev pub of_encode : EncodeError → JournalError
of_encode encoding.NoMemory = journal.NoMemory
of_encode encoding.TooLong = journal.TooLong

abbrev pub of_keeper : KeeperError → JournalError
of_keeper keeping.Failed = journal.KeeperFault
of_keeper keeping.NoMemory = journal.NoMemory

-- the count of the keeper's faults before a call and after it
abbrev pub AppendHasCause : Record → ℕ → ℕ → Result (Unit {0}) JournalError → Type 0
AppendHasCause told before now (Ok done) = (now ≡ before) × (short told ≡ true)
AppendHasCause told before now (Err journal.KeeperFault) = HasRisen before now
AppendHasCause told before now (Err (journal.BadJournal seq)) = ⊥
AppendHasCause told before now (Err journal.TooLong) = (now ≡ before) × (short told ≡ false)
AppendHasCause told before now (Err journal.NoMemory) = now ≡ before

abbrev pub ReadHasCause : ℕ → ℕ → ℕ → Result (Option Record) JournalError → Type 0
ReadHasCause place before now (Ok None) = now ≡ before
ReadHasCause place before now (Ok (Some told)) = (now ≡ before) × Fits told
ReadHasCause place before now (Err journal.KeeperFault) = HasRisen before now
ReadHasCause place before now (Err (journal.BadJournal seq)) = (now ≡ before) × (seq ≡ place + 1)
ReadHasCause place before now (Err journal.TooLong) = ⊥
ReadHasCause place before now (Err journal.NoMemory) = now ≡ before

-- where records are told, the first that is none
abbrev pub IsFirstBad : Records → ℕ → Type 0
IsFirstBad None seq = ⊤
IsFirstBad (Some records) seq = FirstBad records seq

-- by the records told after the call; a journal has fewer than 2^63, whatever is told
abbrev pub ReplayHasCause : Records → ℕ → ℕ → Result (List Record) JournalError → Type 0
ReplayHasCause told before now (Ok all) = (now ≡ before) × AllFit all × (length all < 2 ^ 63)
ReplayHasCause told before now (Err journal.KeeperFault) = HasRisen before now
ReplayHasCause told before now (Err (journal.BadJournal seq)) = (now ≡ before) × (1 ≤ seq) × (seq ≤ 2 ^ 63) × IsFirstBad told seq
ReplayHasCause told before now (Err journal.TooLong) = ⊥
ReplayHasCause told before now (Err journal.NoMemory) = now ≡ before
