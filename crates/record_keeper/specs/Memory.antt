-- What contracts see of a keeper in memory, and what each of its calls leaves.
use Rattle.std.specs.Prelude.{◌≡◌, ◌<◌, ◌^◌, ◌+◌, ◌-◌, ℕ, min, ltb, cond, ◌==◌, if◌then◌else◌, Bool, true, false, List, [], ◌∷◌, length, Option, Some, None, Result, Ok, Err, refl}
use Rattle.std.proofs.Common.{subst}
use Rattle.std.proofs.lemmas.Bool.{ltb-true}
use Rattle.record_keeper.specs.declared.error.KeeperError.{KeeperError}
use Rattle.record_keeper.specs.declared.error.KeeperError.TheVariants.{Failed, NoMemory}
use Rattle.record_keeper.specs.declared.memory_keeper.FailingCall.{FailingCall}

-- its records, how often it has failed, how often it was called, and the calls that fail
pub record MemoryView : Type 0 where
  pub records : List (List ℕ)
  pub faults : ℕ
  pub calls : ℕ
  pub fails : List FailingCall

-- it tells fewer than 2^63 records
abbrev pub told_records : MemoryView → Option (List (List ℕ))
told_records k = cond (ltb (length k.records) (2 ^ 63)) (Some k.records) None

few_of : (b : Bool) (all rs : List (List ℕ)) → ltb (length all) (2 ^ 63) ≡ b → cond b (Some all) None ≡ Some rs → length rs < 2 ^ 63
few_of true all rs test told =
    let same : all ≡ rs = cc in
    subst (λ (l : List (List ℕ)). length l < 2 ^ 63) same (ltb-true (length all) (2 ^ 63) test)
few_of false all rs test told = absurd cc

pub few_are_told : (k : MemoryView) (rs : List (List ℕ)) → told_records k ≡ Some rs → length rs < 2 ^ 63
few_are_told k rs told = few_of (ltb (length k.records) (2 ^ 63)) k.records rs refl told

-- ---- calls that fail

-- whether the call with this number fails, and then whether what it was to keep is kept: by the first of the list that has the number
abbrev pub planned_in : List FailingCall → ℕ → Option Bool
planned_in [] call = None
planned_in (one ∷ others) call = if one.call == call then Some one.kept else planned_in others call

-- a count of 64 bits, which stands still at its end
abbrev pub counted : ℕ → ℕ
counted n = min (n + 1) (2 ^ 64 - 1)

-- one call more, with these records and this count of faults
abbrev pub called : MemoryView → List (List ℕ) → ℕ → MemoryView
called old records faults = record { records = records; faults = faults; calls = counted old.calls; fails = old.fails }

-- What a call leaves that is to leave these records. One that is not planned to fail does not fail; one that is fails, and leaves
-- them where it keeps, and else the old ones. Want of memory changes nothing.
abbrev pub LeavesBy : {T : Type 0} → Option Bool → MemoryView → List (List ℕ) → MemoryView → Result T KeeperError → Type 0
LeavesBy plan old records new (Err NoMemory) = new ≡ called old old.records old.faults
LeavesBy None old records new (Ok value) = new ≡ called old records old.faults
LeavesBy None old records new (Err Failed) = ⊥
LeavesBy (Some kept) old records new (Ok value) = ⊥
LeavesBy (Some true) old records new (Err Failed) = new ≡ called old records (counted old.faults)
LeavesBy (Some false) old records new (Err Failed) = new ≡ called old old.records (counted old.faults)

abbrev pub Leaves : {T : Type 0} → MemoryView → List (List ℕ) → MemoryView → Result T KeeperError → Type 0
Leaves old records new result = LeavesBy (planned_in old.fails old.calls) old records new result
