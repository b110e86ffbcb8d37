-- What was read of a journal so far.
use Rattle.std.proofs.Common.{◌≡◌, ℕ, ◌+◌, ◌-◌, ◌^◌, ◌<◌, ◌≤◌, List, [], ◌∷◌, ◌++◌, map, length, Option, Some, None, Ok, Err, refl, sym, ap, subst, ◌∙◌, append_assoc, arith}
use Rattle.std.specs.List.{slice_get}
use Rattle.std.proofs.lemmas.List.{append-nil, length-append, map_push}
use Rattle.std.proofs.lemmas.Option.{slice_get_within}
use Rattle.record_keeper.specs.Keeping.{Records}
use Rattle.journal_records.specs.declared.record.Record.{Record}
use Rattle.journal_records.specs.Spelling.{spelling}
use Rattle.journal_records.specs.Fitting.{Fits}
use Rattle.journal_core.specs.declared.error.JournalError.{JournalError}
use Rattle.journal_core.specs.declared.error.JournalError.TheVariants as journal
use Rattle.journal_core.specs.Journal.{AllFit, FirstBad, NoRecord, Reads, Replays}
use Rattle.journal_core.specs.Causes.{IsFirstBad, ReadHasCause, ReplayHasCause}

-- these records were read, and the place is behind them
pub record IsFront (records : List (List ℕ)) (found : List Record) (place : ℕ) : Type 0 where
  pub rest : List (List ℕ)
  pub parts : records ≡ map spelling found ++ rest
  pub count : place ≡ length found
  pub fit : AllFit found

abbrev pub ReadSoFar : Records → Records → List Record → ℕ → Type 0
ReadSoFar old None found place = Unit {0}
ReadSoFar None (Some now) found place = ⊥
ReadSoFar (Some before) (Some now) found place = (now ≡ before) × IsFront now found place

-- whatever is told
pub record SoFar (old now : Records) (found : List Record) (place : ℕ) : Type 0 where
  pub count : place ≡ length found
  pub fit : AllFit found
  pub told : ReadSoFar old now found place

at_first : (r : Records) → ReadSoFar r r [] 0
at_first None = tt
at_first (Some rs) = (refl, record { rest = rs; parts = refl; count = refl; fit = tt })

pub begins : (r : Records) → SoFar r r [] 0
begins r = record { count = refl; fit = tt; told = at_first r }

-- ---- one record more

behind_front : (found : List Record) (rest : List (List ℕ)) → slice_get (map spelling found ++ rest) (length found) ≡ slice_get rest 0
behind_front [] rest = refl
behind_front (r ∷ found) rest = behind_front found rest

next : (records : List (List ℕ)) (found : List Record) (rest : List (List ℕ)) (place : ℕ) → records ≡ map spelling found ++ rest → place ≡ length found → slice_get records place ≡ slice_get rest 0
next records found rest place parts count = rw (parts, count) (behind_front found rest)

fit_more : (found : List Record) (told : Record) → AllFit found → Fits told → AllFit (found ++ told ∷ [])
fit_more [] told fit one = (one, tt)
fit_more (r ∷ found) told fit one = (fit.0, fit_more found told fit.1 one)

one_more : (records : List (List ℕ)) (found : List Record) (place : ℕ) (told : Record) → IsFront records found place → Fits told → slice_get records place ≡ Some (spelling told) → IsFront records (found ++ told ∷ []) (place + 1)
one_more records found place told f one e = go f.rest f.parts (sym (next records found f.rest place f.parts f.count) ∙ e)
  where
    go : (rest : List (List ℕ)) → records ≡ map spelling found ++ rest → slice_get rest 0 ≡ Some (spelling told) → IsFront records (found ++ told ∷ []) (place + 1)
    go [] parts k = absurd cc
    go (b ∷ behind) parts k =
        let same : b ≡ spelling told = cc in
        let grown : map spelling (found ++ told ∷ []) ++ behind ≡ map spelling found ++ spelling told ∷ behind = ap (λ (l : List (List ℕ)). l ++ behind) (map_push spelling found told) ∙ append_assoc (map spelling found) (spelling told ∷ []) behind in
        record {
          rest = behind;
          parts = parts ∙ ap (λ (x : List ℕ). map spelling found ++ x ∷ behind) same ∙ sym grown;
          count = omega (arith, length-append found (told ∷ []), f.count);
          fit = fit_more found told f.fit one;
        }

told_on : (old mid new : Records) (found : List Record) (place : ℕ) (told : Record) → ReadSoFar old mid found place → Reads mid place new (Ok (Some told)) → ReadSoFar old new (found ++ told ∷ []) (place + 1)
told_on old mid None found place told so r = tt
told_on old None (Some now) found place told so r = absurd r
told_on None (Some m) (Some now) found place told so r = absurd so
told_on (Some before) (Some m) (Some now) found place told so r =
    let f : IsFront now found place = subst (λ (l : List (List ℕ)). IsFront l found place) (sym r.0) so.1 in
    (r.0 ∙ so.0, one_more now found place told f r.1.0 r.1.1)

pub goes_on : (old mid new : Records) (found : List Record) (place : ℕ) (told : Record) → SoFar old mid found place → Reads mid place new (Ok (Some told)) → Fits told → SoFar old new (found ++ told ∷ []) (place + 1)
goes_on old mid new found place told so r one = record {
  count = omega (arith, length-append found (told ∷ []), so.count);
  fit = fit_more found told so.fit one;
  told = told_on old mid new found place told so.told r;
}

-- ---- the end

no_more : (records : List (List ℕ)) (found : List Record) (place : ℕ) → IsFront records found place → slice_get records place ≡ None → records ≡ map spelling found
no_more records found place f e = go f.rest f.parts (sym (next records found f.rest place f.parts f.count) ∙ e)
  where
    go : (rest : List (List ℕ)) → records ≡ map spelling found ++ rest → slice_get rest 0 ≡ None → records ≡ map spelling found
    go [] parts k = parts ∙ append-nil (map spelling found)
    go (b ∷ behind) parts k = absurd cc

pub is_all : (old mid new : Records) (found : List Record) (place : ℕ) → ReadSoFar old mid found place → Reads mid place new (Ok None) → Replays old new (Ok found)
is_all old mid None found place so r = tt
is_all old None (Some now) found place so r = absurd r
is_all None (Some m) (Some now) found place so r = absurd so
is_all (Some before) (Some m) (Some now) found place so r =
    let f : IsFront now found place = subst (λ (l : List (List ℕ)). IsFront l found place) (sym r.0) so.1 in
    (r.0 ∙ so.0, (f.fit, no_more now found place f r.1))

first_bad : (records : List (List ℕ)) (found : List Record) (place : ℕ) (bytes : List ℕ) (seq : ℕ) → IsFront records found place → slice_get records place ≡ Some bytes → seq ≡ place + 1 → NoRecord bytes → FirstBad records seq
first_bad records found place bytes seq f e s n = go f.rest f.parts (sym (next records found f.rest place f.parts f.count) ∙ e)
  where
    go : (rest : List (List ℕ)) → records ≡ map spelling found ++ rest → slice_get rest 0 ≡ Some bytes → FirstBad records seq
    go [] parts k = absurd cc
    go (b ∷ behind) parts k =
        let same : bytes ≡ b = cc in
        record { front = found; bad = b; behind = behind; parts = parts; fit = f.fit; no_record = subst (λ (x : List ℕ). NoRecord x) same n; seq-is = s ∙ ap (λ (x : ℕ). x + 1) f.count }

-- a fault: of the keeper, of memory, or what stands there is no record
pub fails : (old mid new : Records) (found : List Record) (place : ℕ) (e : JournalError) → ReadSoFar old mid found place → Reads mid place new (Err e) → Replays old new (Err e)
fails old mid None found place e so r = tt
fails old None (Some now) found place e so r = absurd r
fails None (Some m) (Some now) found place e so r = absurd so
fails (Some before) (Some m) (Some now) found place journal.KeeperFault so r = (r.0 ∙ so.0, tt)
fails (Some before) (Some m) (Some now) found place (journal.BadJournal seq) so r =
    let f : IsFront now found place = subst (λ (l : List (List ℕ)). IsFront l found place) (sym r.0) so.1 in
    (r.0 ∙ so.0, first_bad now found place r.1.0 seq f r.1.1 r.1.2 r.1.3)
fails (Some before) (Some m) (Some now) found place journal.TooLong so r = absurd r.1
fails (Some before) (Some m) (Some now) found place journal.NoMemory so r = (r.0 ∙ so.0, tt)

-- want of memory for the list
pub gives_up : (old mid : Records) (found : List Record) (place : ℕ) → ReadSoFar old mid found place → Replays old mid (Err journal.NoMemory)
gives_up old None found place so = tt
gives_up None (Some m) found place so = absurd so
gives_up (Some before) (Some m) found place so = (so.0, tt)

-- a keeper that tells its records has no record at 2^63 - 1
pub one_too_many : (old mid new : Records) (place : ℕ) (told : Record) (seq : ℕ) → ((rs : List (List ℕ)) → new ≡ Some rs → length rs < 2 ^ 63) → 2 ^ 63 - 1 ≤ place → Reads mid place new (Ok (Some told)) → Replays old new (Err (journal.BadJournal seq))
one_too_many old mid None place told seq few far r = tt
one_too_many old None (Some now) place told seq few far r = absurd r
one_too_many old (Some m) (Some now) place told seq few far r = absurd (omega (arith, few now refl, slice_get_within now place (spelling told) r.1.1))

-- ---- why it was not read

pub first_of : (old new : Records) (seq : ℕ) → Replays old new (Err (journal.BadJournal seq)) → IsFirstBad new seq
first_of old None seq r = tt
first_of None (Some now) seq r = absurd r
first_of (Some before) (Some now) seq r = r.1

pub has_cause : (old new : Records) (place before mid now : ℕ) (e : JournalError) → place < 2 ^ 63 → mid ≡ before → ReadHasCause place mid now (Err e) → Replays old new (Err e) → ReplayHasCause new before now (Err e)
has_cause old new place before mid now journal.KeeperFault lt same c r = omega (arith, same, c)
has_cause old new place before mid now (journal.BadJournal seq) lt same c r = (c.0 ∙ same, omega (arith, c.1), omega (arith, c.1, lt), first_of old new seq r)
has_cause old new place before mid now journal.TooLong lt same c r = absurd c
has_cause old new place before mid now journal.NoMemory lt same c r = c ∙ same

pub still : (place mid now : ℕ) (found : Option Record) → ReadHasCause place mid now (Ok found) → now ≡ mid
still place mid now None c = c
still place mid now (Some told) c = c.0
