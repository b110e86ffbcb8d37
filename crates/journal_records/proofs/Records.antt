-- A reader of records reads what is spelled, and what is spelled is read again.
use Rattle.std.proofs.Common.{◌≡◌, ℕ, List, [], ◌∷◌, ◌++◌, length, Result, Ok, Err, refl, sym, ap, subst, ◌∙◌, append_assoc}
use Rattle.std.specs.Prelude.{IfOk}
use Rattle.std.proofs.lemmas.List.{append-nil}
use Rattle.journal_records.specs.declared.errors.DecodeError.{DecodeError}
use Rattle.journal_records.specs.declared.record.Record.{Record}
use Rattle.journal_records.specs.declared.record.Record.TheVariants as kind
use Rattle.journal_records.specs.Spelling.{number64, optional, pair, load, new_part, data_cause, cause, fields, spelling}
use Rattle.journal_records.specs.Fitting.{FitsPair, FitsLoad, FitsPart, FitsData, FitsCause, Fits}
use Rattle.journal_records.specs.declared.cause.Cause.{Cause}
use Rattle.journal_records.specs.declared.cause.Cause.TheVariants as causes
use Rattle.journal_records.specs.Reading.{bind, is, ◌>>=◌, number64_at, load_at, pair_at, job_at, commit_at, job_waiting_at, new_part_at, data_cause_at, cause_at, job_cancelled_at, later_at, fields_at, record_at, record_of, to_end, Decodes}
use Rattle.journal_records.proofs.Fields.{IsBytes, Takes, Reads, Sound, Behind, bind_ok, ok_is, done, field, last, whole, none_sound, tag_sound, behind, alone, made_again, number64_reads, text_reads, flag_reads, job_reads, pair_reads}
use Rattle.journal_records.proofs.Cells.{row_reads, rows_read, bound_reads}
use Rattle.journal_records.proofs.Tables.{new_table_reads, new_job_reads}

-- ---- loads

load_reads : Reads load FitsLoad load_at
unfolding load_at load
load_reads =
    whole (field (λ l. l.txn) number64_reads (λ txn.
    field (λ l. l.table) number64_reads (λ table.
    field (λ l. l.label) text_reads (λ label.
    field (λ l. l.at) number64_reads (λ at.
    field (λ l. l.two_phase) flag_reads (λ two_phase.
    field (λ l. l.schema) number64_reads (λ schema.
    field (λ l. l.cancelled) job_reads (λ cancelled.
    last (λ l. l.rows) (λ rows. record { txn = txn; table = table; label = label; at = at; two_phase = two_phase; schema = schema; cancelled = cancelled; rows = rows }) rows_read
    (λ rows. ((((((((tt, refl), refl), refl), refl), refl), refl), refl), refl))
    (λ l k. rw (← k.1, ← k.0.1, ← k.0.0.1, ← k.0.0.0.1, ← k.0.0.0.0.1, ← k.0.0.0.0.0.1, ← k.0.0.0.0.0.0.1) refl)))))))))

-- ---- partitions and causes

new_part_reads : Reads new_part FitsPart new_part_at
unfolding new_part_at new_part
new_part_reads =
    whole (field (λ p. p.table) number64_reads (λ table.
    field (λ p. p.name) text_reads (λ name.
    field (λ p. p.low) bound_reads (λ low.
    last (λ p. p.high) (λ high. record { table = table; name = name; low = low; high = high }) bound_reads
    (λ high. ((((tt, refl), refl), refl), refl))
    (λ p k. rw (← k.1, ← k.0.1, ← k.0.0.1) refl)))))

data_cause_reads : Reads data_cause FitsData data_cause_at
unfolding data_cause_at data_cause
data_cause_reads = whole (field (λ x. x.0) text_reads (λ column. last (λ x. x.1) (λ cells. (column, cells)) row_reads (λ cells. ((tt, refl), refl)) (λ x k. rw (← k.1) refl)))

cause_sound : Sound cause FitsCause cause_at
unfolding cause_at cause
cause_sound =
    tag_sound 0 cause FitsCause _ _ (alone 0 cause FitsCause causes.Command refl tt)
    (tag_sound 1 cause FitsCause _ _ (behind 1 cause FitsCause (λ x. causes.Data x.0 x.1) data_cause_reads (λ x. refl) (λ x h. h))
    (tag_sound 2 cause FitsCause _ _ (behind 2 cause FitsCause causes.Load number64_reads (λ n. refl) (λ n h. h)) (none_sound cause FitsCause)))

cause_again : (c : Cause) (rest : List ℕ) → FitsCause c → cause_at (cause c ++ rest) ≡ Ok (c, rest)
unfolding cause_at cause
cause_again causes.Command rest fits = refl
cause_again (causes.Data column cells) rest fits = made_again (λ x. causes.Data x.0 x.1) data_cause_reads (column, cells) rest fits
cause_again (causes.Load txn) rest fits = made_again causes.Load number64_reads txn rest fits

cause_reads : Reads cause FitsCause cause_at
cause_reads = record { takes = cause_sound; again = cause_again }

-- ---- records

-- fields behind a pair
paired : {A : Type 0} {w : A → List ℕ} {F : A → Type 0} {f : List ℕ → Result (A × List ℕ) ℕ} → Reads w F f → Reads {A = (ℕ × ℕ) × A} (λ x. pair x.0 ++ w x.1) (λ x. FitsPair x.0 × F x.1) (pair_at >>= λ p. f >>= λ a. is (p, a))
paired one = whole (field (λ x. x.0) pair_reads (λ p. last (λ x. x.1) (λ a. (p, a)) one (λ a. ((tt, refl), refl)) (λ x k. rw (← k.1) refl)))

job_cancelled_sound : (format : ℕ) → Behind 13 (fields format) Fits job_cancelled_at
unfolding job_cancelled_at
job_cancelled_sound format bytes s rest fits e =
    let a = bind_ok (pair_at bytes) (λ p. cause_at >>= λ c. is (kind.JobCancelled p.0 p.1 c)) (s, rest) e in
    let b = bind_ok (cause_at a.1) (λ c. is (kind.JobCancelled a.0.0 a.0.1 c)) (s, rest) a.3 in
    let both : (pair_at >>= λ p. cause_at >>= λ c. is (p, c)) bytes ≡ Ok ((a.0, b.0), b.1) = ap (λ r. bind r (λ p. cause_at >>= λ c. is (p, c))) a.2 ∙ ap (λ r. bind r (λ c. is (a.0, c))) b.2 in
    let t = (paired cause_reads).takes bytes (a.0, b.0) b.1 fits both in
    subst (λ (z : Record × List ℕ). Takes (13 ∷ bytes) (fields format z.0) z.1 × Fits z.0) (ok_is (kind.JobCancelled a.0.0 a.0.1 b.0, b.1) (s, rest) b.3)
    (record { parts = ap (λ (l : List ℕ). 13 ∷ l) t.0.parts; rest_fits = t.0.rest_fits }, t.1)

later_sound : (format : ℕ) → Sound (fields format) Fits (later_at format)
unfolding later_at commit_at job_waiting_at
later_sound format =
    tag_sound 8 (fields format) Fits _ _ (behind 8 (fields format) Fits (λ p. kind.Abort p.0 p.1) pair_reads (λ p. refl) (λ p h. h))
    (tag_sound 9 (fields format) Fits _ _ (behind 9 (fields format) Fits (λ p. kind.Publish p.0 p.1) pair_reads (λ p. refl) (λ p h. h))
    (tag_sound 10 (fields format) Fits _ _ (behind 10 (fields format) Fits kind.AddJob (new_job_reads format) (λ j. refl) (λ j h. h))
    (tag_sound 11 (fields format) Fits _ _ job_waiting_sound
    (tag_sound 12 (fields format) Fits _ _ (behind 12 (fields format) Fits (λ p. kind.JobFinished p.0 p.1) pair_reads (λ p. refl) (λ p h. h))
    (tag_sound 13 (fields format) Fits _ _ (job_cancelled_sound format)
    (tag_sound 14 (fields format) Fits _ _ (behind 14 (fields format) Fits kind.Sweep number64_reads (λ at. refl) (λ at h. h)) (none_sound (fields format) Fits)))))))
  where
    job_waiting_sound : Behind 11 (fields format) Fits job_waiting_at
    job_waiting_sound bytes s rest fits e =
        let a = bind_ok (pair_at bytes) (λ p. number64_at >>= λ upto. is (kind.JobWaiting p.0 p.1 upto)) (s, rest) e in
        let b = bind_ok (number64_at a.1) (λ upto. is (kind.JobWaiting a.0.0 a.0.1 upto)) (s, rest) a.3 in
        let both : (pair_at >>= λ p. number64_at >>= λ upto. is (p, upto)) bytes ≡ Ok ((a.0, b.0), b.1) = ap (λ r. bind r (λ p. number64_at >>= λ upto. is (p, upto))) a.2 ∙ ap (λ r. bind r (λ upto. is (a.0, upto))) b.2 in
        let t = (paired number64_reads).takes bytes (a.0, b.0) b.1 fits both in
        subst (λ (z : Record × List ℕ). Takes (11 ∷ bytes) (fields format z.0) z.1 × Fits z.0) (ok_is (kind.JobWaiting a.0.0 a.0.1 b.0, b.1) (s, rest) b.3)
        (record { parts = ap (λ (l : List ℕ). 11 ∷ l) t.0.parts; rest_fits = t.0.rest_fits }, t.1)

commit_sound : (format : ℕ) → Behind 7 (fields format) Fits commit_at
unfolding commit_at
commit_sound format bytes s rest fits e =
    let a = bind_ok (pair_at bytes) (λ p. job_at >>= λ job. is (kind.Commit p.0 p.1 job)) (s, rest) e in
    let b = bind_ok (job_at a.1) (λ job. is (kind.Commit a.0.0 a.0.1 job)) (s, rest) a.3 in
    let both : (pair_at >>= λ p. job_at >>= λ job. is (p, job)) bytes ≡ Ok ((a.0, b.0), b.1) = ap (λ r. bind r (λ p. job_at >>= λ job. is (p, job))) a.2 ∙ ap (λ r. bind r (λ job. is (a.0, job))) b.2 in
    let t = (paired job_reads).takes bytes (a.0, b.0) b.1 fits both in
    subst (λ (z : Record × List ℕ). Takes (7 ∷ bytes) (fields format z.0) z.1 × Fits z.0) (ok_is (kind.Commit a.0.0 a.0.1 b.0, b.1) (s, rest) b.3)
    (record { parts = ap (λ (l : List ℕ). 7 ∷ l) t.0.parts; rest_fits = t.0.rest_fits }, t.1)

fields_sound : (format : ℕ) → Sound (fields format) Fits (fields_at format)
unfolding fields_at
fields_sound format =
    tag_sound 1 (fields format) Fits _ _ (behind 1 (fields format) Fits kind.CreateDb text_reads (λ t. refl) (λ t h. h))
    (tag_sound 2 (fields format) Fits _ _ (behind 2 (fields format) Fits kind.CreateTable (new_table_reads format) (λ t. refl) (λ t h. h))
    (tag_sound 3 (fields format) Fits _ _ (behind 3 (fields format) Fits (λ p. kind.DropTable p.0 p.1) pair_reads (λ p. refl) (λ p h. h))
    (tag_sound 4 (fields format) Fits _ _ (behind 4 (fields format) Fits kind.AddPartition new_part_reads (λ p. refl) (λ p h. h))
    (tag_sound 5 (fields format) Fits _ _ (behind 5 (fields format) Fits kind.IdRange number64_reads (λ n. refl) (λ n h. h))
    (tag_sound 6 (fields format) Fits _ _ (behind 6 (fields format) Fits kind.Submit load_reads (λ l. refl) (λ l h. h))
    (tag_sound 7 (fields format) Fits _ _ (commit_sound format) (later_sound format)))))))

fields_again : (format : ℕ) (r : Record) (rest : List ℕ) → Fits r → fields_at format (fields format r ++ rest) ≡ Ok (r, rest)
unfolding fields_at later_at commit_at job_waiting_at job_cancelled_at
fields_again format (kind.CreateDb name) rest fits = made_again kind.CreateDb text_reads name rest fits
fields_again format (kind.CreateTable t) rest fits = made_again kind.CreateTable (new_table_reads format) t rest fits
fields_again format (kind.DropTable table at) rest fits = made_again (λ p. kind.DropTable p.0 p.1) pair_reads (table, at) rest fits
fields_again format (kind.AddPartition p) rest fits = made_again kind.AddPartition new_part_reads p rest fits
fields_again format (kind.IdRange upto) rest fits = made_again kind.IdRange number64_reads upto rest fits
fields_again format (kind.Submit l) rest fits = made_again kind.Submit load_reads l rest fits
fields_again format (kind.Commit txn at cancelled) rest fits =
    ap commit_at (append_assoc (pair (txn, at)) (optional number64 cancelled) rest)
    ∙ ap (λ r. bind r (λ p. job_at >>= λ job. is (kind.Commit p.0 p.1 job))) (pair_reads.again (txn, at) (optional number64 cancelled ++ rest) fits.0)
    ∙ made_again (kind.Commit txn at) job_reads cancelled rest fits.1
fields_again format (kind.Abort txn at) rest fits = made_again (λ p. kind.Abort p.0 p.1) pair_reads (txn, at) rest fits
fields_again format (kind.Publish txn at) rest fits = made_again (λ p. kind.Publish p.0 p.1) pair_reads (txn, at) rest fits
fields_again format (kind.AddJob j) rest fits = made_again kind.AddJob (new_job_reads format) j rest fits
fields_again format (kind.JobWaiting job watershed upto) rest fits =
    ap job_waiting_at (append_assoc (pair (job, watershed)) (number64 upto) rest)
    ∙ ap (λ r. bind r (λ p. number64_at >>= λ n. is (kind.JobWaiting p.0 p.1 n))) (pair_reads.again (job, watershed) (number64 upto ++ rest) fits.0)
    ∙ made_again (kind.JobWaiting job watershed) number64_reads upto rest fits.1
fields_again format (kind.JobFinished job at) rest fits = made_again (λ p. kind.JobFinished p.0 p.1) pair_reads (job, at) rest fits
fields_again format (kind.JobCancelled job at c) rest fits =
    ap job_cancelled_at (append_assoc (pair (job, at)) (cause c) rest)
    ∙ ap (λ r. bind r (λ p. cause_at >>= λ x. is (kind.JobCancelled p.0 p.1 x))) (pair_reads.again (job, at) (cause c ++ rest) fits.0)
    ∙ made_again (kind.JobCancelled job at) cause_reads c rest fits.1
fields_again format (kind.Sweep at) rest fits = made_again kind.Sweep number64_reads at rest fits

-- ---- all of the bytes

record_sound : Sound spelling Fits record_at
unfolding record_at
record_sound = tag_sound 1 spelling Fits _ _ (λ bytes s rest fits e. let t = fields_sound 1 bytes s rest fits e in (record { parts = ap (λ (l : List ℕ). 1 ∷ l) t.0.parts; rest_fits = t.0.rest_fits }, t.1)) (none_sound spelling Fits)

ends_there : (r : Result (Record × List ℕ) ℕ) (x : Record) → to_end r ≡ Ok x → r ≡ Ok (x, [])
ends_there (Ok (y, [])) x e = ap (λ (z : Record). done (z, [])) (ok_is y x e)
ends_there (Ok (y, b ∷ rest)) x e = absurd cc
ends_there (Err n) x e = absurd cc

pub record_takes : (bytes : List ℕ) (r : Record) → IsBytes bytes → record_of bytes ≡ Ok r → Fits r × (bytes ≡ spelling r)
unfolding record_of
record_takes bytes r fits e =
    let t = record_sound bytes r [] fits (ends_there (record_at bytes) r e) in
    (t.1, t.0.parts ∙ append-nil (spelling r))

pub record_again : (r : Record) → Fits r → record_of (spelling r) ≡ Ok r
unfolding record_of record_at
record_again r fits =
    let k : fields_at 1 (fields 1 r) ≡ Ok (r, []) = ap (fields_at 1) (sym (append-nil (fields 1 r))) ∙ fields_again 1 r [] fits in
    ap to_end k

pub is_found : (bytes : List ℕ) (r : Result Record DecodeError) → IsBytes bytes → Decodes r (length bytes) (record_of bytes) → IfOk r (λ v. Fits v × (bytes ≡ spelling v))
is_found bytes (Ok v) fits given = record_takes bytes v fits given
is_found bytes (Err e) fits given = tt
