-- A reader of tables and jobs reads what is spelled, and what is spelled is read again.
use Rattle.std.proofs.Common.{◌≡◌, ℕ, List, ◌++◌, Ok, refl}
use Rattle.dl_values.specs.declared.agg_kind.AggKind.TheVariants as merging
use Rattle.dl_values.specs.declared.col_type.ColType.{ColType}
use Rattle.dl_values.specs.declared.col_type.ColType.TheVariants as types
use Rattle.schema_models.specs.declared.model.Model.{Model}
use Rattle.schema_models.specs.declared.model.Model.TheVariants as models
use Rattle.schema_models.specs.declared.role.Role.{Role}
use Rattle.schema_models.specs.declared.role.Role.TheVariants as roles
use Rattle.journal_records.specs.declared.change.Change.{Change}
use Rattle.journal_records.specs.declared.change.Change.TheVariants as changes
use Rattle.journal_records.specs.declared.origin.Origin.{Origin}
use Rattle.journal_records.specs.declared.origin.Origin.TheVariants as origins
use Rattle.journal_records.specs.Spelling.{model, role, column_type, column, shape, part, layout, new_table, origin, rollup, schema, change, new_job}
use Rattle.journal_records.specs.Fitting.{FitsType, FitsColumn, FitsShape, FitsRange, FitsLayout, FitsTable, FitsOrigin, FitsRollup, FitsSchema, FitsChange, FitsJob}
use Rattle.journal_records.specs.Reading.{model_at, merging_at, role_at, type_at, column_at, shape_at, part_at, layout_at, new_table_at, origin_at, rollup_at, schema_at, change_at, new_job_at}
use Rattle.journal_records.proofs.Fields.{Reads, Sound, field, last, whole, none_sound, tag_sound, behind, alone, made_again, number32_reads, number64_reads, text_reads, flag_reads, option_reads, list_reads}
use Rattle.journal_records.proofs.Cells.{cell_reads, bound_reads}

-- ---- models, roles and types, of which each byte is one

abbrev Any : {A : Type 0} → A → Type 0
Any x = Unit {0}

model_sound : Sound model Any model_at
unfolding model_at
model_sound =
    tag_sound 0 model Any _ _ (alone 0 model Any models.Duplicate refl tt)
    (tag_sound 1 model Any _ _ (alone 1 model Any models.Unique refl tt)
    (tag_sound 2 model Any _ _ (alone 2 model Any models.Aggregate refl tt) (none_sound model Any)))

model_again : (m : Model) (rest : List ℕ) → Any m → model_at (model m ++ rest) ≡ Ok (m, rest)
unfolding model_at
model_again models.Duplicate rest fits = refl
model_again models.Unique rest fits = refl
model_again models.Aggregate rest fits = refl

model_reads : Reads model Any model_at
model_reads = record { takes = model_sound; again = model_again }

merging_sound : Sound role Any merging_at
unfolding merging_at
merging_sound =
    tag_sound 2 role Any _ _ (alone 2 role Any (roles.Agg merging.Sum) refl tt)
    (tag_sound 3 role Any _ _ (alone 3 role Any (roles.Agg merging.Min) refl tt)
    (tag_sound 4 role Any _ _ (alone 4 role Any (roles.Agg merging.Max) refl tt)
    (tag_sound 5 role Any _ _ (alone 5 role Any (roles.Agg merging.Replace) refl tt)
    (tag_sound 6 role Any _ _ (alone 6 role Any (roles.Agg merging.ReplaceIfNotNull) refl tt) (none_sound role Any)))))

role_sound : Sound role Any role_at
unfolding role_at
role_sound =
    tag_sound 0 role Any _ _ (alone 0 role Any roles.Key refl tt)
    (tag_sound 1 role Any _ _ (alone 1 role Any roles.Plain refl tt) merging_sound)

role_again : (r : Role) (rest : List ℕ) → Any r → role_at (role r ++ rest) ≡ Ok (r, rest)
unfolding role_at merging_at
role_again roles.Key rest fits = refl
role_again roles.Plain rest fits = refl
role_again (roles.Agg merging.Sum) rest fits = refl
role_again (roles.Agg merging.Min) rest fits = refl
role_again (roles.Agg merging.Max) rest fits = refl
role_again (roles.Agg merging.Replace) rest fits = refl
role_again (roles.Agg merging.ReplaceIfNotNull) rest fits = refl

role_reads : Reads role Any role_at
role_reads = record { takes = role_sound; again = role_again }

type_sound : Sound column_type FitsType type_at
unfolding type_at
type_sound =
    tag_sound 0 column_type FitsType _ _ (alone 0 column_type FitsType types.TinyInt refl tt)
    (tag_sound 1 column_type FitsType _ _ (alone 1 column_type FitsType types.SmallInt refl tt)
    (tag_sound 2 column_type FitsType _ _ (alone 2 column_type FitsType types.Int refl tt)
    (tag_sound 3 column_type FitsType _ _ (alone 3 column_type FitsType types.BigInt refl tt)
    (tag_sound 4 column_type FitsType _ _ (alone 4 column_type FitsType types.Date refl tt)
    (tag_sound 5 column_type FitsType _ _ (behind 5 column_type FitsType types.Varchar number32_reads (λ n. refl) (λ n h. h)) (none_sound column_type FitsType))))))

type_again : (t : ColType) (rest : List ℕ) → FitsType t → type_at (column_type t ++ rest) ≡ Ok (t, rest)
unfolding type_at
type_again types.TinyInt rest fits = refl
type_again types.SmallInt rest fits = refl
type_again types.Int rest fits = refl
type_again types.BigInt rest fits = refl
type_again types.Date rest fits = refl
type_again (types.Varchar len) rest fits = made_again types.Varchar number32_reads len rest fits

type_reads : Reads column_type FitsType type_at
type_reads = record { takes = type_sound; again = type_again }

-- ---- shapes and layouts

column_reads : (format : ℕ) → Reads (column format) FitsColumn (column_at format)
unfolding column_at column
column_reads format =
    whole (field (λ c. c.name) text_reads (λ name.
    field (λ c. c.kind) type_reads (λ ty.
    field (λ c. c.nullable) flag_reads (λ nullable.
    field (λ c. c.role) role_reads (λ r.
    last (λ c. c.default) (λ default. record { name = name; kind = ty; nullable = nullable; role = r; default = default }) bound_reads
    (λ default. (((((tt, refl), refl), refl), refl), refl))
    (λ c k. rw (← k.1, ← k.0.1, ← k.0.0.1, ← k.0.0.0.1) refl))))))

shape_reads : (format : ℕ) → Reads (shape format) FitsShape (shape_at format)
unfolding shape_at shape
shape_reads format =
    whole (field (λ s. s.model) model_reads (λ m.
    last (λ s. s.columns) (λ columns. record { model = m; columns = columns }) (list_reads (column_reads format)) (λ columns. ((tt, refl), refl)) (λ s k. rw (← k.1) refl)))

part_reads : Reads part FitsRange part_at
unfolding part_at part
part_reads =
    whole (field (λ p. p.name) text_reads (λ name.
    field (λ p. p.low) bound_reads (λ low.
    last (λ p. p.high) (λ high. record { name = name; low = low; high = high }) bound_reads (λ high. (((tt, refl), refl), refl)) (λ p k. rw (← k.1, ← k.0.1) refl))))

layout_reads : Reads layout FitsLayout layout_at
unfolding layout_at layout
layout_reads =
    whole (field (λ l. l.column) (option_reads text_reads) (λ by.
    field (λ l. l.parts) (list_reads part_reads) (λ parts.
    field (λ l. l.hash) (list_reads text_reads) (λ hash.
    last (λ l. l.buckets) (λ buckets. record { column = by; parts = parts; hash = hash; buckets = buckets }) number32_reads
    (λ buckets. ((((tt, refl), refl), refl), refl))
    (λ l k. rw (← k.1, ← k.0.1, ← k.0.0.1) refl)))))

-- ---- tables

pub new_table_reads : (format : ℕ) → Reads (new_table format) FitsTable (new_table_at format)
unfolding new_table_at new_table
new_table_reads format =
    whole (field (λ t. t.db) text_reads (λ db.
    field (λ t. t.name) text_reads (λ name.
    field (λ t. t.shape) (shape_reads format) (λ s.
    last (λ t. t.layout) (λ l. record { db = db; name = name; shape = s; layout = l }) layout_reads
    (λ l. ((((tt, refl), refl), refl), refl))
    (λ t k. rw (← k.1, ← k.0.1, ← k.0.0.1) refl)))))

-- ---- jobs

origin_sound : Sound origin FitsOrigin origin_at
unfolding origin_at
origin_sound =
    tag_sound 0 origin FitsOrigin _ _ (behind 0 origin FitsOrigin origins.From text_reads (λ t. refl) (λ t h. h))
    (tag_sound 1 origin FitsOrigin _ _ (behind 1 origin FitsOrigin origins.Constant cell_reads (λ c. refl) (λ c h. h)) (none_sound origin FitsOrigin))

origin_again : (o : Origin) (rest : List ℕ) → FitsOrigin o → origin_at (origin o ++ rest) ≡ Ok (o, rest)
unfolding origin_at
origin_again (origins.From t) rest fits = made_again origins.From text_reads t rest fits
origin_again (origins.Constant c) rest fits = made_again origins.Constant cell_reads c rest fits

origin_reads : Reads origin FitsOrigin origin_at
origin_reads = record { takes = origin_sound; again = origin_again }

rollup_reads : Reads rollup FitsRollup rollup_at
unfolding rollup_at rollup
rollup_reads =
    whole (field (λ r. r.name) text_reads (λ name.
    last (λ r. r.columns) (λ columns. record { name = name; columns = columns }) (list_reads text_reads) (λ columns. ((tt, refl), refl)) (λ r k. rw (← k.1) refl)))

schema_reads : (format : ℕ) → Reads (schema format) FitsSchema (schema_at format)
unfolding schema_at schema
schema_reads format =
    whole (field (λ s. s.shape) (shape_reads format) (λ to.
    last (λ s. s.origins) (λ sources. record { shape = to; origins = sources }) (list_reads origin_reads) (λ sources. ((tt, refl), refl)) (λ s k. rw (← k.1) refl)))

change_sound : (format : ℕ) → Sound (change format) FitsChange (change_at format)
unfolding change_at
change_sound format =
    tag_sound 0 (change format) FitsChange _ _ (behind 0 (change format) FitsChange changes.Rollup rollup_reads (λ r. refl) (λ r h. h))
    (tag_sound 1 (change format) FitsChange _ _ (behind 1 (change format) FitsChange changes.Schema (schema_reads format) (λ s. refl) (λ s h. h)) (none_sound (change format) FitsChange))

change_again : (format : ℕ) (c : Change) (rest : List ℕ) → FitsChange c → change_at format (change format c ++ rest) ≡ Ok (c, rest)
unfolding change_at
change_again format (changes.Rollup r) rest fits = made_again changes.Rollup rollup_reads r rest fits
change_again format (changes.Schema s) rest fits = made_again changes.Schema (schema_reads format) s rest fits

change_reads : (format : ℕ) → Reads (change format) FitsChange (change_at format)
change_reads format = record { takes = change_sound format; again = change_again format }

pub new_job_reads : (format : ℕ) → Reads (new_job format) FitsJob (new_job_at format)
unfolding new_job_at new_job
new_job_reads format =
    whole (field (λ j. j.job) number64_reads (λ job.
    field (λ j. j.table) number64_reads (λ table.
    field (λ j. j.at) number64_reads (λ at.
    last (λ j. j.change) (λ c. record { job = job; table = table; at = at; change = c }) (change_reads format)
    (λ c. ((((tt, refl), refl), refl), refl))
    (λ j k. rw (← k.1, ← k.0.1, ← k.0.0.1) refl)))))
