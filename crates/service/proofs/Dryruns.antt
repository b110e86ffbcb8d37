-- How a body ends the run.
use Rattle.std.proofs.Common.{◌≡◌, ◌≢◌, ℕ, ◌<◌, ◌≤◌, ◌∙◌, List, Bool, true, false, cond, length, Option, Some, None, refl, ap, ap₂, sym, arith, subst, nat_lt}
use Rattle.std.specs.Option.{IfSome}
use Rattle.std.proofs.lemmas.Bool.{lt-ltb}
use Rattle.std.proofs.lemmas.Bool.Decides.{nat_tests}
use Rattle.csv_load.specs.Body.{body, row_of, tally}
use Rattle.csv_load.specs.Records.{records}
use Rattle.csv_load.specs.declared.options.Options.{Options}
use Rattle.csv_load.specs.declared.parsed.Parsed.{Parsed}
use Rattle.dl_values.specs.declared.cell.Cell.{Cell}
use Rattle.schema_models.specs.Folds.{fold_of}
use Rattle.schema_models.specs.ShapeView.{ShapeView}
use Rattle.service.specs.Dryrun.{IsCut, Judges, exit_by_record, exit_of_body, exit_of_records, fold_text, parsed, rows_text, tab_records}
use Rattle.service.specs.declared.exit.Exit.{Exit}
use Rattle.service.specs.declared.exit.Exit.TheVariants as exit

-- a body read with a tab and in strict mode
pub parsed_is : (shape : ShapeView) (options : Options) (bytes : List ℕ) → Some 9 ≡ Some options.separator → options.strict ≡ true → body shape (λ _. true) options bytes ≡ parsed shape bytes
unfolding parsed tab_records
parsed_is shape options bytes s t = ap₂ (λ (n : ℕ) (strict : Bool). tally (row_of (λ _. true) strict shape.columns) (records n bytes)) (sym (same 9 options.separator s)) t
  where
    same : (m n : ℕ) → Some m ≡ Some n → m ≡ n
    same m n e = cc

pub records_is : (options : Options) (bytes : List ℕ) → Some 9 ≡ Some options.separator → records options.separator bytes ≡ tab_records bytes
unfolding tab_records
records_is options bytes s = ap (λ n. records n bytes) (sym (same 9 options.separator s))
  where
    same : (m n : ℕ) → Some m ≡ Some n → m ≡ n
    same m n e = cc

not_over : (most n : ℕ) → n ≤ most → nat_lt most n ≡ false
not_over most n h = grind (arith, nat_tests)

pub few_records : (shape : ShapeView) (bytes : List ℕ) (first : Option ℕ) → length (tab_records bytes) ≤ 1000000 → (parsed shape bytes).first_bad ≡ first → exit_of_records shape bytes ≡ exit_by_record first
few_records shape bytes first few e = ap (λ b. cond b (exit.TooBig 1000000) (exit_by_record (parsed shape bytes).first_bad)) (not_over 1000000 (length (tab_records bytes)) few) ∙ ap exit_by_record e

pub many_records : (shape : ShapeView) (bytes : List ℕ) (limit : ℕ) → limit ≡ 1000000 → 1000000 < length (tab_records bytes) → exit_of_records shape bytes ≡ exit.TooBig limit
many_records shape bytes limit e many = ap (λ b. cond b (exit.TooBig 1000000) (exit_by_record (parsed shape bytes).first_bad)) (lt-ltb 1000000 (length (tab_records bytes)) many) ∙ ap exit.TooBig (sym e)

-- a body that is not too long ends the run by its records
pub short_body : (shape : ShapeView) (bytes : List ℕ) → length bytes ≤ 16777216 → exit_of_body shape bytes ≡ exit_of_records shape bytes
unfolding exit_of_body
short_body shape bytes h = ap (λ b. cond b (exit.TooBig 16777216) (exit_of_records shape bytes)) (not_over 16777216 (length bytes) h)

long_body : (shape : ShapeView) (bytes : List ℕ) → 16777216 < length bytes → exit_of_body shape bytes ≡ exit.TooBig 16777216
unfolding exit_of_body
long_body shape bytes h = ap (λ b. cond b (exit.TooBig 16777216) (exit_of_records shape bytes)) (lt-ltb 16777216 (length bytes) h)

-- what is known of the bytes that were read is known of those that were left
pub carried : (P : List ℕ → Type 0) (left : Option (List ℕ)) (bytes : List ℕ) → IfSome left (λ all. bytes ≡ all) → P bytes → IfSome left P
carried P None bytes e p = tt
carried P (Some all) bytes e p = subst P e p

cut_judges : (shape : ShapeView) (bytes : List ℕ) (e : Exit) → IsCut bytes e → Judges (exit_of_body shape bytes) e
cut_judges shape bytes exit.Ok h = absurd h
cut_judges shape bytes exit.Usage h = absurd h
cut_judges shape bytes exit.ReadFault h = tt
cut_judges shape bytes exit.WriteFault h = absurd h
cut_judges shape bytes exit.NoMemory h = tt
cut_judges shape bytes (exit.Refused at) h = absurd h
cut_judges shape bytes exit.Enough h = absurd h
cut_judges shape bytes (exit.BadDef word) h = absurd h
cut_judges shape bytes (exit.TooManyFiltered line) h = absurd h
cut_judges shape bytes (exit.TooBig limit) h = long_body shape bytes h.1 ∙ ap exit.TooBig (sym h.0)

pub all_cut : (shape : ShapeView) (left : Option (List ℕ)) (e : Exit) → IfSome left (λ all. IsCut all e) → IfSome left (λ all. Judges (exit_of_body shape all) e)
all_cut shape None e h = tt
all_cut shape (Some all) e h = cut_judges shape all e h

text_at : (shape : ShapeView) (bytes : List ℕ) (rows : List (List Cell)) (text : List ℕ) → text ≡ rows_text (fold_of shape rows) → rows ≡ (parsed shape bytes).rows → text ≡ fold_text shape bytes
unfolding fold_text
text_at shape bytes rows text t r = t ∙ ap (λ rs. rows_text (fold_of shape rs)) r

pub text_is : (shape : ShapeView) (left : Option (List ℕ)) (rows : List (List Cell)) (text : List ℕ) → text ≡ rows_text (fold_of shape rows) → IfSome left (λ all. rows ≡ (parsed shape all).rows) → IfSome left (λ all. text ≡ fold_text shape all)
text_is shape None rows text t h = tt
text_is shape (Some all) rows text t h = text_at shape all rows text t h

-- fewer bytes than the limit: how the records end the run is how the body does
pub records_end : (shape : ShapeView) (left : Option (List ℕ)) (bytes : List ℕ) (due : Exit) → IfSome left (λ all. bytes ≡ all) → length bytes ≤ 16777216 → exit_of_records shape bytes ≡ due → IfSome left (λ all. exit_of_body shape all ≡ due)
records_end shape left bytes due same few h = carried (λ all. exit_of_body shape all ≡ due) left bytes same (short_body shape bytes few ∙ h)

pub records_judge : (shape : ShapeView) (left : Option (List ℕ)) (bytes : List ℕ) (e : Exit) → IfSome left (λ all. bytes ≡ all) → length bytes ≤ 16777216 → Judges (exit_of_records shape bytes) e → IfSome left (λ all. Judges (exit_of_body shape all) e)
records_judge shape left bytes e same few h = carried (λ all. Judges (exit_of_body shape all) e) left bytes same (subst (λ due. Judges due e) (sym (short_body shape bytes few)) h)
