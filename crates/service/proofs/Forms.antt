-- What is known of the words of a form.
use Rattle.std.proofs.Common.{◌≡◌, ◌<◌, ℕ, Bool, true, false, cond, List, [], ◌∷◌, Option, Some, None, codes, length, arith, sym}
use Rattle.std.specs.List.{list_any}
use Rattle.std.specs.Option.{option_map}
use Rattle.std.specs.Str.{bytes_eq}
use Rattle.command_words.specs.declared.form.Form.{Form}
use Rattle.command_words.specs.declared.form.Form.TheVariants as form
use Rattle.command_words.specs.Words.{dryrun_of, form_behind, form_of, is_option, model_of, run_of}

abbrev HasColumns : Form → Type 0
HasColumns (form.Dryrun letter columns) = 0 < length columns
HasColumns (form.Run journal) = Unit {0}

named : (column : List ℕ) (columns : List (List ℕ)) (letter : Option ℕ) (f : Form) → option_map (λ l. form.Dryrun l (column ∷ columns)) letter ≡ Some f → HasColumns f
named column columns None f e = absurd (cc)
named column columns (Some l) f e = let same : form.Dryrun l (column ∷ columns) ≡ f = cc in rw (sym same) (omega arith)

dryrun_has : (words : List (List ℕ)) (f : Form) → dryrun_of words ≡ Some f → HasColumns f
dryrun_has [] f e = absurd (cc)
dryrun_has (model ∷ []) f e = absurd (cc)
dryrun_has (model ∷ column ∷ columns) f e = named column columns (model_of model) f e

run_has : (words : List (List ℕ)) (f : Form) → run_of words ≡ Some f → HasColumns f
run_has [] f e = let same : form.Run None ≡ f = cc in rw (sym same) tt
run_has (word ∷ words) f e = absurd (cc)

behind_has : (words : List (List ℕ)) (f : Form) → form_behind words ≡ Some f → HasColumns f
behind_has [] f e = absurd (cc)
behind_has (command ∷ words) f e = go (bytes_eq command (codes "dryrun")) (bytes_eq command (codes "run")) e
  where
    go : (d r : Bool) → cond d (dryrun_of words) (cond r (run_of words) None) ≡ Some f → HasColumns f
    go true r k = dryrun_has words f k
    go false true k = run_has words f k
    go false false k = absurd (cc)

form_has : (words : List (List ℕ)) (f : Form) → form_of words ≡ Some f → HasColumns f
form_has words f e = go (list_any is_option words) e
  where
    go : (b : Bool) → cond b None (form_behind words) ≡ Some f → HasColumns f
    go true k = absurd (cc)
    go false k = behind_has words f k

-- a `dryrun` has a column
pub some_columns : (words : List (List ℕ)) (letter : ℕ) (columns : List (List ℕ)) → form_of words ≡ Some (form.Dryrun letter columns) → 0 < length columns
some_columns words letter columns e = form_has words (form.Dryrun letter columns) e
