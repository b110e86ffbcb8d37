-- The form that rows tell, by what the getters of the matches read of them.
use Rattle.std.proofs.Common.{◌≡◌, ◌∙◌, sym, ap, ap₂, refl, List, ℕ, Option, Some, None, codes, option_and_then}
use Rattle.clap.specs.Words.{Row, all_of, first_of}
use Rattle.command_words.specs.Command.{dryrun_in_rows}
use Rattle.command_words.specs.Words.{dryrun_with}
use Rattle.command_words.specs.declared.form.Form.{Form}

abbrev form_by : Option (List ℕ) → Option (List (List ℕ)) → Option Form
form_by model columns = option_and_then (λ m. option_and_then (dryrun_with m) columns) model

no_columns : (model : Option (List ℕ)) → form_by model None ≡ None
no_columns None = refl
no_columns (Some m) = refl

module _ (rows : List Row) where
  pub form_without_model : None ≡ first_of (codes "model") rows → dryrun_in_rows rows ≡ None
  form_without_model e = ap (λ o. form_by o (all_of (codes "columns") rows)) (sym e)

  pub form_without_columns : None ≡ all_of (codes "columns") rows → dryrun_in_rows rows ≡ None
  form_without_columns e = ap (form_by (first_of (codes "model") rows)) (sym e) ∙ no_columns (first_of (codes "model") rows)

  pub form_with_both : (model : List ℕ) (columns : List (List ℕ)) → Some model ≡ first_of (codes "model") rows → Some columns ≡ all_of (codes "columns") rows
      → dryrun_in_rows rows ≡ dryrun_with model columns
  form_with_both model columns m c = ap₂ form_by (sym m) (sym c)
