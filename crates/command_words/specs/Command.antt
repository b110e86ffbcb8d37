-- The command of `clap` that reads the words, and the form that its matches tell. No public clause names what stands here.
use Rattle.std.specs.Prelude.{Bool, true, false, List, [], ◌∷◌, Option, Some, None, codes, if◌then◌else◌, option_and_then}
use Rattle.std.specs.Str.{bytes_eq}
use Rattle.clap.specs.Kinds.{Kinds}
use Rattle.clap.specs.Lexer.{usize_max}
use Rattle.clap.specs.Simple.{on_top}
use Rattle.clap.specs.Words.{App, Row, Rule, Text, all_of, first_of, new_app, new_rule, with_rule, with_subcommand}
use Rattle.command_words.specs.Words.{dryrun_with}
use Rattle.command_words.specs.declared.form.Form.{Form}
use Rattle.command_words.specs.declared.form.Form.TheVariants as form

-- one model
abbrev pub model_rule : Rule
model_rule = record (new_rule (codes "model")) { required = true }

-- one column or more
abbrev pub columns_rule : Rule
columns_rule = record (new_rule (codes "columns")) {
  required = true;
  range = Some (record { start_inclusive = 1; end_inclusive = usize_max });
}

-- `dryrun MODEL COLUMN ..`
abbrev pub dryrun_app : App
dryrun_app = with_rule (with_rule (on_top (λ s. record s { disable_help_flag = true }) (new_app (codes "dryrun"))) model_rule) columns_rule

-- the settings of the whole command, which has no argument of its own
abbrev pub top_app : App
top_app = on_top (λ s. record s {
  no_binary_name = true;
  disable_help_flag = true;
  disable_help_subcommand = true;
  subcommand_required = true;
}) (new_app (codes "labelload"))

-- `run`
abbrev pub run_app : App
run_app = on_top (λ s. record s { disable_help_flag = true }) (new_app (codes "run"))

abbrev pub whole_app : App
whole_app = with_subcommand (with_subcommand top_app dryrun_app.top) run_app.top

-- the form that the rows of `dryrun` tell
abbrev pub dryrun_in_rows : List Row → Option Form
dryrun_in_rows rows = option_and_then (λ model. option_and_then (dryrun_with model) (all_of (codes "columns") rows)) (first_of (codes "model") rows)

-- the form that the name of a subcommand and its rows tell
abbrev pub form_in_rows : Text × List Row → Option Form
form_in_rows entered =
    if bytes_eq entered.0 (codes "dryrun") then dryrun_in_rows entered.1 else (if bytes_eq entered.0 (codes "run") then Some (form.Run None) else None)

abbrev pub form_in_matches : Option (Text × List Row) → Option Form
form_in_matches entered = option_and_then form_in_rows entered

abbrev pub is_fine : Kinds → Bool
is_fine [] = true
is_fine (kind ∷ kinds) = false

-- the form that a command reads: none where it is at fault
abbrev pub form_read : Kinds → Option (Text × List Row) → Option Form
form_read kinds entered = if is_fine kinds then form_in_matches entered else None
