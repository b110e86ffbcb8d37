-- The command is the one that the definition of its shape says.
use Rattle.std.proofs.Common.{rules, ◌≡◌, ◌∙◌, ap, ap₂, codes, true, false, Option, Some, None, IsSomeAnd}
use Rattle.clap.specs.Lexer.{usize_max}
use Rattle.clap.specs.Words.{App, Rule, app_of, new_app, new_rule, rule_of, with_rule, with_subcommand}
use Rattle.clap.specs.Simple.{app_of_fields, on_top}
use Rattle.clap.specs.declared.builder.arg.Arg.{Arg}
use Rattle.command_words.specs.Command.{columns_rule, dryrun_app, model_rule, run_app, top_app}
use Rattle.command_words.proofs.command.whole.Goals as goal

abbrev no_help : App → App
no_help = on_top (λ s. record s { disable_help_flag = true })

some_is : {X : Type 0} (o : Option X) (x : X) → IsSomeAnd o (λ y. y ≡ x) → o ≡ Some x
some_is (Some y) x h = ap Some h
some_is None x h = absurd h

abbrev needed : Rule → Rule
needed r = record r { required = true }

pub returns : goal.returns
returns c =
    let model : rule_of c.required-model.result ≡ model_rule = ap rule_of c.required-model.ensures ∙ ap needed c.new.ensures.rule in
    let column : rule_of c.required.result ≡ needed (new_rule (codes "columns")) = ap rule_of c.required.ensures ∙ ap needed c.new-2.ensures.rule in
    let range : c.num_args-columns.result.num_vals ≡ Some (record { start_inclusive = 1; end_inclusive = usize_max }) = some_is _ _ c.num_args-columns.ensures.1 in
    let columns : rule_of c.num_args-columns.result ≡ columns_rule = ap rule_of c.num_args-columns.ensures.0 ∙ ap₂ (λ (r : Rule) n. record r { range = n }) column range in
    let local : c.num_args-columns.result.global ≡ false =
    ap (λ (a : Arg). a.global) c.num_args-columns.ensures.0 ∙ ap (λ (a : Arg). a.global) c.required.ensures ∙ c.new-2.ensures.optional.1 in
    let empty : app_of c.disable_help_flag.result ≡ no_help (new_app (codes "dryrun")) = ap app_of_fields c.disable_help_flag.ensures ∙ ap no_help c.new-3.ensures.app in
    let one = c.in_ok-arg.ensures.shape (ap (λ (a : Arg). a.global) c.required-model.ensures ∙ c.new.ensures.optional.1) ∙ ap₂ with_rule empty model in
    let dryrun : app_of c.in_ok-dryrun.dryrun ≡ dryrun_app = c.in_ok-dryrun.ensures.shape local ∙ ap₂ with_rule one columns in
    let top : app_of c.subcommand_required.result ≡ top_app =
    ap app_of_fields c.subcommand_required.ensures ∙ ap (on_top (λ s. record s { subcommand_required = true }))
    (ap app_of_fields c.disable_help_subcommand.ensures ∙ ap (on_top (λ s. record s { disable_help_subcommand = true }))
    (ap app_of_fields c.disable_help_flag-2.ensures ∙ ap no_help
    (ap app_of_fields c.no_binary_name.ensures ∙ ap (on_top (λ s. record s { no_binary_name = true })) c.new-5.ensures.app))) in
    let run : app_of c.disable_help_flag-run.result ≡ run_app = ap app_of_fields c.disable_help_flag-run.ensures ∙ ap no_help c.new-4.ensures.app in
    let first = c.in_ok-subcommand.ensures.shape (search rules) ∙ ap₂ with_subcommand top (ap (λ (a : App). a.top) dryrun) in
    c.in_ok-whole.ensures.shape (search rules) ∙ ap₂ with_subcommand first (ap (λ (a : App). a.top) run)
