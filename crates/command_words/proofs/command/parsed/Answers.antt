-- What the command reads is the form of the words.
use Rattle.std.proofs.Common.{rules, ◌∙◌, ◌≤◌, sym, ap, ap₂, map, length, string_bytes}
use Rattle.std.proofs.lemmas.List.{length-map}
use Rattle.clap.specs.Lexer.{usize_max}
use Rattle.clap.specs.Words.{App, app_of, fault_of, is_simple, is_simple_and_free, subcommand_of}
use Rattle.command_words.specs.Command.{form_read, whole_app}
use Rattle.command_words.proofs.Readings.{form_is_read, no_form, whole_has_matches, whole_is_simple}
use Rattle.command_words.proofs.command.parsed.Goals as goal

pub returns-in-Ok-clause-ok : goal.returns-in-Ok-clause-ok
returns-in-Ok-clause-ok c =
    let texts = map string_bytes c.args.words.now in
    let same = c.in_ok-command.ensures in
    let most : length texts ≤ usize_max = search (rules, length-map) in
    let fault = ap (λ (a : App). fault_of a texts) (sym same) ∙ c.in-Ok.ensures.kinds (ap is_simple_and_free same ∙ whole_is_simple) in
    let rows = ap (λ (a : App). subcommand_of a texts) (sym same) ∙ sym (c.in-Ok.ensures.matches (ap is_simple same ∙ whole_has_matches)).1 in
    sym (form_is_read texts c.requires.plain most ∙ ap₂ form_read fault rows)

pub returns-in-Err-clause-usage : goal.returns-in-Err-clause-usage
returns-in-Err-clause-usage c usage =
    let texts = map string_bytes c.args.words.now in
    let same = c.in_ok-command.ensures in
    let most : length texts ≤ usize_max = search (rules, length-map) in
    let kinds = c.in-Err.ensures.kinds (ap is_simple_and_free same ∙ whole_is_simple) in
    let other = c.refusal.ensures (search (rules, usage)) in
    form_is_read texts c.requires.plain most ∙ ap (λ (a : App). form_read (fault_of a texts) (subcommand_of whole_app texts)) (sym same) ∙ no_form (fault_of (app_of c.in_ok-command.command) texts) (subcommand_of whole_app texts) _ other kinds
