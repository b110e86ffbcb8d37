use Rattle.std.proofs.Common.{ap, ◌∙◌}
use Rattle.std.specs.Prelude.{string_bytes}
use Rattle.sql_print.specs.Shown.{shown}
use Rattle.sql_print.specs.Steps.{put}
use Rattle.sql_print.proofs.PrintsStatement.{printed_again}
use Rattle.sql_print.proofs.Fits.{are_fit}
use Rattle.sql_print.proofs.stmt.print_stmt.Goals as goal

pub returns-clause-again : goal.returns-clause-again
returns-clause-again c = λ text u h.
    printed_again (λ s. string_bytes s) c.finish.result c.args.stmt.now text h (are_fit text u)
    (c.finish.ensures (shown c.args.stmt.now) (c.in_ok-show_stmt.ensures ∙ ap (λ w. put w (shown c.args.stmt.now)) c.new-writer.ensures))
