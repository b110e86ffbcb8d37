use Rattle.std.proofs.Common.{refl, sym, ap, ◌∙◌, List, ℕ}
use Rattle.front_defs.specs.declared.command.Command.TheVariants as command
use Rattle.front_defs.specs.Script.{Asks}
use Rattle.sql_text.specs.declared.query.Query.{Query}
use Rattle.load_server.specs.Scripts.{after_snapshot, all_of}
use Rattle.load_server.proofs.Going.{answered_as, answered_done, answered_lacking, answered_now}
use Rattle.load_server.proofs.select.select.Goals as goal

pub returns-in-Ok : goal.returns-in-Ok
returns-in-Ok g c = λ seen own s.
    answered_done _ seen own _ _ _
    (answered_as _ seen own _ _ _ (ap (λ (q : Query). Asks (command.Snapshot c.args.db c.args.table q) after_snapshot) (sym (c.all_of-query.ensures ∙ ap (λ (n : List ℕ). all_of n) c.in-Ok.ensures))) (c.snapshot.ensures seen own s))

pub returns-in-Err : goal.returns-in-Err
returns-in-Err g c = λ seen own s. answered_lacking _ seen own _ _ _ (answered_now _ seen own _ _ s (refl, refl))
