use Rattle.std.proofs.Common.{◌∙◌, ◌++◌, sym, ap, arith}
use Rattle.std.proofs.lemmas.List.{append-nil}
use Rattle.schema_models.proofs.MergeLemmas.{ended_after}
use Rattle.schema_models.proofs.merges.merge_rows.Goals as goal

pub returns : goal.returns
returns c =
    let row = c.loop-i.row in
    let done = ended_after c.args.columns.now c.args.old.now c.args.new.now c.loop-i.i (omega arith) in
    sym (append-nil row) ∙ ap (λ l. row ++ l) (sym done) ∙ c.loop-i.invariant
