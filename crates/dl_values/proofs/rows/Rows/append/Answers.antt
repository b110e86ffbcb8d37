use Rattle.std.proofs.Common.{◌∙◌, ap, length, ◌+◌, ◌++◌, ◌∷◌, []}
use Rattle.dl_values.proofs.CutLemmas.{cut-push, IsCut-push, end_of}
use Rattle.dl_values.proofs.rows.Rows.append.Goals as goal

pub invariant_of-self-in-Ok : goal.invariant_of-self-in-Ok
invariant_of-self-in-Ok c = rw (c.in_ok-push.ensures.items, c.in-Ok.ensures.ok) (IsCut-push 0 c.self.inside.ends.items c.self.inside.cells.items c.args.row.now (length c.as_slice.result.now + length c.cells.result.now) c.self.invariant (end_of c.self.inside.cells.items c.args.row.now c.as_slice.result.now c.cells.result.now c.as_slice.ensures.value c.cells.ensures))

pub returns-in-Ok-clause-ok : goal.returns-in-Ok-clause-ok
returns-in-Ok-clause-ok c = rw (c.in_ok-push.ensures.items, c.in-Ok.ensures.ok) (cut-push 0 c.self.inside.ends.items c.self.inside.cells.items c.args.row.now (length c.as_slice.result.now + length c.cells.result.now) c.self.invariant (end_of c.self.inside.cells.items c.args.row.now c.as_slice.result.now c.cells.result.now c.as_slice.ensures.value c.cells.ensures) ∙ ap (λ rows. rows ++ c.args.row.now ∷ []) c.self.view_is)
