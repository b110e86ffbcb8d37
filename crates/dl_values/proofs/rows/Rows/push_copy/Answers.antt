use Rattle.std.proofs.Common.{◌∙◌, ap, length, ◌+◌, ◌++◌, ◌∷◌, [], refl}
use Rattle.dl_values.proofs.CutLemmas.{cut-push, IsCut-push, end_of}
use Rattle.dl_values.proofs.rows.Rows.push_copy.Goals as goal

pub invariant_of-self-in_default : goal.invariant_of-self-in_default
invariant_of-self-in_default c = rw (c.in_ok-push.ensures.items, c.in_default.ensures.ok) (IsCut-push 0 c.self.inside.ends.items c.self.inside.cells.items c.args.row.now (length c.as_slice-start.result.now + length c.args.row.now) c.self.invariant (end_of c.self.inside.cells.items c.args.row.now c.as_slice-start.result.now c.args.row.now c.as_slice-start.ensures.value refl))

pub returns-clause-ok : goal.returns-clause-ok
returns-clause-ok c = rw (c.in_ok-push.ensures.items, c.in_default.ensures.ok) (cut-push 0 c.self.inside.ends.items c.self.inside.cells.items c.args.row.now (length c.as_slice-start.result.now + length c.args.row.now) c.self.invariant (end_of c.self.inside.cells.items c.args.row.now c.as_slice-start.result.now c.args.row.now c.as_slice-start.ensures.value refl) ∙ ap (λ rows. rows ++ c.args.row.now ∷ []) c.self.view_is)
