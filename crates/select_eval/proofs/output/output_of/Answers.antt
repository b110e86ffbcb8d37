use Rattle.std.proofs.Common.{sym, ap, ◌∙◌}
use Rattle.select_eval.specs.Outputs.{output_of}
use Rattle.select_eval.specs.declared.output.Output.TheVariants as output
use Rattle.select_eval.proofs.output.output_of.Goals as goal

pub returns-in-Agg : goal.returns-in-Agg
returns-in-Agg c = ap (output.Agg c.in-Agg.function) c.position.ensures ∙ ap (output_of c.args.index.now c.args.group.now) (sym c.in-Agg.is)
