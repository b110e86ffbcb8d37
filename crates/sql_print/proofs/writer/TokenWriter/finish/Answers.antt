use Rattle.std.proofs.Common.{ap, ◌∙◌}
use Rattle.sql_print.proofs.Finished.{finished}
use Rattle.sql_print.proofs.writer.TokenWriter.finish.Goals as goal

pub returns : goal.returns
returns c = λ ts e. finished ts _ c.as_slice.result.now c.args.self c.in_ok-from_utf8_lossy.ensures.lossy (c.as_slice.ensures.value ∙ ap (λ w. w.0) c.self.view_is) e
