use Rattle.std.proofs.lemmas.Result.{err_from_is_err_and}
use Rattle.dl_outside.proofs.Pieces.{gone}
use Rattle.dl_outside.proofs.read_all.read_to_limit.Goals as goal

pub returns-in_err-n-clause-lost : goal.returns-in_err-n-clause-lost
returns-in_err-n-clause-lost g c =
    let p = err_from_is_err_and c.from_residual.result c.from_residual.ensures.1 in
    rw p.1 (gone (g.S.Source.left c.args.source.now) (g.S.Source.left c.loop-bytes.source) (g.S.Source.left c.read_more.new.source) c.loop-bytes.bytes.items c.loop-bytes.invariant.consumed c.in_err-n.ensures.lost)
