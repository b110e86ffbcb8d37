use Rattle.std.proofs.Common.{sym}
use Rattle.select_eval.proofs.pieces.stays.Goals as goal

pub block_may_match-requires : goal.block_may_match-requires
block_may_match-requires g c = record { there = (c.args.place, c.requires, sym c.block_of-block.ensures.block) }
