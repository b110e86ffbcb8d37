use Rattle.std.proofs.Common.{rules}
use Rattle.std.proofs.lemmas.Fn.{always_returns_same}
use Rattle.front_state.proofs.Ascending.{sets_before, tells_ascend}
use Rattle.front_state.proofs.ready.ascend.Goals as goal

pub returns : goal.returns
returns c = tells_ascend c.args.sets.now c.is_sorted_by.result (c.is_sorted_by.ensures.cases sets_before (always_returns_same _ _ _ (λ a r f k. search rules)))
