use Rattle.std.proofs.Common.{ℕ, ◌<◌, subst}
use Rattle.load_build.proofs.Growing.{next_row}
use Rattle.load_build.proofs.spreading.spread.Goals as goal

pub loop-place-preserved : goal.loop-place-preserved
loop-place-preserved c =
    let within = subst (λ (n : ℕ). c.loop-place.place < n) c.len-place-end.ensures c.loop-place-test.true in
    next_row c.args.layout.now c.args.rows.now c.loop-place.place c.row.result.now c.loop-place.parts.items _ within c.row.ensures c.loop-place.invariant c.in_ok-add_row.ensures
