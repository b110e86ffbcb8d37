use Rattle.std.proofs.Common.{◌≡◌, ◌<◌, ◌≤◌, ◌+◌, ◌-◌, ◌%◌, ◌∙◌, length, ap, sym, arith}
use Rattle.columnar.proofs.ZoneLemmas.{number_at, same_block}
use Rattle.columnar.specs.Blocks.{BlocksView}
use Rattle.columnar.proofs.blocks.BlocksZones.block_end.Goals as goal

pub returns-clause-together : goal.returns-clause-together
returns-clause-together c = λ i a b.
    let rows = c.args.self.now.rows in
    let count : c.self.inside.count ≡ length rows = c.self.invariant.counted ∙ ap (λ (v : BlocksView). length v.rows) c.self.view_is in
    let end : c.min.result ≤ c.args.place - c.args.place % 1024 + 1024 = omega (arith, c.min.ensures, c.saturating_add.ensures) in
    let within : i < length rows = omega (arith, c.min.ensures, count, b) in
    number_at rows i within ∙ same_block c.args.place c.min.result i end a b ∙ sym (number_at rows c.args.place c.requires.within)
