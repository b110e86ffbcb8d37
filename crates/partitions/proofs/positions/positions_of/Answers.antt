use Rattle.std.proofs.Common.{◌≡◌, ◌+◌, ◌++◌, [], List, ℕ, drop, slice_index_or, ap, ◌∙◌, arith, append-nil, sym, rules}
use Rattle.std.proofs.lemmas.Grind.{common_steps}
use Rattle.partitions.specs.Search as search
use Rattle.partitions.proofs.Hashes.{positions_step, positions_end}
use Rattle.partitions.proofs.positions.positions_of.Goals as goal

pub loop-name-preserved : goal.loop-name-preserved
loop-name-preserved c =
    let names = c.args.names.now in
    let wanted = c.args.wanted.now in
    let i = c.loop-name.name-index in
    let d = c.name-item.result in
    let so_far = c.loop-name.positions.items in
    let pushed : c.push_position.new.positions.items ≡ so_far ++ search.with_position (search.position_of names (slice_index_or wanted i d)) [] =
    cc (c.in_ok-push_position.ensures, c.position_of.ensures, c.name-item.is) in
    ap (λ (l : List ℕ). l ++ search.positions_of names (drop (i + 1) wanted)) pushed ∙ positions_step names wanted i d so_far (omega arith) ∙ c.loop-name.invariant

pub returns : goal.returns
returns c = positions_end c.args.names.now c.args.wanted.now c.loop-name.name-index c.loop-name.positions.items (search.positions_of c.args.names.now c.args.wanted.now) (omega arith) c.loop-name.invariant
