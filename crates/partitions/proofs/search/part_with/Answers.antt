use Rattle.std.proofs.Common.{rules, ◌≡◌, ℕ, ◌-◌, Bool, true, false, slice_index_or, sym, ap, ◌∙◌, arith}
use Rattle.std.proofs.lemmas.List.Sorted.{IsPartitionPoint-from_clause}
use Rattle.partitions.proofs.Ascending.{are_started, started_at, halving_finds, found_none, found_some, found_past}
use Rattle.partitions.proofs.search.part_with.Goals as goal

pub returns-then-started-eq0 : goal.returns-then-started-eq0
returns-then-started-eq0 c =
    let parts = c.args.parts.now in
    let point = IsPartitionPoint-from_clause (started_at parts c.args.cell.now) c.args.order.now c.partition_point-started.result c.partition_point-started.ensures.partitioned (are_started parts c.args.cell.now c.args.order.now c.requires.ascends) (λ a r f k. search rules) in
    sym (found_none parts c.args.order.now c.args.cell.now c.partition_point-started.result (search rules)) ∙ halving_finds parts c.args.order.now c.args.cell.now c.partition_point-started.result c.requires c.partition_point-started.ensures.bound point

pub returns-then-is_not_ended : goal.returns-then-is_not_ended
returns-then-is_not_ended c =
    let parts = c.args.parts.now in
    let point = IsPartitionPoint-from_clause (started_at parts c.args.cell.now) c.args.order.now c.partition_point-started.result c.partition_point-started.ensures.partitioned (are_started parts c.args.cell.now c.args.order.now c.requires.ascends) (λ a r f k. search rules) in
    sym (found_some parts c.args.order.now c.args.cell.now c.partition_point-started.result (λ e. absurd (search rules)) (search rules)) ∙ halving_finds parts c.args.order.now c.args.cell.now c.partition_point-started.result c.requires c.partition_point-started.ensures.bound point

pub returns-else-is_not_ended : goal.returns-else-is_not_ended
returns-else-is_not_ended c =
    let parts = c.args.parts.now in
    let point = IsPartitionPoint-from_clause (started_at parts c.args.cell.now) c.args.order.now c.partition_point-started.result c.partition_point-started.ensures.partitioned (are_started parts c.args.cell.now c.args.order.now c.requires.ascends) (λ a r f k. search rules) in
    sym (found_past parts c.args.order.now c.args.cell.now c.partition_point-started.result (λ e. absurd (search rules)) (search rules)) ∙ halving_finds parts c.args.order.now c.args.cell.now c.partition_point-started.result c.requires c.partition_point-started.ensures.bound point
