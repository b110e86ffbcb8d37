use Rattle.std.proofs.Common.{[]}
use Rattle.partitions.specs.LayoutFaults.{written_faults, ranged_faults}
use Rattle.partitions.specs.Ranges.{ranged}
use Rattle.partitions.proofs.Tested.{tests_front, tests_back}
use Rattle.partitions.proofs.faults.tested_parts.Goals as goal

pub returns-in-Ok-clause-tested : goal.returns-in-Ok-clause-tested
returns-in-Ok-clause-tested c =
    tests_back (written_faults c.args.shape.now c.args.column.now c.args.parts.now c.args.hash.now c.args.buckets) (ranged_faults (ranged [] c.args.parts.now)) c.apart_parts.result c.in-Ok.ensures c.apart_parts.ensures.tested

pub returns-in-Err-clause-tested : goal.returns-in-Err-clause-tested
returns-in-Err-clause-tested c =
    tests_front (written_faults c.args.shape.now c.args.column.now c.args.parts.now c.args.hash.now c.args.buckets) (ranged_faults (ranged [] c.args.parts.now)) c.in-Err.fault c.in-Err.ensures
