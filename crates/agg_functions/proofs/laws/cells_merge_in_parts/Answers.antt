use Rattle.agg_functions.specs.MergeLemmas.{merge_assoc, null_after, null_before}
use Rattle.agg_functions.proofs.laws.cells_merge_in_parts.Goals as goal

pub returns-clause-associative : goal.returns-clause-associative
returns-clause-associative c = merge_assoc

pub returns-clause-neutral : goal.returns-clause-neutral
returns-clause-neutral c = null_after

pub returns-clause-starts : goal.returns-clause-starts
returns-clause-starts c = null_before
