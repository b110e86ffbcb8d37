use Rattle.select_defs.proofs.Joins.{aggregates_join, cells_join, rows_join}
use Rattle.select_defs.proofs.laws.groups_merge_in_parts.Goals as goal

pub returns-clause-rows : goal.returns-clause-rows
returns-clause-rows c = λ s group k xs ys. rows_join s group k xs ys

pub returns-clause-aggregates : goal.returns-clause-aggregates
returns-clause-aggregates c = λ f xs ys. aggregates_join f xs ys

pub returns-clause-cells : goal.returns-clause-cells
returns-clause-cells c = λ s group k xs ys i. cells_join s group k xs ys i
