-- What is built of a plan and rows: the rows themselves, and what the base and each target of the plan get of them.
use Rattle.std.specs.Prelude.{◌≡◌, List}
use Rattle.dl_values.specs.declared.cell.Cell.{Cell}
use Rattle.shadow_writes.specs.declared.plan.Plan.{Plan}
use Rattle.shadow_writes.specs.declared.built.Built.{Built}
use Rattle.front_defs.specs.May.{TargetsOf}

pub record IsBuiltOf (plan : Plan) (rows : List (List Cell)) (built : Built) : Type 0 where
  pub plan_is : built.plan ≡ plan
  pub rows_are : built.rows ≡ rows
  pub targets : TargetsOf plan rows built.targets
