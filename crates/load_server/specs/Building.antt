-- A way to build loads.
use Rattle.std.specs.Prelude.{List}
use Rattle.dl_values.specs.declared.cell.Cell.{Cell}
use Rattle.shadow_writes.specs.declared.plan.Plan.{Plan}
use Rattle.shadow_writes.specs.declared.built.Built.{Built}
use Rattle.load_build.specs.Building.{IsBuiltOf}

-- For every plan and all rows: it is fixed but for the places in memory where folded rows stand.
abbrev pub IsBuilding : (Plan → List (List Cell) → Built) → Type 0
IsBuilding building = (plan : Plan) (rows : List (List Cell)) → IsBuiltOf plan rows (building plan rows)
