use Rattle.std.proofs.Common.{◌≡◌, ◌+◌, drop}
use Rattle.schema_models.specs.ShapeView.{key_count}
use Rattle.schema_models.proofs.shape.Shape.keys.Given as goal

abbrev pub invariant-loop-i : goal.invariant-loop-i
invariant-loop-i l = l.i + key_count (drop l.i l.self-inside.columns.items) ≡ key_count l.self-inside.columns.items
