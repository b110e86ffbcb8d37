use Rattle.std.proofs.Common.{refl, inr}
use Rattle.schema_models.specs.ShapeRules.{shape_fault}
use Rattle.partitions.specs.LayoutFaults.{layout_fault}
use Rattle.front_laws.proofs.examples.a_table_is_made_once.Goals as goal

pub returns-clause-known : goal.returns-clause-known
returns-clause-known c = (inr refl, λ x h. h)

pub returns-clause-again : goal.returns-clause-again
unfolding shape_fault layout_fault
returns-clause-again c = (inr refl, λ x h. h)

pub returns-clause-quietly : goal.returns-clause-quietly
unfolding shape_fault layout_fault
returns-clause-quietly c = (inr refl, λ x h. h)

pub returns-clause-hashed : goal.returns-clause-hashed
unfolding shape_fault layout_fault
returns-clause-hashed c = (inr refl, λ x h. h)

pub returns-clause-twice : goal.returns-clause-twice
unfolding shape_fault layout_fault
returns-clause-twice c = (inr refl, λ x h. h)

pub returns-clause-elsewhere : goal.returns-clause-elsewhere
unfolding shape_fault layout_fault
returns-clause-elsewhere c = (inr refl, λ x h. h)
