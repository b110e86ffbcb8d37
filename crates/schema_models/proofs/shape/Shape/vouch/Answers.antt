use Rattle.std.proofs.Common.{subst}
use Rattle.schema_models.specs.ShapeRules.{IsShape}
use Rattle.schema_models.specs.ShapeView.{ShapeView}
use Rattle.schema_models.proofs.ShapeLemmas.{shape_has_key}
use Rattle.schema_models.proofs.shape.Shape.vouch.Goals as goal

pub returns-clause-has_key : goal.returns-clause-has_key
returns-clause-has_key c = shape_has_key c.args.self.now (subst (λ (s : ShapeView). IsShape s) c.self.view_is c.self.invariant)
