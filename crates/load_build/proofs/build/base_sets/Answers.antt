use Rattle.std.proofs.Common.{List, subst, sym}
use Rattle.load_build.specs.PartLists.{AreShaped, PartLists}
use Rattle.load_build.proofs.Folded.{folds_give}
use Rattle.load_build.proofs.Growing.{spread_shaped}
use Rattle.load_build.proofs.build.base_sets.Goals as goal

pub folds-requires : goal.folds-requires
folds-requires c = subst (λ (parts : List PartLists). AreShaped c.args.plan.now.base parts) (sym c.in_ok-parts.ensures) (spread_shaped c.args.plan.now.base c.args.plan.now.layout c.args.rows.now c.requires.shaped)

pub returns : goal.returns
returns c = folds_give c.args.plan.now.base c.args.plan.now.layout c.args.rows.now c.in_ok-parts.parts.items c.folds.result c.in_ok-parts.ensures c.folds.ensures
