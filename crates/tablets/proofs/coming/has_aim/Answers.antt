use Rattle.std.proofs.Common.{rules, tests, ◌∙◌}
use Rattle.std.proofs.lemmas.Iterator.{YieldsList-from_slice}
use Rattle.std.proofs.lemmas.Iterator.Search.{any_from_yields_List}
use Rattle.tablets.specs.SetView.{IndexView}
use Rattle.tablets.specs.Shadows.{aim, is_number}
use Rattle.tablets.proofs.Among.{any_aim}
use Rattle.tablets.proofs.coming.has_aim.Goals as goal

pub returns : goal.returns
returns c =
    any_from_yields_List (λ (i : IndexView). is_number c.args.number (aim i.shadow)) _ _ _ c.any.ensures.ran (YieldsList-from_slice c.args.indexes.now cc) (λ x b q k. search (rules, tests))
    ∙ any_aim c.args.number c.args.indexes.now
