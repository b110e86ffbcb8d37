use Rattle.std.proofs.Common.{rules, tests, ◌&&◌, nat_eq, ◌∙◌}
use Rattle.std.specs.Prelude.{is_none}
use Rattle.std.proofs.lemmas.Iterator.{YieldsList-from_slice}
use Rattle.std.proofs.lemmas.Iterator.Search.{any_from_yields_List}
use Rattle.tablets.specs.SetView.{IndexView}
use Rattle.tablets.proofs.Among.{any_plain}
use Rattle.tablets.proofs.coming.has_plain.Goals as goal

pub returns : goal.returns
returns c =
    any_from_yields_List (λ (i : IndexView). is_none i.shadow && nat_eq i.number c.args.number) _ _ _ c.any.ensures.ran (YieldsList-from_slice c.args.indexes.now cc) (λ x b q k. search (rules, tests))
    ∙ any_plain c.args.number c.args.indexes.now
