use Rattle.std.proofs.Common.{rules, not}
use Rattle.std.proofs.lemmas.Fn.{filter_same}
use Rattle.tablets.specs.SetView.{IndexView}
use Rattle.tablets.specs.Shadows.{is_shadow_of}
use Rattle.tablets.proofs.switching.drop_shadows.Goals as goal

pub returns : goal.returns
returns c = filter_same _ (λ (i : IndexView). not (is_shadow_of c.args.job i)) _ (λ x b f k. search rules) _ _ c.retain.ensures.filtered
