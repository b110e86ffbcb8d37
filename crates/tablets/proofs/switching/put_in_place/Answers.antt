use Rattle.std.proofs.Common.{map, ap, ◌∙◌}
use Rattle.tablets.specs.Parting.{put_for}
use Rattle.tablets.specs.SetView.{IndexView}
use Rattle.tablets.specs.contracts.index.Index.{the_view}
use Rattle.tablets.proofs.Switch.{put_is}
use Rattle.tablets.proofs.switching.put_in_place.Goals as goal

pub returns : goal.returns
returns c = put_is c.args.indexes.now c.args.number c.place_of-place.result (the_view c.shadow.inside) c.requires.apart c.requires.there c.place_of-place.ensures ∙ ap (λ (s : IndexView). map (put_for c.args.number s) c.args.indexes.now) c.shadow.view_is
