use Rattle.fold_laws.proofs.Maps.{joined}
use Rattle.fold_laws.proofs.laws.converted_folds_join.Goals as goal

pub returns : goal.returns
returns g c = λ cmp key tie source target converts h c right none more left xs ys a b. joined c right source none more left xs ys a b
