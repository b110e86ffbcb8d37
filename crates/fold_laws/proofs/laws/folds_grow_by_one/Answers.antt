use Rattle.fold_laws.proofs.Merges.{put_is, add_is, fold_step, entries_step}
use Rattle.fold_laws.proofs.laws.folds_grow_by_one.Goals as goal

pub returns-clause-older : goal.returns-clause-older
returns-clause-older g c = λ cmp key op m row rows. put_is m.order m.merges m.apart row rows

pub returns-clause-newer : goal.returns-clause-newer
returns-clause-newer g c = λ cmp key op m rows row. add_is m.order m.merges m.apart rows row

pub returns-clause-side_by_side : goal.returns-clause-side_by_side
returns-clause-side_by_side g c = λ cmp key op m front old new back e. fold_step m.order m.merges m.apart front old new back e

pub returns-clause-in_a_map : goal.returns-clause-in_a_map
returns-clause-in_a_map g c = λ cmp key op m rows row. entries_step m.order m.merges m.apart rows row
