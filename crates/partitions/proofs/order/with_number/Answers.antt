use Rattle.std.proofs.Common.{◌≡◌, ◌∙◌, sym, arith, take, drop, ◌++◌, ◌∷◌, rules, append_assoc}
use Rattle.std.proofs.lemmas.Grind.{common_steps}
use Rattle.partitions.specs.Search as search
use Rattle.partitions.proofs.Growing.{put_at}
use Rattle.partitions.proofs.order.with_number.Goals as goal

pub returns : goal.returns
returns c = grind (arith, common_steps) ∙ sym (put_at (λ m. search.lies_before (search.bounds_at c.args.parts.now m) c.args.bounds.now) _ c.args.order.now)
