use Rattle.std.proofs.Common.{ap, ◌∙◌}
use Rattle.row_fold.specs.Prefix.{row_prefix}
use Rattle.select_eval.proofs.KeyOrder.{above, below}
use Rattle.select_eval.proofs.group_key.GroupKey.compare.Goals as goal

pub returns-then-self-other : goal.returns-then-self-other
returns-then-self-other c = below c.args.self.now c.args.other.now c.self.inside.prefix c.other.inside.prefix (c.self.invariant ∙ ap row_prefix c.self.view_is) (c.other.invariant ∙ ap row_prefix c.other.view_is) c.if-self-other.true

pub returns-then-other-self : goal.returns-then-other-self
returns-then-other-self c = above c.args.self.now c.args.other.now c.self.inside.prefix c.other.inside.prefix (c.self.invariant ∙ ap row_prefix c.self.view_is) (c.other.invariant ∙ ap row_prefix c.other.view_is) c.if-other-self.true
