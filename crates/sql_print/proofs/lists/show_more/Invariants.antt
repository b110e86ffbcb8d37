use Rattle.std.proofs.Common.{◌≡◌, drop}
use Rattle.sql_print.specs.Steps.{put}
use Rattle.sql_print.specs.Parts.{behind_each, separator_token}
use Rattle.sql_print.proofs.lists.show_more.Given as goal

abbrev pub invariant-loop-item : goal.invariant-loop-item
invariant-loop-item g l = put l.writer (behind_each (separator_token l.separator) g.T.ShowTokens.shown (drop l.item-index l.items)) ≡ put l.initial.writer (behind_each (separator_token l.separator) g.T.ShowTokens.shown l.items)
