use Rattle.std.proofs.Common.{◌≡◌, ◌≤◌, ◌++◌, length}
use Rattle.sql_tokens.specs.Tokens.{tokens_behind, tokens_of}
use Rattle.sql_tokens.proofs.read.tokens.Given as goal

abbrev pub invariant-more : goal.invariant-more
invariant-more l = record {
  so_far : l.tokens.items ++ tokens_behind (length l.fn.text) 0 l.left ≡ tokens_of l.fn.text;
  within : length l.left ≤ length l.fn.text;
}

abbrev pub decreases-more : goal.decreases-more
decreases-more l = length l.left
