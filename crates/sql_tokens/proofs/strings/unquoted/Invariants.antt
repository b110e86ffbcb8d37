use Rattle.std.proofs.Common.{length}
use Rattle.std.specs.Prelude.{option_map}
use Rattle.sql_tokens.proofs.Kept.{Scanning}
use Rattle.sql_tokens.proofs.strings.unquoted.Given as goal

abbrev pub invariant-more : goal.invariant-more
invariant-more l = Scanning l.quote l.text.items (option_map (λ k. (k.0, k.1.now)) l.kept) l.rest l.bytes

abbrev pub decreases-more : goal.decreases-more
decreases-more l = length l.rest
