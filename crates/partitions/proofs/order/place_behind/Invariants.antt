-- The first numbers pass, so the others decide.
use Rattle.std.proofs.Common.{◌≡◌, ◌+◌, drop}
use Rattle.std.specs.List.{prefix_len}
use Rattle.partitions.specs.Search as search
use Rattle.partitions.proofs.order.place_behind.Given as goal

abbrev pub invariant-loop-place : goal.invariant-loop-place
invariant-loop-place l = l.place + prefix_len (λ m. search.lies_before (search.bounds_at l.parts m) l.bounds) (drop l.place l.order) ≡ prefix_len (λ m. search.lies_before (search.bounds_at l.parts m) l.bounds) l.order
