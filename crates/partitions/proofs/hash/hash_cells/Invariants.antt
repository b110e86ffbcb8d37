-- The cells that are left bring the hash to that of all.
use Rattle.std.proofs.Common.{◌≡◌, drop, slice_get, flat_map}
use Rattle.partitions.specs.Places as places
use Rattle.partitions.proofs.hash.hash_cells.Given as goal

abbrev pub invariant-loop-position : goal.invariant-loop-position
invariant-loop-position l = places.hash_bytes l.hash (flat_map (λ p. places.text_of (slice_get l.cells p)) (drop l.position-index l.positions)) ≡ places.hash_bytes 0 (flat_map (λ p. places.text_of (slice_get l.cells p)) l.positions)
