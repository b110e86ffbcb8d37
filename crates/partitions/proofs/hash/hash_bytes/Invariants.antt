-- The bytes that are left bring the hash to that of all.
use Rattle.std.proofs.Common.{◌≡◌, drop}
use Rattle.partitions.specs.Places as places
use Rattle.partitions.proofs.hash.hash_bytes.Given as goal

abbrev pub invariant-loop-byte : goal.invariant-loop-byte
invariant-loop-byte l = places.hash_bytes l.hash (drop l.byte-index l.bytes) ≡ places.hash_bytes l.before l.bytes
