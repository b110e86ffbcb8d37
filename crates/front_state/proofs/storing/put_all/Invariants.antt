-- The first lists are put, and the others can be.
use Rattle.std.proofs.Common.{◌≡◌, length}
use Rattle.std.specs.Vec.Iter.{into_iter_items, into_iter_len}
use Rattle.front_state.proofs.Putting.{ArePut}
use Rattle.front_state.proofs.storing.put_all.Given as goal

abbrev pub invariant-loop-list : goal.invariant-loop-list
invariant-loop-list l = record {
  put : ArePut (into_iter_items l.initial.list-iterator) (into_iter_items l.list-iterator) l.initial.set l.set;
  many : into_iter_len l.list-iterator ≡ length (into_iter_items l.list-iterator);
}
