use Rattle.std.proofs.Common.{◌≡◌, length, arith, take, drop, length-drop, length-take, length-append, ◌≤◌, ◌-◌, ◌+◌, ap, sym, ◌∙◌}
use Rattle.std.proofs.Math.ListN.{drop_of_length-le}
use Rattle.dl_outside.specs.Memory.{Giver}
use Rattle.dl_outside.proofs.Pieces.{piece-read}
use Rattle.dl_outside.proofs.memory_source.MemorySourceSource.read.Goals as goal

pub returns-clause-bytes : goal.returns-clause-bytes
returns-clause-bytes c =
    let xs = c.self.inside.bytes.items in
    let at = c.self.inside.at in
    let n = c.min-n.result in
    let after = rw c.deref-2.ensures.value at c.copy_from_slice.ensures.after in
    let fits : n ≤ length xs - at = omega (arith, c.self.invariant) in
    let count : length (take (at + n - at) (drop at xs)) ≡ n = simp (length-take, length-drop) (omega arith) in
    let new : length c.copy_from_slice.new.self ≡ n = ap length after ∙ count in
    let left = sym (ap (λ (v : Giver). v.left) c.self.view_is) in (
      piece-read c.args.self.now.left xs c.args.room.now c.copy_from_slice.new.self at n left after new,
      λ z p. drop_of_length-le xs (omega (arith, c.self.invariant, length-append c.copy_from_slice.new.self (drop n c.args.room.now), length-drop n c.args.room.now)),
    )
