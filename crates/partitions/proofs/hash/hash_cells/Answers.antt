use Rattle.std.proofs.Common.{◌≡◌, ◌+◌, ℕ, List, Option, drop, flat_map, slice_get, ap, ◌∙◌, arith}
use Rattle.dl_values.specs.declared.cell.Cell.{Cell}
use Rattle.partitions.specs.Places as places
use Rattle.partitions.proofs.Hashes.{hash_step}
use Rattle.partitions.proofs.hash.hash_cells.Goals as goal

pub loop-position-preserved : goal.loop-position-preserved
loop-position-preserved c =
    let cells = c.args.cells.now in
    let positions = c.args.positions.now in
    let i = c.loop-position.position-index in
    let text = λ (p : ℕ). places.text_of (slice_get cells p) in
    ap (λ (h : ℕ). places.hash_bytes h (flat_map text (drop (i + 1) positions))) (c.hash_shown-hash.ensures ∙ ap (λ (o : Option Cell). places.hash_bytes c.loop-position.hash (places.text_of o)) c.at.ensures)
    ∙ hash_step text positions i c.loop-position.hash (omega arith) ∙ c.loop-position.invariant
