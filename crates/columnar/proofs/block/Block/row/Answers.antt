use Rattle.std.proofs.Common.{◌≡◌, ◌<◌, ◌/◌, ◌∙◌, ℕ, List, [], length, ap, sym, subst, get_or}
use Rattle.columnar.proofs.BlockLemmas.{length_across, row_at}
use Rattle.columnar.specs.Blocks.{across}
use Rattle.dl_values.specs.Views.{every}
use Rattle.dl_values.specs.declared.cell.Cell.{Cell}
use Rattle.columnar.proofs.block.Block.row.Goals as goal

within : (width count at : ℕ) (cells : List Cell) (rows : List (List Cell)) → across width count cells ≡ rows → at < length rows → at < count
within width count at cells rows e l = subst (λ n. at < n) (length_across width count cells) (subst (λ (r : List (List Cell)). at < length r) (sym e) l)

pub across-requires-clause-within : goal.across-requires-clause-within
across-requires-clause-within c = within c.self.inside.width c.self.inside.count c.args.at c.self.inside.cells.items c.args.self.now c.self.view_is c.requires

pub returns : goal.returns
returns c =
    let i = c.self.inside in
    let l : c.args.at < i.count = within i.width i.count c.args.at i.cells.items c.args.self.now c.self.view_is c.requires in
    c.across.ensures
    ∙ ap (λ (cells : List Cell). every (length cells / i.count) i.count c.args.at cells) c.as_slice.ensures.value
    ∙ row_at i.width i.count c.args.at i.cells.items i.zones.items c.self.invariant l
    ∙ ap (λ (rows : List (List Cell)). get_or rows c.args.at []) c.self.view_is
