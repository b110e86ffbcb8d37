use Rattle.std.proofs.Common.{◌≡◌, ◌<◌, ℕ, List, length, sym, subst}
use Rattle.dl_values.specs.Views.{every}
use Rattle.dl_values.specs.declared.cell.Cell.{Cell}
use Rattle.dl_values.proofs.ViewLemmas.{length-every, cell-at}
use Rattle.dl_values.proofs.row_view.RowView.cell.Goals as goal

within : (count step at column : ℕ) (cells row : List Cell) → every count step at cells ≡ row → column < length row → column < count
within count step at column cells row e l = subst (λ n. column < n) (length-every count step at cells) (subst (λ r. column < length r) (sym e) l)

pub place_in-place-requires-clause-within : goal.place_in-place-requires-clause-within
place_in-place-requires-clause-within c = within c.self.inside.count c.self.inside.step c.self.inside.at c.args.column c.self.inside.cells.now c.args.self.now c.self.view_is c.requires

pub returns : goal.returns
returns c =
    let i = c.self.inside in
    let l : c.args.column < i.count = within i.count i.step i.at c.args.column i.cells.now c.args.self.now c.self.view_is c.requires in
    cell-at i.count i.step i.at c.args.column c.place_in-place.result i.cells.now c.args.self.now c.index-self-place.result c.self.view_is l c.place_in-place.ensures.is c.place_in-place.ensures.within c.self.invariant.1
