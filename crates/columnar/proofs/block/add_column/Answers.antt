use Rattle.std.proofs.Common.{◌<◌, ◌∙◌, ◌+◌, ◌++◌, ◌∷◌, [], List, length, take, drop, get_or, ap, sym, subst, arith, append_assoc, length-drop}
use Rattle.std.proofs.lemmas.List.{get_or_read}
use Rattle.columnar.proofs.BlockLemmas.{column_more}
use Rattle.columnar.proofs.Lists.{all_get}
use Rattle.columnar.specs.Blocks.{column_of}
use Rattle.dl_values.specs.declared.cell.Cell.{Cell}
use Rattle.dl_values.specs.declared.cell.Cell.TheVariants as cell
use Rattle.columnar.proofs.block.add_column.Goals as goal

pub loop-i-preserved : goal.loop-i-preserved
loop-i-preserved c =
    let rows = c.args.rows.now in
    let column = c.args.column in
    let place : c.args.start + c.loop-i.i < length rows = omega (arith, c.requires.within, c.loop-i-test.true) in
    let more : c.loop-i.i < length (drop c.args.start rows) = simp length-drop (omega (arith, place)) in
    let row = c.row-row.result.now in
    let wide : column < length row = subst (λ (r : List Cell). column < length r) (sym c.row-row.ensures) (all_get (λ (r : List Cell). column < length r) (c.args.start + c.loop-i.i) rows [] place c.requires.wide) in
    let made = c.index-row-column.result in
    let read = get_or_read row column made wide c.index-row-column.is cell.Null in
    let is = read ∙ ap (λ (r : List Cell). get_or r column cell.Null) c.row-row.ensures in
    c.in_ok-push_cell.ensures
    ∙ ap (λ (l : List Cell). l ++ made ∷ []) c.loop-i.invariant
    ∙ append_assoc c.args.cells.now.items (column_of column (take c.loop-i.i (drop c.args.start rows))) (made ∷ [])
    ∙ ap (λ (l : List Cell). c.args.cells.now.items ++ l) (ap (λ (x : Cell). column_of column (take c.loop-i.i (drop c.args.start rows)) ++ x ∷ []) is ∙ sym (column_more column c.args.start c.loop-i.i rows more))
