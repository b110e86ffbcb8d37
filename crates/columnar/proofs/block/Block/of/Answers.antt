use Rattle.std.proofs.Common.{◌≡◌, ◌≤◌, ◌∙◌, ◌++◌, ◌+◌, ◌∷◌, [], ℕ, List, length, take, drop, ap, sym, arith, length-drop}
use Rattle.std.proofs.lemmas.List.{length-take-le}
use Rattle.std.proofs.lemmas.List.FromFn.{map-range_with_len_more}
use Rattle.std.specs.List.{AllByRecursion}
use Rattle.columnar.proofs.BlockLemmas.{block_is, columns, columns_are, columns_more}
use Rattle.columnar.proofs.Lists.{all_drop, all_take}
use Rattle.columnar.specs.Blocks.{across, column_of, zones_of}
use Rattle.dl_values.specs.declared.cell.Cell.{Cell}
use Rattle.zones.specs.Ends.{EndsView, ends_of}
use Rattle.columnar.proofs.block.Block.of.Goals as goal

-- one zone more
zones_more : (n : ℕ) (block : List (List Cell)) → zones_of (n + 1) block ≡ zones_of n block ++ ends_of (column_of n block) ∷ []
zones_more n block = map-range_with_len_more (λ c. ends_of (column_of c block)) 0 n n (omega arith)

wide_block : (width start count : ℕ) (rows : List (List Cell)) → AllByRecursion (λ (r : List Cell). width ≡ length r) rows → AllByRecursion (λ (r : List Cell). width ≡ length r) (take count (drop start rows))
wide_block width start count rows wide = all_take (λ (r : List Cell). width ≡ length r) count (drop start rows) (all_drop (λ (r : List Cell). width ≡ length r) start rows wide)

pub loop-column-preserved : goal.loop-column-preserved
loop-column-preserved c =
    let n = c.loop-column.column in
    let block = take c.args.count (drop c.args.start c.args.rows.now) in
    record {
      cells =
          c.in_ok-zone.ensures.cells
          ∙ ap (λ (l : List Cell). l ++ column_of n block) c.loop-column.invariant.cells
          ∙ ap (λ k. columns 0 n block ++ column_of k block) (omega (arith))
          ∙ sym (columns_more 0 n block);
      zones =
          c.in_ok-push.ensures.items
          ∙ ap (λ (l : List EndsView). l ++ c.in_ok-zone.zone ∷ []) c.loop-column.invariant.zones
          ∙ ap (λ (z : EndsView). zones_of n block ++ z ∷ []) c.in_ok-zone.ensures.zone
          ∙ sym (zones_more n block);
    }

pub invariant_of-result : goal.invariant_of-result
invariant_of-result c =
    let rows = c.args.rows.now in
    let block = take c.args.count (drop c.args.start rows) in
    let n : c.loop-column.column ≡ c.args.width = omega arith in
    let fits : c.args.count ≤ length (drop c.args.start rows) = simp length-drop (omega (arith, c.requires.within)) in
    block_is c.args.width c.args.count block c.loop-column.cells.items c.loop-column.zones.items
    (c.loop-column.invariant.cells ∙ ap (λ k. columns 0 k block) n)
    (c.loop-column.invariant.zones ∙ ap (λ k. zones_of k block) n)
    (length-take-le c.args.count (drop c.args.start rows) fits) c.requires.some
    (wide_block c.args.width c.args.start c.args.count rows c.requires.wide)

pub returns : goal.returns
returns c =
    let rows = c.args.rows.now in
    let block = take c.args.count (drop c.args.start rows) in
    let n : c.loop-column.column ≡ c.args.width = omega arith in
    let fits : c.args.count ≤ length (drop c.args.start rows) = simp length-drop (omega (arith, c.requires.within)) in
    let size = length-take-le c.args.count (drop c.args.start rows) fits in
    ap (λ (l : List Cell). across c.args.width c.args.count l) (c.loop-column.invariant.cells ∙ ap (λ k. columns 0 k block) n)
    ∙ columns_are c.args.width c.args.count block size (wide_block c.args.width c.args.start c.args.count rows c.requires.wide)
