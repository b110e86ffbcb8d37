use Rattle.std.proofs.Common.{◌≡◌, ◌<◌, ◌/◌, ◌∙◌, ℕ, List, [], length, get_or, ap, sym, subst, arith}
use Rattle.std.proofs.lemmas.List.{get_or_read}
use Rattle.columnar.proofs.Places.{stands_in}
use Rattle.columnar.proofs.ZoneLemmas.{block_rows, number_at}
use Rattle.columnar.specs.Blocks.{AreBlocks, BlocksView, all_rows}
use Rattle.columnar.specs.MarksView.{MarksView}
use Rattle.columnar.specs.Zones.{block_numbers, rows_in, rows_may}
use Rattle.dl_values.specs.declared.cell.Cell.{Cell}
use Rattle.zones.specs.InBlocks.{HasBlock}
use Rattle.columnar.proofs.blocks.BlocksZones.block_may_match.Goals as goal

-- a block of a row is among the blocks that were found
stands : (count block : ℕ) (marks : MarksView) (blocks found : List (List (List Cell))) (view : BlocksView) → record { marks = marks; rows = all_rows blocks } ≡ view → AreBlocks count blocks → found ≡ blocks → HasBlock view.rows (block_numbers view.rows) block → block < length found
stands count block marks blocks found view v a f (i, l, n) =
    let in_blocks : i < length (all_rows blocks) = subst (λ (x : BlocksView). i < length x.rows) (sym v) l in
    let is : i / 1024 ≡ block = sym (number_at view.rows i l) ∙ n in
    subst (λ (b : List (List (List Cell))). block < length b) (sym f) (subst (λ k. k < length blocks) is (stands_in blocks i a.full in_blocks).block)

pub bounds-blocks-block : goal.bounds-blocks-block
bounds-blocks-block c =
    stands c.self.inside.count c.args.block c.self.inside.marks c.self.inside.blocks.items c.as_slice-blocks.result.now c.args.self.now c.self.view_is c.self.invariant c.as_slice-blocks.ensures.value c.requires.there

pub offset_bounds-blocks-block : goal.offset_bounds-blocks-block
offset_bounds-blocks-block c =
    let l = stands c.self.inside.count c.args.block c.self.inside.marks c.self.inside.blocks.items c.as_slice-blocks.result.now c.args.self.now c.self.view_is c.self.invariant c.as_slice-blocks.ensures.value c.requires.there in
    omega (arith, l, c.as_slice-blocks.type_inv)

pub returns : goal.returns
returns c =
    let found = c.as_slice-blocks.result.now in
    let l = stands c.self.inside.count c.args.block c.self.inside.marks c.self.inside.blocks.items found c.args.self.now c.self.view_is c.self.invariant c.as_slice-blocks.ensures.value c.requires.there in
    let is = get_or_read found c.args.block c.index-blocks-block.result l c.index-blocks-block.is [] in
    let full = c.self.invariant.full in
    record {
      may =
          c.may_match.ensures
          ∙ ap (λ (rows : List (List Cell)). rows_may c.args.test.now rows)
          (is
          ∙ ap (λ (b : List (List (List Cell))). get_or b c.args.block []) c.as_slice-blocks.ensures.value
          ∙ block_rows c.self.inside.blocks.items c.args.block full (subst (λ (b : List (List (List Cell))). c.args.block < length b) c.as_slice-blocks.ensures.value l)
          ∙ ap (λ (v : BlocksView). rows_in c.args.block v.rows) c.self.view_is);
    }
