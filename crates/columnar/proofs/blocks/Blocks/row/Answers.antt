use Rattle.std.proofs.Common.{◌≡◌, ◌<◌, ◌/◌, ◌%◌, ◌∙◌, ℕ, List, [], length, ap, sym, subst, get_or}
use Rattle.std.proofs.lemmas.List.{get_or_read}
use Rattle.columnar.proofs.Places.{StandsIn, stands_in}
use Rattle.columnar.specs.Blocks.{AreBlocks, BlocksView, all_rows}
use Rattle.columnar.specs.MarksView.{MarksView}
use Rattle.dl_values.specs.declared.cell.Cell.{Cell}
use Rattle.columnar.proofs.blocks.Blocks.row.Goals as goal

-- where the row stands in the blocks that were found
stands : (count place : ℕ) (marks : MarksView) (blocks found : List (List (List Cell))) (view : BlocksView) → record { marks = marks; rows = all_rows blocks } ≡ view → AreBlocks count blocks → found ≡ blocks → place < length view.rows → StandsIn found place
stands count place marks blocks found view v a f l =
    subst (λ (b : List (List (List Cell))). StandsIn b place) (sym f) (stands_in blocks place a.full (subst (λ (x : BlocksView). place < length x.rows) (sym v) l))

pub bounds-blocks-place : goal.bounds-blocks-place
bounds-blocks-place g c =
    (stands c.self.inside.count c.args.place c.self.inside.marks c.self.inside.blocks.items c.as_slice-blocks.result.now c.args.self.now c.self.view_is c.self.invariant c.as_slice-blocks.ensures.value c.requires.within).block

pub row-requires : goal.row-requires
row-requires g c =
    let s = stands c.self.inside.count c.args.place c.self.inside.marks c.self.inside.blocks.items c.as_slice-blocks.result.now c.args.self.now c.self.view_is c.self.invariant c.as_slice-blocks.ensures.value c.requires.within in
    let is = get_or_read c.as_slice-blocks.result.now (c.args.place / 1024) c.index-blocks-place.result s.block c.index-blocks-place.is [] in
    subst (λ (b : List (List Cell)). c.args.place % 1024 < length b) (sym is) s.at

pub returns-clause-row : goal.returns-clause-row
returns-clause-row g c =
    let s = stands c.self.inside.count c.args.place c.self.inside.marks c.self.inside.blocks.items c.as_slice-blocks.result.now c.args.self.now c.self.view_is c.self.invariant c.as_slice-blocks.ensures.value c.requires.within in
    let is = get_or_read c.as_slice-blocks.result.now (c.args.place / 1024) c.index-blocks-place.result s.block c.index-blocks-place.is [] in
    c.row.ensures
    ∙ ap (λ (b : List (List Cell)). get_or b (c.args.place % 1024) []) is
    ∙ s.is
    ∙ ap (λ (b : List (List (List Cell))). get_or (all_rows b) c.args.place []) c.as_slice-blocks.ensures.value
    ∙ ap (λ (x : BlocksView). get_or x.rows c.args.place []) c.self.view_is
