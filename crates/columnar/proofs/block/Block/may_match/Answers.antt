use Rattle.std.proofs.Common.{◌<◌, ◌≤◌, ◌∙◌, List, length, get_or, ap, subst}
use Rattle.columnar.proofs.ZoneLemmas.{no_zone, zone_at}
use Rattle.columnar.specs.Blocks.{column_of}
use Rattle.dl_values.specs.declared.cell.Cell.{Cell}
use Rattle.zones.specs.Ends.{EndsView, ends_of, may_match}
use Rattle.columnar.proofs.block.Block.may_match.Goals as goal

pub returns-in-Some : goal.returns-in-Some
returns-in-Some c =
    let i = c.self.inside in
    let t = c.args.test.now in
    let found = c.as_slice.result.now in
    let zone = c.in-Some.zone.now in
    let l : t.column < length i.zones.items = subst (λ (z : List EndsView). t.column < length z) c.as_slice.ensures.value c.in-Some.ensures.lookup.3.0 in
    c.may_match.ensures
    ∙ ap (λ (e : EndsView). may_match t.op t.literal e)
    (c.in-Some.ensures.lookup.1
    ∙ ap (λ (z : List EndsView). get_or z t.column zone) c.as_slice.ensures.value
    ∙ zone_at i.width i.count t.column i.cells.items i.zones.items zone c.self.invariant l
    ∙ ap (λ (rows : List (List Cell)). ends_of (column_of t.column rows)) c.self.view_is)

pub returns-in-None : goal.returns-in-None
returns-in-None c =
    let i = c.self.inside in
    let t = c.args.test.now in
    let past : length i.zones.items ≤ t.column = subst (λ (z : List EndsView). length z ≤ t.column) c.as_slice.ensures.value c.in-None.ensures.lookup.3 in
    c.null_may_match.ensures
    ∙ ap (λ (e : EndsView). may_match t.op t.literal e)
    (no_zone i.width i.count t.column i.cells.items i.zones.items c.self.invariant past
    ∙ ap (λ (rows : List (List Cell)). ends_of (column_of t.column rows)) c.self.view_is)
