use Rattle.std.proofs.Common.{◌≡◌, ◌∙◌, ap, map, subst, sym, List}
use Rattle.std.proofs.lemmas.Result.{IfOk-weaker}
use Rattle.dl_values.specs.declared.cell.Cell.{Cell}
use Rattle.merge_read.specs.Lists.{AreSortedLists, joined}
use Rattle.rowsets.specs.RowsetView.{rowset_rows}
use Rattle.schema_models.specs.Folds.{fold_of}
use Rattle.serde_json.specs.Data.{Data}
use Rattle.serde_json.specs.Written.{compact_text}
use Rattle.load_server.proofs.Selecting.{all_same, lists_sorted}
use Rattle.load_server.proofs.select.render_snapshot.Goals as goal

pub read_all-requires : goal.read_all-requires
read_all-requires g c =
    let s = c.args.snapshot.now in
    subst (λ (lists : List (List (List Cell))). AreSortedLists s.index lists) (sym (ap (λ lists. map (λ l. rowset_rows l.value) lists) c.as_slice.ensures)) (lists_sorted s.index s.lists c.requires)

pub returns : goal.returns
returns g c =
    let s = c.args.snapshot.now in
    let rows : c.in_ok-rows.rows ≡ fold_of s.index (joined (map (λ l. rowset_rows l.value) s.lists)) =
    c.in_ok-rows.ensures.read ∙ ap (λ lists. fold_of s.index (joined (map (λ l. rowset_rows l.value) lists))) c.as_slice.ensures in
    IfOk-weaker c.render_result.result _ _
    (λ b e. e ∙ ap (λ (d : Data). compact_text d) (all_same s.index (map (λ l. rowset_rows l.value) s.lists) c.columns-columns.result.now (record { names = c.in_ok-names_of.field-0; types = c.in_ok-types_of.field-0; rows = c.in_ok-rows.rows }) c.columns-columns.ensures c.in_ok-names_of.ensures c.in_ok-types_of.ensures rows))
    c.render_result.ensures
