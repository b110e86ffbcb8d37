use Rattle.std.proofs.Common.{◌≡◌, ◌∙◌, ◌+◌, ◌≤◌, IfOk, OnOk, map, ap, sym, subst}
use Rattle.merge_read.specs.Lists.{AreSortedLists, joined}
use Rattle.select_eval.specs.Groupings.{output_rows_of}
use Rattle.select_eval.specs.Pieces.{cut}
use Rattle.select_eval.specs.Shown.{shown}
use Rattle.select_eval.proofs.BlockLaws.{kept_passing, no_tests, none_given}
use Rattle.select_eval.proofs.output_rows.rows_in_blocks.Goals as goal

pub returns-in-empty-clause-counted : goal.returns-in-empty-clause-counted
returns-in-empty-clause-counted g c =
    subst (λ n. OnOk c.merged_rows.result (c.merged_rows.new.steps ≡ c.args.steps.now + n))
    (sym (no_tests (λ l. g.R.SortedRows.rows l) (λ l. g.R.Zones.blocks l) (λ l. g.R.Zones.may l) _ c.args.lists.now (sym c.in_ok-tests.ensures ∙ sym c.as_slice.ensures.value ∙ none_given c.as_slice.result.now c.in-empty.len_below)))
    c.merged_rows.ensures.counted

pub returns-in-empty-clause-within : goal.returns-in-empty-clause-within
returns-in-empty-clause-within g c =
    subst (λ n. c.merged_rows.new.steps ≤ c.args.steps.now + n)
    (sym (no_tests (λ l. g.R.SortedRows.rows l) (λ l. g.R.Zones.blocks l) (λ l. g.R.Zones.may l) _ c.args.lists.now (sym c.in_ok-tests.ensures ∙ sym c.as_slice.ensures.value ∙ none_given c.as_slice.result.now c.in-empty.len_below)))
    c.merged_rows.ensures.within

pub merged_rows-requires-in-len1-up-clause-sorted : goal.merged_rows-requires-in-len1-up-clause-sorted
merged_rows-requires-in-len1-up-clause-sorted g c =
    subst (λ ps. AreSortedLists c.args.index.now (map (λ p. cut p.start p.end (g.R.SortedRows.rows p.list.now)) ps)) (sym c.as_slice-in-len1-up-2.ensures.value)
    (c.in_ok-pieces-in-len1-up.ensures.sorted c.args.index.now c.requires.sorted)

pub returns-clause-rows : goal.returns-clause-rows
returns-clause-rows g c =
    let base = c.args.base.now in let index = c.args.index.now in let query = c.args.query.now in let list = c.args.list.now in
    subst (λ z. IfOk c.merged_rows-in-len1-up.result (λ v. shown list query v.items ≡ shown list query (output_rows_of base index query z)))
    (kept_passing (λ l. g.R.SortedRows.rows l) (λ l. g.R.Zones.blocks l) (λ l. g.R.Zones.may l) (λ l. g.R.Zones.rows l) (λ l. g.R.Zones.finds l) index c.args.conditions.now c.as_slice-in-len1-up.result.now c.args.lists.now
    (joined (map (λ p. cut p.start p.end (g.R.SortedRows.rows p.list.now)) c.as_slice-in-len1-up-2.result.now)) c.requires.same (c.as_slice-in-len1-up.ensures.value ∙ c.in_ok-tests.ensures)
    (ap (λ ps. joined (map (λ p. cut p.start p.end (g.R.SortedRows.rows p.list.now)) ps)) c.as_slice-in-len1-up-2.ensures.value ∙ c.in_ok-pieces-in-len1-up.ensures.rows))
    c.merged_rows-in-len1-up.ensures.rows
