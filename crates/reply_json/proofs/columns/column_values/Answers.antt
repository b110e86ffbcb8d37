use Rattle.std.proofs.Common.{◌∙◌, sym, arith}
use Rattle.serde_json.specs.View.{view}
use Rattle.reply_json.specs.Results.{column_json}
use Rattle.reply_json.proofs.Zipped.{one_more, pushed}
use Rattle.reply_json.proofs.columns.column_values.Goals as goal

pub loop-place-preserved : goal.loop-place-preserved
loop-place-preserved c =
    pushed view c.loop-place.items.items _ c.in_ok-column_value.field-0 _ _ c.in_ok-push.ensures.items c.loop-place.invariant c.in_ok-column_value.ensures
    ∙ sym (one_more column_json c.args.names.now c.args.types.now c.loop-place.place c.index-names-place.result c.index-types-place.result (omega (arith, c.loop-place-test.true, c.min-count.ensures)) (omega (arith, c.loop-place-test.true, c.min-count.ensures)) c.index-names-place.is c.index-types-place.is)
