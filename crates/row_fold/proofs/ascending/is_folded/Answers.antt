use Rattle.std.proofs.Common.{◌≡◌, ℕ, ◌-◌, true, drop, subst, arith, rules}
use Rattle.schema_models.specs.Folds.{key_of}
use Rattle.row_fold.specs.Follows.{follows}
use Rattle.row_fold.proofs.OrderedRows.{InOrder, in_order_last, in_order_step, in_order_is_folded}
use Rattle.row_fold.proofs.ascending.is_folded.Goals as goal

pub loop-place-init : goal.loop-place-init
loop-place-init c = record { within = omega arith; in_order = in_order_last c.args.rule.now.shape.now c.args.rows.now (c.len-place.result - 1) (omega arith) }

pub loop-place-preserved : goal.loop-place-preserved
loop-place-preserved c =
    let s = c.args.rule.now.shape.now in
    let x = c.row.result.now in
    let y = c.row-in-loop-place.result.now in
    let f : follows s x y ≡ true = search rules in
    record {
      within = omega arith;
      in_order = in_order_step s c.args.rows.now (c.loop-place.place - 1) x y (omega arith) (omega arith) c.row.ensures c.row-in-loop-place.ensures f c.loop-place.invariant.in_order;
    }

pub returns : goal.returns
returns c =
    let s = c.args.rule.now.shape.now in
    let rows = c.args.rows.now in
    let first : c.loop-place.place - 1 ≡ 0 = omega arith in
    λ e. in_order_is_folded s rows (subst (λ (n : ℕ). InOrder s.model (key_of s) (drop n rows)) first c.loop-place.invariant.in_order)
