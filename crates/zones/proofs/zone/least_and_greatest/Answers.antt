use Rattle.std.proofs.Common.{◌≡◌, ◌<◌, ◌+◌, ◌∙◌, Bool, true, false, Bor, cond, fold, take, length, ap, sym, arith}
use Rattle.std.proofs.lemmas.List.Sums.{fold_more}
use Rattle.std.specs.Ordering.{is_gt, is_lt}
use Rattle.dl_values.specs.Order.{cell_cmp}
use Rattle.dl_values.specs.declared.cell.Cell.{Cell}
use Rattle.zones.specs.Ends.{first_or, higher, lower}
use Rattle.zones.proofs.OnePass.{least_stays}
use Rattle.zones.proofs.zone.least_and_greatest.Goals as goal
use Rattle.zones.proofs.zone.least_and_greatest.Goals.{then-is_above, else-is_above+then-is_below, else-is_above+else-is_below}

-- how the answer of a test stands to the fold so far
above_is : (x a high : Cell) (b t : Bool) → a ≡ high → b ≡ is_gt (cell_cmp x a) → b ≡ t → is_gt (cell_cmp x high) ≡ t
above_is x a high b t e is h = sym (ap (λ (g : Cell). is_gt (cell_cmp x g)) e) ∙ sym is ∙ h

below_is : (x a low : Cell) (b t : Bool) → a ≡ low → b ≡ is_lt (cell_cmp x a) → b ≡ t → is_lt (cell_cmp x low) ≡ t
below_is x a low b t e is h = sym (ap (λ (g : Cell). is_lt (cell_cmp x g)) e) ∙ sym is ∙ h

pub loop-cell-preserved : goal.loop-cell-preserved
loop-cell-preserved c =
    let cells = c.args.cells.now in
    let first = first_or cells c.args.null.now in
    let i = c.loop-cell.cell-index in
    let low = fold lower first (take i cells) in
    let high = fold higher first (take i cells) in
    let x = c.cell-item.result in
    let l : i < length cells = omega (arith, c.loop-cell-test.true) in
    let more_low : fold lower first (take (i + 1) cells) ≡ lower low x = fold_more lower first cells i x l ∙ ap (λ (y : Cell). lower low y) (sym c.cell-item.is) in
    let more_high : fold higher first (take (i + 1) cells) ≡ higher high x = fold_more higher first cells i x l ∙ ap (λ (y : Cell). higher high y) (sym c.cell-item.is) in
    elim c.if-is_above.branch [
      | then-is_above w ↦
          let above = above_is x c.loop-cell.greatest.now high c.is_above.result true c.loop-cell.invariant.high c.is_above.ensures w.if-is_above.true in
          record {
            low = ap (λ (b : Bor Cell). b.now) w.least-is ∙ c.loop-cell.invariant.low ∙ sym (least_stays first (take i cells) x above) ∙ sym more_low;
            high = ap (λ (b : Bor Cell). b.now) w.greatest-is ∙ sym (ap (λ b. cond b x high) above) ∙ sym more_high;
          }
      | else-is_above+then-is_below w ↦
          let above = above_is x c.loop-cell.greatest.now high c.is_above.result false c.loop-cell.invariant.high c.is_above.ensures w.if-is_above.false in
          let below = below_is x c.loop-cell.least.now low w.is_below.result true c.loop-cell.invariant.low w.is_below.ensures w.if-is_below.true in
          record {
            low = ap (λ (b : Bor Cell). b.now) w.least-is ∙ sym (ap (λ b. cond b x low) below) ∙ sym more_low;
            high = ap (λ (b : Bor Cell). b.now) w.greatest-is ∙ c.loop-cell.invariant.high ∙ sym (ap (λ b. cond b x high) above) ∙ sym more_high;
          }
      | else-is_above+else-is_below w ↦
          let above = above_is x c.loop-cell.greatest.now high c.is_above.result false c.loop-cell.invariant.high c.is_above.ensures w.if-is_above.false in
          let below = below_is x c.loop-cell.least.now low w.is_below.result false c.loop-cell.invariant.low w.is_below.ensures w.if-is_below.false in
          record {
            low = ap (λ (b : Bor Cell). b.now) w.least-is ∙ c.loop-cell.invariant.low ∙ sym (ap (λ b. cond b x low) below) ∙ sym more_low;
            high = ap (λ (b : Bor Cell). b.now) w.greatest-is ∙ c.loop-cell.invariant.high ∙ sym (ap (λ b. cond b x high) above) ∙ sym more_high;
          }
    ]
