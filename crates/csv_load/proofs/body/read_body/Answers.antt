use Rattle.std.proofs.Common.{◌≡◌, ◌∙◌, refl, sym, ap, rules, arith, ℕ, List, [], ◌∷◌, ◌++◌, length-append, append_assoc, true, Option, option_copied}
use Rattle.csv.specs.Records.{fields_of}
use Rattle.dl_values.specs.declared.cell.Cell.{Cell}
use Rattle.csv_load.specs.Body.{is_inside, row_of}
use Rattle.csv_load.specs.Counting.{counted}
use Rattle.csv_load.proofs.Tallies.{tally-push, tally-nothing, tally-all, total-length, filtered-most}
use Rattle.csv_load.proofs.body.read_body.Goals as goal
use Rattle.csv_load.proofs.body.read_body.Goals.{then-branch+in_ok-count_row, else-branch}

pub loop-init : goal.loop-init
loop-init g c = ([], sym c.of-records.ensures, c.parsed_none-parsed.ensures ∙ tally-nothing _, refl, c.new-row.ensures)

pub count_row-requires : goal.count_row-requires
count_row-requires g c = omega (arith, total-length _ c.loop.invariant.0 c.loop.parsed c.loop.invariant.2, c.loop.invariant.3)

pub count_filtered-requires-clause-room : goal.count_filtered-requires-clause-room
count_filtered-requires-clause-room g c = omega (arith, total-length _ c.loop.invariant.0 c.loop.parsed c.loop.invariant.2, c.loop.invariant.3)

pub count_filtered-requires-clause-fewer : goal.count_filtered-requires-clause-fewer
count_filtered-requires-clause-fewer g c = filtered-most _ c.loop.invariant.0 c.loop.parsed c.loop.invariant.2

pub returns-clause-parsed : goal.returns-clause-parsed
returns-clause-parsed g c = tally-all _ _ c.loop.invariant.0 c.loop.records c.loop.parsed c.loop.invariant.1 (rw c.if-branch-2.false at c.in_ok-read-2.ensures) c.loop.invariant.2

pub loop-preserved : goal.loop-preserved
loop-preserved g c =
    let inv = c.loop.invariant in
    let rows : List (List ℕ) → Option (List Cell) = row_of (is_inside g.I.Inside.inside (option_copied c.args.inside)) c.args.options.now.strict c.args.shape.now.columns in
    let fields : List (List ℕ) = fields_of c.read.new.into in
    let found : c.in_ok-read.field-0 ≡ true = search rules in
    let r = rw found at c.in_ok-read.ensures in
    let columns = ap (λ cs. row_of (is_inside g.I.Inside.inside (option_copied c.args.inside)) c.args.options.now.strict cs fields) (sym c.columns.ensures) in
    let step : (c.if-branch.parsed ≡ counted c.loop.parsed (rows fields)) × (c.if-branch.row ≡ []) =
    elim c.if-branch.branch [
      | then-branch+in_ok-count_row w ↦
          let gives = rw w.if-branch.true at c.in_ok-read_row.ensures in
          (w.parsed-is ∙ w.in_ok-count_row.ensures.counted ∙ ap (counted c.loop.parsed) (sym (columns ∙ gives)), w.row-is ∙ w.in_ok-count_row.ensures.emptied)
      | else-branch w ↦
          let gives = rw w.if-branch.false at c.in_ok-read_row.ensures in
          (w.parsed-is ∙ w.count_filtered.ensures ∙ ap (counted c.loop.parsed) (sym (columns ∙ gives)), w.row-is ∙ w.new-row-else-branch.ensures)
    ] in (
      inv.0 ++ fields ∷ [],
      inv.1 ∙ ap (λ l. inv.0 ++ l) r ∙ sym (append_assoc inv.0 (fields ∷ []) c.read.new.self),
      step.0 ∙ ap (λ p. counted p (rows fields)) inv.2 ∙ sym (tally-push rows inv.0 fields),
      omega (arith, length-append inv.0 (fields ∷ []), inv.3),
      step.1,
    )
