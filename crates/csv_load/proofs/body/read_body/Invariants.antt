use Rattle.std.proofs.Common.{◌≡◌, ◌++◌, [], ℕ, List, length, option_copied}
use Rattle.csv_load.specs.Body.{is_inside, records_by, row_of, tally}
use Rattle.csv_load.proofs.body.read_body.Given as goal

abbrev pub invariant-loop : goal.invariant-loop
invariant-loop g l =
    (seen : List (List (List ℕ)))
    × (records_by l.options l.fn.bytes ≡ seen ++ l.records)
    × (l.parsed ≡ tally (row_of (is_inside g.I.Inside.inside (option_copied l.inside)) l.options.strict l.shape.columns) seen)
    × (length seen ≡ l.counter)
    × (l.row ≡ [])
