use Rattle.std.proofs.Common.{map}
use Rattle.merge_read.proofs.Streams.{first_length, none_taken}
use Rattle.merge_read.proofs.stream.Stream.first.Goals as goal

pub returns-in-None-clause-none : goal.returns-in-None-clause-none
returns-in-None-clause-none g c =
    let i = c.self.inside in
    (none_taken i.shape.now i.width (map (λ l. g.R.SortedRows.rows l) i.lists.now) i.places.items i.begun i.first i.first i.others c.args.self.now c.self.view_is c.self.invariant c.requires c.in-None.is c.in-None.is).1

pub returns-in-Some-clause-whole : goal.returns-in-Some-clause-whole
returns-in-Some-clause-whole g c =
    let i = c.self.inside in
    first_length i.shape.now i.width (map (λ l. g.R.SortedRows.rows l) i.lists.now) i.places.items i.begun i.first c.in-Some.first i.others c.args.self.now c.self.view_is c.self.invariant c.requires c.in-Some.is
