use Rattle.std.proofs.Common.{◌≡◌, length, refl, rules}
use Rattle.front_state.specs.declared.stored_table.StoredTable.{StoredTable}
use Rattle.front_state.proofs.Gathered.{nothing_seen}
use Rattle.front_state.proofs.storing.nothing_stored.Goals as goal

pub returns-clause-seen : goal.returns-clause-seen
returns-clause-seen c =
    let k : StoredTable = record { table = c.args.table; versions = c.in_ok-versions.versions; set = c.in_ok-set.set } in
    let parts : length c.parts-parts.result.now ≡ length c.args.layout.now.parts = search rules in
    let buckets : c.buckets.result ≡ c.args.layout.now.buckets = search rules in
    nothing_seen c.args.table (length c.parts-parts.result.now) c.buckets.result c.args.layout.now c.in_ok-shape.shape k refl c.in_ok-versions.ensures c.in_ok-set.ensures parts buckets
