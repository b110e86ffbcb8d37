use Rattle.std.proofs.Common.{◌≡◌, ◌≤◌, length, map, sym, subst}
use Rattle.std.proofs.lemmas.List.{length-map}
use Rattle.merge_read.proofs.Streams.{begun_counts, is_begun, unbegun}
use Rattle.merge_read.specs.Rests.{AreHeads}
use Rattle.merge_read.proofs.stream.Stream.begin.Goals as goal

pub load_heads-requires-clause-sorted : goal.load_heads-requires-clause-sorted
load_heads-requires-clause-sorted g c =
    let i = c.self.inside in
    (unbegun i.shape.now i.width (map (λ l. g.R.SortedRows.rows l) i.lists.now) i.places.items i.begun i.first i.others c.if-self.false c.self.invariant).sorted

pub invariant_of-self : goal.invariant_of-self
invariant_of-self g c =
    let i = c.self.inside in
    let lists = map (λ l. g.R.SortedRows.rows l) i.lists.now in
    let size : length lists ≡ length i.lists.now = length-map i.lists.now (λ l. g.R.SortedRows.rows l) in
    let u = unbegun i.shape.now i.width lists i.places.items i.begun i.first i.others c.if-self.false c.self.invariant in
    is_begun i.shape.now i.width lists i.places.items i.first c.take-self-inside.result i.others c.load_heads.new.others c.take-self-inside.new.self u.stream
    (subst (λ n. AreHeads i.shape.now n lists c.load_heads.new.others.items) (sym size) c.load_heads.ensures.heads)
    (subst (λ n. length c.load_heads.new.others.items ≤ n) (sym size) c.load_heads.ensures.few)
    c.load_heads.ensures.room c.take-self-inside.ensures.room c.take-self-inside.ensures.none c.take-self-inside.ensures.kept c.take-self-inside.ensures.moved c.take-self-inside.ensures.first

pub returns-clause-counted : goal.returns-clause-counted
returns-clause-counted g c =
    let i = c.self.inside in
    let lists = map (λ l. g.R.SortedRows.rows l) i.lists.now in
    let size : length lists ≡ length i.lists.now = length-map i.lists.now (λ l. g.R.SortedRows.rows l) in
    let u = unbegun i.shape.now i.width lists i.places.items i.begun i.first i.others c.if-self.false c.self.invariant in
    begun_counts i.shape.now lists i.places.items i.begun i.first c.take-self-inside.result c.args.self.now (length i.lists.now) c.args.steps.now c.load_heads.new.steps c.self.view_is c.if-self.false u.all (sym size) c.load_heads.ensures.counted
