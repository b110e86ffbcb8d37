use Rattle.std.proofs.Common.{◌≡◌, ◌∙◌, ℕ, List, length, map, ap, sym}
use Rattle.std.proofs.lemmas.List.{length-map}
use Rattle.merge_read.proofs.Opened.{opened}
use Rattle.merge_read.proofs.Streams.{rests_all}
use Rattle.merge_read.specs.Rests.{rests_of}
use Rattle.merge_read.proofs.stream.Stream.open.Goals as goal

pub invariant_of-result : goal.invariant_of-result
invariant_of-result g c =
    let lists = map (λ l. g.R.SortedRows.rows l) c.args.lists.now in
    let size : length c.args.lists.now ≡ length lists = sym (length-map c.args.lists.now (λ l. g.R.SortedRows.rows l)) in
    opened c.args.shape.now c.key_width.result lists c.in_ok-places.places.items (length c.args.lists.now) c.in_ok-others.others size c.key_width.ensures c.vouch.ensures.valid c.vouch.ensures.has_key c.requires c.in_ok-places.ensures c.in_ok-others.ensures.empty c.in_ok-others.ensures.room

pub returns-clause-rests : goal.returns-clause-rests
returns-clause-rests g c =
    let lists = map (λ l. g.R.SortedRows.rows l) c.args.lists.now in
    ap (λ (p : List ℕ). rests_of lists p) c.in_ok-places.ensures ∙ rests_all lists (length c.args.lists.now) (sym (length-map c.args.lists.now (λ l. g.R.SortedRows.rows l)))
