use Rattle.std.proofs.Common.{◌≡◌, ℕ, ◌%◌, List, sym, ap, ◌∙◌, subst, flat_map, slice_get}
use Rattle.partitions.specs.LayoutView.{LayoutView}
use Rattle.partitions.specs.Places.{bucket_of, hash_bytes, text_of}
use Rattle.partitions.specs.contracts.layout.Layout.{the_view}
use Rattle.partitions.proofs.Finding.{bucket_by_hash, bucket_of_none}
use Rattle.partitions.proofs.layout.Layout.bucket_of.Goals as goal

pub returns-then-self-eq0 : goal.returns-then-self-eq0
returns-then-self-eq0 c =
    let cells = c.args.cells.now in
    let hash = c.hash_cells-hash.result in
    let view = the_view c.self.inside in
    let is = c.hash_cells-hash.ensures ∙ ap (λ (ps : List ℕ). hash_bytes 0 (flat_map (λ p. text_of (slice_get cells p)) ps)) (c.as_slice.ensures.value ∙ c.self.invariant.hash) in
    subst (λ (l : LayoutView). hash ≡ bucket_of l.columns l cells) c.self.view_is (bucket_of_none view.columns view cells hash c.if-self-eq0.true is)

pub returns : goal.returns
returns c =
    let cells = c.args.cells.now in
    let hash = c.hash_cells-hash.result in
    let view = the_view c.self.inside in
    let is = c.hash_cells-hash.ensures ∙ ap (λ (ps : List ℕ). hash_bytes 0 (flat_map (λ p. text_of (slice_get cells p)) ps)) (c.as_slice.ensures.value ∙ c.self.invariant.hash) in
    subst (λ (l : LayoutView). hash % c.self.inside.buckets ≡ bucket_of l.columns l cells) c.self.view_is (bucket_by_hash view.columns view cells hash is)
