use Rattle.std.proofs.Common.{◌≡◌, ◌∙◌, false, Bool, List, map, take, ap, sym, subst}
use Rattle.std.specs.Bool.{IsTrue}
use Rattle.dl_values.specs.Order.{row_cmp}
use Rattle.dl_values.specs.declared.cell.Cell.{Cell}
use Rattle.schema_models.specs.Folds.{key_of}
use Rattle.merge_read.proofs.KeyLemmas.{key_taken}
use Rattle.merge_read.proofs.RunLemmas.{above_first, above_none}
use Rattle.merge_read.proofs.Streams.{first_least, first_length, none_taken}
use Rattle.merge_read.specs.HeadOrder.{head_key}
use Rattle.merge_read.specs.Keys.{key_width}
use Rattle.merge_read.specs.Merged.{row_of}
use Rattle.merge_read.specs.Rests.{StreamView}
use Rattle.merge_read.proofs.stream.Stream.first_of_key.Goals as goal

pub returns-in-None-clause-other : goal.returns-in-None-clause-other
returns-in-None-clause-other g c =
    let i = c.self.inside in
    λ f. above_none c.args.self.now.shape c.args.self.now.rests (key_of c.args.self.now.shape (row_of c.args.cells.now))
    (none_taken i.shape.now i.width (map (λ l. g.R.SortedRows.rows l) i.lists.now) i.places.items i.begun i.first i.first i.others c.args.self.now c.self.view_is c.self.invariant c.requires.begun c.in-None.is c.in-None.is).1

differ : (b : Bool) → b ≡ false → IsTrue b → ⊥
differ b e t = let f : IsTrue false = subst (λ (x : Bool). IsTrue x) e t in cc

pub returns-else-has_key-clause-other : goal.returns-else-has_key-clause-other
returns-else-has_key-clause-other g c =
    let i = c.self.inside in
    let v : StreamView = c.args.self.now in
    let row : List Cell = row_of c.args.cells.now in
    let m = first_least i.shape.now i.width (map (λ l. g.R.SortedRows.rows l) i.lists.now) i.places.items i.begun i.first c.in-Some.first i.others v c.self.view_is c.self.invariant c.requires.begun c.in-Some.is in
    let key : take i.width row ≡ key_of v.shape row = ap (λ w. take w row) (c.self.invariant.wide ∙ ap (λ (x : StreamView). key_width x.shape) c.self.view_is) ∙ sym (key_taken v.shape row c.requires.merges) in
    λ f. above_first v.shape v.rests c.in-Some.first (key_of v.shape row) m (λ e. differ c.has_key.result c.if-has_key.false (c.has_key.ensures.1 (ap (λ (k : List Cell). row_cmp k (head_key c.in-Some.first)) key ∙ e))) f

pub returns-then-has_key-clause-whole : goal.returns-then-has_key-clause-whole
returns-then-has_key-clause-whole g c =
    let i = c.self.inside in
    first_length i.shape.now i.width (map (λ l. g.R.SortedRows.rows l) i.lists.now) i.places.items i.begun i.first c.in-Some.first i.others c.args.self.now c.self.view_is c.self.invariant c.requires.begun c.in-Some.is
