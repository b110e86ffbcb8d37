use Rattle.std.proofs.Common.{◌≡◌, ◌+◌, ◌<◌, ◌≤◌, ◌∙◌, Bool, true, [], ◌++◌, length, map, drop, get_or, set, ap, sym, subst, arith, rules}
use Rattle.std.specs.Prelude.{Option, None, Some, option_to_list}
use Rattle.std.proofs.lemmas.List.{length-map}
use Rattle.merge_read.proofs.Each.{map_get}
use Rattle.merge_read.proofs.Streams.{here, is_next, passed, taken_counts}
use Rattle.merge_read.specs.Rests.{AreRead, IsStream, IsTaken, RowList, StreamView, some_row, stream_view}
use Rattle.merge_read.specs.declared.head.Head.{Head}
use Rattle.merge_read.proofs.stream.Stream.advance.Goals as goal

pub overflow_add-place : goal.overflow_add-place
overflow_add-place g c =
    let i = c.self.inside in
    let lists = map (λ l. g.R.SortedRows.rows l) i.lists.now in
    let h = c.in-Some.first in
    let p = c.index.result.now in
    let t = here i.shape.now i.width lists i.places.items i.begun i.first h i.others c.args.self.now p c.self.view_is c.self.invariant c.requires.begun c.in-Some.is c.index.ensures in
    let within : h.list < length i.lists.now = subst (λ n. h.list < n) (length-map i.lists.now (λ l. g.R.SortedRows.rows l)) t.within in
    let at = map_get (λ l. g.R.SortedRows.rows l) h.list i.lists.now c.index-lists-list.result [] within c.index-lists-list.is in
    let size : c.len-end.result ≡ length (get_or lists h.list []) = c.len-end.ensures.length ∙ ap (λ (r : RowList). length r) at in
    let before : p + 1 ≤ c.len-end.result = omega (arith, size, t.before) in
    search rules

pub invariant_of-self : goal.invariant_of-self
invariant_of-self g c =
    let i = c.self.inside in
    let lists = map (λ l. g.R.SortedRows.rows l) i.lists.now in
    let h = c.in-Some.first in
    let p = c.index.result.now in
    let t = here i.shape.now i.width lists i.places.items i.begun i.first h i.others c.args.self.now p c.self.view_is c.self.invariant c.requires.begun c.in-Some.is c.index.ensures in
    let within : h.list < length i.lists.now = subst (λ n. h.list < n) (length-map i.lists.now (λ l. g.R.SortedRows.rows l)) t.within in
    let at = map_get (λ l. g.R.SortedRows.rows l) h.list i.lists.now c.index-lists-list.result [] within c.index-lists-list.is in
    let n = c.next_first in
    let e = c.if-not-next_first.ensures in
    let read : AreRead i.width h.list (drop (p + 1) (get_or lists h.list [])) i.others.items (option_to_list None ++ n.new.others.items) =
    subst (λ (r : RowList). AreRead i.width h.list (drop (p + 1) r) i.others.items (option_to_list None ++ n.new.others.items)) at e.read in
    let is : i.begun ≡ true = ap (λ (v : StreamView). v.begun) c.self.view_is ∙ c.requires.begun in
    subst (λ (b : Bool). IsStream i.shape.now i.width lists (set i.places.items h.list (p + 1)) b None n.new.others) (sym is)
    (is_next i.shape.now i.width p lists i.places.items h None i.others n.new.others t.stream t.place read e.room e.none e.first)

pub invariant_of-self-else-not-next_first : goal.invariant_of-self-else-not-next_first
invariant_of-self-else-not-next_first g c =
    let i = c.self.inside in
    let lists = map (λ l. g.R.SortedRows.rows l) i.lists.now in
    let h = c.in-Some.first in
    let p = c.index.result.now in
    let t = here i.shape.now i.width lists i.places.items i.begun i.first h i.others c.args.self.now p c.self.view_is c.self.invariant c.requires.begun c.in-Some.is c.index.ensures in
    let within : h.list < length i.lists.now = subst (λ n. h.list < n) (length-map i.lists.now (λ l. g.R.SortedRows.rows l)) t.within in
    let at = map_get (λ l. g.R.SortedRows.rows l) h.list i.lists.now c.index-lists-list.result [] within c.index-lists-list.is in
    let n = c.next_first in
    let e = c.if-not-next_first.ensures in
    let read : AreRead i.width h.list (drop (p + 1) (get_or lists h.list [])) i.others.items (option_to_list (Some c.next_first.new.first) ++ n.new.others.items) =
    subst (λ (r : RowList). AreRead i.width h.list (drop (p + 1) r) i.others.items (option_to_list (Some c.next_first.new.first) ++ n.new.others.items)) at e.read in
    let is : i.begun ≡ true = ap (λ (v : StreamView). v.begun) c.self.view_is ∙ c.requires.begun in
    subst (λ (b : Bool). IsStream i.shape.now i.width lists (set i.places.items h.list (p + 1)) b (Some c.next_first.new.first) n.new.others) (sym is)
    (is_next i.shape.now i.width p lists i.places.items h (Some c.next_first.new.first) i.others n.new.others t.stream t.place read e.room e.none e.first)

pub returns-then-not-next_first-clause-taken : goal.returns-then-not-next_first-clause-taken
returns-then-not-next_first-clause-taken g c =
    let i = c.self.inside in
    let lists = map (λ l. g.R.SortedRows.rows l) i.lists.now in
    let h = c.in-Some.first in
    let p = c.index.result.now in
    let t = here i.shape.now i.width lists i.places.items i.begun i.first h i.others c.args.self.now p c.self.view_is c.self.invariant c.requires.begun c.in-Some.is c.index.ensures in
    let first : Some h ≡ c.args.self.now.first = sym c.in-Some.is ∙ ap (λ (v : StreamView). v.first) c.self.view_is in
    let new = stream_view i.shape.now i.begun lists (set i.places.items h.list (p + 1)) None in
    subst (λ (o : Option Head). IsTaken c.args.self.now o new) first
    (passed i.shape.now i.width lists i.places.items i.begun i.first None h i.others c.args.self.now p c.self.view_is t)

pub returns-then-not-next_first-clause-counted : goal.returns-then-not-next_first-clause-counted
returns-then-not-next_first-clause-counted g c =
    let i = c.self.inside in
    let lists = map (λ l. g.R.SortedRows.rows l) i.lists.now in
    let h = c.in-Some.first in
    let p = c.index.result.now in
    let t = here i.shape.now i.width lists i.places.items i.begun i.first h i.others c.args.self.now p c.self.view_is c.self.invariant c.requires.begun c.in-Some.is c.index.ensures in
    let within : h.list < length i.lists.now = subst (λ n. h.list < n) (length-map i.lists.now (λ l. g.R.SortedRows.rows l)) t.within in
    let at = map_get (λ l. g.R.SortedRows.rows l) h.list i.lists.now c.index-lists-list.result [] within c.index-lists-list.is in
    let n = c.next_first in
    let e = c.if-not-next_first.ensures in
    let steps : n.new.steps ≡ c.args.steps.now + some_row (drop (p + 1) (get_or lists h.list [])) = e.counted ∙ ap (λ (r : RowList). c.args.steps.now + some_row (drop (p + 1) r)) at in
    taken_counts i.shape.now i.width lists i.places.items i.begun i.first None h i.others c.args.self.now p c.args.steps.now n.new.steps c.self.view_is c.requires.begun t steps

pub returns-else-not-next_first-clause-taken : goal.returns-else-not-next_first-clause-taken
returns-else-not-next_first-clause-taken g c =
    let i = c.self.inside in
    let lists = map (λ l. g.R.SortedRows.rows l) i.lists.now in
    let h = c.in-Some.first in
    let p = c.index.result.now in
    let t = here i.shape.now i.width lists i.places.items i.begun i.first h i.others c.args.self.now p c.self.view_is c.self.invariant c.requires.begun c.in-Some.is c.index.ensures in
    let first : Some h ≡ c.args.self.now.first = sym c.in-Some.is ∙ ap (λ (v : StreamView). v.first) c.self.view_is in
    let new = stream_view i.shape.now i.begun lists (set i.places.items h.list (p + 1)) (Some c.next_first.new.first) in
    subst (λ (o : Option Head). IsTaken c.args.self.now o new) first
    (passed i.shape.now i.width lists i.places.items i.begun i.first (Some c.next_first.new.first) h i.others c.args.self.now p c.self.view_is t)

pub returns-else-not-next_first-clause-counted : goal.returns-else-not-next_first-clause-counted
returns-else-not-next_first-clause-counted g c =
    let i = c.self.inside in
    let lists = map (λ l. g.R.SortedRows.rows l) i.lists.now in
    let h = c.in-Some.first in
    let p = c.index.result.now in
    let t = here i.shape.now i.width lists i.places.items i.begun i.first h i.others c.args.self.now p c.self.view_is c.self.invariant c.requires.begun c.in-Some.is c.index.ensures in
    let within : h.list < length i.lists.now = subst (λ n. h.list < n) (length-map i.lists.now (λ l. g.R.SortedRows.rows l)) t.within in
    let at = map_get (λ l. g.R.SortedRows.rows l) h.list i.lists.now c.index-lists-list.result [] within c.index-lists-list.is in
    let n = c.next_first in
    let e = c.if-not-next_first.ensures in
    let steps : n.new.steps ≡ c.args.steps.now + some_row (drop (p + 1) (get_or lists h.list [])) = e.counted ∙ ap (λ (r : RowList). c.args.steps.now + some_row (drop (p + 1) r)) at in
    taken_counts i.shape.now i.width lists i.places.items i.begun i.first (Some c.next_first.new.first) h i.others c.args.self.now p c.args.steps.now n.new.steps c.self.view_is c.requires.begun t steps
