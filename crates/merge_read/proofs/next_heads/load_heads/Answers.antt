use Rattle.std.proofs.Common.{◌≡◌, ◌+◌, ◌<◌, ◌≤◌, ◌∙◌, [], length, map, get_or, ap, subst, arith}
use Rattle.std.proofs.lemmas.List.{length-map}
use Rattle.merge_read.proofs.Each.{all_get, map_get}
use Rattle.merge_read.proofs.HeadLemmas.{heads_begun, read_length, unread_begun}
use Rattle.merge_read.specs.Lists.{IsSortedList}
use Rattle.merge_read.specs.Rests.{AreRead, RowList, some_row, unread}
use Rattle.merge_read.proofs.next_heads.load_heads.Goals as goal

pub loop-list-preserved : goal.loop-list-preserved
loop-list-preserved g c =
    let s = c.args.shape.now in
    let i = c.loop-list.list in
    let lists = map (λ x. g.R.SortedRows.rows x) c.args.lists.now in
    let l : i < length lists = rw (length-map c.args.lists.now (λ x. g.R.SortedRows.rows x)) c.loop-list-test.true in
    let at = map_get (λ x. g.R.SortedRows.rows x) i c.args.lists.now c.index-lists-list.result [] c.loop-list-test.true c.index-lists-list.is in
    let read : AreRead c.args.width i (get_or lists i []) c.loop-list.others.items c.load_head.new.others.items = subst (λ (r : RowList). AreRead c.args.width i r c.loop-list.others.items c.load_head.new.others.items) at c.load_head.ensures.read in
    let more : length c.load_head.new.others.items ≤ length c.loop-list.others.items + 1 = read_length c.args.width i (get_or lists i []) c.loop-list.others.items c.load_head.new.others.items read in
    let steps : c.load_head.new.steps ≡ c.loop-list.steps + some_row (get_or lists i []) = c.load_head.ensures.counted ∙ ap (λ (r : RowList). c.loop-list.steps + some_row r) at in
    let left : unread (i + 1) lists + some_row (get_or lists i []) ≡ unread i lists = unread_begun i lists l in
    record {
      heads = heads_begun s lists c.args.width i c.loop-list.others.items c.load_head.new.others.items c.requires.wide l (all_get (IsSortedList s) i lists [] l c.requires.sorted) read c.loop-list.invariant.heads;
      few = omega (arith, more, c.loop-list.invariant.few);
      room = omega (arith, c.loop-list.invariant.room, c.load_head.ensures.room);
      grown = omega (arith, c.loop-list.invariant.grown, c.load_head.ensures.room);
      counted = omega (arith, steps, left, c.loop-list.invariant.counted);
    }
