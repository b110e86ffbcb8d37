use Rattle.std.proofs.Common.{◌≡◌, ◌+◌, ◌<◌, ◌≤◌, ◌∙◌, length, min, take, drop, get_or, ap, sym, arith, rules, length-take}
use Rattle.std.proofs.lemmas.List.{length-map}
use Rattle.std.specs.Ordering.{ordering_then, nat_cmp}
use Rattle.dl_values.specs.Order.{row_cmp}
use Rattle.dl_values.specs.declared.cell.Cell.TheVariants as cell
use Rattle.merge_read.proofs.Each.{map_get}
use Rattle.merge_read.proofs.KeyLemmas.{decided, ended_after, keys_from}
use Rattle.merge_read.specs.Merged.{cell_of, row_of}
use Rattle.merge_read.proofs.keys.compare_made.Goals as goal

pub returns-in_default : goal.returns-in_default
returns-in_default c =
    let i = c.loop-i.i in
    let size : length (row_of c.args.a.now) ≡ length c.args.a.now = length-map c.args.a.now cell_of in
    let end : i < min c.min-a_end.result c.min-b_end.result = search rules in
    let near : i < length c.args.a.now = search rules in
    let l : i < min c.args.a_width (length (row_of c.args.a.now)) = rw size (search rules) in
    let m : i < min c.args.b_width (length c.args.b.now) = search rules in
    let at : cell_of c.index-a-i.result ≡ get_or (row_of c.args.a.now) i cell.Null = map_get cell_of i c.args.a.now c.index-a-i.result cell.Null near c.index-a-i.is in
    c.compare_merged.ensures
    ∙ decided _ _ (λ e. c.in_default.not-Equal (c.compare_merged.ensures ∙ sym e))
    ∙ sym (keys_from (row_of c.args.a.now) c.args.b.now c.args.a_width c.args.b_width i (cell_of c.index-a-i.result) c.cell.result.now l m at c.cell.ensures)
    ∙ c.loop-i.invariant

pub loop-i-preserved : goal.loop-i-preserved
loop-i-preserved c =
    let i = c.loop-i.i in
    let size : length (row_of c.args.a.now) ≡ length c.args.a.now = length-map c.args.a.now cell_of in
    let near : i < length c.args.a.now = search rules in
    let l : i < min c.args.a_width (length (row_of c.args.a.now)) = rw size (search rules) in
    let m : i < min c.args.b_width (length c.args.b.now) = search rules in
    let at : cell_of c.index-a-i.result ≡ get_or (row_of c.args.a.now) i cell.Null = map_get cell_of i c.args.a.now c.index-a-i.result cell.Null near c.index-a-i.is in
    ap (λ o. ordering_then o (row_cmp (drop (i + 1) (take c.args.a_width (row_of c.args.a.now))) (drop (i + 1) (take c.args.b_width c.args.b.now)))) (c.in-Equal.ensures)
    ∙ sym (keys_from (row_of c.args.a.now) c.args.b.now c.args.a_width c.args.b_width i (cell_of c.index-a-i.result) c.cell.result.now l m at c.cell.ensures)
    ∙ c.loop-i.invariant

pub returns : goal.returns
returns c =
    let xs = take c.args.a_width (row_of c.args.a.now) in
    let ys = take c.args.b_width c.args.b.now in
    let size : length (row_of c.args.a.now) ≡ length c.args.a.now = length-map c.args.a.now cell_of in
    let a : c.min-a_end.result ≡ length xs = simp length-take (rw size (search rules)) in
    let b : c.min-b_end.result ≡ length ys = simp length-take (search rules) in
    let end : c.min-i-end.result ≡ min c.min-a_end.result c.min-b_end.result = search rules in
    let low : min (length xs) (length ys) ≤ c.loop-i.i = omega (arith, a, b, end) in
    let high : c.loop-i.i ≤ min (length xs) (length ys) = omega (arith, a, b, end) in
    c.cmp.ensures ∙ ap (λ n. nat_cmp n c.min-b_end.result) a ∙ ap (λ n. nat_cmp (length xs) n) b ∙ sym (ended_after xs ys c.loop-i.i low high) ∙ c.loop-i.invariant
