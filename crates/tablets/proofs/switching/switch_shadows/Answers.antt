use Rattle.std.proofs.Common.{List, sym, subst, ◌∙◌}
use Rattle.std.specs.List.{AllByRecursion}
use Rattle.tablets.specs.SetView.{IndexView}
use Rattle.tablets.specs.Shadows.{AreMarks, IsIndexOf, marks_of, unmarked}
use Rattle.tablets.proofs.Loops.{further, refill_map}
use Rattle.tablets.proofs.Steps.{end_same, marks_unmarked, sized_unmarked}
use Rattle.tablets.proofs.switching.switch_shadows.Goals as goal

pub turns-preserved : goal.turns-preserved
turns-preserved c = further c.args.job c.args.indexes.now.items c.turns.indexes.items c.replace_one.new.indexes.items c.turns.invariant c.replace_one.ensures.step

pub returns-clause-switched : goal.returns-clause-switched
returns-clause-switched c =
    let mid = c.replace_one.new.indexes.items in
    let way = further c.args.job c.args.indexes.now.items c.turns.indexes.items mid c.turns.invariant c.replace_one.ensures.step in
    let done = c.replace_one.ensures.done c.turns-test.false in
    refill_map c.replace_one.new.indexes.len (unmarked c.args.job) mid c.deref_mut.result.now c.unmark_all.new.indexes _ c.deref_mut.ensures.value c.deref_mut.ensures.len c.unmark_all.ensures
    ∙ (end_same c.args.job mid done ∙ way.same)

pub returns-clause-marks : goal.returns-clause-marks
returns-clause-marks c =
    let mid = c.replace_one.new.indexes.items in
    let way = further c.args.job c.args.indexes.now.items c.turns.indexes.items mid c.turns.invariant c.replace_one.ensures.step in
    let done = c.replace_one.ensures.done c.turns-test.false in
    subst (λ (is : List IndexView). AreMarks (marks_of is)) (sym (refill_map c.replace_one.new.indexes.len (unmarked c.args.job) mid c.deref_mut.result.now c.unmark_all.new.indexes _ c.deref_mut.ensures.value c.deref_mut.ensures.len c.unmark_all.ensures))
    (marks_unmarked c.args.job mid done way.marks)

pub returns-clause-sized : goal.returns-clause-sized
returns-clause-sized c = λ parts buckets a.
    let mid = c.replace_one.new.indexes.items in
    let way = further c.args.job c.args.indexes.now.items c.turns.indexes.items mid c.turns.invariant c.replace_one.ensures.step in
    subst (λ (is : List IndexView). AllByRecursion (IsIndexOf parts buckets) is) (sym (refill_map c.replace_one.new.indexes.len (unmarked c.args.job) mid c.deref_mut.result.now c.unmark_all.new.indexes _ c.deref_mut.ensures.value c.deref_mut.ensures.len c.unmark_all.ensures))
    (sized_unmarked parts buckets c.args.job mid (way.sized parts buckets a))
