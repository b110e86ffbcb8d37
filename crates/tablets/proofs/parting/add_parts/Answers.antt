use Rattle.std.proofs.Common.{◌≡◌, ℕ, List, length, map, set, ap, ◌∙◌}
use Rattle.std.specs.List.{AllByRecursion}
use Rattle.tablets.specs.Parting.{cut_to}
use Rattle.tablets.specs.SetView.{IndexView, with_part}
use Rattle.tablets.proofs.Loops.{cut_back, mapped_more, on_err_any, set_back}
use Rattle.tablets.proofs.parting.add_parts.Goals as goal

pub loop-index-preserved : goal.loop-index-preserved
loop-index-preserved c = mapped_more (with_part c.args.buckets) c.args.indexes.now c.loop-index.indexes c.loop-index.index-index c.index-item.result c.add_part.new.self c.loop-index.invariant c.loop-index-test.true c.index-item.is c.in_ok-add_part.ensures.ok

pub returns-in_err-add_part-clause-err : goal.returns-in_err-add_part-clause-err
returns-in_err-add_part-clause-err c =
    let now = c.loop-index.indexes in
    let k = c.loop-index.index-index in
    let same = set_back now k c.index-item.result c.add_part.new.self c.index-item.is c.in_err-add_part.ensures.err ∙ c.loop-index.invariant in
    on_err_any c.from_residual.result ((n : ℕ) → AllByRecursion (λ i. length i.parts ≡ n) c.args.indexes.now → map (cut_to n) (set now k c.add_part.new.self) ≡ c.args.indexes.now)
    (λ n a. ap (λ (is : List IndexView). map (cut_to n) is) same ∙ cut_back n c.args.buckets c.args.indexes.now k a)
