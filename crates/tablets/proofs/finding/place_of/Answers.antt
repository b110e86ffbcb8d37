use Rattle.std.proofs.Common.{◌≡◌, length, true, refl, ap, arith}
use Rattle.std.proofs.lemmas.Bool.Decides.{nat_tests}
use Rattle.std.proofs.lemmas.Option.{slice_get_read}
use Rattle.tablets.specs.SetView.{IndexView, is_numbered}
use Rattle.tablets.proofs.Sets.{found_at}
use Rattle.tablets.proofs.finding.place_of.Goals as goal

pub returns-then-index-number : goal.returns-then-index-number
returns-then-index-number c =
    let inside : c.index.inside.number ≡ c.index-indexes-place.result.number = ap (λ (i : IndexView). i.number) c.index.view_is in
    let same : is_numbered c.args.number c.index-indexes-place.result ≡ true = (let e = c.if-index-number.true in grind (arith, nat_tests, inside, e)) in
    let below = c.loop-place-test.true in
    let there = slice_get_read c.args.indexes.now (length c.args.indexes.now) c.loop-place.place c.index-indexes-place.result refl below c.index-indexes-place.is in
    found_at c.args.number c.args.indexes.now c.loop-place.place c.index-indexes-place.result there same c.loop-place.invariant
