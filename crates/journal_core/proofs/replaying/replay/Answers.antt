use Rattle.std.proofs.Common.{◌≡◌, ◌∙◌, ℕ, Option, Ok, refl, subst, arith}
use Rattle.std.proofs.lemmas.Result.{err_from_is_err_and}
use Rattle.journal_records.specs.declared.record.Record.{Record}
use Rattle.journal_core.specs.Journal.{Reads}
use Rattle.journal_core.specs.Causes.{ReadHasCause}
use Rattle.journal_core.proofs.Reading.{ReadSoFar, begins, goes_on, is_all, fails, one_too_many, has_cause, first_of, still}
use Rattle.journal_core.proofs.replaying.replay.Goals as goal

pub loop-place-init : goal.loop-place-init
loop-place-init g c = (refl, rw c.new-found.ensures (begins (g.K.Keeper.records c.args.keeper.now)))

pub returns-in_err-read_one-clause-read : goal.returns-in_err-read_one-clause-read
returns-in_err-read_one-clause-read g c =
    let old = g.K.Keeper.records c.args.keeper.now in
    let mid = g.K.Keeper.records c.loop-place.keeper in
    let new = g.K.Keeper.records c.read_one.new.keeper in
    let p = err_from_is_err_and c.from_residual.result c.from_residual.ensures.1 in
    rw (p.1, p.2) (fails old mid new c.loop-place.found c.loop-place.place _ c.loop-place.invariant.1.told c.in_err-read_one.ensures.read)

pub returns-in-None-clause-read : goal.returns-in-None-clause-read
returns-in-None-clause-read g c =
    let old = g.K.Keeper.records c.args.keeper.now in
    let mid = g.K.Keeper.records c.loop-place.keeper in
    let new = g.K.Keeper.records c.read_one.new.keeper in
    is_all old mid new c.loop-place.found c.loop-place.place c.loop-place.invariant.1.told (subst (λ (o : Option Record). Reads mid c.loop-place.place new (Ok o)) c.in-None.is c.in_ok-read_one.ensures.read)

pub loop-place-preserved : goal.loop-place-preserved
loop-place-preserved g c =
    let old = g.K.Keeper.records c.args.keeper.now in
    let mid = g.K.Keeper.records c.loop-place.keeper in
    let new = g.K.Keeper.records c.read_one.new.keeper in
    (still c.loop-place.place _ _ _ c.in_ok-read_one.ensures.cause ∙ c.loop-place.invariant.0, rw c.in_ok-push-in-Some.ensures.ok (goes_on old mid new c.loop-place.found c.loop-place.place c.in-Some.told c.loop-place.invariant.1 (subst (λ (o : Option Record). Reads mid c.loop-place.place new (Ok o)) c.in-Some.is c.in_ok-read_one.ensures.read) (subst (λ (o : Option Record). ReadHasCause c.loop-place.place (g.K.Keeper.faults c.loop-place.keeper) (g.K.Keeper.faults c.read_one.new.keeper) (Ok o)) c.in-Some.is c.in_ok-read_one.ensures.cause).1))

pub returns-in_err-read_one-2-clause-read : goal.returns-in_err-read_one-2-clause-read
returns-in_err-read_one-2-clause-read g c =
    let old = g.K.Keeper.records c.args.keeper.now in
    let mid = g.K.Keeper.records c.loop-place.keeper in
    let new = g.K.Keeper.records c.read_one-2.new.keeper in
    let p = err_from_is_err_and c.from_residual-in_err-read_one-2.result c.from_residual-in_err-read_one-2.ensures.1 in
    let last : c.loop-place.place ≡ 9223372036854775807 = omega arith in
    let so = subst (λ (n : ℕ). ReadSoFar old mid c.loop-place.found n) last c.loop-place.invariant.1.told in
    rw (p.1, p.2) (fails old mid new c.loop-place.found 9223372036854775807 _ so c.in_err-read_one-2.ensures.read)

pub returns-in-None-2-clause-read : goal.returns-in-None-2-clause-read
returns-in-None-2-clause-read g c =
    let old = g.K.Keeper.records c.args.keeper.now in
    let mid = g.K.Keeper.records c.loop-place.keeper in
    let new = g.K.Keeper.records c.read_one-2.new.keeper in
    let last : c.loop-place.place ≡ 9223372036854775807 = omega arith in
    let so = subst (λ (n : ℕ). ReadSoFar old mid c.loop-place.found n) last c.loop-place.invariant.1.told in
    is_all old mid new c.loop-place.found 9223372036854775807 so (subst (λ (o : Option Record). Reads mid 9223372036854775807 new (Ok o)) c.in-None-2.is c.in_ok-read_one-2.ensures.read)

pub returns-in-Some-2-clause-read : goal.returns-in-Some-2-clause-read
returns-in-Some-2-clause-read g c =
    let old = g.K.Keeper.records c.args.keeper.now in
    let mid = g.K.Keeper.records c.loop-place.keeper in
    let new = g.K.Keeper.records c.read_one-2.new.keeper in
    one_too_many old mid new 9223372036854775807 c.in-Some-2.field-0 9223372036854775808 (λ rs e. g.met.K.Keeper.few c.read_one-2.new.keeper rs e) (omega arith) (subst (λ (o : Option Record). Reads mid 9223372036854775807 new (Ok o)) c.in-Some-2.is c.in_ok-read_one-2.ensures.read)

pub returns-in_err-read_one-clause-cause : goal.returns-in_err-read_one-clause-cause
returns-in_err-read_one-clause-cause g c =
    let old = g.K.Keeper.records c.args.keeper.now in
    let mid = g.K.Keeper.records c.loop-place.keeper in
    let new = g.K.Keeper.records c.read_one.new.keeper in
    let p = err_from_is_err_and c.from_residual.result c.from_residual.ensures.1 in
    let read = fails old mid new c.loop-place.found c.loop-place.place _ c.loop-place.invariant.1.told c.in_err-read_one.ensures.read in
    rw (p.1, p.2) (has_cause old new c.loop-place.place _ _ _ _ (omega arith) c.loop-place.invariant.0 c.in_err-read_one.ensures.cause read)

pub returns-in-None-clause-cause : goal.returns-in-None-clause-cause
returns-in-None-clause-cause g c = (still c.loop-place.place _ _ _ c.in_ok-read_one.ensures.cause ∙ c.loop-place.invariant.0, c.loop-place.invariant.1.fit, omega (arith, c.loop-place.invariant.1.count))

pub returns-in_err-read_one-2-clause-cause : goal.returns-in_err-read_one-2-clause-cause
returns-in_err-read_one-2-clause-cause g c =
    let old = g.K.Keeper.records c.args.keeper.now in
    let mid = g.K.Keeper.records c.loop-place.keeper in
    let new = g.K.Keeper.records c.read_one-2.new.keeper in
    let p = err_from_is_err_and c.from_residual-in_err-read_one-2.result c.from_residual-in_err-read_one-2.ensures.1 in
    let last : c.loop-place.place ≡ 9223372036854775807 = omega arith in
    let so = subst (λ (n : ℕ). ReadSoFar old mid c.loop-place.found n) last c.loop-place.invariant.1.told in
    let read = fails old mid new c.loop-place.found 9223372036854775807 _ so c.in_err-read_one-2.ensures.read in
    rw (p.1, p.2) (has_cause old new 9223372036854775807 _ _ _ _ (omega arith) c.loop-place.invariant.0 c.in_err-read_one-2.ensures.cause read)

pub returns-in-None-2-clause-cause : goal.returns-in-None-2-clause-cause
returns-in-None-2-clause-cause g c = (still 9223372036854775807 _ _ _ c.in_ok-read_one-2.ensures.cause ∙ c.loop-place.invariant.0, c.loop-place.invariant.1.fit, omega (arith, c.loop-place.invariant.1.count))

pub returns-in-Some-2-clause-cause : goal.returns-in-Some-2-clause-cause
returns-in-Some-2-clause-cause g c =
    let old = g.K.Keeper.records c.args.keeper.now in
    let mid = g.K.Keeper.records c.loop-place.keeper in
    let new = g.K.Keeper.records c.read_one-2.new.keeper in
    (still 9223372036854775807 _ _ _ c.in_ok-read_one-2.ensures.cause ∙ c.loop-place.invariant.0, omega arith, omega arith, first_of old new 9223372036854775808 (one_too_many old mid new 9223372036854775807 c.in-Some-2.field-0 9223372036854775808 (λ rs e. g.met.K.Keeper.few c.read_one-2.new.keeper rs e) (omega arith) (subst (λ (o : Option Record). Reads mid 9223372036854775807 new (Ok o)) c.in-Some-2.is c.in_ok-read_one-2.ensures.read)))
