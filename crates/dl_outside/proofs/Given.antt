-- What a clock in memory tells after one moment more.
use Rattle.std.proofs.Common.{◌≡◌, ℕ, ◌+◌, ◌-◌, ◌^◌, ◌<◌, ◌≤◌, ◌∙◌, List, [], ◌∷◌, ◌++◌, Bool, true, false, Some, None, min, refl, sym, ap, subst, arith, add-one, ltb}
use Rattle.std.proofs.lemmas.Bool.{ltb-true, ltb-false}
use Rattle.std.proofs.lemmas.Bool.Decides.{nat_tests}
use Rattle.dl_outside.specs.Moments.{GivesMoment, ListClockView, first_moments, moment_at, told_moments}

first-more : (moments : List ℕ) (n : ℕ) → first_moments moments (n + 1) ≡ first_moments moments n ++ moment_at moments n ∷ []
first-more moments n = rw add-one refl

below : (moments : List ℕ) (n : ℕ) → n < 2 ^ 64 - 1 → told_moments (record { moments = moments; calls = n }) ≡ Some (first_moments moments n)
below moments n h = grind (arith, nat_tests)

at_end : (moments : List ℕ) (n : ℕ) → 2 ^ 64 - 1 ≤ n → told_moments (record { moments = moments; calls = n }) ≡ None
at_end moments n h = grind (arith, nat_tests)

gives-by : (b : Bool) (moments : List ℕ) (k n moment : ℕ) → ltb n (2 ^ 64 - 1) ≡ b → n ≡ min (k + 1) (2 ^ 64 - 1) → moment ≡ moment_at moments k
    → GivesMoment (told_moments (record { moments = moments; calls = k })) (told_moments (record { moments = moments; calls = n })) moment
gives-by false moments k n moment test count is = rw (at_end moments n (ltb-false n (2 ^ 64 - 1) test)) tt
gives-by true moments k n moment test count is =
    let small : n < 2 ^ 64 - 1 = ltb-true n (2 ^ 64 - 1) test in
    let next : n ≡ k + 1 = omega arith in
    let more : first_moments moments n ≡ first_moments moments k ++ moment_at moments k ∷ [] = ap (first_moments moments) next ∙ first-more moments k in
    rw (below moments n small, below moments k (omega arith)) (more ∙ ap (λ (x : ℕ). first_moments moments k ++ x ∷ []) (sym is))

-- the clock gave a moment, and its count is one higher, or at its end
pub gives : (before after : ListClockView) (moment : ℕ) → after.moments ≡ before.moments → after.calls ≡ min (before.calls + 1) (2 ^ 64 - 1)
    → moment ≡ moment_at before.moments before.calls → GivesMoment (told_moments before) (told_moments after) moment
gives before after moment same count is =
    subst (λ (ms : List ℕ). GivesMoment (told_moments before) (told_moments (record { moments = ms; calls = after.calls })) moment) (sym same)
    (gives-by (ltb after.calls (2 ^ 64 - 1)) before.moments before.calls after.calls moment refl count is)
