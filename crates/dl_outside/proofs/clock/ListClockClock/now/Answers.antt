use Rattle.std.proofs.Common.{◌≡◌, rules, ap, ◌∙◌, ◌+◌, ◌-◌, ◌^◌, min}
use Rattle.dl_outside.specs.Moments.{moment_at, ListClockView}
use Rattle.dl_outside.proofs.Given.{gives}
use Rattle.dl_outside.proofs.clock.ListClockClock.now.Goals as goal

pub returns-clause-gives : goal.returns-clause-gives
returns-clause-gives c =
    let is : c.unwrap_or.result ≡ moment_at c.args.self.now.moments c.args.self.now.calls = search rules in
    let moments = ap (λ (v : ListClockView). v.moments) c.self.view_is in
    let calls = ap (λ (v : ListClockView). min (v.calls + 1) (2 ^ 64 - 1)) c.self.view_is in
    gives c.args.self.now _ c.unwrap_or.result moments (c.saturating_add-self-inside.ensures ∙ calls) is
