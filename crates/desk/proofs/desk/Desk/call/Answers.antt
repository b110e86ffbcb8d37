use Rattle.std.proofs.Common.{Some, sym, ap, ◌∙◌}
use Rattle.desk.specs.Rule.{idle}
use Rattle.desk.proofs.Calls.{legal_here, event, turned}
use Rattle.desk.proofs.desk.Desk.call.Goals as goal

pub record-requires-clause-event : goal.record-requires-clause-event
record-requires-clause-event g c =
    let E = g.E.Engine in
    let v = c.args.place.now.me.0 in
    let h = c.take-engine.ensures.1 in
    let s = c.step-reply.ensures.call v.name in (
      h.log,
      s.entry,
      ap (λ m. m.0.held) h.me_is,
      g.met.E.Engine.named s.entry v.name c.args.command c.step-reply.result s.call ∙ ap (λ m. Some m.0.name) (sym h.me_is),
      legal_here E.seat_of E.is_call E.stands E.legal E.may E.quiet v _ _ h _ _ _ _ _ s g.met.E.Engine.stays c.requires.may,
      event E.seat_of E.is_call E.stands E.legal E.may E.quiet v _ _ h _ _ _ _ _ s g.met.E.Engine.stays c.requires.may _ c.of-said.ensures,
    )

pub returns-clause-turned : goal.returns-clause-turned
returns-clause-turned g c =
    let E = g.E.Engine in
    let v = c.args.place.now.me.0 in
    let h = c.take-engine.ensures.1 in
    let s = c.step-reply.ensures.call v.name in
    let r = c.record.ensures.event h.log (ap (λ m. m.0.held) h.me_is) in
    turned E.seat_of E.is_call E.stands E.legal E.may E.quiet v _ _ h _ _ _ _ _ s g.met.E.Engine.stays c.requires.may g.met.E.Engine.named r.0 _ c.of-said.ensures r.1
    c.give_back.new.place.me.0 (ap (λ m. m.0) c.give_back.ensures.1 ∙ ap (λ m. idle m.0) r.2)
