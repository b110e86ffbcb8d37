-- A turn is one step of the front.
use Rattle.std.proofs.Common.{List, [], ◌∷◌, refl, ap, subst}
use Rattle.front_defs.specs.declared.history.Call.{Call}
use Rattle.front_defs.specs.declared.history.Entry.{Entry}
use Rattle.front_defs.specs.declared.history.Entry.TheVariants.{Made}
use Rattle.front_defs.specs.May.{May}
use Rattle.front_core.specs.Made.{made}
use Rattle.load_server.proofs.solo.SoloTurns.turn.Goals as goal

pub returns-clause-turned : goal.returns-clause-turned
returns-clause-turned g c = λ seen own h may.
    let call : Call = made [] c.args.command c.step.result in
    let allowed = subst (λ (H : List Entry). May H c.args.command) h.same may in
    let legal = c.step.ensures.legal seen [] h.stands h.legal allowed in
    record {
      call = call;
      command_is = refl;
      reply_is = refl;
      others = [];
      now = record {
        stands = c.step.ensures.stands seen [] h.stands h.legal allowed;
        legal = legal;
        unmarked = (record { opened = refl; rose = refl; took = refl; faults_in = refl; faults_out = refl }, h.unmarked);
        same = ap (λ (H : List Entry). Made call ∷ H) h.same;
      };
      quiet = λ q. c.step.ensures.quiet;
    }
