use Rattle.std.proofs.Common.{◌∙◌, refl, sym, ap, List, ℕ}
use Rattle.front_defs.specs.Script.{Ends}
use Rattle.load_requests.specs.Requests.{request_of}
use Rattle.load_requests.specs.declared.request.Request.{Request}
use Rattle.load_server.specs.Responses.{out_of_memory}
use Rattle.load_server.specs.Scripts.{script_of}
use Rattle.load_server.proofs.Going.{answered_now, by_as, by_done, by_lacking}
use Rattle.load_server.proofs.respond.respond.Goals as goal

pub returns-in-Ok : goal.returns-in-Ok
returns-in-Ok g c = λ seen own s.
    by_done (g.T.Turns.stands c.serve.new.turns) seen own (λ b. script_of b c.args.at c.args.body.items (request_of c.args.head.now c.args.body.items)) (Ends out_of_memory) _
    (by_as (g.T.Turns.stands c.serve.new.turns) seen own (λ b. script_of b c.args.at c.args.body.items c.in-Ok.request) (λ b. script_of b c.args.at c.args.body.items (request_of c.args.head.now c.args.body.items)) _
    (λ b. ap (λ (q : Request). script_of b c.args.at c.args.body.items q) (sym (c.in-Ok.ensures ∙ ap (λ (t : List ℕ). request_of c.args.head.now t) c.as_slice.ensures.value))) (c.serve.ensures seen own s))

pub returns-in-Err : goal.returns-in-Err
returns-in-Err g c = λ seen own s. by_lacking _ seen own _ _ _ (answered_now _ seen own _ _ s (refl, refl))
