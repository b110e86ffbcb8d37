-- How a script goes on from turn to turn.
use Rattle.std.proofs.Common.{◌≡◌, ℕ, List, [], ◌∷◌, ◌++◌, inl, inr, refl, sym, subst, append_assoc, append-nil}
use Rattle.front_defs.specs.declared.command.Command.{Command}
use Rattle.front_defs.specs.declared.reply.Reply.{Reply}
use Rattle.front_defs.specs.declared.history.Call.{Call}
use Rattle.front_defs.specs.declared.history.Entry.{Entry}
use Rattle.front_defs.specs.declared.history.Entry.TheVariants.{Made}
use Rattle.front_defs.specs.May.{May}
use Rattle.front_defs.specs.Script.{Script, Asks, Works, Served, Leads, Moved, Answered, after}
use Rattle.front_defs.specs.Turn.{Turned}
use Rattle.dl_values.specs.declared.cell.Cell.{Cell}
use Rattle.shadow_writes.specs.declared.built.Built.{Built}
use Rattle.shadow_writes.specs.declared.plan.Plan.{Plan}
use Rattle.load_server.specs.Exchanges.{AnsweredBy}
use Rattle.load_server.specs.Responses.{Response}
use Rattle.load_server.proofs.BuildingFacts.{building_by, building_is}

pub after-append : (E F : List Call) (H : List Entry) → after (E ++ F) H ≡ after F (after E H)
after-append [] F H = refl
after-append (x ∷ E) F H = after-append E F (Made x ∷ H)

leads_more : (E F : List Call) (a b c : List Entry) → Leads a E b → Leads b F c → Leads a (E ++ F) c
leads_more [] F a b c e l = subst (λ (H : List Entry). Leads H F c) e l
leads_more (x ∷ E) F a b c (others, k) l = (others, leads_more E F (Made x ∷ (others ++ a)) b c k l)

-- nothing has moved
pub moved_none : (stands : List Entry → List Entry → Type 0) (seen own : List Entry) → stands seen own → Moved stands seen own []
moved_none stands seen own s = record { seen_now = seen; leads = refl; now = s }

-- what a turn promises
abbrev pub Turn : (old new : List Entry → List Entry → Type 0) → ℕ → ℕ → Command → Reply → Type 0
Turn old new n m c r = (s o : List Entry) → old s o → May o c → Turned new n m s o c r

-- these calls, and then those of another part
pub moved_more : (mid new : List Entry → List Entry → Type 0) (seen own : List Entry) (E F : List Call) → (m : Moved mid seen own E) → Moved new m.seen_now (after E own) F → Moved new seen own (E ++ F)
moved_more mid new seen own E F m n =
    record {
      seen_now = n.seen_now;
      leads = leads_more E F seen m.seen_now n.seen_now m.leads n.leads;
      now = subst (λ (H : List Entry). new n.seen_now H) (sym (after-append E F own)) n.now;
    }

-- a script that takes no turn
pub answered_now : (stands : List Entry → List Entry → Type 0) (seen own : List Entry) (script : Script Response) (response : Response) → stands seen own → Served script [] response → Answered stands seen own script response
answered_now stands seen own script response s served = record { calls = []; served = served; moved = moved_none stands seen own s }

-- a script whose work between turns was done, or found no memory
pub answered_done : (stands : List Entry → List Entry → Type 0) (seen own : List Entry) (done lacking : Script Response) (response : Response) → Answered stands seen own done response → Answered stands seen own (Works done lacking) response
answered_done stands seen own done lacking response a = record { calls = a.calls; served = inl a.served; moved = a.moved }

pub answered_lacking : (stands : List Entry → List Entry → Type 0) (seen own : List Entry) (done lacking : Script Response) (response : Response) → Answered stands seen own lacking response → Answered stands seen own (Works done lacking) response
answered_lacking stands seen own done lacking response a = record { calls = a.calls; served = inr a.served; moved = a.moved }

-- a turn that was taken, and the rest of the script by its reply
pub answered_turn : {n m : ℕ} (mid new : List Entry → List Entry → Type 0) (seen own : List Entry) (c : Command) (next : Reply → Script Response) (r : Reply) (response : Response)
    → (t : Turned mid n m seen own c r) → Answered new (Made t.call ∷ (t.others ++ seen)) (Made t.call ∷ own) (next r) response → Answered new seen own (Asks c next) response
answered_turn mid new seen own c next r response t a =
    record {
      calls = t.call ∷ a.calls;
      served = (t.command_is, subst (λ (x : Reply). Served (next x) a.calls response) (sym t.reply_is) a.served);
      moved = record { seen_now = a.moved.seen_now; leads = (t.others, a.moved.leads); now = a.moved.now };
    }

pub answered_asks : {n m : ℕ} (old mid new : List Entry → List Entry → Type 0) (seen own : List Entry) (c : Command) (next : Reply → Script Response) (r : Reply) (response : Response)
    → Turn old mid n m c r → old seen own → May own c
    → ((s : List Entry) (call : Call) → call.reply ≡ r → mid s (Made call ∷ own) → Answered new s (Made call ∷ own) (next r) response)
    → Answered new seen own (Asks c next) response
answered_asks old mid new seen own c next r response turn s may rest =
    let t = turn seen own s may in
    answered_turn mid new seen own c next r response t (rest (Made t.call ∷ (t.others ++ seen)) t.call t.reply_is t.now)

-- a turn whose reply ends the script without another turn
pub answered_asks_now : {n m : ℕ} (old new : List Entry → List Entry → Type 0) (seen own : List Entry) (c : Command) (next : Reply → Script Response) (r : Reply) (response : Response)
    → Turn old new n m c r → old seen own → May own c → Served (next r) [] response → Answered new seen own (Asks c next) response
answered_asks_now old new seen own c next r response turn s may served =
    answered_asks old new new seen own c next r response turn s may (λ z call e stands. answered_now new z (Made call ∷ own) (next r) response stands served)

-- the same script, named otherwise
pub answered_as : (stands : List Entry → List Entry → Type 0) (seen own : List Entry) (script other : Script Response) (response : Response) → other ≡ script → Answered stands seen own script response → Answered stands seen own other response
answered_as stands seen own script other response e a = record { calls = a.calls; served = subst (λ (x : Script Response). Served x a.calls response) (sym e) a.served; moved = a.moved }

-- ---- in a loop: the calls so far led from one script to what is left of it

pub record Going (stands : List Entry → List Entry → Type 0) (seen own : List Entry) (start left : Script Response) : Type 0 where
  pub calls : List Call
  pub served : (E : List Call) (response : Response) → Served left E response → Served start (calls ++ E) response
  pub moved : Moved stands seen own calls

pub going_start : (stands : List Entry → List Entry → Type 0) (seen own : List Entry) (start : Script Response) → stands seen own → Going stands seen own start start
going_start stands seen own start s = record { calls = []; served = λ E response h. h; moved = moved_none stands seen own s }

-- one turn more
pub going_on : {n m : ℕ} (old new : List Entry → List Entry → Type 0) (seen own : List Entry) (start left : Script Response) (c : Command) (next : Reply → Script Response) (r : Reply)
    → (g : Going old seen own start left) → left ≡ Asks c next → Turn old new n m c r → May (after g.calls own) c → Going new seen own start (next r)
going_on old new seen own start left c next r g asks turn may =
    let m = g.moved in
    let t = turn m.seen_now (after g.calls own) m.now may in
    record {
      calls = g.calls ++ t.call ∷ [];
      served = λ E response h.
          subst (λ (F : List Call). Served start F response) (sym (append_assoc g.calls (t.call ∷ []) E))
          (g.served (t.call ∷ E) response (subst (λ (x : Script Response). Served x (t.call ∷ E) response) (sym asks) (t.command_is, subst (λ (x : Reply). Served (next x) E response) (sym t.reply_is) h)));
      moved = moved_more old new seen own g.calls (t.call ∷ []) m (record {
        seen_now = Made t.call ∷ (t.others ++ m.seen_now);
        leads = (t.others, refl);
        now = t.now;
      });
    }

-- what is left takes no turn
pub going_ends : (stands : List Entry → List Entry → Type 0) (seen own : List Entry) (start left : Script Response) (response : Response) → Going stands seen own start left → Served left [] response → Answered stands seen own start response
going_ends stands seen own start left response g served =
    record {
      calls = g.calls;
      served = subst (λ (F : List Call). Served start F response) (append-nil g.calls) (g.served [] response served);
      moved = g.moved;
    }

pub going_as : (stands : List Entry → List Entry → Type 0) (seen own : List Entry) (start left other : Script Response) → Going stands seen own start left → left ≡ other → Going stands seen own start other
going_as stands seen own start left other g e = subst (λ (x : Script Response). Going stands seen own start x) e g

-- ---- with the way in which a load is built

abbrev pub Way : Type 0
Way = Plan → List (List Cell) → Built

pub by_any : (stands : List Entry → List Entry → Type 0) (seen own : List Entry) (script : Script Response) (response : Response) → Answered stands seen own script response → AnsweredBy stands seen own (λ b. script) response
by_any stands seen own script response a = record { building = building_by []; builds = building_is []; answered = a }

pub by_as : (stands : List Entry → List Entry → Type 0) (seen own : List Entry) (script other : Way → Script Response) (response : Response) → ((b : Way) → other b ≡ script b) → AnsweredBy stands seen own script response → AnsweredBy stands seen own other response
by_as stands seen own script other response e a = record { building = a.building; builds = a.builds; answered = answered_as stands seen own (script a.building) (other a.building) response (e a.building) a.answered }

pub by_done : (stands : List Entry → List Entry → Type 0) (seen own : List Entry) (script : Way → Script Response) (lacking : Script Response) (response : Response) → AnsweredBy stands seen own script response → AnsweredBy stands seen own (λ b. Works (script b) lacking) response
by_done stands seen own script lacking response a = record { building = a.building; builds = a.builds; answered = answered_done stands seen own (script a.building) lacking response a.answered }

pub by_lacking : (stands : List Entry → List Entry → Type 0) (seen own : List Entry) (script : Way → Script Response) (lacking : Script Response) (response : Response) → Answered stands seen own lacking response → AnsweredBy stands seen own (λ b. Works (script b) lacking) response
by_lacking stands seen own script lacking response a = record { building = building_by []; builds = building_is []; answered = answered_lacking stands seen own (script (building_by [])) lacking response a }

pub by_asks : {n m : ℕ} (old mid new : List Entry → List Entry → Type 0) (seen own : List Entry) (c : Command) (next : Way → Reply → Script Response) (r : Reply) (response : Response)
    → Turn old mid n m c r → old seen own → May own c
    → ((s : List Entry) (call : Call) → call.reply ≡ r → mid s (Made call ∷ own) → AnsweredBy new s (Made call ∷ own) (λ b. next b r) response)
    → AnsweredBy new seen own (λ b. Asks c (next b)) response
by_asks old mid new seen own c next r response turn s may rest =
    let t = turn seen own s may in
    let a = rest (Made t.call ∷ (t.others ++ seen)) t.call t.reply_is t.now in
    record { building = a.building; builds = a.builds; answered = answered_turn mid new seen own c (next a.building) r response t a.answered }
