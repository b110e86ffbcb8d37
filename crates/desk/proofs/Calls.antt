-- What one call adds, from the step of the engine.
use Rattle.std.proofs.Common.{◌≡◌, ℕ, List, ◌∷◌, ◌++◌, refl, sym, ap, ◌∙◌, subst, append_assoc, Some, Option}
use Rattle.atomic_table.specs.Table.{Me}
use Rattle.desk.specs.declared.book.Home.{Home}
use Rattle.desk.specs.declared.view.View.{View}
use Rattle.desk.specs.History.{entries_by, HasNone}
use Rattle.desk.specs.Rule.{IsFirst, IsLegalFrom, HasTaken, added, idle}
use Rattle.desk.specs.Turn.{Stepped, Turned, IsEvent}
use Rattle.desk.proofs.Books.{some_some}
use Rattle.desk.proofs.Lists.{nothing_more}
use Rattle.desk.proofs.Own.{own_append, own_more}

module _ {E N C R : Type 0} (seat_of : N → Option (List ℕ)) (is_call : N → List ℕ → C → R → Type 0) (stands : E → List N → Type 0) (legal : List N → Type 0)
    (may : List N → List ℕ → C → Type 0) (quiet : List N → C → Type 0) (v : View E N) (now : Home E N) (m : Me (Option (Home E N)) (View E N)) (h : HasTaken seat_of stands legal v now m) where
  -- what the others did meanwhile has no entry of this seat
  pub none_own : HasNone seat_of v.name h.seen.0
  none_own = nothing_more (entries_by seat_of v.name h.seen.0) v.own
      (sym (own_append seat_of v.name h.seen.0 v.seen ∙ ap (λ l. entries_by seat_of v.name h.seen.0 ++ l) h.own_seen) ∙ ap (entries_by seat_of v.name) (sym h.seen.1) ∙ h.own_all)

  module _ (next : E) (c : C) (r : R) (steps steps_now : ℕ) (s : Stepped is_call (stands now.engine) (stands next) legal may quiet v.name c r steps steps_now)
      (stays : (log more : List N) (seat : List ℕ) (c : C) → may log seat c → legal (more ++ log) → HasNone seat_of seat more → may (more ++ log) seat c)
      (may_now : (first : List N) → IsFirst stands legal v.start first → may (v.seen ++ first) v.name c) where
    whole : (first : List N) → h.log ++ first ≡ h.seen.0 ++ (v.seen ++ first)
    whole first = ap (λ l. l ++ first) h.seen.1 ∙ append_assoc h.seen.0 v.seen first

    may_then : (first : List N) → IsFirst stands legal v.start first → may (h.log ++ first) v.name c
    may_then first f = subst (λ l. may l v.name c) (sym (whole first))
        (stays (v.seen ++ first) h.seen.0 v.name c (may_now first f) (subst legal (whole first) (h.is_legal first f)) none_own)

    pub goes_on : (first : List N) → IsFirst stands legal v.start first → stands next (s.entry ∷ (h.log ++ first)) × legal (s.entry ∷ (h.log ++ first))
    goes_on first f = s.now (h.log ++ first) (h.stands_now first f) (h.is_legal first f) (may_then first f)

    pub costs : (first : List N) → IsFirst stands legal v.start first → quiet ((h.seen.0 ++ v.seen) ++ first) c → steps_now ≡ steps
    costs first f q = s.cost (h.log ++ first) (h.stands_now first f) (h.is_legal first f) (may_then first f) (subst (λ l. quiet (l ++ first) c) (sym h.seen.1) q)

    first_here : (first : List N) → IsFirst stands legal m.0.start first → IsFirst stands legal v.start first
    first_here first f = subst (λ (x : Option E). IsFirst stands legal x first) (ap (λ (x : Me (Option (Home E N)) (View E N)). x.0.start) h.me_is) f

    pub legal_here : IsLegalFrom stands legal m.0.start (s.entry ∷ h.log)
    legal_here first f = (goes_on first (first_here first f)).1

    -- the entry that the engine made is one for the event
    pub event : (said : C) → said ≡ c → IsEvent is_call stands legal m.0 said r next s.entry
    event said same = record {
      call = subst (λ (x : List ℕ × C). is_call s.entry x.0 x.1 r) (λ i. ((sym h.me_is i).0.name, sym same i)) s.call;
      stands_now = λ log held first f. subst (λ l. stands next (s.entry ∷ (l ++ first))) (here log held) (goes_on first (first_here first f)).0;
      is_legal = λ log held first f. subst (λ l. legal (s.entry ∷ (l ++ first))) (here log held) (goes_on first (first_here first f)).1;
    }
      where
        here : (log : List N) → m.0.held ≡ Some log → h.log ≡ log
        here log held = some_some h.log log (sym (ap (λ (x : Me (Option (Home E N)) (View E N)). x.0.held) h.me_is) ∙ held)

    -- and whichever entry the event has, the turn has it
    pub turned : ((e : N) (seat : List ℕ) (c : C) (r : R) → is_call e seat c r → seat_of e ≡ Some seat) → (e : N) (said : C) → said ≡ c → IsEvent is_call stands legal m.0 said r next e
        → (w : View E N) → w ≡ idle (added m.0 h.log e) → Turned seat_of is_call stands legal quiet v c r steps steps_now w
    turned named e said same ev w is =
        let call : is_call e v.name c r = subst (λ (x : List ℕ × C). is_call e x.0 x.1 r) (λ i. ((h.me_is i).0.name, same i)) ev.call in
        let held = ap (λ (x : Me (Option (Home E N)) (View E N)). x.0.held) h.me_is in
        subst (Turned seat_of is_call stands legal quiet v c r steps steps_now) (sym (is ∙ ap (λ (x : Me (Option (Home E N)) (View E N)). idle (added x.0 h.log e)) h.me_is)) (record {
          entry = e;
          call = call;
          others = h.seen.0;
          none_own = none_own;
          seen_is = ap (λ l. e ∷ l) h.seen.1;
          own_is = refl;
          own_seen = own_more seat_of v.name e h.log (named e v.name c r call) ∙ ap (λ l. e ∷ l) h.own_all;
          is_legal = λ first f. ev.is_legal h.log held first (subst (λ (x : Option E). IsFirst stands legal x first) (sym (ap (λ (x : Me (Option (Home E N)) (View E N)). x.0.start) h.me_is)) f);
          cost = costs;
          same = (refl, refl, refl, refl);
        })
