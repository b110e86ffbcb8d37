-- What a session over a new core did is one legal history.
use Rattle.std.proofs.Common.{◌≡◌, ◌<◌, ◌⊎◌, inl, inr, ℕ, List, [], ◌∷◌, ◌++◌, Option, Some, None, IfSome, refl, sym, ap, subst, arith, append-nil}
use Rattle.std.specs.List.{AllByRecursion, flat_map}
use Rattle.std.specs.Io.KnownBytes.{Appends}
use Rattle.command_words.specs.declared.form.Form.{Form}
use Rattle.command_words.specs.declared.form.Form.TheVariants as form
use Rattle.front_defs.specs.declared.history.Call.{Call}
use Rattle.front_defs.specs.declared.history.Entry.{Entry}
use Rattle.front_defs.specs.declared.history.Entry.TheVariants.{Made}
use Rattle.front_defs.specs.Legal.{Legal}
use Rattle.front_defs.specs.Script.{after}
use Rattle.front_defs.specs.Stands.{View}
use Rattle.load_server.specs.Alone.{AllUnmarked, IsAlone, IsUnmarked}
use Rattle.load_server.specs.Exchanges.{nothing_behind}
use Rattle.load_server.specs.Sessions.{AnswersAll, CountsTo, GivesMoments, IsComplete, ReadText, SessionDid, most_requests}
use Rattle.load_server.specs.declared.session_end.SessionEnd.{SessionEnd}
use Rattle.load_server.specs.declared.session_end.SessionEnd.TheVariants as ends
use Rattle.service.specs.Serving.{IfRun, IsAnswered, RanTo, RunDid, exit_of}
use Rattle.service.specs.declared.exit.Exit.{Exit}
use Rattle.service.specs.declared.exit.Exit.TheVariants as exit

-- the calls of a history without marks have none
unmarked_calls : (E : List Call) (H : List Entry) → AllUnmarked (after E H) → AllByRecursion IsUnmarked E × AllUnmarked H
unmarked_calls [] H all = (tt, all)
unmarked_calls (e ∷ E) H all = let rest = unmarked_calls E (Made e ∷ H) all in ((rest.1.0, rest.0), rest.1.1)

pub session_ran : (v : View) (told left before now given given_now : Option (List ℕ)) (end : SessionEnd) → SessionDid told left before now given given_now (λ seen own. IsAlone v seen own) [] [] end → RunDid told left before now given given_now end
session_ran v told left before now given given_now end s = record {
  exchanges = s.exchanges;
  behind = s.behind;
  served = s.served;
  legal = subst (λ (H : List Entry). Legal H) (sym s.moved.now.same) s.moved.now.legal;
  faultless = (unmarked_calls (flat_map (λ x. x.calls) s.exchanges) [] (subst (λ (H : List Entry). AllUnmarked H) (sym s.moved.now.same) s.moved.now.unmarked)).0;
  moments = s.moments;
  read = s.read;
  named = s.named;
  wrote = s.wrote;
  ended = s.ended;
  count = s.count;
  answered = s.answered;
}

-- an end that a text asks for is an exit that it asks for
exit_asked : (end : SessionEnd) → (end ≡ ends.Done) ⊎ (end ≡ ends.NoMemory) → (exit_of end ≡ exit.Ok) ⊎ (exit_of end ≡ exit.NoMemory)
exit_asked end (inl e) = inl (ap exit_of e)
exit_asked end (inr e) = inr (ap exit_of e)

pub run_answered : (told : Option (List ℕ)) (end : SessionEnd) (e : Exit) → e ≡ exit_of end → IfSome told (IsComplete end) → IfSome told (IsAnswered e)
run_answered None end e is complete = tt
run_answered (Some text) end e is complete = λ qs asks. subst (λ (x : Exit). (x ≡ exit.Ok) ⊎ (x ≡ exit.NoMemory)) (sym is) (exit_asked end (complete qs asks))

none_given : (given : Option (List ℕ)) → GivesMoments given given []
none_given None = tt
none_given (Some before) = sym (append-nil before)

none_read : (told left : Option (List ℕ)) → IfSome told (ReadText ends.NoMemory [] nothing_behind 0 left)
none_read None left = tt
none_read (Some text) left = record { place = 0; rest = text; begins = (refl, refl); head = tt; error = tt; all = tt; unread = tt }

none_answered : (told : Option (List ℕ)) → IfSome told (AnswersAll ends.NoMemory [])
none_answered None = tt
none_answered (Some text) = λ qs asks e. absurd (never_done e)
  where
    never_done : ends.NoMemory ≡ ends.Done → ⊥
    never_done e =
        let lt : most_requests < most_requests = subst (λ (x : SessionEnd). CountsTo x most_requests) (sym e) (omega arith) in
        omega (arith, lt)

none_written : (before : Option (List ℕ)) → Appends before before []
none_written None = tt
none_written (Some before) = sym (append-nil before)

-- a run that found no memory before its first request
pub ran_nothing : (told left before given : Option (List ℕ)) → RunDid told left before before given given ends.NoMemory
ran_nothing told left before given = record {
  exchanges = [];
  behind = nothing_behind;
  served = tt;
  legal = tt;
  faultless = tt;
  moments = none_given given;
  read = none_read told left;
  named = tt;
  answered = none_answered told;
  wrote = none_written before;
  ended = (tt, refl);
  count = omega arith;
}

pub ran_no_form : (f : Option Form) (told left before given : Option (List ℕ)) → IfRun f (RanTo exit.NoMemory (RunDid told left before before given given))
ran_no_form None told left before given = tt
ran_no_form (Some (form.Dryrun letter columns)) told left before given = tt
ran_no_form (Some (form.Run journal)) told left before given = (ends.NoMemory, refl, ran_nothing told left before given)
