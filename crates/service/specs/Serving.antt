-- What the command `run` does: it answers the requests of its input, and is one legal history (this project's own).
use Rattle.std.specs.Prelude.{◌≡◌, ◌⊎◌, ℕ, List, [], ◌++◌, Option, Some, IfSome, length, map}
use Rattle.std.specs.List.{AllByRecursion, flat_map}
use Rattle.command_words.specs.declared.form.Form.{Form}
use Rattle.command_words.specs.declared.form.Form.TheVariants as form
use Rattle.front_defs.specs.Legal.{Legal}
use Rattle.front_defs.specs.Script.{after}
use Rattle.http_wire.specs.Requests.{Request}
use Rattle.load_server.specs.Alone.{IsUnmarked}
use Rattle.load_server.specs.Exchanges.{Exchange, IsServed, Behind, behind_texts, texts_of}
use Rattle.load_server.specs.Sessions.{AnswersAll, AsksFor, CountsTo, Ended, GivesMoments, HasItsHead, ReadText, Wrote}
use Rattle.load_server.specs.declared.session_end.SessionEnd.{SessionEnd}
use Rattle.load_server.specs.declared.session_end.SessionEnd.TheVariants as ends
use Rattle.service.specs.declared.exit.Exit.{Exit}
use Rattle.service.specs.declared.exit.Exit.TheVariants as exit

-- how the end of a session ends the run
abbrev pub exit_of : SessionEnd → Exit
exit_of ends.Done = exit.Ok
exit_of ends.ReadFault = exit.ReadFault
exit_of ends.WriteFault = exit.WriteFault
exit_of (ends.Refused at) = exit.Refused at
exit_of ends.Enough = exit.Enough
exit_of ends.NoMemory = exit.NoMemory

-- What a run did, with what the source told at first and now, what the sink told at first and now, and what the clock did: the
-- calls of its requests, in their order, are one legal history from nothing on, in which no keeper failed and nothing was
-- opened again; each request was served by its own calls, and the bytes written are their responses.
pub record RunDid (told left before now given given_now : Option (List ℕ)) (end : SessionEnd) : Type 0 where
  pub exchanges : List Exchange
  pub behind : Behind
  pub served : AllByRecursion IsServed exchanges
  pub legal : Legal (after (flat_map (λ x. x.calls) exchanges) [])
  pub faultless : AllByRecursion IsUnmarked (flat_map (λ x. x.calls) exchanges)
  pub moments : GivesMoments given given_now (map (λ x. x.moment) exchanges)
  pub read : IfSome told (ReadText end exchanges behind 0 left)
  pub named : HasItsHead behind
  pub wrote : Wrote end before now (flat_map texts_of exchanges ++ behind_texts behind)
  pub ended : Ended end exchanges behind
  pub count : CountsTo end (length exchanges)
  pub answered : IfSome told (AnswersAll end exchanges)

-- a run that ended so did that
abbrev pub RanTo : Exit → (SessionEnd → Type 0) → Type 0
RanTo e Did = (end : SessionEnd) × (e ≡ exit_of end) × Did end

-- this holds of the form `run`
abbrev pub IfRun : Option Form → Type 0 → Type 0
IfRun (Some (form.Run journal)) P = P
IfRun _ P = Unit {0}

-- this holds where the form is another, or there is none
abbrev pub UnlessRun : Option Form → Type 0 → Type 0
UnlessRun (Some (form.Run journal)) P = Unit {0}
UnlessRun _ P = P

-- an honest run answers what its input asks for, but for want of memory
abbrev pub IsAnswered : Exit → List ℕ → Type 0
IsAnswered e text = (qs : List Request) → AsksFor qs text → (e ≡ exit.Ok) ⊎ (e ≡ exit.NoMemory)
