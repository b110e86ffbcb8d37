-- A journal has the told events of what happened.
use Rattle.std.proofs.Common.{◌≡◌, cond, List, [], ◌∷◌, filter, refl, sym, ◌∙◌, ap}
use Rattle.front_defs.specs.declared.event.Event.{Event}
use Rattle.front_defs.specs.declared.event.Event.TheVariants as event
use Rattle.front_defs.specs.History.{is_told, journal, recorded}
use Rattle.front_laws.proofs.Keeps.{filter_twice}

pub recorded_told : (e : Event) (Js : List Event) → recorded e Js ≡ cond (is_told e) (e ∷ Js) Js
recorded_told (event.DbMade d) Js = refl
recorded_told (event.TableMade m) Js = refl
recorded_told (event.RangeDrawn r) Js = refl
recorded_told (event.LoadSubmitted s) Js = refl
recorded_told (event.TxnAborted a) Js = refl
recorded_told (event.LoadPublished p) Js = refl
recorded_told (event.PartAdded a) Js = refl
recorded_told (event.TableDropped d) Js = refl
recorded_told (event.LoadCommitted c) Js = refl
recorded_told (event.Swept s) Js = refl
recorded_told (event.JobAdded a) Js = refl
recorded_told (event.JobWaiting w) Js = refl
recorded_told (event.JobFinished f) Js = refl
recorded_told (event.JobCancelled c) Js = refl
recorded_told (event.TxnBegun b) Js = refl
recorded_told (event.TxnEnded x) Js = refl
recorded_told (event.SweptUntold s) Js = refl
recorded_told (event.Compacted c) Js = refl
recorded_told (event.WatershedDrawn w) Js = refl
recorded_told (event.JobRan r) Js = refl
recorded_told (event.TaskTaken t) Js = refl
recorded_told (event.TaskGiven g) Js = refl
recorded_told event.Opened Js = refl

pub journal_cons : (e : Event) (Es : List Event) → journal (e ∷ Es) ≡ cond (is_told e) (e ∷ journal Es) (journal Es)
journal_cons e Es = recorded_told e (journal Es)

journal_filter : (Es : List Event) → journal Es ≡ filter is_told Es
journal_filter [] = refl
journal_filter (e ∷ Es) = journal_cons e Es ∙ ap (λ (l : List Event). cond (is_told e) (e ∷ l) l) (journal_filter Es)

pub journal_twice : (Es : List Event) → journal (journal Es) ≡ journal Es
journal_twice Es = journal_filter (journal Es) ∙ ap (filter is_told) (journal_filter Es) ∙ filter_twice is_told Es ∙ sym (journal_filter Es)
