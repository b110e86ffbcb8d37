-- One request of a session, by how it ends.
use Rattle.std.proofs.Common.{◌≡◌, ℕ, Bool, true, false, cond, List, [], ◌∷◌, ◌++◌, Option, Some, None, IfSome, IfOk, is_some, Result, Ok, inl, inr, ◌⊎◌, refl, sym, ◌∙◌, ap, subst, append-nil, length, take, arith}
use Rattle.std.proofs.KnownBytes.{Appends-nil, Appends-trans, Appends-kept}
use Rattle.std.specs.Io.KnownBytes.{Appends, Consumes, Keeps, prepend_known}
use Rattle.dl_outside.specs.Writing.{AppendsFront}
use Rattle.std.specs.List.{flat_map}
use Rattle.front_defs.specs.declared.history.Call.{Call}
use Rattle.front_defs.specs.declared.history.Entry.{Entry}
use Rattle.front_defs.specs.Script.{Moved}
use Rattle.http_wire.specs.Bodies.{BodyFault, IsBodyOf, IsCut, IsSized, TakesPart}
use Rattle.http_wire.specs.Connections.{closes, expects_continue}
use Rattle.http_wire.specs.Heads.{HasNoHead, HeadFault, TakesHead}
use Rattle.http_wire.specs.Reader.{place_after}
use Rattle.http_wire.specs.Requests.{Request}
use Rattle.http_wire.specs.Responses.{continue_text, response_text}
use Rattle.http_wire.specs.declared.error.WireError.{WireError}
use Rattle.http_wire.specs.declared.error.WireError.TheVariants as wire
use Rattle.http_wire.specs.declared.head.BodyLength.{BodyLength}
use Rattle.http_wire.specs.declared.head.BodyLength.TheVariants.{Chunked}
use Rattle.http_wire.specs.declared.head.Head.{Head}
use Rattle.load_server.specs.Exchanges.{Exchange, Behind, behind_texts, head_texts, interim, nothing_behind, refusal_of, texts_of}
use Rattle.load_server.specs.Refusing.{Refuses, Tries}
use Rattle.load_server.specs.Sessions.{Begins, ErrorStands, HasItsHead, HeadStands, HoldsNone, IsAt, ReadText, LastCloses, ReadsAll, StayOpen, Unread, Wrote, closing, is_in_body, joined, requests_of}
use Rattle.load_server.specs.Steps.{Answers, ClosesBy, EndsWith, HeadRead, Step, StepCounts, StepEnded, StepRead, StepWrote, Takes, Writes}
use Rattle.load_server.specs.declared.session_end.SessionEnd.{SessionEnd}
use Rattle.load_server.specs.declared.session_end.SessionEnd.TheVariants as ends
use Rattle.load_server.proofs.Going.{moved_none}
use Rattle.load_server.proofs.Continuing.{joined-append, moments_none}

-- ---- an end before a request was served

-- behind the requests stands what is told
abbrev pub Stand : ℕ → Option (List ℕ) → Behind → Type 0
Stand at text behind = IfSome text (λ t. HeadStands at t behind.head × ErrorStands at t behind.error)

if_told : (text : Option (List ℕ)) → IfSome text (λ t. Unit {0})
if_told None = tt
if_told (Some t) = tt

read_none : (end : SessionEnd) (behind : Behind) (at : ℕ) (text unread : Option (List ℕ)) → ((rest : List ℕ) → ReadsAll end [] rest) → Stand at text behind → IfSome text (λ t. Unread end at t unread behind.head) → IfSome text (ReadText end [] behind at unread)
read_none end behind at None unread all h u = tt
read_none end behind at (Some t) unread all h u = record { place = at; rest = t; begins = (refl, refl); head = h.0; error = h.1; all = all t; unread = u }

step_unserved : (at : ℕ) (text : Option (List ℕ)) (at_now : ℕ) (left unread before now given : Option (List ℕ)) (stands : List Entry → List Entry → Type 0) (seen own : List Entry) (end : SessionEnd) (behind : Behind)
    → StepCounts (Some end) 0 → ((rest : List ℕ) → ReadsAll end [] rest) → EndsWith end [] behind → HasItsHead behind → Wrote end before now (behind_texts behind) → Stand at text behind → IfSome text (λ t. Unread end at t unread behind.head) → stands seen own
    → Step at text at_now left unread before now given given stands seen own (Some end)
step_unserved at text at_now left unread before now given stands seen own end behind counts all ended named wrote stand u s =
    record {
      exchanges = [];
      behind = behind;
      one = counts;
      served = tt;
      moved = moved_none stands seen own s;
      moments = moments_none given;
      read = read_none end behind at text unread all stand u;
      named = named;
      wrote = wrote;
      ended = ended;
    }

-- the input has ended
pub step_done : (at : ℕ) (text : Option (List ℕ)) (at_now : ℕ) (left unread before given : Option (List ℕ)) (stands : List Entry → List Entry → Type 0) (seen own : List Entry) → IfSome text (λ t. t ≡ []) → stands seen own → Step at text at_now left unread before before given given stands seen own (Some ends.Done)
step_done at text at_now left unread before given stands seen own h s =
    record {
      exchanges = [];
      behind = nothing_behind;
      one = omega arith;
      served = tt;
      moved = moved_none stands seen own s;
      moments = moments_none given;
      read = go text h;
      named = tt;
      wrote = Appends-nil before;
      ended = (refl, inl refl);
    }
  where
    go : (t : Option (List ℕ)) → IfSome t (λ x. x ≡ []) → IfSome t (ReadText ends.Done [] nothing_behind at unread)
    go None e = tt
    go (Some x) e = record { place = at; rest = x; begins = (refl, refl); head = tt; error = tt; all = inl e; unread = tt }

pub takes_none : (at at_now : ℕ) (text left : Option (List ℕ)) → IfSome text (λ t. t ≡ []) → IfSome text (Takes (Some ends.Done) at at_now left)
takes_none at at_now None left e = tt
takes_none at at_now (Some t) left e = inl e

-- the texts behind a head, joined
texts_joined : (texts : List (List ℕ)) (text : List ℕ) → joined (texts ++ text ∷ []) ≡ joined texts ++ text
texts_joined texts text = joined-append texts (text ∷ []) ∙ ap (λ (l : List ℕ). joined texts ++ l) (append-nil text)

-- ---- a request that cannot be read

-- what was written for an error behind a head: the 400, or a front of it
tried : (at at_text : ℕ) (text : Option (List ℕ)) (at_now : ℕ) (left unread start before now given : Option (List ℕ)) (stands : List Entry → List Entry → Type 0) (seen own : List Entry) (head : Option Head) (error : WireError) (end : SessionEnd)
    → IsAt at error → is_some head ≡ is_in_body error → Tries at error before now end → Appends start before (joined (head_texts head)) → Stand at_text text (record { head = head; error = Some error }) → stands seen own
    → Step at_text text at_now left unread start now given given stands seen own (Some end)
tried at at_text text at_now left unread start before now given stands seen own head error (ends.Refused place) is named tries first stand s =
    step_unserved at_text text at_now left unread start now given stands seen own (ends.Refused place) (record { head = head; error = Some error }) refl (λ rest. tt) (tt, subst (λ (p : ℕ). IsAt p error) (sym tries.0) is) named
    (subst (λ (l : List ℕ). Appends start now l) (sym (texts_joined (head_texts head) (refusal_of error))) (Appends-trans start before now (joined (head_texts head)) (refusal_of error) first tries.1)) stand (if_told text) s
tried at at_text text at_now left unread start before now given stands seen own head error ends.WriteFault is named tries first stand s =
    step_unserved at_text text at_now left unread start now given stands seen own ends.WriteFault (record { head = head; error = Some error }) (omega arith) (λ rest. tt) (inl tt) named
    (head_texts head, refusal_of error, tries.0, refl, Appends-trans start before now (joined (head_texts head)) (take tries.0 (refusal_of error)) first tries.2) stand (if_told text) s
tried at at_text text at_now left unread start before now given stands seen own head error ends.Done is named tries first stand s = absurd tries
tried at at_text text at_now left unread start before now given stands seen own head error ends.ReadFault is named tries first stand s = absurd tries
tried at at_text text at_now left unread start before now given stands seen own head error ends.Enough is named tries first stand s = absurd tries
tried at at_text text at_now left unread start before now given stands seen own head error ends.NoMemory is named tries first stand s = absurd tries

-- nothing was written for it: a read failed, and what was read holds no whole request, or memory was short
left_alone : (at : ℕ) (text : Option (List ℕ)) (at_now : ℕ) (left unread start before now given : Option (List ℕ)) (stands : List Entry → List Entry → Type 0) (seen own : List Entry) (head : Option Head) (end : SessionEnd)
    → (end ≡ ends.ReadFault) ⊎ (end ≡ ends.NoMemory) → IfSome text (λ t. Unread end at t unread head) → Appends start before (joined (head_texts head)) → Keeps before now → Stand at text (record { head = head; error = None }) → stands seen own
    → Step at text at_now left unread start now given given stands seen own (Some end)
left_alone at text at_now left unread start before now given stands seen own head end which u first keeps stand s =
    step_unserved at text at_now left unread start now given stands seen own end (record { head = head; error = None }) (counts end which) (all end which) (ended end which) tt (wrote end which) stand u s
  where
    behind : Behind
    behind = record { head = head; error = None }

    whole : Appends start now (joined (head_texts head ++ []))
    whole = subst (λ (l : List (List ℕ)). Appends start now (joined l)) (sym (append-nil (head_texts head))) (Appends-kept start before now (joined (head_texts head)) first keeps)

    counts : (e : SessionEnd) → (e ≡ ends.ReadFault) ⊎ (e ≡ ends.NoMemory) → StepCounts (Some e) 0
    counts e (inl is) = subst (λ (x : SessionEnd). StepCounts (Some x) 0) (sym is) refl
    counts e (inr is) = subst (λ (x : SessionEnd). StepCounts (Some x) 0) (sym is) refl

    all : (e : SessionEnd) → (e ≡ ends.ReadFault) ⊎ (e ≡ ends.NoMemory) → (rest : List ℕ) → ReadsAll e [] rest
    all e (inl is) rest = subst (λ (x : SessionEnd). ReadsAll x [] rest) (sym is) tt
    all e (inr is) rest = subst (λ (x : SessionEnd). ReadsAll x [] rest) (sym is) tt

    ended : (e : SessionEnd) → (e ≡ ends.ReadFault) ⊎ (e ≡ ends.NoMemory) → EndsWith e [] (record { head = head; error = None })
    ended e (inl is) = subst (λ (x : SessionEnd). EndsWith x [] (record { head = head; error = None })) (sym is) (tt, refl)
    ended e (inr is) = subst (λ (x : SessionEnd). EndsWith x [] (record { head = head; error = None })) (sym is) (tt, refl)

    wrote : (e : SessionEnd) → (e ≡ ends.ReadFault) ⊎ (e ≡ ends.NoMemory) → Wrote e start now (head_texts head ++ [])
    wrote e (inl is) = subst (λ (x : SessionEnd). Wrote x start now (head_texts head ++ [])) (sym is) whole
    wrote e (inr is) = subst (λ (x : SessionEnd). Wrote x start now (head_texts head ++ [])) (sym is) whole

-- what stands there where it is refused, and where it is left alone
abbrev pub Stands : ℕ → Option (List ℕ) → Option Head → WireError → Type 0
Stands at text head error = Stand at text (record { head = head; error = Some error })

fault_unread : (at : ℕ) (text unread : Option (List ℕ)) (head : Option Head) (end : SessionEnd) → end ≡ ends.ReadFault → IfSome text (λ t. HoldsNone at t unread head) → IfSome text (λ t. Unread end at t unread head)
fault_unread at text unread head end e u = subst (λ (x : SessionEnd). IfSome text (λ t. Unread x at t unread head)) (sym e) u

memory_unread : (at : ℕ) (text unread : Option (List ℕ)) (head : Option Head) (end : SessionEnd) → end ≡ ends.NoMemory → IfSome text (λ t. Unread end at t unread head)
memory_unread at text unread head end e = subst (λ (x : SessionEnd). IfSome text (λ t. Unread x at t unread head)) (sym e) (if_told text)

-- what is known of an error that was met: where it stands, whether a head was read before it, and what was read where a read failed
pub record Meets (at : ℕ) (text left : Option (List ℕ)) (head : Option Head) (error : WireError) : Type 0 where
  pub stands : (p : ℕ) → IsAt p error → Stands at text head error
  pub named : (p : ℕ) → IsAt p error → is_some head ≡ is_in_body error
  pub unread : error ≡ wire.ReadFault → IfSome text (λ t. HoldsNone at t left head)

refused : (at : ℕ) (text : Option (List ℕ)) (at_now : ℕ) (left unread start before now given : Option (List ℕ)) (stands : List Entry → List Entry → Type 0) (seen own : List Entry) (head : Option Head) (error : WireError) (end : SessionEnd)
    → Refuses error before now end → Appends start before (joined (head_texts head)) → Stand at text (record { head = head; error = None }) → Meets at text unread head error → stands seen own
    → Step at text at_now left unread start now given given stands seen own (Some end)
refused at text at_now left unread start before now given stands seen own head (wire.BadHead p) end r first alone m s = tried p at text at_now left unread start before now given stands seen own head (wire.BadHead p) end refl (m.named p refl) r first (m.stands p refl) s
refused at text at_now left unread start before now given stands seen own head (wire.BadLength p) end r first alone m s = tried p at text at_now left unread start before now given stands seen own head (wire.BadLength p) end refl (m.named p refl) r first (m.stands p refl) s
refused at text at_now left unread start before now given stands seen own head (wire.BodyTooLong p) end r first alone m s = tried p at text at_now left unread start before now given stands seen own head (wire.BodyTooLong p) end refl (m.named p refl) r first (m.stands p refl) s
refused at text at_now left unread start before now given stands seen own head (wire.CutBody p got wanted) end r first alone m s = tried p at text at_now left unread start before now given stands seen own head (wire.CutBody p got wanted) end refl (m.named p refl) r first (m.stands p refl) s
refused at text at_now left unread start before now given stands seen own head (wire.BadChunk p) end r first alone m s = tried p at text at_now left unread start before now given stands seen own head (wire.BadChunk p) end refl (m.named p refl) r first (m.stands p refl) s
refused at text at_now left unread start before now given stands seen own head wire.ReadFault end (e, keeps) first alone m s = left_alone at text at_now left unread start before now given stands seen own head end (inl e) (fault_unread at text unread head end e (m.unread refl)) first keeps alone s
refused at text at_now left unread start before now given stands seen own head wire.NoMemory end (e, keeps) first alone m s = left_alone at text at_now left unread start before now given stands seen own head end (inr e) (memory_unread at text unread head end e) first keeps alone s

-- a step that refuses takes nothing that can be read
takes_tried : (place at at_now : ℕ) (text left before now : Option (List ℕ)) (head : Option Head) (error : WireError) (end : SessionEnd) → Tries place error before now end → Stands at text head error → IfSome text (Takes (Some end) at at_now left)
takes_tried place at at_now None left before now head error end tries stand = tt
takes_tried place at at_now (Some t) left before now head error (ends.Refused p) tries stand = (error, stand.1)
takes_tried place at at_now (Some t) left before now head error ends.WriteFault tries stand = tt
takes_tried place at at_now (Some t) left before now head error ends.Done tries stand = absurd tries
takes_tried place at at_now (Some t) left before now head error ends.ReadFault tries stand = absurd tries
takes_tried place at at_now (Some t) left before now head error ends.Enough tries stand = absurd tries
takes_tried place at at_now (Some t) left before now head error ends.NoMemory tries stand = absurd tries

takes_ended : (at at_now : ℕ) (text left : Option (List ℕ)) (end : SessionEnd) → (end ≡ ends.ReadFault) ⊎ (end ≡ ends.NoMemory) → IfSome text (Takes (Some end) at at_now left)
takes_ended at at_now None left end which = tt
takes_ended at at_now (Some t) left end (inl e) = subst (λ (x : SessionEnd). Takes (Some x) at at_now left t) (sym e) tt
takes_ended at at_now (Some t) left end (inr e) = subst (λ (x : SessionEnd). Takes (Some x) at at_now left t) (sym e) tt

pub takes_refused : (at at_now : ℕ) (text left unread before now : Option (List ℕ)) (head : Option Head) (error : WireError) (end : SessionEnd) → Refuses error before now end → Meets at text unread head error → IfSome text (Takes (Some end) at at_now left)
takes_refused at at_now text left unread before now head (wire.BadHead p) end r m = takes_tried p at at_now text left before now head (wire.BadHead p) end r (m.stands p refl)
takes_refused at at_now text left unread before now head (wire.BadLength p) end r m = takes_tried p at at_now text left before now head (wire.BadLength p) end r (m.stands p refl)
takes_refused at at_now text left unread before now head (wire.BodyTooLong p) end r m = takes_tried p at at_now text left before now head (wire.BodyTooLong p) end r (m.stands p refl)
takes_refused at at_now text left unread before now head (wire.CutBody p got wanted) end r m = takes_tried p at at_now text left before now head (wire.CutBody p got wanted) end r (m.stands p refl)
takes_refused at at_now text left unread before now head (wire.BadChunk p) end r m = takes_tried p at at_now text left before now head (wire.BadChunk p) end r (m.stands p refl)
takes_refused at at_now text left unread before now head wire.ReadFault end (e, keeps) m = takes_ended at at_now text left end (inl e)
takes_refused at at_now text left unread before now head wire.NoMemory end (e, keeps) m = takes_ended at at_now text left end (inr e)

-- ---- the head cannot be read

nothing_stands : (at : ℕ) (text : Option (List ℕ)) → Stand at text nothing_behind
nothing_stands at None = tt
nothing_stands at (Some t) = (tt, tt)

head_stands : (at : ℕ) (text : Option (List ℕ)) (f0 f1 : ℕ) (error : WireError) → HeadFault at text f0 f1 error → (p : ℕ) → IsAt p error → Stands at text None error
head_stands at None f0 f1 error h p is = tt
head_stands at (Some t) f0 f1 (wire.BadHead q) h p is = (tt, h)
head_stands at (Some t) f0 f1 (wire.BadLength q) h p is = (tt, h)
head_stands at (Some t) f0 f1 (wire.BodyTooLong q) h p is = absurd h
head_stands at (Some t) f0 f1 (wire.CutBody q got wanted) h p is = absurd h
head_stands at (Some t) f0 f1 (wire.BadChunk q) h p is = absurd h
head_stands at (Some t) f0 f1 wire.ReadFault h p is = absurd is
head_stands at (Some t) f0 f1 wire.NoMemory h p is = absurd is

head_named : (at : ℕ) (text : Option (List ℕ)) (f0 f1 : ℕ) (error : WireError) → HeadFault at text f0 f1 error → (p : ℕ) → IsAt p error → false ≡ is_in_body error
head_named at text f0 f1 (wire.BadHead q) h p is = refl
head_named at text f0 f1 (wire.BadLength q) h p is = refl
head_named at text f0 f1 (wire.BodyTooLong q) h p is = absurd h
head_named at text f0 f1 (wire.CutBody q got wanted) h p is = absurd h
head_named at text f0 f1 (wire.BadChunk q) h p is = absurd h
head_named at text f0 f1 wire.ReadFault h p is = absurd is
head_named at text f0 f1 wire.NoMemory h p is = absurd is

-- all that was read is pending, and holds no head
head_unread : (at : ℕ) (text : Option (List ℕ)) (pending : List ℕ) (unread : Option (List ℕ)) → Keeps text (prepend_known pending unread) → HasNoHead pending → IfSome text (λ t. HoldsNone at t unread None)
head_unread at None pending unread k h = tt
head_unread at (Some t) pending None k h = absurd k
head_unread at (Some t) pending (Some l) k h = (pending, h, sym k)

pub meets_no_head : (at : ℕ) (text unread : Option (List ℕ)) (pending : List ℕ) (f0 f1 : ℕ) (error : WireError) → HeadFault at text f0 f1 error → Keeps text (prepend_known pending unread) → (error ≡ wire.ReadFault → HasNoHead pending) → Meets at text unread None error
meets_no_head at text unread pending f0 f1 error fault keeps none = record {
  stands = head_stands at text f0 f1 error fault;
  named = head_named at text f0 f1 error fault;
  unread = λ e. head_unread at text pending unread keeps (none e);
}

pub step_no_head : (at : ℕ) (text : Option (List ℕ)) (at_now : ℕ) (left unread before now given : Option (List ℕ)) (stands : List Entry → List Entry → Type 0) (seen own : List Entry) (error : WireError) (end : SessionEnd)
    → Meets at text unread None error → Refuses error before now end → stands seen own → Step at text at_now left unread before now given given stands seen own (Some end)
step_no_head at text at_now left unread before now given stands seen own error end meets r s =
    refused at text at_now left unread before before now given stands seen own None error end r (Appends-nil before) (nothing_stands at text) meets s

-- ---- the body cannot be read

alone_stands : (at : ℕ) (text : Option (List ℕ)) (head : Head) (at_now : ℕ) (left : Option (List ℕ)) → HeadRead at text head at_now left → Stand at text (record { head = Some head; error = None })
alone_stands at None head at_now left h = tt
alone_stands at (Some t) head at_now left (rest, takes, e, f) = ((rest, takes), tt)

head_place : (at : ℕ) (t : List ℕ) (head : Head) (rest : List ℕ) → TakesHead at t head rest → head.at ≡ at
head_place at t head rest takes = ap (λ (h : Head). h.at) takes.is.2

sized_never : (body : BodyLength) → IsSized body → body ≡ Chunked → ⊥
sized_never body sized e = subst (λ (b : BodyLength). IsSized b) e sized

body_stands : (at : ℕ) (text : Option (List ℕ)) (head : Head) (at_now : ℕ) (left : Option (List ℕ)) (f0 f1 : ℕ) (error : WireError) → IsSized head.body → HeadRead at text head at_now left → BodyFault head left f0 f1 error → (p : ℕ) → IsAt p error → Stands at text (Some head) error
body_stands at None head at_now left f0 f1 error sized h fault p is = tt
body_stands at (Some t) head at_now left f0 f1 (wire.BadHead q) sized h fault p is = absurd fault
body_stands at (Some t) head at_now left f0 f1 (wire.BadLength q) sized h fault p is = absurd (sized_never head.body sized fault.1)
body_stands at (Some t) head at_now left f0 f1 (wire.BodyTooLong q) sized (rest, takes, e, f) fault p is = ((rest, takes), (fault.0 ∙ head_place at t head rest takes, head, rest, takes, fault.1))
body_stands at (Some t) head at_now left f0 f1 (wire.CutBody q got wanted) sized (rest, takes, e, f) fault p is =
    ((rest, takes), (fault.0 ∙ head_place at t head rest takes, head, rest, takes, subst (λ (l : Option (List ℕ)). IsCut head.body l got wanted) e fault.1))
body_stands at (Some t) head at_now left f0 f1 (wire.BadChunk q) sized h fault p is = absurd fault
body_stands at (Some t) head at_now left f0 f1 wire.ReadFault sized h fault p is = absurd is
body_stands at (Some t) head at_now left f0 f1 wire.NoMemory sized h fault p is = absurd is

body_named : (head : Head) (left : Option (List ℕ)) (f0 f1 : ℕ) (error : WireError) → IsSized head.body → BodyFault head left f0 f1 error → (p : ℕ) → IsAt p error → true ≡ is_in_body error
body_named head left f0 f1 (wire.BadHead q) sized fault p is = absurd fault
body_named head left f0 f1 (wire.BadLength q) sized fault p is = absurd (sized_never head.body sized fault.1)
body_named head left f0 f1 (wire.BodyTooLong q) sized fault p is = refl
body_named head left f0 f1 (wire.CutBody q got wanted) sized fault p is = refl
body_named head left f0 f1 (wire.BadChunk q) sized fault p is = absurd fault
body_named head left f0 f1 wire.ReadFault sized fault p is = absurd is
body_named head left f0 f1 wire.NoMemory sized fault p is = absurd is

body_unread : (at : ℕ) (text : Option (List ℕ)) (head : Head) (at_now : ℕ) (left unread : Option (List ℕ)) → HeadRead at text head at_now left → TakesPart head.body left unread → IfSome text (λ t. HoldsNone at t unread (Some head))
body_unread at None head at_now left unread h part = tt
body_unread at (Some t) head at_now left unread (rest, takes, e, f) part = (rest, takes, subst (λ (l : Option (List ℕ)). TakesPart head.body l unread) e part)

pub meets_no_body : (at : ℕ) (text unread : Option (List ℕ)) (head : Head) (at_head : ℕ) (behind : Option (List ℕ)) (f0 f1 : ℕ) (error : WireError) → IsSized head.body → HeadRead at text head at_head behind → BodyFault head behind f0 f1 error → (error ≡ wire.ReadFault → TakesPart head.body behind unread) → Meets at text unread (Some head) error
meets_no_body at text unread head at_head behind f0 f1 error sized read fault part = record {
  stands = body_stands at text head at_head behind f0 f1 error sized read fault;
  named = body_named head behind f0 f1 error sized fault;
  unread = λ e. body_unread at text head at_head behind unread read (part e);
}

pub step_no_body : (at : ℕ) (text : Option (List ℕ)) (head : Head) (at_head : ℕ) (behind : Option (List ℕ)) (at_now : ℕ) (left unread start before now given : Option (List ℕ)) (stands : List Entry → List Entry → Type 0) (seen own : List Entry) (error : WireError) (end : SessionEnd)
    → HeadRead at text head at_head behind → Appends start before (joined (interim head)) → Meets at text unread (Some head) error → Refuses error before now end → stands seen own → Step at text at_now left unread start now given given stands seen own (Some end)
step_no_body at text head at_head behind at_now left unread start before now given stands seen own error end read first meets r s =
    refused at text at_now left unread start before now given stands seen own (Some head) error end r first (alone_stands at text head at_head behind read) meets s

-- the interim response was not written whole
pub step_cut : (at : ℕ) (text : Option (List ℕ)) (head : Head) (at_head : ℕ) (behind : Option (List ℕ)) (at_now : ℕ) (left unread before now given : Option (List ℕ)) (stands : List Entry → List Entry → Type 0) (seen own : List Entry)
    → HeadRead at text head at_head behind → (expects_continue head ≡ true) × AppendsFront before now continue_text → stands seen own → Step at text at_now left unread before now given given stands seen own (Some ends.WriteFault)
step_cut at text head at_head behind at_now left unread before now given stands seen own read (due, (n, bound, wrote)) s =
    step_unserved at text at_now left unread before now given stands seen own ends.WriteFault (record { head = Some head; error = None }) (omega arith) (λ rest. tt) (inl tt) tt
    ([], continue_text, n, append-nil (interim head) ∙ ap (λ (b : Bool). cond b (continue_text ∷ []) []) due, wrote) (alone_stands at text head at_head behind read) (if_told text) s

pub takes_cut : (at at_now : ℕ) (text left : Option (List ℕ)) → IfSome text (Takes (Some ends.WriteFault) at at_now left)
takes_cut at at_now None left = tt
takes_cut at at_now (Some t) left = tt

-- ---- a request that was served

-- the exchange of an answer
abbrev exchanged : (q : Request) (before now given given_now : Option (List ℕ)) (stands : List Entry → List Entry → Type 0) (seen own : List Entry) (end : Option SessionEnd) → Answers q before now given given_now stands seen own end → Exchange
exchanged q before now given given_now stands seen own end a = record { request = q; moment = a.moment; calls = a.calls; response = a.response }

one_counts : (end : Option SessionEnd) (close : Bool) (before now : Option (List ℕ)) (text : List ℕ) → Writes end close before now text → StepCounts end 1
one_counts None close before now text w = refl
one_counts (Some ends.Done) close before now text w = omega arith
one_counts (Some ends.WriteFault) close before now text w = omega arith
one_counts (Some ends.ReadFault) close before now text w = absurd w
one_counts (Some ends.NoMemory) close before now text w = absurd w
one_counts (Some ends.Enough) close before now text w = absurd w
one_counts (Some (ends.Refused p)) close before now text w = absurd w

open_or_closes : (x : Exchange) (close : Bool) → closing x ≡ close → StayOpen (x ∷ []) ⊎ (LastCloses (x ∷ []) × (nothing_behind ≡ nothing_behind))
open_or_closes x true e = inr (([], x, refl, tt, e), refl)
open_or_closes x false e = inl (e, tt)

one_ended : (end : Option SessionEnd) (x : Exchange) (before now : Option (List ℕ)) (text : List ℕ) → Writes end (closing x) before now text → StepEnded end (x ∷ []) nothing_behind
one_ended None x before now text w = (x, refl, w.0, refl)
one_ended (Some ends.Done) x before now text w = (refl, inr ([], x, refl, tt, w.0))
one_ended (Some ends.WriteFault) x before now text w = open_or_closes x (closing x) refl
one_ended (Some ends.ReadFault) x before now text w = absurd w
one_ended (Some ends.NoMemory) x before now text w = absurd w
one_ended (Some ends.Enough) x before now text w = absurd w
one_ended (Some (ends.Refused p)) x before now text w = absurd w

one_wrote : (end : Option SessionEnd) (close : Bool) (start before now : Option (List ℕ)) (texts : List (List ℕ)) (text : List ℕ) → Appends start before (joined texts) → Writes end close before now text → StepWrote end start now (texts ++ text ∷ [])
one_wrote None close start before now texts text first w = subst (λ (l : List ℕ). Appends start now l) (sym (texts_joined texts text)) (Appends-trans start before now (joined texts) text first w.1)
one_wrote (Some ends.Done) close start before now texts text first w = subst (λ (l : List ℕ). Appends start now l) (sym (texts_joined texts text)) (Appends-trans start before now (joined texts) text first w.1)
one_wrote (Some ends.WriteFault) close start before now texts text first w = (texts, text, w.0, refl, Appends-trans start before now (joined texts) (take w.0 text) first w.2)
one_wrote (Some ends.ReadFault) close start before now texts text first w = absurd w
one_wrote (Some ends.NoMemory) close start before now texts text first w = absurd w
one_wrote (Some ends.Enough) close start before now texts text first w = absurd w
one_wrote (Some (ends.Refused p)) close start before now texts text first w = absurd w

one_read : (end : Option SessionEnd) (x : Exchange) (before now : Option (List ℕ)) (text : List ℕ) (at : ℕ) (t : List ℕ) (at_now : ℕ) (rest : List ℕ) (left unread : Option (List ℕ)) → Writes end (closing x) before now text → Begins at t (requests_of (x ∷ [])) at_now rest → left ≡ Some rest → StepRead end (x ∷ []) nothing_behind at at_now left unread t
one_read None x before now text at t at_now rest left unread w b e = (rest, b, e)
one_read (Some ends.Done) x before now text at t at_now rest left unread w b e = record { place = at_now; rest = rest; begins = b; head = tt; error = tt; all = inr ([], x, refl, tt, w.0); unread = tt }
one_read (Some ends.WriteFault) x before now text at t at_now rest left unread w b e = record { place = at_now; rest = rest; begins = b; head = tt; error = tt; all = tt; unread = tt }
one_read (Some ends.ReadFault) x before now text at t at_now rest left unread w b e = absurd w
one_read (Some ends.NoMemory) x before now text at t at_now rest left unread w b e = absurd w
one_read (Some ends.Enough) x before now text at t at_now rest left unread w b e = absurd w
one_read (Some (ends.Refused p)) x before now text at t at_now rest left unread w b e = absurd w

-- the text begins with the request
begins_one : (end : Option SessionEnd) (x : Exchange) (before now : Option (List ℕ)) (text : List ℕ) (at : ℕ) (told : Option (List ℕ)) (at_head : ℕ) (behind : Option (List ℕ)) (at_now : ℕ) (left unread : Option (List ℕ))
    → Writes end (closing x) before now text → HeadRead at told x.request.head at_head behind → IsBodyOf x.request.head.body x.request.body → Consumes behind left x.request.body → at_now ≡ place_after at_head (length x.request.body)
    → IfSome told (StepRead end (x ∷ []) nothing_behind at at_now left unread)
begins_one end x before now text at None at_head behind at_now left unread w read whole takes place = tt
begins_one end x before now text at (Some t) at_head behind at_now left unread w (rest, head, e, f) whole takes place =
    let here : Consumes (Some rest) left x.request.body = subst (λ (l : Option (List ℕ)). Consumes l left x.request.body) e takes in
    go left here
  where
    go : (l : Option (List ℕ)) → Consumes (Some rest) l x.request.body → StepRead end (x ∷ []) nothing_behind at at_now l unread t
    go None h = absurd h
    go (Some after) h = one_read end x before now text at t at_now after (Some after) unread w (rest, after, head, record { whole = whole; parts = h }, (place ∙ ap (λ (p : ℕ). place_after p (length x.request.body)) f, refl)) refl

pub step_served : (at : ℕ) (told : Option (List ℕ)) (head : Head) (body : List ℕ) (at_head : ℕ) (behind : Option (List ℕ)) (at_now : ℕ) (left unread start before now given given_now : Option (List ℕ)) (stands : List Entry → List Entry → Type 0) (seen own : List Entry) (end : Option SessionEnd)
    → HeadRead at told head at_head behind → Appends start before (joined (interim head)) → IsBodyOf head.body body → Consumes behind left body → at_now ≡ place_after at_head (length body)
    → Answers (record { head = head; body = body }) before now given given_now stands seen own end
    → Step at told at_now left unread start now given given_now stands seen own end
step_served at told head body at_head behind at_now left unread start before now given given_now stands seen own end read first whole takes place a =
    let x : Exchange = record { request = record { head = head; body = body }; moment = a.moment; calls = a.calls; response = a.response } in
    let text = response_text a.response.status (closes head) a.response.body in
    let texts : flat_map texts_of (x ∷ []) ++ behind_texts nothing_behind ≡ interim head ++ text ∷ [] = append-nil (flat_map texts_of (x ∷ [])) ∙ append-nil (texts_of x) in
    record {
      exchanges = x ∷ [];
      behind = nothing_behind;
      one = one_counts end (closes head) before now text a.wrote;
      served = (a.served, tt);
      moved = subst (λ (E : List Call). Moved stands seen own E) (sym (append-nil a.calls)) a.moved;
      moments = a.moments;
      read = begins_one end x before now text at told at_head behind at_now left unread a.wrote read whole takes place;
      named = tt;
      wrote = subst (λ (l : List (List ℕ)). StepWrote end start now l) (sym texts) (one_wrote end (closes head) start before now (interim head) text first a.wrote);
      ended = one_ended end x before now text a.wrote;
    }

-- what it takes of the text
takes_by : (end : Option SessionEnd) (q : Request) (at : ℕ) (t : List ℕ) (at_now : ℕ) (rest : List ℕ) (left : Option (List ℕ)) → ClosesBy (closes q.head) end → Begins at t (q ∷ []) at_now rest → left ≡ Some rest → Takes end at at_now left t
takes_by None q at t at_now rest left c b e = (q, rest, b, e, c)
takes_by (Some ends.Done) q at t at_now rest left c b e = inr (q, at_now, rest, b, c)
takes_by (Some ends.WriteFault) q at t at_now rest left c b e = tt
takes_by (Some ends.ReadFault) q at t at_now rest left c b e = absurd c
takes_by (Some ends.NoMemory) q at t at_now rest left c b e = absurd c
takes_by (Some ends.Enough) q at t at_now rest left c b e = absurd c
takes_by (Some (ends.Refused p)) q at t at_now rest left c b e = absurd c

pub takes_served : (at : ℕ) (told : Option (List ℕ)) (head : Head) (body : List ℕ) (at_head : ℕ) (behind : Option (List ℕ)) (at_now : ℕ) (left : Option (List ℕ)) (end : Option SessionEnd)
    → HeadRead at told head at_head behind → IsBodyOf head.body body → Consumes behind left body → at_now ≡ place_after at_head (length body) → ClosesBy (closes head) end → IfSome told (Takes end at at_now left)
takes_served at None head body at_head behind at_now left end read whole takes place c = tt
takes_served at (Some t) head body at_head behind at_now left end (rest, taken, e, f) whole takes place c =
    go left (subst (λ (l : Option (List ℕ)). Consumes l left body) e takes)
  where
    go : (l : Option (List ℕ)) → Consumes (Some rest) l body → Takes end at at_now l t
    go None h = absurd h
    go (Some after) h = takes_by end (record { head = head; body = body }) at t at_now after (Some after) c (rest, after, taken, record { whole = whole; parts = h }, (place ∙ ap (λ (p : ℕ). place_after p (length body)) f, refl)) refl

-- ---- what a reader answered

pub head_read : (at : ℕ) (text : Option (List ℕ)) (at_now : ℕ) (left : Option (List ℕ)) (r : Result (Option Head) WireError) (head : Head) → r ≡ Ok (Some head) → IfOk r (λ found. IfSome found (λ h. HeadRead at text h at_now left)) → HeadRead at text head at_now left
head_read at text at_now left r head e h = subst (λ (x : Result (Option Head) WireError). IfOk x (λ found. IfSome found (λ h. HeadRead at text h at_now left))) e h
