-- What a text asks for, request after request: a session takes these requests and no others.
use Rattle.std.proofs.Common.{◌≡◌, ◌+◌, ◌-◌, ◌<◌, ℕ, Bool, true, false, List, [], ◌∷◌, ◌++◌, Option, Some, None, IfSome, inl, inr, ◌⊎◌, refl, sym, ◌∙◌, ap, subst, length, arith}
use Rattle.std.proofs.lemmas.List.{map-append}
use Rattle.http_wire.specs.Connections.{closes}
use Rattle.http_wire.specs.Heads.{TakesHead}
use Rattle.http_wire.specs.Reader.{place_after}
use Rattle.http_wire.specs.Requests.{Fails, Request, TakesBody}
use Rattle.http_wire.specs.declared.error.WireError.{WireError}
use Rattle.http_wire.specs.declared.head.Head.{Head}
use Rattle.http_wire.proofs.Unique.{bodies, empty, fails-or-takes, heads, unique}
use Rattle.load_server.specs.Exchanges.{Behind, Exchange}
use Rattle.load_server.specs.Sessions.{AllStayOpen, AnswersAll, AsksFor, AsksFrom, Begins, Ended, IsComplete, LastCloses, LastOneCloses, ReadText, StayOpen, most_requests, requests_of}
use Rattle.load_server.specs.Steps.{Takes}
use Rattle.load_server.specs.declared.session_end.SessionEnd.{SessionEnd}
use Rattle.load_server.specs.declared.session_end.SessionEnd.TheVariants as ends

-- ---- the first request of a text

-- one request stands at the front of the text, and behind it the rest at its place
record First (at : ℕ) (text : List ℕ) (q : Request) (place : ℕ) (rest : List ℕ) : Type 0 where
  behind : List ℕ
  head : TakesHead at text q.head behind
  body : TakesBody behind q.head q.body rest
  is : place ≡ place_after (place_after at (length text - length behind)) (length q.body)

-- two first requests are one
record Same (q p : Request) (place other : ℕ) (rest left : List ℕ) : Type 0 where
  request : q ≡ p
  places : place ≡ other
  rests : rest ≡ left

same_first : (at : ℕ) (text : List ℕ) (q p : Request) (place other : ℕ) (rest left : List ℕ) → First at text q place rest → First at text p other left → Same q p place other rest left
same_first at text q p place other rest left x y =
    let h = heads at text q.head p.head x.behind y.behind x.head y.head in
    let there : TakesBody x.behind q.head p.body left = subst (λ (z : Head). TakesBody x.behind z p.body left) (sym h.0) (subst (λ (t : List ℕ). TakesBody t p.head p.body left) (sym h.1) y.body) in
    let b = bodies x.behind q.head q.body p.body rest left x.body there in
    record {
      request = λ i. record { head = h.0 i; body = b.0 i };
      places = x.is ∙ ap (λ (t : List ℕ). place_after (place_after at (length text - length t)) (length q.body)) h.1 ∙ ap (λ (t : List ℕ). place_after (place_after at (length text - length y.behind)) (length t)) b.0 ∙ sym y.is;
      rests = b.1;
    }

never_first : (at : ℕ) (q : Request) (place : ℕ) (rest : List ℕ) → First at [] q place rest → ⊥
never_first at q place rest f = empty f.head.tree f.behind f.head.begins

no_first : (at : ℕ) (text : List ℕ) (q : Request) (place : ℕ) (rest : List ℕ) → text ≡ [] → First at text q place rest → ⊥
no_first at text q place rest e f = never_first at q place rest (subst (λ (t : List ℕ). First at t q place rest) e f)

-- ---- which one closes

nil_or_more : {X : Type 0} (front : List X) (x : X) → [] ≡ front ++ x ∷ [] → ⊥
nil_or_more [] x e = cc
nil_or_more (y ∷ ys) x e = cc

last_none : LastOneCloses [] → ⊥
last_none (front, x, e, stay, c) = nil_or_more front x e

clash : (b : Bool) → b ≡ true → b ≡ false → ⊥
clash b t f = cc

-- the first one stays open, so that a later one closes
last_later : (q : Request) (qs : List Request) → closes q.head ≡ false → LastOneCloses (q ∷ qs) → LastOneCloses qs
last_later q qs open_one ([], x, e, stay, c) =
    let same : q ≡ x = cc in
    absurd (clash (closes q.head) (ap (λ (r : Request). closes r.head) same ∙ c) open_one)
last_later q qs open_one (f ∷ fs, x, e, stay, c) =
    let rest : qs ≡ fs ++ x ∷ [] = cc in
    (fs, x, rest, stay.1, c)

-- the first one closes, so that it is the last
last_first : (q : Request) (qs : List Request) → closes q.head ≡ true → LastOneCloses (q ∷ qs) → qs ≡ []
last_first q qs closing_one ([], x, e, stay, c) = cc
last_first q qs closing_one (f ∷ fs, x, e, stay, c) =
    let same : q ≡ f = cc in
    absurd (clash (closes q.head) closing_one (ap (λ (r : Request). closes r.head) same ∙ stay.0))

-- ---- what is asked for behind the first request

-- the first of the requests that a text asks for
record Asked (n at : ℕ) (q : Request) (qs : List Request) (text : List ℕ) : Type 0 where
  place : ℕ
  rest : List ℕ
  first : First at text q place rest
  later : closes q.head ≡ false → AsksFrom (n + 1) place qs rest
  only : closes q.head ≡ true → qs ≡ []

asked : (n at : ℕ) (q : Request) (qs : List Request) (text : List ℕ) → AsksFrom n at (q ∷ qs) text → Asked n at q qs text
asked n at q qs text (inl ((behind, left, head, body, more), stay, lt)) = record {
  place = place_after (place_after at (length text - length behind)) (length q.body);
  rest = left;
  first = record { behind = behind; head = head; body = body; is = refl };
  later = λ _. inl (more, stay.1, omega arith);
  only = λ c. absurd (clash (closes q.head) c stay.0);
}
asked n at q qs text (inr (place, rest, (behind, left, head, body, more), last, le)) = record {
  place = place_after (place_after at (length text - length behind)) (length q.body);
  rest = left;
  first = record { behind = behind; head = head; body = body; is = refl };
  later = λ o. inr (place, rest, more, last_later q qs o last, omega arith);
  only = λ c. last_first q qs c last;
}

-- nothing more is asked for: the text has ended
asked_none : (n at : ℕ) (text : List ℕ) → AsksFrom n at [] text → text ≡ []
asked_none n at text (inl (e, stay, lt)) = e
asked_none n at text (inr (place, rest, b, last, le)) = absurd (last_none last)

-- ---- all that is asked for is answered

-- the requests that were taken: the text has ended behind them, or the last one closes
over_later : (p : Request) (ps : List Request) (rest : List ℕ) → closes p.head ≡ false → ((rest ≡ []) × AllStayOpen (p ∷ ps)) ⊎ LastOneCloses (p ∷ ps) → ((rest ≡ []) × AllStayOpen ps) ⊎ LastOneCloses ps
over_later p ps rest o (inl (e, stay)) = inl (e, stay.1)
over_later p ps rest o (inr last) = inr (last_later p ps o last)

over_only : (p : Request) (ps : List Request) (rest : List ℕ) → closes p.head ≡ true → ((rest ≡ []) × AllStayOpen (p ∷ ps)) ⊎ LastOneCloses (p ∷ ps) → ps ≡ []
over_only p ps rest c (inl (e, stay)) = absurd (clash (closes p.head) c stay.0)
over_only p ps rest c (inr last) = last_first p ps c last

over_none : (rest : List ℕ) → ((rest ≡ []) × AllStayOpen []) ⊎ LastOneCloses [] → rest ≡ []
over_none rest (inl (e, stay)) = e
over_none rest (inr last) = absurd (last_none last)

same_requests : (ps qs : List Request) (n at : ℕ) (text : List ℕ) (place : ℕ) (rest : List ℕ) → Begins at text ps place rest → ((rest ≡ []) × AllStayOpen ps) ⊎ LastOneCloses ps → AsksFrom n at qs text → ps ≡ qs
same_requests [] [] n at text place rest b over a = refl
same_requests [] (q ∷ qs) n at text place rest (e, f) over a =
    let x = asked n at q qs text a in
    absurd (no_first at text q x.place x.rest (sym f ∙ over_none rest over) x.first)
same_requests (p ∷ ps) [] n at text place rest (behind, left, head, body, more) over a =
    absurd (no_first at text p (place_after (place_after at (length text - length behind)) (length p.body)) left (asked_none n at text a) (record { behind = behind; head = head; body = body; is = refl }))
same_requests (p ∷ ps) (q ∷ qs) n at text place rest (behind, left, head, body, more) over a =
    let x = asked n at q qs text a in
    let first : First at text p next left = record { behind = behind; head = head; body = body; is = refl } in
    let same = same_first at text p q next x.place left x.rest first x.first in
    go x same (λ o there. same_requests ps qs (n + 1) next left place rest more (over_later p ps rest o over) there) (closes p.head) refl
  where
    next : ℕ
    next = place_after (place_after at (length text - length behind)) (length p.body)

    go : (x : Asked n at q qs text) → Same p q next x.place left x.rest → (closes p.head ≡ false → AsksFrom (n + 1) next qs left → ps ≡ qs) → (b : Bool) → closes p.head ≡ b → p ∷ ps ≡ q ∷ qs
    go x same tails_are true c =
        let none : ps ≡ [] = over_only p ps rest c over in
        let empty_too : qs ≡ [] = x.only (ap (λ (r : Request). closes r.head) (sym same.request) ∙ c) in
        let one = same.request in
        cc (one, none, empty_too)
    go x same tails_are false o =
        let open_too : closes q.head ≡ false = ap (λ (r : Request). closes r.head) (sym same.request) ∙ o in
        let there : AsksFrom (n + 1) next qs left = subst (λ (k : ℕ). AsksFrom (n + 1) k qs left) (sym same.places) (subst (λ (t : List ℕ). AsksFrom (n + 1) x.place qs t) (sym same.rests) (x.later open_too)) in
        let tails : ps ≡ qs = tails_are o there in
        let one = same.request in
        cc (one, tails)

open_requests : (xs : List Exchange) → StayOpen xs → AllStayOpen (requests_of xs)
open_requests [] stay = tt
open_requests (x ∷ xs) stay = (stay.0, open_requests xs stay.1)

last_request : (xs : List Exchange) → LastCloses xs → LastOneCloses (requests_of xs)
last_request xs (front, x, e, stay, c) = (requests_of front, x.request, ap requests_of e ∙ map-append (λ (y : Exchange). y.request) front (x ∷ []), open_requests front stay, c)

over_requests : (xs : List Exchange) (rest : List ℕ) → (rest ≡ []) ⊎ LastCloses xs → (StayOpen xs × (length xs < most_requests)) ⊎ LastCloses xs → ((rest ≡ []) × AllStayOpen (requests_of xs)) ⊎ LastOneCloses (requests_of xs)
over_requests xs rest (inr last) stands = inr (last_request xs last)
over_requests xs rest (inl e) (inr last) = inr (last_request xs last)
over_requests xs rest (inl e) (inl (stay, lt)) = inl (e, open_requests xs stay)

pub answers_all : (told unread : Option (List ℕ)) (end : SessionEnd) (xs : List Exchange) (behind : Behind) → IfSome told (ReadText end xs behind 0 unread) → Ended end xs behind → IfSome told (AnswersAll end xs)
answers_all None unread end xs behind read ended = tt
answers_all (Some text) unread end xs behind read ended = λ qs asks e.
    let r : ReadText ends.Done xs behind 0 unread text = subst (λ (x : SessionEnd). ReadText x xs behind 0 unread text) e read in
    let d : Ended ends.Done xs behind = subst (λ (x : SessionEnd). Ended x xs behind) e ended in
    same_requests (requests_of xs) qs 0 0 text r.place r.rest r.begins (over_requests xs r.rest r.all d.1) asks

-- ---- step by step

-- Where the text asked for requests, what is left of it asks for the rest of them after n were answered.
abbrev pub Asking : Option (List ℕ) → Option (List ℕ) → ℕ → ℕ → Type 0
Asking told left at n = IfSome told (λ text. (qs : List Request) → AsksFor qs text → (rest : List ℕ) × (left ≡ Some rest) × (ps : List Request) × AsksFrom n at ps rest)

pub asking_start : (told left : Option (List ℕ)) → left ≡ told → Asking told left 0 0
asking_start None left e = tt
asking_start (Some text) left e = λ qs asks. (text, e, qs, asks)

-- one request was taken, which stays open
asks_on : (n at : ℕ) (ps : List Request) (text : List ℕ) (q : Request) (place : ℕ) (rest : List ℕ) → AsksFrom n at ps text → Begins at text (q ∷ []) place rest → closes q.head ≡ false → (qs : List Request) × AsksFrom (n + 1) place qs rest
asks_on n at [] text q place rest a (behind, left, head, body, (e, f)) o =
    absurd (no_first at text q (place_after (place_after at (length text - length behind)) (length q.body)) left (asked_none n at text a) (record { behind = behind; head = head; body = body; is = refl }))
asks_on n at (p ∷ ps) text q place rest a (behind, left, head, body, (e, f)) o =
    let x = asked n at p ps text a in
    let same = same_first at text q p place x.place rest x.rest (record { behind = behind; head = head; body = subst (λ (t : List ℕ). TakesBody behind q.head q.body t) (sym f) body; is = e }) x.first in
    let open_too : closes p.head ≡ false = ap (λ (r : Request). closes r.head) (sym same.request) ∙ o in
    (ps, subst (λ (k : ℕ). AsksFrom (n + 1) k ps rest) (sym same.places) (subst (λ (t : List ℕ). AsksFrom (n + 1) x.place ps t) (sym same.rests) (x.later open_too)))

pub asking_more : (told left left_now : Option (List ℕ)) (at at_now n : ℕ) → Asking told left at n → IfSome left (Takes None at at_now left_now) → Asking told left_now at_now (n + 1)
asking_more None left left_now at at_now n asking takes = tt
asking_more (Some text) left left_now at at_now n asking takes = λ qs asks.
    let (rest, e, ps, from) = asking qs asks in
    let t : Takes None at at_now left_now rest = subst (λ (l : Option (List ℕ)). IfSome l (Takes None at at_now left_now)) e takes in
    let on = asks_on n at ps rest t.0 at_now t.1 from t.2 t.4 in
    (t.1, t.3, on.0, on.1)

-- a request that cannot be read is not asked for
fails_never : (n at : ℕ) (ps : List Request) (text : List ℕ) (error : WireError) → AsksFrom n at ps text → Fails at text error → ⊥
fails_never n at [] text error a fails =
    let ended : text ≡ [] = asked_none n at text a in
    let same = unique at text [] [] None (Some error) ended fails in
    let no : None ≡ Some error = same.1 in absurd (cc)
fails_never n at (p ∷ ps) text error a fails =
    let x = asked n at p ps text a in
    fails-or-takes at text error p.head x.first.behind p.body x.rest fails x.first.head x.first.body

ends_so : (end : SessionEnd) (n at at_now : ℕ) (ps : List Request) (text : List ℕ) (left : Option (List ℕ)) → (end ≡ ends.ReadFault → ⊥) → (end ≡ ends.WriteFault → ⊥) → AsksFrom n at ps text → Takes (Some end) at at_now left text → (end ≡ ends.Done) ⊎ (end ≡ ends.NoMemory)
ends_so ends.Done n at at_now ps text left no_read no_write a takes = inl refl
ends_so ends.NoMemory n at at_now ps text left no_read no_write a takes = inr refl
ends_so ends.ReadFault n at at_now ps text left no_read no_write a takes = absurd (no_read refl)
ends_so ends.WriteFault n at at_now ps text left no_read no_write a takes = absurd (no_write refl)
ends_so ends.Enough n at at_now ps text left no_read no_write a takes = absurd takes
ends_so (ends.Refused p) n at at_now ps text left no_read no_write a takes = absurd (fails_never n at ps text takes.0 a takes.1)

pub asking_ends : (told left left_now : Option (List ℕ)) (at at_now n : ℕ) (end : SessionEnd) → (end ≡ ends.ReadFault → ⊥) → (end ≡ ends.WriteFault → ⊥) → Asking told left at n → IfSome left (Takes (Some end) at at_now left_now) → IfSome told (IsComplete end)
asking_ends None left left_now at at_now n end no_read no_write asking takes = tt
asking_ends (Some text) left left_now at at_now n end no_read no_write asking takes = λ qs asks.
    let (rest, e, ps, from) = asking qs asks in
    let t : Takes (Some end) at at_now left_now rest = subst (λ (l : Option (List ℕ)). IfSome l (Takes (Some end) at at_now left_now)) e takes in
    ends_so end n at at_now ps rest left_now no_read no_write from t

-- as many were answered as may be: nothing more is asked for
asks_never : (n at : ℕ) (ps : List Request) (text : List ℕ) → n ≡ most_requests → AsksFrom n at ps text → ⊥
asks_never n at ps text e (inl (requests, stay, lt)) = omega (arith, e, lt)
asks_never n at [] text e (inr (place, rest, b, last, le)) = last_none last
asks_never n at (p ∷ ps) text e (inr (place, rest, b, last, le)) = omega (arith, e, le)

pub asking_enough : (told left : Option (List ℕ)) (at n : ℕ) (end : SessionEnd) → n ≡ most_requests → Asking told left at n → IfSome told (IsComplete end)
asking_enough None left at n end e asking = tt
asking_enough (Some text) left at n end e asking = λ qs asks.
    let (rest, is, ps, from) = asking qs asks in
    absurd (asks_never n at ps rest e from)
