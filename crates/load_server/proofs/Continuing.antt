-- How a session goes on from request to request.
use Rattle.std.proofs.Common.{◌≡◌, ◌+◌, ◌<◌, ◌-◌, ℕ, false, List, [], ◌∷◌, ◌++◌, Option, Some, None, IfSome, inl, inr, refl, sym, ◌∙◌, ap, subst, append_assoc, append-nil, length, length-append, map, take, arith}
use Rattle.std.proofs.lemmas.List.{map-append}
use Rattle.std.proofs.lemmas.Grind.{flat_map-append}
use Rattle.std.proofs.KnownBytes.{Appends-nil, Appends-trans}
use Rattle.std.specs.Io.KnownBytes.{Appends}
use Rattle.std.specs.List.{AllByRecursion, flat_map}
use Rattle.front_defs.specs.declared.history.Call.{Call}
use Rattle.front_defs.specs.declared.history.Entry.{Entry}
use Rattle.front_defs.specs.Script.{Moved, after}
use Rattle.http_wire.specs.Reader.{place_after}
use Rattle.http_wire.specs.Requests.{Request}
use Rattle.load_server.specs.Exchanges.{Exchange, IsServed, Behind, behind_texts, nothing_behind, texts_of}
use Rattle.load_server.specs.Sessions.{AnswersAll, Begins, CountsTo, Ended, GivesMoments, LastCloses, ReadText, ReadsAll, SessionDid, StayOpen, Wrote, WroteFront, closing, joined, most_requests, requests_of}
use Rattle.load_server.specs.Steps.{EndsWith, Step, StepCounts, StepEnded, StepRead}
use Rattle.load_server.specs.declared.session_end.SessionEnd.{SessionEnd}
use Rattle.load_server.specs.declared.session_end.SessionEnd.TheVariants as ends
use Rattle.load_server.proofs.Asking.{answers_all}
use Rattle.load_server.proofs.Going.{moved_more, moved_none}

-- ---- parts of lists

all_append : {X : Type 0} (P : X → Type 0) (xs ys : List X) → AllByRecursion P xs → AllByRecursion P ys → AllByRecursion P (xs ++ ys)
all_append P [] ys a b = b
all_append P (x ∷ xs) ys a b = (a.0, all_append P xs ys a.1 b)

begins_more : (at : ℕ) (text : List ℕ) (qs : List Request) (place : ℕ) (rest : List ℕ) (ps : List Request) (end : ℕ) (left : List ℕ) → Begins at text qs place rest → Begins place rest ps end left → Begins at text (qs ++ ps) end left
begins_more at text [] place rest ps end left (e, f) b = subst (λ (p : ℕ). Begins p text ps end left) e (subst (λ (t : List ℕ). Begins place t ps end left) f b)
begins_more at text (q ∷ qs) place rest ps end left (behind, after_body, head, body, more) b = (behind, after_body, head, body, begins_more (place_after (place_after at (length text - length behind)) (length q.body)) after_body qs place rest ps end left more b)

-- ---- moments

pub moments_none : (given : Option (List ℕ)) → GivesMoments given given []
moments_none None = tt
moments_none (Some ms) = sym (append-nil ms)

moments_more : (a b c : Option (List ℕ)) (xs ys : List ℕ) → GivesMoments a b xs → GivesMoments b c ys → GivesMoments a c (xs ++ ys)
moments_more a b None xs ys p q = tt
moments_more a None (Some z) xs ys p q = absurd q
moments_more None (Some y) (Some z) xs ys p q = absurd p
moments_more (Some x) (Some y) (Some z) xs ys p q = q ∙ ap (λ (l : List ℕ). l ++ ys) p ∙ append_assoc x xs ys

-- ---- what was written

pub joined-append : (xs ys : List (List ℕ)) → joined (xs ++ ys) ≡ joined xs ++ joined ys
joined-append xs ys = flat_map-append (λ (t : List ℕ). t) xs ys

wrote_front : (before mid now : Option (List ℕ)) (whole texts : List (List ℕ)) → Appends before mid (joined whole) → WroteFront mid now texts → WroteFront before now (whole ++ texts)
wrote_front before mid now whole texts first (fronts, last, n, e, second) = (
  whole ++ fronts,
  last,
  n,
  ap (λ (l : List (List ℕ)). whole ++ l) e ∙ sym (append_assoc whole fronts (last ∷ [])),
  subst (λ (l : List ℕ). Appends before now l) (sym (append_assoc (joined whole) (joined fronts) (take n last)) ∙ ap (λ (l : List ℕ). l ++ take n last) (sym (joined-append whole fronts)))
      (Appends-trans before mid now (joined whole) (joined fronts ++ take n last) first second),
)

wrote_whole : (before mid now : Option (List ℕ)) (whole texts : List (List ℕ)) → Appends before mid (joined whole) → Appends mid now (joined texts) → Appends before now (joined (whole ++ texts))
wrote_whole before mid now whole texts first second =
    subst (λ (l : List ℕ). Appends before now l) (sym (joined-append whole texts)) (Appends-trans before mid now (joined whole) (joined texts) first second)

wrote_more : (end : SessionEnd) (before mid now : Option (List ℕ)) (whole texts : List (List ℕ)) → Appends before mid (joined whole) → Wrote end mid now texts → Wrote end before now (whole ++ texts)
wrote_more ends.Done before mid now whole texts a b = wrote_whole before mid now whole texts a b
wrote_more ends.ReadFault before mid now whole texts a b = wrote_whole before mid now whole texts a b
wrote_more ends.WriteFault before mid now whole texts a b = wrote_front before mid now whole texts a b
wrote_more (ends.Refused at) before mid now whole texts a b = wrote_whole before mid now whole texts a b
wrote_more ends.Enough before mid now whole texts a b = wrote_whole before mid now whole texts a b
wrote_more ends.NoMemory before mid now whole texts a b = wrote_whole before mid now whole texts a b

-- ---- which requests close

last_closes : (front xs : List Exchange) → StayOpen front → LastCloses xs → LastCloses (front ++ xs)
last_closes front xs stay (before, x, e, rest, c) =
    (front ++ before, x, ap (λ (l : List Exchange). front ++ l) e ∙ sym (append_assoc front before (x ∷ [])), all_append (λ x. closing x ≡ false) front before stay rest, c)

ended_more : (end : SessionEnd) (front xs : List Exchange) (behind : Behind) → length front < most_requests → StayOpen front → EndsWith end xs behind → Ended end (front ++ xs) behind
ended_more ends.Done front xs behind lt stay (e, inl none) =
    let same : front ++ xs ≡ front = ap (λ (l : List Exchange). front ++ l) none ∙ append-nil front in
    (e, inl (subst (λ (l : List Exchange). StayOpen l) (sym same) stay, subst (λ (l : List Exchange). length l < most_requests) (sym same) lt))
ended_more ends.Done front xs behind lt stay (e, inr last) = (e, inr (last_closes front xs stay last))
ended_more ends.ReadFault front xs behind lt stay (h, e) = (all_append (λ x. closing x ≡ false) front xs stay h, e)
ended_more ends.WriteFault front xs behind lt stay (inl h) = inl (all_append (λ x. closing x ≡ false) front xs stay h)
ended_more ends.WriteFault front xs behind lt stay (inr (h, e)) = inr (last_closes front xs stay h, e)
ended_more (ends.Refused at) front xs behind lt stay (h, e) = (all_append (λ x. closing x ≡ false) front xs stay h, e)
ended_more ends.Enough front xs behind lt stay (h, e) = (all_append (λ x. closing x ≡ false) front xs stay h, e)
ended_more ends.NoMemory front xs behind lt stay (h, e) = (all_append (λ x. closing x ≡ false) front xs stay h, e)

reads_more : (end : SessionEnd) (front xs : List Exchange) (rest : List ℕ) → StayOpen front → ReadsAll end xs rest → ReadsAll end (front ++ xs) rest
reads_more ends.Done front xs rest stay (inl e) = inl e
reads_more ends.Done front xs rest stay (inr last) = inr (last_closes front xs stay last)
reads_more ends.ReadFault front xs rest stay h = tt
reads_more ends.WriteFault front xs rest stay h = tt
reads_more (ends.Refused at) front xs rest stay h = tt
reads_more ends.Enough front xs rest stay h = tt
reads_more ends.NoMemory front xs rest stay h = tt

counts_more : (end : SessionEnd) (n k : ℕ) → n < most_requests → StepCounts (Some end) k → CountsTo end (n + k)
counts_more ends.Done n k lt h = omega arith
counts_more ends.ReadFault n k lt h = omega arith
counts_more ends.WriteFault n k lt h = omega arith
counts_more (ends.Refused at) n k lt h = omega arith
counts_more ends.Enough n k lt h = absurd h
counts_more ends.NoMemory n k lt h = omega arith

-- ---- the session so far: so many requests were served, none of which closes

pub record Sofar (told left before now given given_now : Option (List ℕ)) (at : ℕ) (stands : List Entry → List Entry → Type 0) (seen own : List Entry) (n : ℕ) : Type 0 where
  pub exchanges : List Exchange
  pub count : length exchanges ≡ n
  pub open_all : StayOpen exchanges
  pub served : AllByRecursion IsServed exchanges
  pub moved : Moved stands seen own (flat_map (λ x. x.calls) exchanges)
  pub moments : GivesMoments given given_now (map (λ x. x.moment) exchanges)
  pub read : IfSome told (λ text. (rest : List ℕ) × Begins 0 text (requests_of exchanges) at rest × (left ≡ Some rest))
  pub wrote : Appends before now (joined (flat_map texts_of exchanges))

read_start : (told left : Option (List ℕ)) → left ≡ told → IfSome told (λ text. (rest : List ℕ) × Begins 0 text [] 0 rest × (left ≡ Some rest))
read_start None left e = tt
read_start (Some text) left e = (text, (refl, refl), e)

pub sofar_start : (told left before given : Option (List ℕ)) (stands : List Entry → List Entry → Type 0) (seen own : List Entry) → left ≡ told → stands seen own → Sofar told left before before given given 0 stands seen own 0
sofar_start told left before given stands seen own e s =
    record {
      exchanges = [];
      count = refl;
      open_all = tt;
      served = tt;
      moved = moved_none stands seen own s;
      moments = moments_none given;
      read = read_start told left e;
      wrote = Appends-nil before;
    }

-- the calls of two lists of exchanges
calls_more : (old new : List Entry → List Entry → Type 0) (seen own : List Entry) (xs ys : List Exchange) → (m : Moved old seen own (flat_map (λ x. x.calls) xs)) → Moved new m.seen_now (after (flat_map (λ x. x.calls) xs) own) (flat_map (λ x. x.calls) ys) → Moved new seen own (flat_map (λ x. x.calls) (xs ++ ys))
calls_more old new seen own xs ys m n =
    subst (λ (E : List Call). Moved new seen own E) (sym (flat_map-append (λ (x : Exchange). x.calls) xs ys)) (moved_more old new seen own (flat_map (λ x. x.calls) xs) (flat_map (λ x. x.calls) ys) m n)

moments_both : (a b c : Option (List ℕ)) (xs ys : List Exchange) → GivesMoments a b (map (λ x. x.moment) xs) → GivesMoments b c (map (λ x. x.moment) ys) → GivesMoments a c (map (λ x. x.moment) (xs ++ ys))
moments_both a b c xs ys p q = subst (λ (ms : List ℕ). GivesMoments a c ms) (sym (map-append (λ (x : Exchange). x.moment) xs ys)) (moments_more a b c _ _ p q)

one_more : (xs : List Exchange) (behind : Behind) → StepEnded None xs behind → StayOpen xs × (behind_texts behind ≡ []) × (length xs ≡ 1)
one_more xs behind (x, e, c, b) = (subst (λ (l : List Exchange). StayOpen l) (sym e) (c, tt), ap behind_texts b, ap length e)

read_more : (told left left_now unread : Option (List ℕ)) (at at_now : ℕ) (xs ys : List Exchange) (behind : Behind) → IfSome told (λ text. (rest : List ℕ) × Begins 0 text (requests_of xs) at rest × (left ≡ Some rest)) → IfSome left (StepRead None ys behind at at_now left_now unread)
    → IfSome told (λ text. (rest : List ℕ) × Begins 0 text (requests_of (xs ++ ys)) at_now rest × (left_now ≡ Some rest))
read_more None left left_now unread at at_now xs ys behind p q = tt
read_more (Some text) left left_now unread at at_now xs ys behind (rest, b, e) q =
    let here : StepRead None ys behind at at_now left_now unread rest = subst (λ (l : Option (List ℕ)). IfSome l (StepRead None ys behind at at_now left_now unread)) e q in
    (here.0, subst (λ (qs : List Request). Begins 0 text qs at_now here.0) (sym (map-append (λ (x : Exchange). x.request) xs ys)) (begins_more 0 text (requests_of xs) at rest (requests_of ys) at_now here.0 b here.1), here.2)

pub sofar_more : (told left left_now unread before mid now given given_mid given_now : Option (List ℕ)) (at at_now : ℕ) (old new : List Entry → List Entry → Type 0) (seen own : List Entry) (n : ℕ)
    → Sofar told left before mid given given_mid at old seen own n
    → ((s o : List Entry) → old s o → Step at left at_now left_now unread mid now given_mid given_now new s o None)
    → Sofar told left_now before now given given_now at_now new seen own (n + 1)
sofar_more told left left_now unread before mid now given given_mid given_now at at_now old new seen own n s step =
    let m = s.moved in
    let t = step m.seen_now (after (flat_map (λ x. x.calls) s.exchanges) own) m.now in
    let one = one_more t.exchanges t.behind t.ended in
    let texts : flat_map texts_of t.exchanges ++ behind_texts t.behind ≡ flat_map texts_of t.exchanges = ap (λ (l : List (List ℕ)). flat_map texts_of t.exchanges ++ l) one.1 ∙ append-nil (flat_map texts_of t.exchanges) in
    record {
      exchanges = s.exchanges ++ t.exchanges;
      count = length-append s.exchanges t.exchanges ∙ (let a = s.count in let b = one.2 in omega arith);
      open_all = all_append (λ x. closing x ≡ false) s.exchanges t.exchanges s.open_all one.0;
      served = all_append IsServed s.exchanges t.exchanges s.served t.served;
      moved = calls_more old new seen own s.exchanges t.exchanges m t.moved;
      moments = moments_both given given_mid given_now s.exchanges t.exchanges s.moments t.moments;
      read = read_more told left left_now unread at at_now s.exchanges t.exchanges t.behind s.read t.read;
      wrote = subst (λ (l : List (List ℕ)). Appends before now (joined l)) (sym (flat_map-append texts_of s.exchanges t.exchanges))
          (wrote_whole before mid now (flat_map texts_of s.exchanges) (flat_map texts_of t.exchanges) s.wrote (subst (λ (l : List (List ℕ)). Appends mid now (joined l)) texts t.wrote));
    }

read_last : (end : SessionEnd) (told left unread : Option (List ℕ)) (at : ℕ) (xs ys : List Exchange) (behind : Behind) → StayOpen xs → IfSome told (λ text. (rest : List ℕ) × Begins 0 text (requests_of xs) at rest × (left ≡ Some rest)) → IfSome left (ReadText end ys behind at unread)
    → IfSome told (ReadText end (xs ++ ys) behind 0 unread)
read_last end None left unread at xs ys behind stay p q = tt
read_last end (Some text) left unread at xs ys behind stay (rest, b, e) q =
    let here : ReadText end ys behind at unread rest = subst (λ (l : Option (List ℕ)). IfSome l (ReadText end ys behind at unread)) e q in
    record {
      place = here.place;
      rest = here.rest;
      begins = subst (λ (qs : List Request). Begins 0 text qs here.place here.rest) (sym (map-append (λ (x : Exchange). x.request) xs ys)) (begins_more 0 text (requests_of xs) at rest (requests_of ys) here.place here.rest b here.begins);
      head = here.head;
      error = here.error;
      all = reads_more end xs ys here.rest stay here.all;
      unread = here.unread;
    }

pub session_ends : (told left left_now unread before mid now given given_mid given_now : Option (List ℕ)) (at at_now : ℕ) (old new : List Entry → List Entry → Type 0) (seen own : List Entry) (n : ℕ) (end : SessionEnd)
    → n < most_requests
    → Sofar told left before mid given given_mid at old seen own n
    → ((s o : List Entry) → old s o → Step at left at_now left_now unread mid now given_mid given_now new s o (Some end))
    → SessionDid told unread before now given given_now new seen own end
session_ends told left left_now unread before mid now given given_mid given_now at at_now old new seen own n end lt s step =
    let m = s.moved in
    let t = step m.seen_now (after (flat_map (λ x. x.calls) s.exchanges) own) m.now in
    let texts : flat_map texts_of (s.exchanges ++ t.exchanges) ++ behind_texts t.behind ≡ flat_map texts_of s.exchanges ++ (flat_map texts_of t.exchanges ++ behind_texts t.behind) =
    ap (λ (l : List (List ℕ)). l ++ behind_texts t.behind) (flat_map-append texts_of s.exchanges t.exchanges) ∙ append_assoc (flat_map texts_of s.exchanges) (flat_map texts_of t.exchanges) (behind_texts t.behind) in
    let read = read_last end told left unread at s.exchanges t.exchanges t.behind s.open_all s.read t.read in
    let short : length s.exchanges < most_requests = let a = s.count in omega (arith, a, lt) in
    let ended = ended_more end s.exchanges t.exchanges t.behind short s.open_all t.ended in
    record {
      exchanges = s.exchanges ++ t.exchanges;
      behind = t.behind;
      served = all_append IsServed s.exchanges t.exchanges s.served t.served;
      moved = calls_more old new seen own s.exchanges t.exchanges m t.moved;
      moments = moments_both given given_mid given_now s.exchanges t.exchanges s.moments t.moments;
      read = read;
      named = t.named;
      wrote = subst (λ (l : List (List ℕ)). Wrote end before now l) (sym texts) (wrote_more end before mid now (flat_map texts_of s.exchanges) (flat_map texts_of t.exchanges ++ behind_texts t.behind) s.wrote t.wrote);
      ended = ended;
      answered = answers_all told unread end (s.exchanges ++ t.exchanges) t.behind read ended;
      count = subst (λ (k : ℕ). CountsTo end k) (ap (λ (k : ℕ). k + length t.exchanges) (sym s.count) ∙ sym (length-append s.exchanges t.exchanges)) (counts_more end n (length t.exchanges) lt t.one);
    }

read_enough : (told left unread : Option (List ℕ)) (at : ℕ) (xs : List Exchange) → IfSome told (λ text. (rest : List ℕ) × Begins 0 text (requests_of xs) at rest × (left ≡ Some rest)) → IfSome told (ReadText ends.Enough xs nothing_behind 0 unread)
read_enough None left unread at xs p = tt
read_enough (Some text) left unread at xs (rest, b, e) = record { place = at; rest = rest; begins = b; head = tt; error = tt; all = tt; unread = tt }

enough_answers : (told : Option (List ℕ)) (xs : List Exchange) → IfSome told (AnswersAll ends.Enough xs)
enough_answers None xs = tt
enough_answers (Some text) xs = λ qs asks e. absurd (never_done e)
  where
    never_done : ends.Enough ≡ ends.Done → ⊥
    never_done e = subst (λ (x : SessionEnd). StepCounts (Some x) 0) (sym e) (omega arith)

pub session_enough : (told left unread before now given given_now : Option (List ℕ)) (at : ℕ) (stands : List Entry → List Entry → Type 0) (seen own : List Entry) (n : ℕ) → n ≡ most_requests → Sofar told left before now given given_now at stands seen own n → SessionDid told unread before now given given_now stands seen own ends.Enough
session_enough told left unread before now given given_now at stands seen own n e s =
    record {
      exchanges = s.exchanges;
      behind = nothing_behind;
      served = s.served;
      moved = s.moved;
      moments = s.moments;
      read = read_enough told left unread at s.exchanges s.read;
      named = tt;
      answered = enough_answers told s.exchanges;
      wrote = subst (λ (l : List (List ℕ)). Appends before now (joined l)) (sym (append-nil (flat_map texts_of s.exchanges))) s.wrote;
      ended = (s.open_all, refl);
      count = s.count ∙ e;
    }
