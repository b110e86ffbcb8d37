-- A text has one list of requests, and one end.
use Rattle.std.proofs.Common.{◌≡◌, ◌≢◌, ◌-◌, ◌∙◌, inl, inr, ℕ, Option, Some, None, List, [], ◌∷◌, ◌++◌, length, refl, sym, ap, subst, arith, length-append}
use Rattle.std.proofs.lemmas.List.Elements.{All-head}
use Rattle.std.specs.Str.Parse.{digits_value}
use Rattle.httparse.specs.Grammar.{RequestHead, print_blank, print_end, print_section, print_version}
use Rattle.httparse.proofs.GrammarLemmas.{print_request-append, request_unique}
use Rattle.http_wire.specs.declared.error.WireError.{WireError}
use Rattle.http_wire.specs.declared.error.WireError.TheVariants.{BadHead, BadLength, BodyTooLong, CutBody, BadChunk, ReadFault, NoMemory}
use Rattle.http_wire.specs.declared.head.BodyLength.{BodyLength}
use Rattle.http_wire.specs.declared.head.BodyLength.TheVariants.{Fixed, Chunked}
use Rattle.http_wire.specs.declared.head.Head.{Head}
use Rattle.http_wire.specs.Bodies.{IsBodyOf, IsCut, IsTooLong}
use Rattle.http_wire.specs.Heads.{BeginsWith, TakesHead, fields_of, head_at}
use Rattle.http_wire.specs.Lengths.{AllWrite, HasBadLength, HasLength, lengths}
use Rattle.http_wire.specs.Reader.{place_after}
use Rattle.http_wire.specs.Requests.{Ends, Fails, Request, Requests, TakesBody}

-- ---- heads

trees : (text : List ℕ) (one other : RequestHead) (rest left : List ℕ) → BeginsWith text one rest → BeginsWith text other left → (one ≡ other) × (rest ≡ left)
trees text one other rest left x y = request_unique text one other rest left x.reads y.reads

number : (values : List (List ℕ)) (n m : ℕ) → AllWrite n values → AllWrite m values → (values ≡ [] → n ≡ 0) → (values ≡ [] → m ≡ 0) → n ≡ m
number [] n m x y none also = none refl ∙ sym (also refl)
number (v ∷ vs) n m x y none also = sym (All-head (λ value. digits_value 10 value ≡ n) v vs x) ∙ All-head (λ value. digits_value 10 value ≡ m) v vs y

size : (fields : List (List ℕ × List ℕ)) (n m : ℕ) → HasLength fields n → HasLength fields m → n ≡ m
size fields n m x y = number (lengths fields) n m x.equal y.equal x.absent y.absent

bad : (fields : List (List ℕ × List ℕ)) (n : ℕ) → HasBadLength fields → HasLength fields n → ⊥
bad fields n (inl coded) has = coded has.uncoded
bad fields n (inr (inl digits)) has = digits has.digits
bad fields n (inr (inr differ)) has = differ n has.equal

pub heads : (at : ℕ) (text : List ℕ) (one other : Head) (rest left : List ℕ) → TakesHead at text one rest → TakesHead at text other left → (one ≡ other) × (rest ≡ left)
heads at text one other rest left x y =
    let same = trees text x.tree y.tree rest left x.begins y.begins in
    let sizes : x.is.0 ≡ y.is.0 = size (fields_of y.tree) x.is.0 y.is.0 (subst (λ (t : RequestHead). HasLength (fields_of t) x.is.0) same.0 x.is.1) y.is.1 in
    let first : one ≡ head_at at y.tree x.is.0 = subst (λ (t : RequestHead). one ≡ head_at at t x.is.0) same.0 x.is.2 in
    (first ∙ ap (head_at at y.tree) sizes ∙ sym y.is.2, same.1)

no-length : (at : ℕ) (text : List ℕ) (head : Head) (left : List ℕ) (tree : RequestHead) (rest : List ℕ) → BeginsWith text tree rest → HasBadLength (fields_of tree) → TakesHead at text head left → ⊥
no-length at text head left tree rest begins wrong takes =
    bad (fields_of tree) takes.is.0 wrong (subst (λ (t : RequestHead). HasLength (fields_of t) takes.is.0) (trees text takes.tree tree left rest takes.begins begins).0 takes.is.1)

-- an empty text begins with no head
pub empty : (tree : RequestHead) (rest : List ℕ) → BeginsWith [] tree rest → ⊥
empty tree rest begins =
    let method = begins.reads.0.method.0 in
    let after = tree.target ++ 32 ∷ (print_version tree.minor ++ (print_end tree.line_end ++ (print_section tree.fields tree.last ++ rest))) in
    let whole : [] ≡ print_blank tree.blank ++ (tree.method ++ 32 ∷ after) = begins.reads.1 ∙ print_request-append tree rest in
    omega (arith, method, ap length whole, length-append (print_blank tree.blank) (tree.method ++ 32 ∷ after), length-append tree.method (32 ∷ after))

-- ---- bodies

prefix : (a b c d : List ℕ) → length a ≡ length b → a ++ c ≡ b ++ d → (a ≡ b) × (c ≡ d)
prefix [] [] c d size e = (refl, e)
prefix [] (y ∷ b) c d size e = absurd (omega arith)
prefix (x ∷ a) [] c d size e = absurd (omega arith)
prefix (x ∷ a) (y ∷ b) c d size e =
    let first : x ≡ y = cc in
    let next : a ++ c ≡ b ++ d = cc in
    let rest = prefix a b c d (omega arith) next in
    (cc (first, rest.0), rest.1)

whole : (body : BodyLength) (a b : List ℕ) → IsBodyOf body a → IsBodyOf body b → length a ≡ length b
whole (Fixed n) a b x y = x.0 ∙ sym y.0
whole Chunked a b x y = absurd x

pub bodies : (text : List ℕ) (head : Head) (a b rest left : List ℕ) → TakesBody text head a rest → TakesBody text head b left → (a ≡ b) × (rest ≡ left)
bodies text head a b rest left x y = prefix a b rest left (whole head.body a b x.whole y.whole) (sym x.parts ∙ y.parts)

long-or-cut : (body : BodyLength) (text : Option (List ℕ)) (got wanted : ℕ) → IsTooLong body → IsCut body text got wanted → ⊥
long-or-cut (Fixed n) text got wanted long cut = omega (arith, cut.1)
long-or-cut Chunked text got wanted long cut = absurd long

long-or-whole : (body : BodyLength) (bytes : List ℕ) → IsTooLong body → IsBodyOf body bytes → ⊥
long-or-whole (Fixed n) bytes long is = omega (arith, is.1)
long-or-whole Chunked bytes long is = absurd long

cut-or-whole : (body : BodyLength) (text bytes rest : List ℕ) (got wanted : ℕ) → IsCut body (Some text) got wanted → IsBodyOf body bytes → text ≡ bytes ++ rest → ⊥
cut-or-whole (Fixed n) text bytes rest got wanted cut is e = omega (arith, cut.0, cut.2, cut.3, is.0, ap length e, length-append bytes rest)
cut-or-whole Chunked text bytes rest got wanted cut is e = absurd cut

cuts : (body : BodyLength) (text : List ℕ) (got wanted got_too wanted_too : ℕ) → IsCut body (Some text) got wanted → IsCut body (Some text) got_too wanted_too → (got ≡ got_too) × (wanted ≡ wanted_too)
cuts (Fixed n) text got wanted got_too wanted_too x y = (sym x.3 ∙ y.3, x.0 ∙ sym y.0)
cuts Chunked text got wanted got_too wanted_too x y = absurd x

-- ---- ends

fails : (at : ℕ) (text : List ℕ) (e d : WireError) → Fails at text e → Fails at text d → e ≡ d
fails at text (BadHead pe) (BadHead pd) x y = ap (λ (place : ℕ). BadHead place) (x.0 ∙ sym y.0)
fails at text (BadHead pe) (BadLength pd) x y = absurd (x.1.1 y.1.0 y.1.1 y.1.2)
fails at text (BadHead pe) (BodyTooLong pd) x y = absurd (x.1.1 y.3.tree y.2 y.3.begins)
fails at text (BadHead pe) (CutBody pd gd wd) x y = absurd (x.1.1 y.3.tree y.2 y.3.begins)
fails at text (BadHead pe) (BadChunk pd) x y = absurd y
fails at text (BadHead pe) ReadFault x y = absurd y
fails at text (BadHead pe) NoMemory x y = absurd y
fails at text (BadLength pe) (BadHead pd) x y = absurd (y.1.1 x.1.0 x.1.1 x.1.2)
fails at text (BadLength pe) (BadLength pd) x y = ap (λ (place : ℕ). BadLength place) (x.0 ∙ sym y.0)
fails at text (BadLength pe) (BodyTooLong pd) x y = absurd (no-length at text y.1 y.2 x.1.0 x.1.1 x.1.2 x.1.3 y.3)
fails at text (BadLength pe) (CutBody pd gd wd) x y = absurd (no-length at text y.1 y.2 x.1.0 x.1.1 x.1.2 x.1.3 y.3)
fails at text (BadLength pe) (BadChunk pd) x y = absurd y
fails at text (BadLength pe) ReadFault x y = absurd y
fails at text (BadLength pe) NoMemory x y = absurd y
fails at text (BodyTooLong pe) (BadHead pd) x y = absurd (y.1.1 x.3.tree x.2 x.3.begins)
fails at text (BodyTooLong pe) (BadLength pd) x y = absurd (no-length at text x.1 x.2 y.1.0 y.1.1 y.1.2 y.1.3 x.3)
fails at text (BodyTooLong pe) (BodyTooLong pd) x y = ap (λ (place : ℕ). BodyTooLong place) (x.0 ∙ sym y.0)
fails at text (BodyTooLong pe) (CutBody pd gd wd) x y = absurd (long-or-cut x.1.body (Some y.2) gd wd x.4 (subst (λ (h : Head). IsCut h.body (Some y.2) gd wd) (sym (heads at text x.1 y.1 x.2 y.2 x.3 y.3).0) y.4))
fails at text (BodyTooLong pe) (BadChunk pd) x y = absurd y
fails at text (BodyTooLong pe) ReadFault x y = absurd y
fails at text (BodyTooLong pe) NoMemory x y = absurd y
fails at text (CutBody pe ge we) (BadHead pd) x y = absurd (y.1.1 x.3.tree x.2 x.3.begins)
fails at text (CutBody pe ge we) (BadLength pd) x y = absurd (no-length at text x.1 x.2 y.1.0 y.1.1 y.1.2 y.1.3 x.3)
fails at text (CutBody pe ge we) (BodyTooLong pd) x y = absurd (long-or-cut y.1.body (Some x.2) ge we y.4 (subst (λ (h : Head). IsCut h.body (Some x.2) ge we) (sym (heads at text y.1 x.1 y.2 x.2 y.3 x.3).0) x.4))
fails at text (CutBody pe ge we) (CutBody pd gd wd) x y =
    let same = heads at text x.1 y.1 x.2 y.2 x.3 y.3 in
    let here : IsCut x.1.body (Some x.2) gd wd = subst (λ (h : Head). IsCut h.body (Some x.2) gd wd) (sym same.0) (subst (λ (l : List ℕ). IsCut y.1.body (Some l) gd wd) (sym same.1) y.4) in
    let cut = cuts x.1.body x.2 ge we gd wd x.4 here in
    let place : pe ≡ pd = x.0 ∙ sym y.0 in
    cc (place, cut.0, cut.1)
fails at text (CutBody pe ge we) (BadChunk pd) x y = absurd y
fails at text (CutBody pe ge we) ReadFault x y = absurd y
fails at text (CutBody pe ge we) NoMemory x y = absurd y
fails at text (BadChunk pe) d x y = absurd x
fails at text ReadFault d x y = absurd x
fails at text NoMemory d x y = absurd x

fails-some : (at : ℕ) (text : List ℕ) (e : WireError) → Fails at text e → text ≢ []
fails-some at text (BadHead p) x none = x.1.0 none
fails-some at text (BadLength p) x none = empty x.1.0 x.1.1 (subst (λ (t : List ℕ). BeginsWith t x.1.0 x.1.1) none x.1.2)
fails-some at text (BodyTooLong p) x none = empty x.3.tree x.2 (subst (λ (t : List ℕ). BeginsWith t x.3.tree x.2) none x.3.begins)
fails-some at text (CutBody p g w) x none = empty x.3.tree x.2 (subst (λ (t : List ℕ). BeginsWith t x.3.tree x.2) none x.3.begins)
fails-some at text (BadChunk p) x none = x
fails-some at text ReadFault x none = x
fails-some at text NoMemory x none = x

ends : (at : ℕ) (text : List ℕ) (e d : Option WireError) → Ends at text e → Ends at text d → e ≡ d
ends at text None None x y = refl
ends at text None (Some d) x y = absurd (fails-some at text d y x)
ends at text (Some e) None x y = absurd (fails-some at text e x y)
ends at text (Some e) (Some d) x y = ap (λ (error : WireError). Some error) (fails at text e d x y)

pub fails-or-takes : (at : ℕ) (text : List ℕ) (e : WireError) (head : Head) (behind body rest : List ℕ) → Fails at text e → TakesHead at text head behind → TakesBody behind head body rest → ⊥
fails-or-takes at text (BadHead p) head behind body rest x takes gives = x.1.1 takes.tree behind takes.begins
fails-or-takes at text (BadLength p) head behind body rest x takes gives = no-length at text head behind x.1.0 x.1.1 x.1.2 x.1.3 takes
fails-or-takes at text (BodyTooLong p) head behind body rest x takes gives =
    long-or-whole head.body body (subst (λ (h : Head). IsTooLong h.body) (heads at text x.1 head x.2 behind x.3 takes).0 x.4) gives.whole
fails-or-takes at text (CutBody p g w) head behind body rest x takes gives =
    let same = heads at text x.1 head x.2 behind x.3 takes in
    let cut : IsCut head.body (Some behind) g w = subst (λ (h : Head). IsCut h.body (Some behind) g w) same.0 (subst (λ (l : List ℕ). IsCut x.1.body (Some l) g w) same.1 x.4) in
    cut-or-whole head.body behind body rest g w cut gives.whole gives.parts
fails-or-takes at text (BadChunk p) head behind body rest x takes gives = x
fails-or-takes at text ReadFault head behind body rest x takes gives = x
fails-or-takes at text NoMemory head behind body rest x takes gives = x

ends-or-takes : (at : ℕ) (text : List ℕ) (end : Option WireError) (head : Head) (behind body rest : List ℕ) → Ends at text end → TakesHead at text head behind → TakesBody behind head body rest → ⊥
ends-or-takes at text None head behind body rest none takes gives = empty takes.tree behind (subst (λ (t : List ℕ). BeginsWith t takes.tree behind) none takes.begins)
ends-or-takes at text (Some e) head behind body rest x takes gives = fails-or-takes at text e head behind body rest x takes gives

-- ---- requests

pub unique : (at : ℕ) (text : List ℕ) (these those : List Request) (end other : Option WireError) → Requests at text these end → Requests at text those other → (these ≡ those) × (end ≡ other)
unique at text [] [] end other x y = (refl, ends at text end other x y)
unique at text [] (p ∷ ps) end other x y = absurd (ends-or-takes at text end p.head y.0 p.body y.1 x y.2 y.3)
unique at text (q ∷ qs) [] end other x y = absurd (ends-or-takes at text other q.head x.0 q.body x.1 y x.2 x.3)
unique at text (q ∷ qs) (p ∷ ps) end other x y =
    let first = heads at text q.head p.head x.0 y.0 x.2 y.2 in
    let here : TakesBody x.0 q.head p.body y.1 =
    subst (λ (h : Head). TakesBody x.0 h p.body y.1) (sym first.0) (subst (λ (t : List ℕ). TakesBody t p.head p.body y.1) (sym first.1) y.3) in
    let second = bodies x.0 q.head q.body p.body x.1 y.1 x.3 here in
    let next : Requests (place_after (place_after at (length text - length x.0)) (length q.body)) x.1 ps other =
    subst (λ (t : List ℕ). Requests (place_after (place_after at (length text - length t)) (length q.body)) x.1 ps other) (sym first.1)
    (subst (λ (b : List ℕ). Requests (place_after (place_after at (length text - length y.0)) (length b)) x.1 ps other) (sym second.0)
    (subst (λ (t : List ℕ). Requests (place_after (place_after at (length text - length y.0)) (length p.body)) t ps other) (sym second.1) y.4)) in
    let rest = unique (place_after (place_after at (length text - length x.0)) (length q.body)) x.1 qs ps end other x.4 next in
    let request : q ≡ p = λ i. record { head = first.0 i; body = second.0 i } in
    (cc (request, rest.0), rest.1)
