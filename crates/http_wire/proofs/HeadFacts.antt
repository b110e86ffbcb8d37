-- When a reader of heads may give up.
use Rattle.std.specs.Io.KnownBytes.{Consumes, IsAtEnd, Keeps, prepend_known}
use Rattle.std.proofs.Common.{◌≡◌, ◌≢◌, ◌≤◌, ◌<◌, Option, Some, None, IfSome, subst, map, All, IsUtf8, IsTrue, ℕ, List, [], ◌∷◌, ◌++◌, length, take, drop, refl, sym, ap, ◌∙◌, arith, append_assoc, append-nil, length-append, length-take}
use Rattle.std.proofs.lemmas.List.{length-map, take-append-drop, take_all}
use Rattle.httparse.specs.declared.spans.RequestSpans.{RequestSpans}
use Rattle.std.proofs.lemmas.Str.{IsUtf8-from_ascii}
use Rattle.std.proofs.lemmas.Str.Ascii.{IsAscii-from_all}
use Rattle.std.proofs.lemmas.List.Elements.{All-head, All-tail, All-nil, All-cons, All-weaker}
use Rattle.std.proofs.lemmas.Bool.Decides.{nat_tests}
use Rattle.httparse.specs.declared.spans.HeaderSpan.{HeaderSpan}
use Rattle.httparse.specs.Grammar.{RequestHead, print_request, HasNoRequest, Field, IsField, IsToken, is_token_byte}
use Rattle.httparse.specs.Spans.{IsRequestAt, IsRequestWithin, RequestOverflows, header_bytes, span_bytes, name_and_value}
use Rattle.http_wire.specs.Heads.{HasNoHead, IsFoundAt, LacksHead}

-- a text that is cut after its first part: the part begins as the text does
pub front : (a b c d : List ℕ) → a ++ b ≡ c ++ d → length c ≤ length a → (r : List ℕ) × (a ≡ c ++ r)
front a b [] d e h = (a, refl)
front [] b (y ∷ c) d e h = absurd (omega arith)
front (x ∷ a) b (y ∷ c) d e h =
    let tails : a ++ b ≡ c ++ d = cc in
    let heads : x ≡ y = cc in
    let r = front a b c d tails (omega arith) in
    (r.0, cc (heads, r.1))

-- the parser met more fields than there is room for, or no head
pub no_head-error : (buf left : List ℕ) → RequestOverflows 64 buf → HasNoHead (buf ++ left)
no_head-error buf left over h rest b = let many : 64 < length h.fields = over left h rest b.reads in let few : length h.fields ≤ 64 = b.few in omega arith

-- the buffer is full, and has no whole head
pub no_head-full : (buf left : List ℕ) → 16384 ≤ length buf → HasNoRequest buf → HasNoHead (buf ++ left)
no_head-full buf left full none h rest b =
    let short : length (print_request h) ≤ 16384 = b.short in
    let f = front buf left (print_request h) rest b.reads.1 (omega arith) in
    none h f.0 (b.reads.0, f.1)

-- the text has ended, and has no whole head
pub no_head-end : (buf : List ℕ) → HasNoRequest buf → HasNoHead (buf ++ [])
no_head-end buf none h rest b = none h rest (b.reads.0, sym (append-nil buf) ∙ b.reads.1)

-- ---- the same of the pending bytes, whose front was parsed, and the bytes that a source may tell

nonempty : (a b : List ℕ) → a ≢ [] → a ++ b ≢ []
nonempty [] b some e = some refl
nonempty (x ∷ a) b some e = cc

pub nothing : (a b : List ℕ) → a ++ b ≡ [] → a ≡ []
nothing [] b e = refl
nothing (x ∷ a) b e = cc

-- the front, what is pending behind it, and what is left
whole : (pending left : List ℕ) → take 16384 pending ++ (drop 16384 pending ++ left) ≡ pending ++ left
whole pending left = sym (append_assoc (take 16384 pending) (drop 16384 pending) left) ∙ ap (λ l. l ++ left) (take-append-drop 16384 pending)

pub lacks-error : (pending : List ℕ) (left : Option (List ℕ)) → pending ≢ [] → RequestOverflows 64 (take 16384 pending) → IfSome (prepend_known pending left) LacksHead
lacks-error pending None some over = tt
lacks-error pending (Some left) some over =
    (nonempty pending left some, subst HasNoHead (whole pending left) (no_head-error (take 16384 pending) (drop 16384 pending ++ left) over))

pub lacks-full : (pending : List ℕ) (left : Option (List ℕ)) → 16384 ≤ length pending → HasNoRequest (take 16384 pending) → IfSome (prepend_known pending left) LacksHead
lacks-full pending None full none = tt
lacks-full pending (Some left) full none =
    let many : 16384 ≤ length (take 16384 pending) = omega (arith, length-take 16384 pending) in
    let some : pending ≢ [] = λ e. long pending full e in
    (nonempty pending left some, subst HasNoHead (whole pending left) (no_head-full (take 16384 pending) (drop 16384 pending ++ left) many none))
  where
    long : (xs : List ℕ) → 16384 ≤ length xs → xs ≢ []
    long xs h e = let zero : length xs ≡ 0 = ap length e in omega arith

-- all of the pending bytes were looked at
pub no_head-all : (pending : List ℕ) → length pending < 16384 → HasNoRequest (take 16384 pending) → HasNoHead pending
no_head-all pending short none tree rest begins = (subst HasNoRequest (take_all 16384 pending (omega arith)) none) tree rest begins.reads

pub lacks-end : (pending piece : List ℕ) (left after : Option (List ℕ)) → pending ≢ [] → length pending < 16384 → HasNoRequest (take 16384 pending)
    → Consumes left after piece → length piece ≡ 0 → IsAtEnd after → IfSome (prepend_known pending left) LacksHead
lacks-end pending piece None after some short none gone empty end = tt
lacks-end pending piece (Some left) None some short none gone empty end = absurd gone
lacks-end pending piece (Some left) (Some rest) some short none gone empty end =
    let all : take 16384 pending ≡ pending = take_all 16384 pending (omega arith) in
    let nothing : left ≡ [] = nil_from_length left (ap length gone ∙ length-append piece rest ∙ omega (arith, ap length end)) in
    (nonempty pending left some, subst (λ l. HasNoHead (pending ++ l)) (sym nothing) (no_head-end pending (subst HasNoRequest all none)))
  where
    nil_from_length : (xs : List ℕ) → length xs ≡ 0 → xs ≡ []
    nil_from_length [] e = refl
    nil_from_length (x ∷ xs) e = absurd (omega arith)

-- what holds of what is left now holds of what was left before
pub back : (old new : Option (List ℕ)) (P : List ℕ → Type 0) → Keeps old new → IfSome new P → IfSome old P
back None new P kept h = tt
back (Some xs) None P kept h = absurd kept
back (Some xs) (Some ys) P kept h = subst P kept h

-- the tree of the parser is within the limits
pub found : (bytes : List ℕ) (spans : List HeaderSpan) (r : RequestSpans) (tree : RequestHead) → length bytes ≤ 16384 → length spans ≡ 64 → IsRequestWithin bytes spans r → IsRequestAt bytes spans r tree
    → IsFoundAt bytes spans r tree
found bytes spans r tree short room within at =
    let fields = simp (length-map, length-take) at (ap length at.fields) in
    record { reads = at; short = omega (arith, at.len, within.section.len_fits); few = omega (arith, fields) }

token_is_ascii : (b : ℕ) → IsTrue (is_token_byte b) → b < 128
unfolding is_token_byte
token_is_ascii b token = grind (arith, nat_tests)

-- a token is text
pub IsUtf8-from_token : (bytes : List ℕ) → IsToken bytes → IsUtf8 bytes
IsUtf8-from_token bytes h =
    IsUtf8-from_ascii bytes (IsAscii-from_all bytes (All-weaker (λ b. IsTrue (is_token_byte b)) (λ b. b < 128) token_is_ascii bytes h.1))

abbrev IsNameText : List ℕ → HeaderSpan → Type 0
IsNameText buf s = IsUtf8 (span_bytes buf s.name)

-- the names of a head's fields are text
pub names_are_text : (buf : List ℕ) (xs : List HeaderSpan) (fs : List Field) → map (header_bytes buf) xs ≡ map name_and_value fs → All IsField fs → All (λ s. IsUtf8 (span_bytes buf s.name)) xs
names_are_text buf [] fs e all = All-nil (IsNameText buf)
names_are_text buf (x ∷ xs) [] e all = cc
names_are_text buf (x ∷ xs) (f ∷ fs) e all =
    let first : header_bytes buf x ≡ name_and_value f = cc in
    let rest : map (header_bytes buf) xs ≡ map name_and_value fs = cc in
    let token : IsToken f.name = (All-head IsField f fs all).name in
    All-cons (IsNameText buf) x xs (subst IsUtf8 (sym (ap (λ (p : List ℕ × List ℕ). p.0) first)) (IsUtf8-from_token f.name token))
    (names_are_text buf xs fs rest (All-tail IsField f fs all))

-- what is left of the input after a piece became pending
pub kept-more : (start : Option (List ℕ)) (pending piece new : List ℕ) (left after : Option (List ℕ)) → Keeps start (prepend_known pending left) → Consumes left after piece → new ≡ pending ++ piece
    → Keeps start (prepend_known new after)
kept-more None pending piece new left after kept gone e = tt
kept-more (Some text) pending piece new None after kept gone e = absurd kept
kept-more (Some text) pending piece new (Some left) None kept gone e = absurd gone
kept-more (Some text) pending piece new (Some left) (Some rest) kept gone e =
    ap (λ l. l ++ rest) e ∙ append_assoc pending piece rest ∙ ap (λ l. pending ++ l) (sym gone) ∙ kept
