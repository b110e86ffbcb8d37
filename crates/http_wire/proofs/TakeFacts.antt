-- A head that leaves the pending bytes.
use Rattle.std.specs.Io.KnownBytes.{Keeps, prepend_known}
use Rattle.std.proofs.Common.{◌≡◌, ◌≤◌, ◌+◌, ◌-◌, ◌∙◌, ℕ, Option, Some, None, IfSome, List, ◌++◌, length, take, drop, refl, sym, ap, subst, arith, append_assoc, length-append}
use Rattle.std.proofs.lemmas.List.{drop-append-le, take-append-drop}
use Rattle.httparse.specs.declared.spans.HeaderSpan.{HeaderSpan}
use Rattle.httparse.specs.declared.spans.RequestSpans.{RequestSpans}
use Rattle.httparse.specs.Grammar.{RequestHead, print_request}
use Rattle.http_wire.specs.declared.error.WireError.{WireError}
use Rattle.http_wire.specs.declared.error.WireError.TheVariants.{BadHead, BadLength, BodyTooLong, CutBody, BadChunk, ReadFault, NoMemory}
use Rattle.http_wire.specs.declared.head.Head.{Head}
use Rattle.http_wire.specs.Bodies.{IsSized}
use Rattle.http_wire.specs.Heads.{BeginsWith, HandsOut, HeadFault, IsFoundAt, IsHeadOf, KeepsBack, MakeFault, TakesHead}
use Rattle.http_wire.specs.Reader.{Reader, input, place_after}

-- what is left begins with the head, and goes on with the bytes behind it
begins : (pending left : List ℕ) (spans : List HeaderSpan) (r : RequestSpans) (tree : RequestHead) → IsFoundAt (take 16384 pending) spans r tree
    → BeginsWith (pending ++ left) tree (drop r.len pending ++ left)
begins pending left spans r tree found =
    let front = take 16384 pending in
    let behind = drop 16384 pending in
    let at = found.reads in
    let parts : front ≡ print_request tree ++ drop r.len front = at.reads.1 in
    let fits : r.len ≤ length front = omega (arith, at.len, ap length parts, length-append (print_request tree) (drop r.len front)) in
    let pieces : front ++ behind ≡ pending = take-append-drop 16384 pending in
    let rest : drop r.len pending ≡ drop r.len front ++ behind = ap (drop r.len) (sym pieces) ∙ drop-append-le r.len front behind fits in
    let all : pending ≡ print_request tree ++ drop r.len pending =
    sym pieces ∙ ap (λ l. l ++ behind) parts ∙ append_assoc (print_request tree) (drop r.len front) behind ∙ ap (λ l. print_request tree ++ l) (sym rest) in
    record {
      reads = (at.reads.0, ap (λ l. l ++ left) all ∙ append_assoc (print_request tree) (drop r.len pending) left);
      short = found.short;
      few = found.few;
    }

-- where the input is told, it begins with the head, which left it
pub taken : (told : Option (List ℕ)) (pending : List ℕ) (left : Option (List ℕ)) (spans : List HeaderSpan) (r : RequestSpans) (tree : RequestHead) (head : Head) (at now : ℕ)
    → Keeps told (prepend_known pending left) → IsFoundAt (take 16384 pending) spans r tree → IsHeadOf at tree head → now ≡ place_after at r.len
    → IfSome told (λ text. (rest : List ℕ) × TakesHead at text head rest × (prepend_known (drop r.len pending) left ≡ Some rest) × (now ≡ place_after at (length text - length rest)))
taken None pending left spans r tree head at now kept found is place = tt
taken (Some text) pending None spans r tree head at now kept found is place = absurd kept
taken (Some text) pending (Some left) spans r tree head at now kept found is place =
    let rest = drop r.len pending ++ left in
    let begin : BeginsWith text tree rest = subst (λ t. BeginsWith t tree rest) kept (begins pending left spans r tree found) in
    let long : length text ≡ r.len + length rest = omega (arith, ap length begin.reads.1, length-append (print_request tree) rest, found.reads.len) in
    let size : r.len ≡ length text - length rest = omega arith in
    (rest, record { tree = tree; begins = begin; is = is }, refl, place ∙ ap (place_after at) size)

-- where the input is told, it begins with the head of which none was made
pub faulty : (error : WireError) (told : Option (List ℕ)) (pending : List ℕ) (left : Option (List ℕ)) (spans : List HeaderSpan) (r : RequestSpans) (tree : RequestHead) (at before now : ℕ)
    → Keeps told (prepend_known pending left) → IsFoundAt (take 16384 pending) spans r tree → MakeFault at tree error → HeadFault at told before now error
faulty (BadHead place) told pending left spans r tree at before now kept found fault = absurd fault
faulty (BadLength place) None pending left spans r tree at before now kept found fault = (fault.0, tt)
faulty (BadLength place) (Some text) pending None spans r tree at before now kept found fault = absurd kept
faulty (BadLength place) (Some text) pending (Some left) spans r tree at before now kept found fault =
    let rest = drop r.len pending ++ left in
    (fault.0, (tree, rest, subst (λ t. BeginsWith t tree rest) kept (begins pending left spans r tree found), fault.1))
faulty (BodyTooLong place) told pending left spans r tree at before now kept found fault = absurd fault
faulty (CutBody place got wanted) told pending left spans r tree at before now kept found fault = absurd fault
faulty (BadChunk place) told pending left spans r tree at before now kept found fault = absurd fault
faulty ReadFault told pending left spans r tree at before now kept found fault = absurd fault
faulty NoMemory told pending left spans r tree at before now kept found fault = tt

-- ---- the same of the reader that handed out the head, or kept it back

pub hands-out : (told : Option (List ℕ)) (old : Reader) (left : Option (List ℕ)) (spans : List HeaderSpan) (r : RequestSpans) (head : Head) (new : Reader) (at : ℕ)
    → old.at ≡ at → Keeps told (prepend_known old.pending left) → HandsOut old spans r head new
    → IfSome told (λ text. (rest : List ℕ) × TakesHead at text head rest × (input new left ≡ Some rest) × (new.at ≡ place_after at (length text - length rest)))
hands-out told old left spans r head new at same kept out =
    let step : IfSome told (λ text. (rest : List ℕ) × TakesHead old.at text head rest × (prepend_known (drop r.len old.pending) left ≡ Some rest) × (place_after old.at r.len ≡ place_after old.at (length text - length rest))) =
    taken told old.pending left spans r out.tree head old.at (place_after old.at r.len) kept out.stands out.is refl in
    let here : IfSome told (λ text. (rest : List ℕ) × TakesHead old.at text head rest × (input new left ≡ Some rest) × (new.at ≡ place_after old.at (length text - length rest))) =
    subst (λ (n : Reader). IfSome told (λ text. (rest : List ℕ) × TakesHead old.at text head rest × (input n left ≡ Some rest) × (n.at ≡ place_after old.at (length text - length rest)))) (sym out.left) step in
    subst (λ (place : ℕ). IfSome told (λ text. (rest : List ℕ) × TakesHead place text head rest × (input new left ≡ Some rest) × (new.at ≡ place_after place (length text - length rest)))) same here

pub keeps-back : (told : Option (List ℕ)) (old : Reader) (left : Option (List ℕ)) (spans : List HeaderSpan) (r : RequestSpans) (error : WireError) (new : Reader) (at before now : ℕ)
    → old.at ≡ at → Keeps told (prepend_known old.pending left) → KeepsBack old spans r error new → HeadFault at told before now error
keeps-back told old left spans r error new at before now same kept back =
    subst (λ (place : ℕ). HeadFault place told before now error) same (faulty error told old.pending left spans r back.tree old.at before now kept back.stands back.fault)

pub stays-back : (told : Option (List ℕ)) (old : Reader) (left : Option (List ℕ)) (spans : List HeaderSpan) (r : RequestSpans) (error : WireError) (new : Reader) (at : ℕ)
    → old.at ≡ at → Keeps told (prepend_known old.pending left) → KeepsBack old spans r error new → Keeps told (input new left) × (new.at ≡ at)
stays-back told old left spans r error new at same kept back =
    subst (λ (n : Reader). Keeps told (input n left) × (n.at ≡ at)) (sym back.same) (kept, same)

-- a head that is handed out has a number for the length of its body
pub sized-out : (old : Reader) (spans : List HeaderSpan) (r : RequestSpans) (head : Head) (new : Reader) → HandsOut old spans r head new → IsSized head.body
sized-out old spans r head new out = subst (λ (h : Head). IsSized h.body) (sym out.is.2) tt
