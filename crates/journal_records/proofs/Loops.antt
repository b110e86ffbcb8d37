-- Reading members one after the other, as a loop does.
use Rattle.std.proofs.Common.{◌≡◌, ℕ, suc, ◌-◌, ◌+◌, ◌≤◌, ◌<◌, List, [], ◌∷◌, ◌++◌, Result, Ok, Err, refl, sym, ap, ◌∙◌, append_assoc, arith}
use Rattle.std.proofs.lemmas.List.{append-nil}
use Rattle.journal_records.specs.declared.stop.Stop.{Stop}
use Rattle.journal_records.specs.declared.stop.Stop.TheVariants as stop
use Rattle.journal_records.specs.Reading.{bind, is, times, Fails}
use Rattle.journal_records.specs.Encoded.{behind}

-- what was read before, and what is still read
abbrev pub with_front : {A : Type 0} → List A → Result (List A × List ℕ) ℕ → Result (List A × List ℕ) ℕ
with_front front r = bind r (λ xs. is (front ++ xs))

regroup : {A : Type 0} (front : List A) (y : A) (r : Result (List A × List ℕ) ℕ) → with_front front (bind r (λ xs. is (y ∷ xs))) ≡ with_front (front ++ y ∷ []) r
regroup front y (Ok z) = ap (λ l. Ok (l, z.1)) (sym (append_assoc front (y ∷ []) z.0))
regroup front y (Err n) = refl

pub goes_on : {A : Type 0} (f : List ℕ → Result (A × List ℕ) ℕ) (front : List A) (count i : ℕ) (bytes : List ℕ) (x : A) (after : List ℕ) (total : Result (List A × List ℕ) ℕ) → i < count → f bytes ≡ Ok (x, after)
    → with_front front (times (count - i) f bytes) ≡ total → with_front (front ++ x ∷ []) (times (count - (i + 1)) f after) ≡ total
goes_on f front count i bytes x after total lt h so_far =
    let k : count - i ≡ suc (count - (i + 1)) = omega arith in
    let one : with_front front (times (count - i) f bytes) ≡ with_front (front ++ x ∷ []) (times (count - (i + 1)) f after) = rw (k, h) (regroup front x (times (count - (i + 1)) f after)) in
    sym one ∙ so_far

pub ends : {A : Type 0} (f : List ℕ → Result (A × List ℕ) ℕ) (e : Stop) (front : List A) (count i : ℕ) (bytes : List ℕ) (total : Result (List A × List ℕ) ℕ) → i < count → Fails e (f bytes)
    → with_front front (times (count - i) f bytes) ≡ total → Fails e total
ends f stop.Memory front count i bytes total lt h so_far = tt
ends f (stop.Left n) front count i bytes total lt h so_far =
    let k : count - i ≡ suc (count - (i + 1)) = omega arith in
    let one : with_front front (times (count - i) f bytes) ≡ Err n = rw (k, h) refl in
    sym so_far ∙ one

pub is_done : {A : Type 0} (f : List ℕ → Result (A × List ℕ) ℕ) (front : List A) (count i : ℕ) (bytes : List ℕ) (total : Result (List A × List ℕ) ℕ) → count ≤ i → with_front front (times (count - i) f bytes) ≡ total → total ≡ Ok (front, bytes)
is_done f front count i bytes total le so_far =
    let k : count - i ≡ 0 = omega arith in
    let one : with_front front (times (count - i) f bytes) ≡ Ok (front, bytes) = rw k (ap (λ xs. Ok (xs, bytes)) (append-nil front)) in
    sym so_far ∙ one

-- ---- the same without what is read

one_behind : {A : Type 0} (y : A) (r : Result (List A × List ℕ) ℕ) → behind (bind r (λ xs. is (y ∷ xs))) ≡ behind r
one_behind y (Ok z) = refl
one_behind y (Err n) = refl

one_past : {A : Type 0} (f : List ℕ → Result (A × List ℕ) ℕ) (n : ℕ) (after : List ℕ) (r : Result (A × List ℕ) ℕ) → behind r ≡ Ok after → behind (bind r (λ x rest. bind (times n f rest) (λ xs. is (x ∷ xs)))) ≡ behind (times n f after)
one_past f n after (Ok x) h =
    let same : x.1 ≡ after = cc in
    one_behind x.0 (times n f x.1) ∙ ap (λ (l : List ℕ). behind (times n f l)) same
one_past f n after (Err e) h = absurd cc

pub passes_on : {A : Type 0} (f : List ℕ → Result (A × List ℕ) ℕ) (count i : ℕ) (bytes after : List ℕ) (total : Result (List ℕ) ℕ) → i < count → behind (f bytes) ≡ Ok after
    → behind (times (count - i) f bytes) ≡ total → behind (times (count - (i + 1)) f after) ≡ total
passes_on f count i bytes after total lt h so_far =
    let k : count - i ≡ suc (count - (i + 1)) = omega arith in
    let one : behind (times (count - i) f bytes) ≡ behind (times (count - (i + 1)) f after) = rw k (one_past f (count - (i + 1)) after (f bytes) h) in
    sym one ∙ so_far

stays : {A B : Type 0} (g : A → List ℕ → Result (B × List ℕ) ℕ) (n : ℕ) (r : Result (A × List ℕ) ℕ) → behind r ≡ Err n → behind (bind r g) ≡ Err n
stays g n (Ok x) h = absurd cc
stays g n (Err m) h = h

pub stops : {A : Type 0} (f : List ℕ → Result (A × List ℕ) ℕ) (e : Stop) (count i : ℕ) (bytes : List ℕ) (total : Result (List ℕ) ℕ) → i < count → Fails e (behind (f bytes))
    → behind (times (count - i) f bytes) ≡ total → Fails e total
stops f stop.Memory count i bytes total lt h so_far = tt
stops f (stop.Left n) count i bytes total lt h so_far =
    let k : count - i ≡ suc (count - (i + 1)) = omega arith in
    let one : behind (times (count - i) f bytes) ≡ Err n = rw k (stays (λ x rest. bind (times (count - (i + 1)) f rest) (λ xs. is (x ∷ xs))) n (f bytes) h) in
    sym so_far ∙ one

pub is_past : {A : Type 0} (f : List ℕ → Result (A × List ℕ) ℕ) (count i : ℕ) (bytes : List ℕ) (total : Result (List ℕ) ℕ) → count ≤ i → behind (times (count - i) f bytes) ≡ total → total ≡ Ok bytes
is_past f count i bytes total le so_far =
    let k : count - i ≡ 0 = omega arith in
    let one : behind (times (count - i) f bytes) ≡ Ok bytes = rw k refl in
    sym so_far ∙ one
