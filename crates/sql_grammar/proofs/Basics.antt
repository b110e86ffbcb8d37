-- One token, nothing, and other ways to write a language.
use Rattle.std.proofs.Common.{◌≡◌, ℕ, Bool, true, false, List, [], ◌∷◌, ◌++◌, length, Option, Some, None, Result, Ok, Err, refl, sym, ap, ◌∙◌}
use Rattle.sql_tokens.specs.declared.token.Token.{Token}
use Rattle.sql_grammar.specs.Marks.{Mark, matches}
use Rattle.sql_grammar.specs.Lang.{Tok, Is, Begins, SameHead}
use Rattle.sql_grammar.specs.Reading.{is, of_option, tok}
use Rattle.sql_grammar.proofs.Readings.{never, Found, Fault, Reads, done, ok_is}

-- ---- one token

tok_found : {A : Type 0} (class : Token → Option A) (tokens : List Token) (x : A) (rest : List Token) → tok class tokens ≡ Ok (x, rest) → Found (Tok class) (tok class) tokens x rest
tok_found class [] x rest e = absurd cc
tok_found {A = A} class (t ∷ ts) x rest e = go (class t) refl e
  where
    go : (o : Option A) → class t ≡ o → of_option o t ts ≡ Ok (x, rest) → Found (Tok class) (tok class) (t ∷ ts) x rest
    go None h k = absurd cc
    go (Some y) h k =
        let w = ok_is (y, ts) (x, rest) k in
        let p : y ≡ x = ap (λ (z : A × List Token). z.0) w in
        let q : ts ≡ rest = ap (λ (z : A × List Token). z.1) w in
        let g : class t ≡ Some x = cc in
        record { used = t ∷ []; parts = ap (λ (r : List Token). t ∷ r) q; spelled = (t, refl, g); same = λ other h. rw g refl }

tok_fault : {A : Type 0} (class : Token → Option A) → Begins (Tok class) [] → (tokens : List Token) (n : ℕ) → tok class tokens ≡ Err n → Fault (Tok class) (tok class) tokens n
tok_fault {A = A} class some [] n e = record { used = []; rest = []; parts = refl; left = cc; begins = some; local = go }
  where
    go : (other : List Token) → SameHead [] other → tok class other ≡ Err (length other)
    go [] h = refl
    go (u ∷ us) h = absurd h
tok_fault {A = A} class some (t ∷ ts) n e = go (class t) refl e
  where
    last : class t ≡ None → (other : List Token) → SameHead (t ∷ ts) other → tok class other ≡ Err (length other)
    last h [] s = absurd s
    last h (u ∷ us) s = let k : class u ≡ None = ap class (sym s) ∙ h in rw k refl

    go : (o : Option A) → class t ≡ o → of_option o t ts ≡ Err n → Fault (Tok class) (tok class) (t ∷ ts) n
    go None h k = record { used = []; rest = t ∷ ts; parts = refl; left = cc; begins = some; local = last h }
    go (Some y) h k = absurd cc

tok_only : {A : Type 0} (class : Token → Option A) (x : A) (used rest : List Token) → Tok class x used → tok class (used ++ rest) ≡ Ok (x, rest)
tok_only class x used rest s = rw (s.1, s.2) refl

tok_starts : {A : Type 0} (class : Token → Option A) (first : List Mark) → ((t : Token) (x : A) → class t ≡ Some x → matches first t ≡ true) → (x : A) (t : Token) (back : List Token) → Tok class x (t ∷ back) → matches first t ≡ true
tok_starts class first h x t back s = let k : s.0 ≡ t = cc in h t x (ap class (sym k) ∙ s.2)

pub tok_reads : {A : Type 0} (class : Token → Option A) (first : List Mark) (some : Token) (value : A) → class some ≡ Some value → ((t : Token) (x : A) → class t ≡ Some x → matches first t ≡ true) → Reads (Tok class) (tok class) first never false
tok_reads class first some value has starts =
    let begin : Begins (Tok class) [] = record { value = value; more = some ∷ []; spelled = (some, refl, has) } in
    record {
      found = tok_found class;
      only = λ x used rest s stop. tok_only class x used rest s;
      fault = tok_fault class begin;
      starts = tok_starts class first starts;
      full = λ x s. absurd cc;
      some = begin;
    }

-- ---- nothing

is_local : {A : Type 0} (x y : A) (tokens rest : List Token) → is x tokens ≡ Ok (y, rest) → Found (Is x) (is x) tokens y rest
is_local {A = A} x y tokens rest e =
    let w = ok_is (x, tokens) (y, rest) e in
    let p : x ≡ y = ap (λ (z : A × List Token). z.0) w in
    let q : tokens ≡ rest = ap (λ (z : A × List Token). z.1) w in
    record { used = []; parts = q; spelled = (refl, p); same = λ other h. ap (λ z. done (z, other)) p }

pub is_reads : {A : Type 0} (x : A) → Reads (Is x) (is x) never never true
is_reads x = record {
  found = λ tokens y rest e. is_local x y tokens rest e;
  only = λ y used rest s stop. rw s.0 (ap (λ z. done (z, rest)) s.1);
  fault = λ tokens n e. absurd cc;
  starts = λ y t back s. absurd cc;
  full = λ y s. refl;
  some = record { value = x; more = []; spelled = (refl, refl) };
}

-- the same, with marks that it doesn't need
pub is_reads_wide : {A : Type 0} (x : A) (first more : List Mark) → Reads (Is x) (is x) first more true
is_reads_wide x first more = record {
  found = λ tokens y rest e. is_local x y tokens rest e;
  only = λ y used rest s stop. rw s.0 (ap (λ z. done (z, rest)) s.1);
  fault = λ tokens n e. absurd cc;
  starts = λ y t back s. absurd cc;
  full = λ y s. refl;
  some = record { value = x; more = []; spelled = (refl, refl) };
}

-- ---- another way to write the language

pub reads_along : {A : Type 0} {P Q : A → List Token → Type 0} {f : List Token → Result (A × List Token) ℕ} {first more : List Mark} {empty : Bool} → ((x : A) (ts : List Token) → P x ts → Q x ts) → ((x : A) (ts : List Token) → Q x ts → P x ts) → Reads P f first more empty → Reads Q f first more empty
reads_along to from r = record {
  found = λ tokens x rest e. let m = r.found tokens x rest e in record { used = m.used; parts = m.parts; spelled = to x m.used m.spelled; same = m.same };
  only = λ x used rest s stop. r.only x used rest (from x used s) stop;
  fault = λ tokens n e. let m = r.fault tokens n e in record { used = m.used; rest = m.rest; parts = m.parts; left = m.left; begins = record { value = m.begins.value; more = m.begins.more; spelled = to m.begins.value (m.used ++ m.begins.more) m.begins.spelled }; local = m.local };
  starts = λ x t back s. r.starts x t back (from x (t ∷ back) s);
  full = λ x s. r.full x (from x [] s);
  some = record { value = r.some.value; more = r.some.more; spelled = to r.some.value r.some.more r.some.spelled };
}

-- the same, with more marks than it begins with
pub reads_wide : {A : Type 0} {P : A → List Token → Type 0} {f : List Token → Result (A × List Token) ℕ} {first wide more : List Mark} {empty : Bool} → ((t : Token) → matches first t ≡ true → matches wide t ≡ true) → Reads P f first more empty → Reads P f wide more empty
reads_wide h r = record { found = r.found; only = r.only; fault = r.fault; starts = λ x t back s. h t (r.starts x t back s); full = r.full; some = r.some }
