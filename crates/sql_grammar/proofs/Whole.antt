-- A reader of all of the tokens gives the value that they spell, or the first token that can't stand there.
use Rattle.std.proofs.Common.{◌≡◌, ℕ, suc, List, [], ◌∷◌, ◌++◌, length, Result, Ok, Err, refl, sym, ap, subst, ◌∙◌, ◌⊎◌, inl, inr, append_assoc, arith}
use Rattle.std.proofs.lemmas.List.{append-nil}
use Rattle.sql_tokens.specs.declared.token.Token.{Token}
use Rattle.sql_grammar.specs.Marks.{Mark}
use Rattle.sql_grammar.specs.Lang.{SameHead, IsFaultAt, Begins}
use Rattle.sql_grammar.specs.Reading.{ended, to_end}
use Rattle.sql_grammar.proofs.Laws.{Reads}

abbrev read : {A : Type 0} → A → List Token → Result (A × List Token) ℕ
read x rest = Ok (x, rest)

abbrev ok : {A : Type 0} → A → Result A ℕ
ok x = Ok x

abbrev err : {A : Type 0} → ℕ → Result A ℕ
err n = Err n

ok_is : {A : Type 0} (x y : A) → ok x ≡ ok y → x ≡ y
ok_is x y e = cc

err_is : {A : Type 0} (x y : ℕ) → err {A = A} x ≡ err y → x ≡ y
err_is x y e = cc

ended_ok : {A : Type 0} (x s : A) (rest : List Token) → ended x rest ≡ Ok s → read x rest ≡ read s []
ended_ok x s [] e = ap (λ z. read z []) (ok_is x s e)
ended_ok x s (t ∷ rest) e = absurd cc

to_end_ok : {A : Type 0} (r : Result (A × List Token) ℕ) (s : A) → to_end r ≡ Ok s → r ≡ read s []
to_end_ok (Ok x) s e = ended_ok x.0 s x.1 e
to_end_ok (Err n) s e = absurd cc

-- something stands after the value
pub record Behind {A : Type 0} (r : Result (A × List Token) ℕ) (n : ℕ) : Type 0 where
  pub value : A
  pub next : Token
  pub rest : List Token
  pub was : r ≡ read value (next ∷ rest)
  pub left : n ≡ length (next ∷ rest)

ended_err : {A : Type 0} (x : A) (rest : List Token) (n : ℕ) → ended x rest ≡ Err n → Behind (Ok (x, rest)) n
ended_err x [] n e = absurd cc
ended_err {A = A} x (t ∷ rest) n e = record { value = x; next = t; rest = rest; was = refl; left = sym (err_is {A = A} (length (t ∷ rest)) n e) }

-- either the reader failed, or something stands after the value
to_end_err : {A : Type 0} (r : Result (A × List Token) ℕ) (n : ℕ) → to_end r ≡ Err n → (r ≡ Err n) ⊎ Behind r n
to_end_err (Ok x) n e = inr (ended_err x.0 x.1 n e)
to_end_err {A = A} (Err m) n e = inl (ap (λ (i : ℕ). err {A = A × List Token} i) (err_is {A = A} m n e))

-- a fault, with what is left there
pub record Fault {A : Type 0} (P : A → List Token → Type 0) (tokens : List Token) (n : ℕ) : Type 0 where
  pub front : List Token
  pub rest : List Token
  pub is : IsFaultAt P tokens front rest
  pub left : n ≡ length rest

module _ {A : Type 0} {P : A → List Token → Type 0} {f : List Token → Result (A × List Token) ℕ} {first more : List Mark} {empty : _} (rp : Reads P f first more empty) where
  pub whole_found : (tokens : List Token) (x : A) → to_end (f tokens) ≡ Ok x → P x tokens
  whole_found tokens x e =
      let m = rp.found tokens x [] (to_end_ok (f tokens) x e) in
      subst (P x) (sym (append-nil m.used) ∙ sym m.parts) m.spelled

  all_read : (x : A) (tokens : List Token) → P x tokens → f tokens ≡ read x []
  all_read x tokens h = ap f (sym (append-nil tokens)) ∙ rp.only x tokens [] h (record { stops = refl })

  pub whole_only : (tokens : List Token) (x : A) → P x tokens → to_end (f tokens) ≡ Ok x
  whole_only tokens x h = ap to_end (all_read x tokens h)

  -- the tokens have at most one value
  pub one_value : (tokens : List Token) (x y : A) → P x tokens → P y tokens → x ≡ y
  one_value tokens x y h k = ok_is x y (sym (whole_only tokens x h) ∙ whole_only tokens y k)

  pub whole_fault : (tokens : List Token) (n : ℕ) → to_end (f tokens) ≡ Err n → Fault P tokens n
  whole_fault tokens n e =
      elim (to_end_err (f tokens) n e) [
        | inl e1 ↦
            let m = rp.fault tokens n e1 in
            record {
              front = m.used;
              rest = m.rest;
              is = record { parts = m.parts; begins = m.begins; dead = λ x other k h. let a = m.local other k in let b = all_read x (m.used ++ other) h in absurd cc };
              left = m.left;
            }
        | inr b ↦
            let m = rp.found tokens b.value (b.next ∷ b.rest) b.was in
            record {
              front = m.used;
              rest = b.next ∷ b.rest;
              is = record {
                parts = m.parts;
                begins = record { value = b.value; more = []; spelled = subst (P b.value) (sym (append-nil m.used)) m.spelled };
                dead = λ x other k h. behind b.next b.rest other k (ap (λ (z : A × List Token). z.1) (ok_is (b.value, other) (x, []) (sym (m.same other k) ∙ all_read x (m.used ++ other) h)));
              };
              left = b.left;
            }
      ]
    where
      behind : (t : Token) (rest other : List Token) → SameHead (t ∷ rest) other → other ≡ [] → ⊥
      behind t rest [] k e = k
      behind t rest (u ∷ us) k e = absurd cc

  nothing_left : (rest : List Token) → 0 ≡ length rest → rest ≡ []
  nothing_left [] e = refl
  nothing_left (t ∷ ts) e = absurd (omega arith)

  -- tokens that run out begin something
  pub begins_all : (tokens : List Token) → to_end (f tokens) ≡ Err 0 → Begins P tokens
  begins_all tokens e =
      let m = whole_fault tokens 0 e in
      subst (Begins P) (sym (append-nil m.front) ∙ ap (λ (r : List Token). m.front ++ r) (sym (nothing_left m.rest m.left)) ∙ sym m.is.parts) m.is.begins

  same_begin : (rest other : List Token) (n : ℕ) → suc n ≡ length rest → SameHead rest (rest ++ other)
  same_begin [] other n e = absurd (omega arith)
  same_begin (t ∷ ts) other n e = refl

  -- and where some are left at a fault, they begin nothing
  pub begins_not_all : (tokens : List Token) (n : ℕ) → to_end (f tokens) ≡ Err (suc n) → Begins P tokens → ⊥
  begins_not_all tokens n e b =
      let m = whole_fault tokens (suc n) e in
      m.is.dead b.value (m.rest ++ b.more) (same_begin m.rest b.more n m.left) (subst (P b.value) (ap (λ (l : List Token). l ++ b.more) m.is.parts ∙ append_assoc m.front m.rest b.more) b.spelled)
