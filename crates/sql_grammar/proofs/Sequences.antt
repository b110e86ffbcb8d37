-- One after the other.
use Rattle.std.proofs.Common.{◌≡◌, ℕ, Bool, true, List, [], ◌∷◌, ◌++◌, Result, Ok, Err, refl, sym, ap, subst, ◌∙◌, append_assoc, inl, inr}
use Rattle.sql_tokens.specs.declared.token.Token.{Token}
use Rattle.sql_grammar.specs.Marks.{Mark, matches, are_apart}
use Rattle.sql_grammar.proofs.Apart.{apart_sound}
use Rattle.sql_grammar.specs.Lang.{Then, Begins, SameHead}
use Rattle.sql_grammar.specs.Reading.{bind, next}
use Rattle.sql_grammar.proofs.Readings.{Stops, or_if, both, Found, Fault, Reads, bind_ok, bind_err, same_after, stops_first, stops_second, or_if_first, or_if_second, both_true}

module _ {A B : Type 0} {P : A → List Token → Type 0} {Q : A → B → List Token → Type 0} {f : List Token → Result (A × List Token) ℕ} {g : A → List Token → Result (B × List Token) ℕ}
    {fp mp fq mq : List Mark} {ep eq : Bool}
    (rp : Reads P f fp mp ep) (rq : (x : A) → Reads (Q x) (g x) fq mq eq) (separate : are_apart fq mp ≡ true) where
  next_found : (tokens : List Token) (y : B) (rest : List Token) → next f g tokens ≡ Ok (y, rest) → Found (Then P Q) (next f g) tokens y rest
  next_found tokens y rest e =
      let a = bind_ok (f tokens) g (y, rest) e in
      let one = rp.found tokens a.0 a.1 a.2 in
      let two = (rq a.0).found a.1 y rest a.3 in
      record {
        used = one.used ++ two.used;
        parts = one.parts ∙ ap (λ (l : List Token). one.used ++ l) two.parts ∙ sym (append_assoc one.used two.used rest);
        spelled = record { value = a.0; front = one.used; back = two.used; parts = refl; first = one.spelled; second = two.spelled };
        same = λ other h.
            let k : f (one.used ++ (two.used ++ other)) ≡ Ok (a.0, two.used ++ other) = one.same (two.used ++ other) (subst (λ (l : List Token). SameHead l (two.used ++ other)) (sym two.parts) (same_after two.used rest other h)) in
            ap (next f g) (append_assoc one.used two.used other) ∙ ap (λ r. bind r g) k ∙ two.same other h;
      }

  next_fault : (tokens : List Token) (n : ℕ) → next f g tokens ≡ Err n → Fault (Then P Q) (next f g) tokens n
  next_fault tokens n e =
      elim (bind_err (f tokens) g n e) [
        | inl e1 ↦
            let one = rp.fault tokens n e1 in
            let two = (rq one.begins.value).some in
            record {
              used = one.used;
              rest = one.rest;
              parts = one.parts;
              left = one.left;
              begins = record { value = two.value; more = one.begins.more ++ two.more; spelled = record { value = one.begins.value; front = one.used ++ one.begins.more; back = two.more; parts = sym (append_assoc one.used one.begins.more two.more); first = one.begins.spelled; second = two.spelled } };
              local = λ other h. ap (λ r. bind r g) (one.local other h);
            }
        | inr a ↦
            let one = rp.found tokens a.0 a.1 a.2 in
            let two = (rq a.0).fault a.1 n a.3 in
            record {
              used = one.used ++ two.used;
              rest = two.rest;
              parts = one.parts ∙ ap (λ (l : List Token). one.used ++ l) two.parts ∙ sym (append_assoc one.used two.used two.rest);
              left = two.left;
              begins = record { value = two.begins.value; more = two.begins.more; spelled = record { value = a.0; front = one.used; back = two.used ++ two.begins.more; parts = append_assoc one.used two.used two.begins.more; first = one.spelled; second = two.begins.spelled } };
              local = λ other h.
                  let k : f (one.used ++ (two.used ++ other)) ≡ Ok (a.0, two.used ++ other) = one.same (two.used ++ other) (subst (λ (l : List Token). SameHead l (two.used ++ other)) (sym two.parts) (same_after two.used two.rest other h)) in
                  ap (next f g) (append_assoc one.used two.used other) ∙ ap (λ r. bind r g) k ∙ two.local other h;
            }
      ]

  joins : (x : A) (y : B) (b rest : List Token) → Q x y b → Stops (or_if eq mq mp) rest → Stops mp (b ++ rest)
  joins x y [] rest s stop = stops_second eq mq mp rest ((rq x).full y s) stop
  joins x y (t ∷ b) rest s stop = record { stops = apart_sound _ _ separate t ((rq x).starts y t b s) }

  next_only : (y : B) (used rest : List Token) → Then P Q y used → Stops (or_if eq mq mp) rest → next f g (used ++ rest) ≡ Ok (y, rest)
  next_only y used rest s stop =
      ap (λ (l : List Token). next f g (l ++ rest)) s.parts ∙ ap (next f g) (append_assoc s.front s.back rest)
      ∙ ap (λ r. bind r g) (rp.only s.value s.front (s.back ++ rest) s.first (joins s.value y s.back rest s.second stop))
      ∙ (rq s.value).only y s.back rest s.second (stops_first eq mq mp rest stop)

  next_starts : (y : B) (t : Token) (back : List Token) → Then P Q y (t ∷ back) → matches (or_if ep fp fq) t ≡ true
  next_starts y t back s = go s.front s.back s.parts s.first s.second
    where
      go : (front end : List Token) → t ∷ back ≡ front ++ end → P s.value front → Q s.value y end → matches (or_if ep fp fq) t ≡ true
      go [] end h p q = or_if_second ep fp fq t (rp.full s.value p) ((rq s.value).starts y t back (subst (λ (l : List Token). Q s.value y l) (sym h) q))
      go (u ∷ front) end h p q = let k : u ≡ t = cc in or_if_first ep fp fq t (subst (λ (v : Token). matches fp v ≡ true) k (rp.starts s.value u front p))

  next_full : (y : B) → Then P Q y [] → both ep eq ≡ true
  next_full y s = go s.front s.back s.parts s.first s.second
    where
      go : (front end : List Token) → [] ≡ front ++ end → P s.value front → Q s.value y end → both ep eq ≡ true
      go [] [] h p q = both_true ep eq (rp.full s.value p) ((rq s.value).full y q)
      go [] (u ∷ end) h p q = absurd cc
      go (u ∷ front) end h p q = absurd cc

  next_some : Begins (Then P Q) []
  next_some =
      let one = rp.some in
      let two = (rq one.value).some in
      record { value = two.value; more = one.more ++ two.more; spelled = record { value = one.value; front = one.more; back = two.more; parts = refl; first = one.spelled; second = two.spelled } }

  pub next_reads : Reads (Then P Q) (next f g) (or_if ep fp fq) (or_if eq mq mp) (both ep eq)
  next_reads = record { found = next_found; only = next_only; fault = next_fault; starts = next_starts; full = next_full; some = next_some }
