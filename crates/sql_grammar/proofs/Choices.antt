-- One or the other, and one or nothing.
use Rattle.std.proofs.Common.{◌≡◌, ℕ, Bool, true, false, cond, List, [], ◌∷◌, ◌++◌, Option, Some, None, Result, Ok, Err, refl, ap, subst, ◌∙◌, inl, inr}
use Rattle.sql_tokens.specs.declared.token.Token.{Token}
use Rattle.sql_grammar.specs.Marks.{Mark, matches, are_apart}
use Rattle.sql_grammar.proofs.Apart.{apart_sound}
use Rattle.sql_grammar.specs.Lang.{Or, Maybe}
use Rattle.sql_grammar.specs.Reading.{bind, is, heads, either, maybe}
use Rattle.sql_grammar.proofs.Readings.{Stops, or_if, Found, Fault, Reads, ok_is, bind_ok, bind_err, chosen, heads_same, heads_again, stops_first, stops_second, or_if_first, or_if_second}

-- ---- one or the other

module _ {A : Type 0} {P Q : A → List Token → Type 0} {f g : List Token → Result (A × List Token) ℕ}
    {fp mp fq mq : List Mark} {eq : Bool}
    (rp : Reads P f fp mp false) (rq : Reads Q g fq mq eq) (separate : are_apart fq fp ≡ true) where
  abbrev e_more : List Mark
  e_more = or_if eq (or_if true mq mp) fp

  both_stop : (rest : List Token) → Stops e_more rest → Stops mp rest
  both_stop rest stop = stops_second true mq mp rest refl (stops_first eq (or_if true mq mp) fp rest stop)

  either_by : (b : Bool) (tokens : List Token) → heads (matches fp) tokens ≡ b → either (matches fp) f g tokens ≡ cond b (f tokens) (g tokens)
  either_by b tokens h = rw h refl

  either_found : (tokens : List Token) (y : A) (rest : List Token) → either (matches fp) f g tokens ≡ Ok (y, rest) → Found (Or P Q) (either (matches fp) f g) tokens y rest
  either_found tokens y rest e =
      elim (chosen (heads (matches fp) tokens) (f tokens) (g tokens) (Ok (y, rest)) e) [
        | inl h ↦
            let one = rp.found tokens y rest h.1 in
            record { used = one.used; parts = one.parts; spelled = inl one.spelled; same = λ other k. either_by true (one.used ++ other) (heads_again (matches fp) tokens one.used rest other true one.parts k h.0) ∙ one.same other k }
        | inr h ↦
            let two = rq.found tokens y rest h.1 in
            record { used = two.used; parts = two.parts; spelled = inr two.spelled; same = λ other k. either_by false (two.used ++ other) (heads_again (matches fp) tokens two.used rest other false two.parts k h.0) ∙ two.same other k }
      ]

  either_fault : (tokens : List Token) (n : ℕ) → either (matches fp) f g tokens ≡ Err n → Fault (Or P Q) (either (matches fp) f g) tokens n
  either_fault tokens n e =
      elim (chosen (heads (matches fp) tokens) (f tokens) (g tokens) (Err n) e) [
        | inl h ↦
            let one = rp.fault tokens n h.1 in
            record {
              used = one.used;
              rest = one.rest;
              parts = one.parts;
              left = one.left;
              begins = record { value = one.begins.value; more = one.begins.more; spelled = inl one.begins.spelled };
              local = λ other k. either_by true (one.used ++ other) (heads_again (matches fp) tokens one.used one.rest other true one.parts k h.0) ∙ one.local other k;
            }
        | inr h ↦
            let two = rq.fault tokens n h.1 in
            record {
              used = two.used;
              rest = two.rest;
              parts = two.parts;
              left = two.left;
              begins = record { value = two.begins.value; more = two.begins.more; spelled = inr two.begins.spelled };
              local = λ other k. either_by false (two.used ++ other) (heads_again (matches fp) tokens two.used two.rest other false two.parts k h.0) ∙ two.local other k;
            }
      ]

  either_only : (y : A) (used rest : List Token) → Or P Q y used → Stops e_more rest → either (matches fp) f g (used ++ rest) ≡ Ok (y, rest)
  either_only y used rest s stop = elim s [ inl p ↦ left used p | inr q ↦ right used q ]
    where
      left : (used : List Token) → P y used → either (matches fp) f g (used ++ rest) ≡ Ok (y, rest)
      left [] p = absurd (let k = rp.full y p in cc)
      left (t ∷ used) p = either_by true (t ∷ (used ++ rest)) (rp.starts y t used p) ∙ rp.only y (t ∷ used) rest p (both_stop rest stop)

      right : (used : List Token) → Q y used → either (matches fp) f g (used ++ rest) ≡ Ok (y, rest)
      right [] q = either_by false rest (stops_second eq (or_if true mq mp) fp rest (rq.full y q) stop).stops ∙ rq.only y [] rest q (stops_first true mq mp rest (stops_first eq (or_if true mq mp) fp rest stop))
      right (t ∷ used) q = either_by false (t ∷ (used ++ rest)) (apart_sound _ _ separate t (rq.starts y t used q)) ∙ rq.only y (t ∷ used) rest q (stops_first true mq mp rest (stops_first eq (or_if true mq mp) fp rest stop))

  pub either_reads : Reads (Or P Q) (either (matches fp) f g) (or_if true fp fq) e_more eq
  either_reads = record {
    found = either_found;
    only = either_only;
    fault = either_fault;
    starts = λ y t back s. elim s [ inl p ↦ or_if_first true fp fq t (rp.starts y t back p) | inr q ↦ or_if_second true fp fq t refl (rq.starts y t back q) ];
    full = λ y s. elim s [ inl p ↦ absurd (let k = rp.full y p in cc) | inr q ↦ rq.full y q ];
    some = record { value = rp.some.value; more = rp.some.more; spelled = inl rp.some.spelled };
  }

-- ---- one, or nothing

module _ {A : Type 0} {P : A → List Token → Type 0} {f : List Token → Result (A × List Token) ℕ} {fp mp : List Mark} (rp : Reads P f fp mp false) where
  maybe_by : (b : Bool) (tokens : List Token) → heads (matches fp) tokens ≡ b → maybe (matches fp) f tokens ≡ cond b (bind (f tokens) (λ x. is (Some x))) (Ok (None, tokens))
  maybe_by b tokens h = rw h refl

  maybe_found : (tokens : List Token) (o : Option A) (rest : List Token) → maybe (matches fp) f tokens ≡ Ok (o, rest) → Found (Maybe P) (maybe (matches fp) f) tokens o rest
  maybe_found tokens o rest e =
      elim (chosen (heads (matches fp) tokens) (bind (f tokens) (λ x. is (Some x))) (Ok (None, tokens)) (Ok (o, rest)) e) [
        | inl h ↦
            let a = bind_ok (f tokens) (λ x. is (Some x)) (o, rest) h.1 in
            let w = ok_is (Some a.0, a.1) (o, rest) a.3 in
            let one = rp.found tokens a.0 a.1 a.2 in
            subst (λ (z : Option A × List Token). Found (Maybe P) (maybe (matches fp) f) tokens z.0 z.1) w
            (record {
              used = one.used;
              parts = one.parts;
              spelled = one.spelled;
              same = λ other k. maybe_by true (one.used ++ other) (heads_again (matches fp) tokens one.used a.1 other true one.parts k h.0) ∙ ap (λ r. bind r (λ x. is (Some x))) (one.same other k);
            })
        | inr h ↦
            let w = ok_is (None, tokens) (o, rest) h.1 in
            subst (λ (z : Option A × List Token). Found (Maybe P) (maybe (matches fp) f) tokens z.0 z.1) w
            (record { used = []; parts = refl; spelled = refl; same = λ other k. maybe_by false other (heads_same (matches fp) tokens other k ∙ h.0) })
      ]

  maybe_fault : (tokens : List Token) (n : ℕ) → maybe (matches fp) f tokens ≡ Err n → Fault (Maybe P) (maybe (matches fp) f) tokens n
  maybe_fault tokens n e =
      elim (chosen (heads (matches fp) tokens) (bind (f tokens) (λ x. is (Some x))) (Ok (None, tokens)) (Err n) e) [
        | inl h ↦
            elim (bind_err (f tokens) (λ x. is (Some x)) n h.1) [
              | inl e1 ↦
                  let one = rp.fault tokens n e1 in
                  record {
                    used = one.used;
                    rest = one.rest;
                    parts = one.parts;
                    left = one.left;
                    begins = record { value = Some one.begins.value; more = one.begins.more; spelled = one.begins.spelled };
                    local = λ other k. maybe_by true (one.used ++ other) (heads_again (matches fp) tokens one.used one.rest other true one.parts k h.0) ∙ ap (λ r. bind r (λ x. is (Some x))) (one.local other k);
                  }
              | inr a ↦ absurd (let k = a.3 in cc)
            ]
        | inr h ↦ absurd (let k = h.1 in cc)
      ]

  maybe_only : (o : Option A) (used rest : List Token) → Maybe P o used → Stops (or_if true mp fp) rest → maybe (matches fp) f (used ++ rest) ≡ Ok (o, rest)
  maybe_only None used rest s stop = ap (λ (l : List Token). maybe (matches fp) f (l ++ rest)) s ∙ maybe_by false rest (stops_second true mp fp rest refl stop).stops
  maybe_only (Some x) [] rest s stop = absurd (let k = rp.full x s in cc)
  maybe_only (Some x) (t ∷ used) rest s stop = maybe_by true (t ∷ (used ++ rest)) (rp.starts x t used s) ∙ ap (λ r. bind r (λ x. is (Some x))) (rp.only x (t ∷ used) rest s (stops_first true mp fp rest stop))

  maybe_starts : (o : Option A) (t : Token) (back : List Token) → Maybe P o (t ∷ back) → matches fp t ≡ true
  maybe_starts None t back s = absurd cc
  maybe_starts (Some x) t back s = rp.starts x t back s

  pub maybe_reads : Reads (Maybe P) (maybe (matches fp) f) fp (or_if true mp fp) true
  maybe_reads = record { found = maybe_found; only = maybe_only; fault = maybe_fault; starts = maybe_starts; full = λ o s. refl; some = record { value = None; more = []; spelled = refl } }
