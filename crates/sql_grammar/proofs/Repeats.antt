-- Any number of times.
use Rattle.std.proofs.Common.{◌≡◌, ℕ, zero, suc, Bool, true, false, cond, List, [], ◌∷◌, ◌++◌, length, ◌≤◌, Result, Ok, Err, refl, sym, ap, subst, ◌∙◌, append_assoc, arith, length-append, inl, inr}
use Rattle.std.proofs.lemmas.List.{append-nil}
use Rattle.sql_tokens.specs.declared.token.Token.{Token}
use Rattle.sql_grammar.specs.Marks.{Mark, matches, are_apart}
use Rattle.sql_grammar.proofs.Apart.{apart_sound}
use Rattle.sql_grammar.specs.Lang.{Many, SameHead}
use Rattle.sql_grammar.specs.Reading.{Reader, bind, is, heads, many}
use Rattle.sql_grammar.proofs.Readings.{Stops, or_if, Reads, failed, ok_is, bind_ok, bind_err, chosen, same_self, same_after, heads_same, heads_again, stops_first, stops_second}

-- fuel that is enough
abbrev pub Enough : ℕ → List Token → Type 0
Enough fuel tokens = length tokens ≤ fuel

pub record FoundMany {A : Type 0} (P : A → List Token → Type 0) (fp : List Mark) (f : List Token → Result (A × List Token) ℕ) (tokens : List Token) (xs : List A) (rest : List Token) : Type 0 where
  pub used : List Token
  pub parts : tokens ≡ used ++ rest
  pub spelled : Many P xs used
  pub same : (other : List Token) (fuel : ℕ) → SameHead rest other → Enough fuel (used ++ other) → many (matches fp) f fuel (used ++ other) ≡ Ok (xs, other)

pub record FaultMany {A : Type 0} (P : A → List Token → Type 0) (fp : List Mark) (f : List Token → Result (A × List Token) ℕ) (tokens : List Token) (n : ℕ) : Type 0 where
  pub used : List Token
  pub rest : List Token
  pub parts : tokens ≡ used ++ rest
  pub left : n ≡ length rest
  pub value : List A
  pub more : List Token
  pub begins : Many P value (used ++ more)
  pub local : (other : List Token) (fuel : ℕ) → SameHead rest other → Enough fuel (used ++ other) → many (matches fp) f fuel (used ++ other) ≡ Err (length other)

module _ {A : Type 0} {P : A → List Token → Type 0} {f : List Token → Result (A × List Token) ℕ} {fp mp : List Mark} (rp : Reads P f fp mp false) where
  abbrev rest_of : ℕ → A → Reader (List A)
  rest_of fuel x rest = bind (many (matches fp) f fuel rest) (λ xs. is (x ∷ xs))

  many_by : (b : Bool) (fuel : ℕ) (tokens : List Token) → heads (matches fp) tokens ≡ b → many (matches fp) f (suc fuel) tokens ≡ cond b (bind (f tokens) (rest_of fuel)) (Ok ([], tokens))
  many_by b fuel tokens h = rw h refl

  -- with enough fuel a test that fails ends it, also where there is none
  pub many_ends : (fuel : ℕ) (tokens : List Token) → heads (matches fp) tokens ≡ false → many (matches fp) f fuel tokens ≡ Ok ([], tokens)
  many_ends zero tokens h = refl
  many_ends (suc fuel) tokens h = rw h refl

  -- what one item leaves is shorter
  shorter : (fuel : ℕ) (x : A) (used other : List Token) → P x used → Enough (suc fuel) (used ++ other) → Enough fuel other
  shorter fuel x [] other p h = absurd (let k = rp.full x p in cc)
  shorter fuel x (t ∷ used) other p h = omega (arith, length-append used other)

  -- one item, and then the others
  many_step : (fuel : ℕ) (x : A) (used other : List Token) (b : Bool) → P x used → heads (matches fp) (used ++ other) ≡ b → Enough fuel (used ++ other) → (r : Result (A × List Token) ℕ) → f (used ++ other) ≡ r → (less : ℕ) × (fuel ≡ suc less) × Enough less other
  many_step zero x [] other b p h enough r k = absurd (let k = rp.full x p in cc)
  many_step zero x (t ∷ used) other b p h enough r k = absurd (omega arith)
  many_step (suc fuel) x used other b p h enough r k = (fuel, refl, shorter fuel x used other p enough)

  many_found : (fuel : ℕ) (tokens : List Token) (xs : List A) (rest : List Token) → Enough fuel tokens → many (matches fp) f fuel tokens ≡ Ok (xs, rest) → FoundMany P fp f tokens xs rest
  many_found zero [] xs rest enough e =
      let w = ok_is ([], []) (xs, rest) e in
      subst (λ (z : List A × List Token). FoundMany P fp f [] z.0 z.1) w
      (record { used = []; parts = refl; spelled = refl; same = λ other fuel k en. many_ends fuel other (heads_same (matches fp) [] other k) })
  many_found zero (t ∷ ts) xs rest enough e = absurd (omega arith)
  many_found (suc fuel) tokens xs rest enough e =
      elim (chosen (heads (matches fp) tokens) (bind (f tokens) (rest_of fuel)) (Ok ([], tokens)) (Ok (xs, rest)) e) [
        | inl h ↦
            let a = bind_ok (f tokens) (rest_of fuel) (xs, rest) h.1 in
            let one = rp.found tokens a.0 a.1 a.2 in
            let b = bind_ok (many (matches fp) f fuel a.1) (λ ys. is (a.0 ∷ ys)) (xs, rest) a.3 in
            let en : Enough fuel a.1 = shorter fuel a.0 one.used a.1 one.spelled (subst (Enough (suc fuel)) one.parts enough) in
            let two = many_found fuel a.1 b.0 b.1 en b.2 in
            let w = ok_is (a.0 ∷ b.0, b.1) (xs, rest) b.3 in
            subst (λ (z : List A × List Token). FoundMany P fp f tokens z.0 z.1) w
            (record {
              used = one.used ++ two.used;
              parts = one.parts ∙ ap (λ (l : List Token). one.used ++ l) two.parts ∙ sym (append_assoc one.used two.used b.1);
              spelled = (one.used, two.used, refl, one.spelled, two.spelled);
              same = λ other fuel' k en'.
                  let assoc = append_assoc one.used two.used other in
                  let heads_is : heads (matches fp) ((one.used ++ two.used) ++ other) ≡ true = heads_again (matches fp) tokens (one.used ++ two.used) b.1 other true (one.parts ∙ ap (λ (l : List Token). one.used ++ l) two.parts ∙ sym (append_assoc one.used two.used b.1)) k h.0 in
                  let f_is : f (one.used ++ (two.used ++ other)) ≡ Ok (a.0, two.used ++ other) = one.same (two.used ++ other) (subst (λ (l : List Token). SameHead l (two.used ++ other)) (sym two.parts) (same_after two.used b.1 other k)) in
                  let less = many_step fuel' a.0 one.used (two.used ++ other) true one.spelled (ap (λ (l : List Token). heads (matches fp) l) (sym assoc) ∙ heads_is) (subst (Enough fuel') assoc en') (Ok (a.0, two.used ++ other)) f_is in
                  ap (λ (i : ℕ). many (matches fp) f i ((one.used ++ two.used) ++ other)) less.1 ∙ many_by true less.0 ((one.used ++ two.used) ++ other) heads_is
                  ∙ ap (λ (l : List Token). bind (f l) (rest_of less.0)) assoc ∙ ap (λ r. bind r (rest_of less.0)) f_is
                  ∙ ap (λ r. bind r (λ ys. is (a.0 ∷ ys))) (two.same other less.0 k less.2);
            })
        | inr h ↦
            let w = ok_is ([], tokens) (xs, rest) h.1 in
            subst (λ (z : List A × List Token). FoundMany P fp f tokens z.0 z.1) w
            (record { used = []; parts = refl; spelled = refl; same = λ other fuel k en. many_ends fuel other (heads_same (matches fp) tokens other k ∙ h.0) })
      ]

  many_fault : (fuel : ℕ) (tokens : List Token) (n : ℕ) → Enough fuel tokens → many (matches fp) f fuel tokens ≡ Err n → FaultMany P fp f tokens n
  many_fault zero tokens n enough e = absurd cc
  many_fault (suc fuel) tokens n enough e =
      elim (chosen (heads (matches fp) tokens) (bind (f tokens) (rest_of fuel)) (Ok ([], tokens)) (Err n) e) [
        | inl h ↦
            elim (bind_err (f tokens) (rest_of fuel) n h.1) [
              | inl e1 ↦
                  let one = rp.fault tokens n e1 in
                  record {
                    used = one.used;
                    rest = one.rest;
                    parts = one.parts;
                    left = one.left;
                    value = one.begins.value ∷ [];
                    more = one.begins.more;
                    begins = (one.used ++ one.begins.more, [], sym (append-nil (one.used ++ one.begins.more)), one.begins.spelled, refl);
                    local = λ other fuel' k en'.
                        let heads_is : heads (matches fp) (one.used ++ other) ≡ true = heads_again (matches fp) tokens one.used one.rest other true one.parts k h.0 in
                        let less = goes_on fuel' (one.used ++ other) heads_is en' in
                        ap (λ (i : ℕ). many (matches fp) f i (one.used ++ other)) less.1 ∙ many_by true less.0 (one.used ++ other) heads_is ∙ ap (λ r. bind r (rest_of less.0)) (one.local other k);
                  }
              | inr a ↦
                  let one = rp.found tokens a.0 a.1 a.2 in
                  let en : Enough fuel a.1 = shorter fuel a.0 one.used a.1 one.spelled (subst (Enough (suc fuel)) one.parts enough) in
                  let e2 : many (matches fp) f fuel a.1 ≡ Err n = elim (bind_err (many (matches fp) f fuel a.1) (λ ys. is (a.0 ∷ ys)) n a.3) [ inl z ↦ z | inr z ↦ absurd (let k = z.3 in cc) ] in
                  let two = many_fault fuel a.1 n en e2 in
                  let whole = one.parts ∙ ap (λ (l : List Token). one.used ++ l) two.parts ∙ sym (append_assoc one.used two.used two.rest) in
                  record {
                    used = one.used ++ two.used;
                    rest = two.rest;
                    parts = whole;
                    left = two.left;
                    value = a.0 ∷ two.value;
                    more = two.more;
                    begins = (one.used, two.used ++ two.more, append_assoc one.used two.used two.more, one.spelled, two.begins);
                    local = λ other fuel' k en'.
                        let assoc = append_assoc one.used two.used other in
                        let heads_is : heads (matches fp) ((one.used ++ two.used) ++ other) ≡ true = heads_again (matches fp) tokens (one.used ++ two.used) two.rest other true whole k h.0 in
                        let f_is : f (one.used ++ (two.used ++ other)) ≡ Ok (a.0, two.used ++ other) = one.same (two.used ++ other) (subst (λ (l : List Token). SameHead l (two.used ++ other)) (sym two.parts) (same_after two.used two.rest other k)) in
                        let less = many_step fuel' a.0 one.used (two.used ++ other) true one.spelled (ap (λ (l : List Token). heads (matches fp) l) (sym assoc) ∙ heads_is) (subst (Enough fuel') assoc en') (Ok (a.0, two.used ++ other)) f_is in
                        ap (λ (i : ℕ). many (matches fp) f i ((one.used ++ two.used) ++ other)) less.1 ∙ many_by true less.0 ((one.used ++ two.used) ++ other) heads_is
                        ∙ ap (λ (l : List Token). bind (f l) (rest_of less.0)) assoc ∙ ap (λ r. bind r (rest_of less.0)) f_is
                        ∙ ap (λ r. bind r (λ ys. is (a.0 ∷ ys))) (two.local other less.0 k less.2);
                  }
            ]
        | inr h ↦ absurd (let k = h.1 in cc)
      ]
    where
      goes_on : (fuel : ℕ) (tokens : List Token) → heads (matches fp) tokens ≡ true → Enough fuel tokens → (less : ℕ) × (fuel ≡ suc less)
      goes_on zero [] h en = absurd cc
      goes_on zero (t ∷ ts) h en = absurd (omega arith)
      goes_on (suc fuel) tokens h en = (fuel, refl)

  -- more fuel than enough changes nothing
  many_fuel : (a b : ℕ) (tokens : List Token) → Enough a tokens → Enough b tokens → many (matches fp) f a tokens ≡ many (matches fp) f b tokens
  many_fuel a b tokens p q = go (many (matches fp) f a tokens) refl
    where
      go : (r : Result (List A × List Token) ℕ) → many (matches fp) f a tokens ≡ r → many (matches fp) f a tokens ≡ many (matches fp) f b tokens
      go (Ok y) e =
          let m = many_found a tokens y.0 y.1 p e in
          e ∙ sym (m.same y.1 b (same_self y.1) (subst (Enough b) m.parts q)) ∙ ap (λ (l : List Token). many (matches fp) f b l) (sym m.parts)
      go (Err n) e =
          let m = many_fault a tokens n p e in
          e ∙ ap (λ (i : ℕ). failed {A = List A × List Token} i) m.left ∙ sym (m.local m.rest b (same_self m.rest) (subst (Enough b) m.parts q)) ∙ ap (λ (l : List Token). many (matches fp) f b l) (sym m.parts)

  pub many_unfolds : (tokens : List Token) → heads (matches fp) tokens ≡ true → many (matches fp) f (length tokens) tokens ≡ bind (f tokens) (λ x rest. bind (many (matches fp) f (length rest) rest) (λ xs. is (x ∷ xs)))
  many_unfolds [] h = absurd cc
  many_unfolds (t ∷ ts) h = many_by true (length ts) (t ∷ ts) h ∙ go (f (t ∷ ts)) refl
    where
      go : (r : Result (A × List Token) ℕ) → f (t ∷ ts) ≡ r → bind (f (t ∷ ts)) (rest_of (length ts)) ≡ bind (f (t ∷ ts)) (λ x rest. bind (many (matches fp) f (length rest) rest) (λ xs. is (x ∷ xs)))
      go (Ok y) e =
          let m = rp.found (t ∷ ts) y.0 y.1 e in
          let en : Enough (length ts) y.1 = shorter (length ts) y.0 m.used y.1 m.spelled (subst (Enough (suc (length ts))) m.parts (omega arith)) in
          rw e (ap (λ r. bind r (λ xs. is (y.0 ∷ xs))) (many_fuel (length ts) (length y.1) y.1 en (omega arith)))
      go (Err n) e = rw e refl

module _ {A : Type 0} {P : A → List Token → Type 0} {f : List Token → Result (A × List Token) ℕ} {fp mp : List Mark} (rp : Reads P f fp mp false) (separate : are_apart fp mp ≡ true) where
  many_only : (xs : List A) (fuel : ℕ) (used rest : List Token) → Many P xs used → Stops (or_if true mp fp) rest → Enough fuel (used ++ rest) → many (matches fp) f fuel (used ++ rest) ≡ Ok (xs, rest)
  many_only [] fuel used rest s stop en = ap (λ (l : List Token). many (matches fp) f fuel (l ++ rest)) s ∙ many_ends rp fuel rest (stops_second true mp fp rest refl stop).stops
  many_only (x ∷ xs) fuel used rest s stop en =
      let assoc : used ++ rest ≡ s.0 ++ (s.1 ++ rest) = ap (λ (l : List Token). l ++ rest) s.2 ∙ append_assoc s.0 s.1 rest in
      ap (λ (l : List Token). many (matches fp) f fuel l) assoc ∙ go (λ less en'. many_only xs less s.1 rest s.4 stop en') s.0 s.3 fuel (subst (Enough fuel) assoc en)
    where
      stop_after : (ys : List A) (back : List Token) → Many P ys back → Stops mp (back ++ rest)
      stop_after ys [] m = stops_first true mp fp rest stop
      stop_after [] (t ∷ back) m = absurd cc
      stop_after (y ∷ ys) (t ∷ back) m = record { stops = apart_sound _ _ separate t (first_of_many m.0 m.1 m.2 m.3) }
        where
          first_of_many : (front end : List Token) → t ∷ back ≡ front ++ end → P y front → matches fp t ≡ true
          first_of_many [] end h p = absurd (let k = rp.full y p in cc)
          first_of_many (u ∷ front) end h p = let k : u ≡ t = cc in subst (λ (v : Token). matches fp v ≡ true) k (rp.starts y u front p)

      go : ((less : ℕ) → Enough less (s.1 ++ rest) → many (matches fp) f less (s.1 ++ rest) ≡ Ok (xs, rest)) → (front : List Token) → P x front → (fuel : ℕ) → Enough fuel (front ++ (s.1 ++ rest)) → many (matches fp) f fuel (front ++ (s.1 ++ rest)) ≡ Ok (x ∷ xs, rest)
      go again [] p fuel en = absurd (let k = rp.full x p in cc)
      go again (t ∷ front) p zero en = absurd (omega arith)
      go again (t ∷ front) p (suc fuel) en =
          many_by rp true fuel (t ∷ (front ++ (s.1 ++ rest))) (rp.starts x t front p)
          ∙ ap (λ r. bind r (rest_of rp fuel)) (rp.only x (t ∷ front) (s.1 ++ rest) p (stop_after xs s.1 s.4))
          ∙ ap (λ r. bind r (λ ys. is (x ∷ ys))) (again fuel (shorter rp fuel x (t ∷ front) (s.1 ++ rest) p en))

  many_starts : (xs : List A) (t : Token) (back : List Token) → Many P xs (t ∷ back) → matches fp t ≡ true
  many_starts [] t back s = absurd cc
  many_starts (x ∷ xs) t back s = go s.0 s.1 s.2 s.3
    where
      go : (front end : List Token) → t ∷ back ≡ front ++ end → P x front → matches fp t ≡ true
      go [] end h p = absurd (let k = rp.full x p in cc)
      go (u ∷ front) end h p = let k : u ≡ t = cc in subst (λ (v : Token). matches fp v ≡ true) k (rp.starts x u front p)

  pub many_reads : Reads (Many P) (λ tokens. many (matches fp) f (length tokens) tokens) fp (or_if true mp fp) true
  many_reads = record {
    found = λ tokens xs rest e.
        let m = many_found rp (length tokens) tokens xs rest (omega arith) e in
        record { used = m.used; parts = m.parts; spelled = m.spelled; same = λ other k. m.same other (length (m.used ++ other)) k (omega arith) };
    only = λ xs used rest s stop. many_only xs (length (used ++ rest)) used rest s stop (omega arith);
    fault = λ tokens n e.
        let m = many_fault rp (length tokens) tokens n (omega arith) e in
        record { used = m.used; rest = m.rest; parts = m.parts; left = m.left; begins = record { value = m.value; more = m.more; spelled = m.begins }; local = λ other k. m.local other (length (m.used ++ other)) k (omega arith) };
    starts = many_starts;
    full = λ xs s. refl;
    some = record { value = []; more = []; spelled = refl };
  }
