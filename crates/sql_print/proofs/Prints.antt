-- Parts of the grammar whose values are written so that they are read again, one lemma a combinator.
use Rattle.std.proofs.Common.{◌≡◌, ◌⊎◌, inl, inr, Option, Some, None, is_some, List, [], ◌∷◌, ◌++◌, refl, sym, ap, subst, ◌∙◌}
use Rattle.std.proofs.lemmas.List.{append-nil}
use Rattle.sql_tokens.specs.declared.token.Token.{Token}
use Rattle.sql_tokens.specs.declared.token.TokenKind.{TokenKind}
use Rattle.sql_grammar.specs.Lang.{Tok, Is, Then, Or, Maybe, Many, ListOf, or_else}
use Rattle.sql_print.specs.Writable.{IsWritable, AreWritable}
use Rattle.sql_print.specs.Fit.{IsFit, AreFit}
use Rattle.sql_print.specs.Parts.{maybe, when, behind_each, separated}
use Rattle.sql_print.proofs.Again.{kinds}

-- tokens that are right for a value, can be written, and spell it wherever they stand
pub record Printed {A : Type 0} (P : A → List Token → Type 0) (R : A → List TokenKind → Type 0) (y : A) : Type 0 where
  pub tokens : List TokenKind
  pub right : R y tokens
  pub writable : AreWritable tokens
  pub spelled : (ts : List Token) → kinds ts ≡ tokens → P y ts

-- each value that tokens of a text spell has some
pub record Prints {A : Type 0} (P : A → List Token → Type 0) (R : A → List TokenKind → Type 0) : Type 0 where
  pub law : (y : A) (ts : List Token) → P y ts → AreFit ts → Printed P R y

-- the tokens are these
abbrev pub By : {A : Type 0} → (A → List TokenKind) → A → List TokenKind → Type 0
By show y ks = ks ≡ show y

-- ---- lists of tokens

abbrev Split : List TokenKind → List TokenKind → List Token → Type 0
Split a b ts = (front : List Token) × (back : List Token) × (ts ≡ front ++ back) × (kinds front ≡ a) × (kinds back ≡ b)

pub split : (a b : List TokenKind) (ts : List Token) → kinds ts ≡ a ++ b → Split a b ts
split [] b ts e = ([], ts, refl, refl, e)
split (k ∷ a) b [] e = absurd cc
split (k ∷ a) b (t ∷ ts) e =
    let h : t.kind ≡ k = cc in
    let m : kinds ts ≡ a ++ b = cc in
    let r = split a b ts m in
    (t ∷ r.0, r.1, ap (λ x. t ∷ x) r.2, ap (λ x. x ∷ kinds r.0) h ∙ ap (λ x. k ∷ x) r.3, r.4)

pub fit_parts : (a b : List Token) → AreFit (a ++ b) → AreFit a × AreFit b
unfolding AreFit
fit_parts [] b h = (tt, h)
fit_parts (t ∷ ts) b h = let r = fit_parts ts b h.1 in ((h.0, r.0), r.1)

pub both_writable : (a b : List TokenKind) → AreWritable a → AreWritable b → AreWritable (a ++ b)
unfolding AreWritable
both_writable [] b g h = h
both_writable (k ∷ ks) b g h = (g.0, both_writable ks b g.1 h)

pub none : (ts : List Token) → kinds ts ≡ [] → ts ≡ []
none [] e = refl
none (t ∷ ts) e = absurd cc

pub single : (k : TokenKind) (ts : List Token) → kinds ts ≡ k ∷ [] → (t : Token) × (ts ≡ t ∷ []) × (t.kind ≡ k)
single k [] e = absurd cc
single k (t ∷ ts) e = let h : t.kind ≡ k = cc in let m : kinds ts ≡ [] = cc in (t, ap (λ x. t ∷ x) (none ts m), h)

-- ---- the combinators

pub tok : {A : Type 0} (class : Token → Option A) (k : A → TokenKind) → ((t : Token) (x : A) → class t ≡ Some x → IsFit t.kind → IsWritable (k x))
    → ((t : Token) (x : A) → class t ≡ Some x → (u : Token) → u.kind ≡ k x → class u ≡ Some x) → Prints (Tok class) (By (λ x. k x ∷ []))
unfolding AreFit AreWritable
tok class k fits same = record {
  law = λ x ts h fit. record {
    tokens = k x ∷ [];
    right = refl;
    writable = (fits h.0 x h.2 (subst AreFit h.1 fit).0, tt);
    spelled = λ us e. let s = single (k x) us e in (s.0, s.1, same h.0 x h.2 s.0 s.2);
  };
}

pub is : {A : Type 0} (R : A → List TokenKind → Type 0) (x : A) → R x [] → Prints (Is x) R
unfolding AreWritable
is R x r = record {
  law = λ y ts h fit. record {
    tokens = [];
    right = subst (λ z. R z []) h.1 r;
    writable = tt;
    spelled = λ us e. (none us e, h.1);
  };
}

pub bind : {A B : Type 0} {P : A → List Token → Type 0} {S : A → List TokenKind → Type 0} {Q : A → B → List Token → Type 0} {R : B → List TokenKind → Type 0}
    → Prints P S → ((v : A) (ks : List TokenKind) → S v ks → Prints (Q v) (λ y js. R y (ks ++ js))) → Prints (Then P Q) R
bind first next = record {
  law = λ y ts h fit.
      let f = fit_parts h.front h.back (subst AreFit h.parts fit) in
      let p = first.law h.value h.front h.first f.0 in
      let q = (next h.value p.tokens p.right).law y h.back h.second f.1 in
      record {
        tokens = p.tokens ++ q.tokens;
        right = q.right;
        writable = both_writable p.tokens q.tokens p.writable q.writable;
        spelled = λ us e. let s = split p.tokens q.tokens us e in record {
          value = h.value;
          front = s.0;
          back = s.1;
          parts = s.2;
          first = p.spelled s.0 s.3;
          second = q.spelled s.1 s.4;
        };
      };
}

pub part : {A B : Type 0} {P : A → List Token → Type 0} {show : A → List TokenKind} {Q : A → B → List Token → Type 0} {R : B → List TokenKind → Type 0}
    → Prints P (By show) → ((v : A) → Prints (Q v) (λ y js. R y (show v ++ js))) → Prints (Then P Q) R
part {Q = Q} {R = R} first next = bind first (λ v ks e. subst (λ x. Prints (Q v) (λ y js. R y (x ++ js))) (sym e) (next v))

pub last : {A B : Type 0} {P : A → List Token → Type 0} {show : A → List TokenKind} {R : B → List TokenKind → Type 0} (made : A → B)
    → Prints P (By show) → ((v : A) → R (made v) (show v)) → Prints (Then P (λ v. Is (made v))) R
last {show = show} {R = R} made first right = part first (λ v. is (λ y js. R y (show v ++ js)) (made v) (subst (R (made v)) (sym (append-nil (show v))) (right v)))

pub or : {A : Type 0} {P Q : A → List Token → Type 0} {R : A → List TokenKind → Type 0} → Prints P R → Prints Q R → Prints (Or P Q) R
or {A} {P} {Q} {R} p q = record {
  law = λ y ts h fit. elim h [
    | inl a ↦ let r = p.law y ts a fit in record { tokens = r.tokens; right = r.right; writable = r.writable; spelled = λ us e. inl (r.spelled us e) }
    | inr b ↦ let r = q.law y ts b fit in record { tokens = r.tokens; right = r.right; writable = r.writable; spelled = λ us e. inr (r.spelled us e) }
  ];
}

pub optional : {A : Type 0} {P : A → List Token → Type 0} {show : A → List TokenKind} → Prints P (By show) → Prints (Maybe P) (By (maybe show))
unfolding maybe AreWritable
optional {A} {P} {show} p = record { law = go }
  where
    go : (o : Option A) (ts : List Token) → Maybe P o ts → AreFit ts → Printed (Maybe P) (By (maybe show)) o
    go None ts h fit = record { tokens = []; right = refl; writable = tt; spelled = none }
    go (Some x) ts h fit = let r = p.law x ts h fit in record { tokens = r.tokens; right = r.right; writable = r.writable; spelled = r.spelled }

-- what is found or not, with no value
pub flag : {P : Unit {0} → List Token → Type 0} {ks : List TokenKind} → Prints P (By (λ _. ks)) → Prints (Maybe P) (By (λ o. when (is_some o) ks))
unfolding when AreWritable
flag {P} {ks} p = record { law = go }
  where
    go : (o : Option (Unit {0})) (ts : List Token) → Maybe P o ts → AreFit ts → Printed (Maybe P) (By (λ o. when (is_some o) ks)) o
    go None ts h fit = record { tokens = []; right = refl; writable = tt; spelled = none }
    go (Some x) ts h fit = let r = p.law x ts h fit in record { tokens = r.tokens; right = r.right; writable = r.writable; spelled = r.spelled }

-- what can be left out is not written
pub skip : {A B : Type 0} {P : A → List Token → Type 0} {Q : B → List Token → Type 0} {R : B → List TokenKind → Type 0} (v : A) → P v [] → Prints Q R → Prints (Then P (λ _. Q)) R
skip v without q = record {
  law = λ y ts h fit.
      let f = fit_parts h.front h.back (subst AreFit h.parts fit) in
      let r = q.law y h.back h.second f.1 in
      record {
        tokens = r.tokens;
        right = r.right;
        writable = r.writable;
        spelled = λ us e. record { value = v; front = []; back = us; parts = refl; first = without; second = r.spelled us e };
      };
}

-- any number of parts, each with a separator before it
pub many : {A : Type 0} {separator : Token → Option (Unit {0})} {P : A → List Token → Type 0} {show : A → List TokenKind} (k : TokenKind)
    → Prints (Tok separator) (By (λ _. k ∷ [])) → Prints P (By show) → Prints (Many (Then (Tok separator) (λ _. P))) (By (behind_each k show))
unfolding behind_each AreWritable
many {A} {separator} {P} {show} k sep p = record { law = go }
  where
    one : Prints (Then (Tok separator) (λ _. P)) (By (λ x. k ∷ show x))
    one = part sep (λ _. record { law = λ y ts h fit. let r = p.law y ts h fit in record { tokens = r.tokens; right = ap (λ x. k ∷ x) r.right; writable = r.writable; spelled = r.spelled } })

    go : (xs : List A) (ts : List Token) → Many (Then (Tok separator) (λ _. P)) xs ts → AreFit ts → Printed (Many (Then (Tok separator) (λ _. P))) (By (behind_each k show)) xs
    go [] ts h fit = record { tokens = []; right = refl; writable = tt; spelled = none }
    go (x ∷ xs) ts h fit =
        let f = fit_parts h.0 h.1 (subst AreFit h.2 fit) in
        let r = one.law x h.0 h.3 f.0 in
        let m = go xs h.1 h.4 f.1 in
        record {
          tokens = r.tokens ++ m.tokens;
          right = ap (λ z. z ++ m.tokens) r.right ∙ ap (λ z. (k ∷ show x) ++ z) m.right;
          writable = both_writable r.tokens m.tokens r.writable m.writable;
          spelled = λ us e. let s = split r.tokens m.tokens us e in (s.0, s.1, s.2, r.spelled s.0 s.3, m.spelled s.1 s.4);
        }

pub list : {A : Type 0} {separator : Token → Option (Unit {0})} {P : A → List Token → Type 0} {show : A → List TokenKind} {R : List A → List TokenKind → Type 0} (k : TokenKind)
    → Prints (Tok separator) (By (λ _. k ∷ [])) → Prints P (By show) → ((x : A) (xs : List A) → R (x ∷ xs) (separated k show (x ∷ xs))) → Prints (ListOf separator P) R
unfolding separated
list k sep p right = part p (λ x. last (λ xs. x ∷ xs) (many k sep p) (λ xs. right x xs))

-- a value that is written by nothing, and others
pub usual : {A : Type 0} {P Q : A → List Token → Type 0} {show : A → List TokenKind} (d : A) → show d ≡ [] → ((x : A) (ts : List Token) → P x ts → d ≡ x) → Prints Q (By show)
    → Prints (Then (Maybe (Or P Q)) (λ o. Is (or_else d o))) (By show)
unfolding AreWritable
usual {A} {P} {Q} {show} d short only q = record { law = λ y ts h fit. pick h.value y h.second.1 h.front h.first (fit_parts h.front h.back (subst AreFit h.parts fit)).0 }
  where
    Whole : A → List Token → Type 0
    Whole = Then (Maybe (Or P Q)) (λ o. Is (or_else d o))

    plain : Printed Whole (By show) d
    plain = record { tokens = []; right = sym short; writable = tt; spelled = λ us e. record { value = None; front = []; back = us; parts = refl; first = refl; second = (none us e, refl) } }

    other : (x : A) (ts : List Token) → Q x ts → AreFit ts → Printed Whole (By show) x
    other x ts h fit = let r = q.law x ts h fit in record {
      tokens = r.tokens;
      right = r.right;
      writable = r.writable;
      spelled = λ us e. record { value = Some x; front = us; back = []; parts = sym (append-nil us); first = inr (r.spelled us e); second = (refl, refl) };
    }

    pick : (o : Option A) (y : A) → or_else d o ≡ y → (front : List Token) → Maybe (Or P Q) o front → AreFit front → Printed Whole (By show) y
    pick None y e front h fit = subst (Printed Whole (By show)) e plain
    pick (Some x) y e front (inl h) fit = subst (Printed Whole (By show)) (only x front h ∙ e) plain
    pick (Some x) y e front (inr h) fit = subst (Printed Whole (By show)) e (other x front h fit)

-- the same, where nothing else spells that value
pub or_else_none : {A : Type 0} {P : A → List Token → Type 0} {show : A → List TokenKind} (d : A) → show d ≡ [] → Prints P (By show) → Prints (Then (Maybe P) (λ o. Is (or_else d o))) (By show)
unfolding AreWritable
or_else_none {A} {P} {show} d short p = record { law = λ y ts h fit. pick h.value y h.second.1 h.front h.first (fit_parts h.front h.back (subst AreFit h.parts fit)).0 }
  where
    Whole : A → List Token → Type 0
    Whole = Then (Maybe P) (λ o. Is (or_else d o))

    plain : Printed Whole (By show) d
    plain = record { tokens = []; right = sym short; writable = tt; spelled = λ us e. record { value = None; front = []; back = us; parts = refl; first = refl; second = (none us e, refl) } }

    other : (x : A) (ts : List Token) → P x ts → AreFit ts → Printed Whole (By show) x
    other x ts h fit = let r = p.law x ts h fit in record {
      tokens = r.tokens;
      right = r.right;
      writable = r.writable;
      spelled = λ us e. record { value = Some x; front = us; back = []; parts = sym (append-nil us); first = r.spelled us e; second = (refl, refl) };
    }

    pick : (o : Option A) (y : A) → or_else d o ≡ y → (front : List Token) → Maybe P o front → AreFit front → Printed Whole (By show) y
    pick None y e front h fit = subst (Printed Whole (By show)) e plain
    pick (Some x) y e front h fit = subst (Printed Whole (By show)) e (other x front h fit)

-- of two ways to spell one value the first is written
pub first_way : {A : Type 0} {P Q : A → List Token → Type 0} {R : A → List TokenKind → Type 0} → ((y : A) (ts : List Token) → Q y ts → AreFit ts → Printed P R y ⊎ Printed Q R y) → Prints P R → Prints (Or P Q) R
first_way {A} {P} {Q} {R} second p = record {
  law = λ y ts h fit. elim h [
    | inl a ↦ by_first y (p.law y ts a fit)
    | inr b ↦ elim (second y ts b fit) [ inl r ↦ by_first y r | inr r ↦ by_second y r ]
  ];
}
  where
    by_first : (y : A) → Printed P R y → Printed (Or P Q) R y
    by_first y r = record { tokens = r.tokens; right = r.right; writable = r.writable; spelled = λ us e. inl (r.spelled us e) }

    by_second : (y : A) → Printed Q R y → Printed (Or P Q) R y
    by_second y r = record { tokens = r.tokens; right = r.right; writable = r.writable; spelled = λ us e. inr (r.spelled us e) }

-- the tokens of a part are all
pub whole : {A : Type 0} {P : A → List Token → Type 0} {show : A → List TokenKind} {R : A → List TokenKind → Type 0} → Prints P (By show) → ((y : A) → R y (show y)) → Prints P R
whole {R = R} p right = record { law = λ y ts h fit. let r = p.law y ts h fit in record { tokens = r.tokens; right = subst (R y) (sym r.right) (right y); writable = r.writable; spelled = r.spelled } }
