-- What it means that a reader reads its language: it finds, it finds all, and it stops at the first token that can't stand there.
use Rattle.std.proofs.Common.{◌≡◌, ℕ, Bool, true, false, ◌||◌, cond, List, [], ◌∷◌, ◌++◌, length, ◌<◌, Result, Ok, Err, refl, sym, ap, subst, ◌∙◌, arith, length-append, ◌⊎◌, inl, inr}
use Rattle.sql_tokens.specs.declared.token.Token.{Token}
use Rattle.sql_grammar.specs.Marks.{Mark, matches}
use Rattle.sql_grammar.proofs.Apart.{matches-append}
use Rattle.sql_grammar.specs.Lang.{Begins, SameHead}
use Rattle.sql_grammar.specs.Reading.{Reader, bind, heads, Gives}
use Rattle.sql_grammar.specs.declared.stop.Stop.{Stop}
use Rattle.std.specs.Prelude.{IfOk}

-- the next token doesn't go on
pub record Stops (more : List Mark) (rest : List Token) : Type 0 where
  pub stops : heads (matches more) rest ≡ false

abbrev pub never : List Mark
never = []

-- of a, and of b too where the test says so
abbrev pub or_if : Bool → List Mark → List Mark → List Mark
or_if false a b = a
or_if true a b = a ++ b

abbrev pub both : Bool → Bool → Bool
both false b = false
both true b = b

-- what was read, exactly: only the next token was looked at
pub record Found {A : Type 0} (P : A → List Token → Type 0) (f : List Token → Result (A × List Token) ℕ) (tokens : List Token) (x : A) (rest : List Token) : Type 0 where
  pub used : List Token
  pub parts : tokens ≡ used ++ rest
  pub spelled : P x used
  pub same : (other : List Token) → SameHead rest other → f (used ++ other) ≡ Ok (x, other)

-- a fault: what stands before it begins something, and only the next token was looked at
pub record Fault {A : Type 0} (P : A → List Token → Type 0) (f : List Token → Result (A × List Token) ℕ) (tokens : List Token) (n : ℕ) : Type 0 where
  pub used : List Token
  pub rest : List Token
  pub parts : tokens ≡ used ++ rest
  pub left : n ≡ length rest
  pub begins : Begins P used
  pub local : (other : List Token) → SameHead rest other → f (used ++ other) ≡ Err (length other)

pub record Reads {A : Type 0} (P : A → List Token → Type 0) (f : List Token → Result (A × List Token) ℕ) (first more : List Mark) (empty : Bool) : Type 0 where
  pub found : (tokens : List Token) (x : A) (rest : List Token) → f tokens ≡ Ok (x, rest) → Found P f tokens x rest
  pub only : (x : A) (used rest : List Token) → P x used → Stops more rest → f (used ++ rest) ≡ Ok (x, rest)
  pub fault : (tokens : List Token) (n : ℕ) → f tokens ≡ Err n → Fault P f tokens n
  pub starts : (x : A) (t : Token) (back : List Token) → P x (t ∷ back) → matches first t ≡ true
  pub full : (x : A) → P x [] → empty ≡ true
  pub some : Begins P []

abbrev pub done : {A : Type 0} → A → Result A ℕ
done x = Ok x

abbrev pub failed : {A : Type 0} → ℕ → Result A ℕ
failed n = Err n

pub ok_is : {A : Type 0} (x y : A) → done x ≡ done y → x ≡ y
ok_is x y e = cc

pub bind_ok : {A B : Type 0} (r : Result (A × List Token) ℕ) (f : A → Reader B) (y : B × List Token) → bind r f ≡ Ok y → (x : A) × (rest : List Token) × (r ≡ Ok (x, rest)) × (f x rest ≡ Ok y)
bind_ok (Ok x) f y e = (x.0, x.1, refl, e)
bind_ok (Err n) f y e = absurd cc

pub bind_err : {A B : Type 0} (r : Result (A × List Token) ℕ) (f : A → Reader B) (n : ℕ) → bind r f ≡ Err n → (r ≡ Err n) ⊎ ((x : A) × (rest : List Token) × (r ≡ Ok (x, rest)) × (f x rest ≡ Err n))
bind_err (Ok x) f n e = inr (x.0, x.1, refl, e)
bind_err {A = A} (Err m) f n e = let k : m ≡ n = cc in inl (ap (λ (i : ℕ). failed {A = A × List Token} i) k)

pub chosen : {A : Type 0} (b : Bool) (x y : A) (z : A) → cond b x y ≡ z → ((b ≡ true) × (x ≡ z)) ⊎ ((b ≡ false) × (y ≡ z))
chosen true x y z e = inl (refl, e)
chosen false x y z e = inr (refl, e)

pub same_self : (a : List Token) → SameHead a a
same_self [] = tt
same_self (t ∷ ts) = refl

pub stops_same : (more : List Mark) (a b : List Token) → SameHead a b → Stops more a → Stops more b
stops_same more [] [] h s = s
stops_same more [] (u ∷ us) h s = absurd h
stops_same more (t ∷ ts) [] h s = absurd h
stops_same more (t ∷ ts) (u ∷ us) h s = record { stops = sym (ap (matches more) h) ∙ s.stops }

pub same_after : (used a b : List Token) → SameHead a b → SameHead (used ++ a) (used ++ b)
same_after [] a b h = h
same_after (t ∷ used) a b h = refl

pub heads_same : (c : Token → Bool) (a b : List Token) → SameHead a b → heads c b ≡ heads c a
heads_same c [] [] h = refl
heads_same c [] (u ∷ us) h = absurd h
heads_same c (t ∷ ts) [] h = absurd h
heads_same c (t ∷ ts) (u ∷ us) h = sym (ap c h)

-- heads of what was read and something else
pub heads_again : (c : Token → Bool) (tokens used rest other : List Token) (b : Bool) → tokens ≡ used ++ rest → SameHead rest other → heads c tokens ≡ b → heads c (used ++ other) ≡ b
heads_again c tokens used rest other b parts h e = heads_same c (used ++ rest) (used ++ other) (same_after used rest other h) ∙ ap (λ (l : List Token). heads c l) (sym parts) ∙ e

pub or_first : (a b : Bool) → (a || b) ≡ false → a ≡ false
or_first false b e = refl
or_first true b e = e

pub or_second : (a b : Bool) → (a || b) ≡ false → b ≡ false
or_second false b e = e
or_second true b e = absurd cc

pub stops_first : (e : Bool) (a b : List Mark) (rest : List Token) → Stops (or_if e a b) rest → Stops a rest
stops_first false a b rest s = s
stops_first true a b [] s = record { stops = refl }
stops_first true a b (t ∷ ts) s = record { stops = or_first (matches a t) (matches b t) (sym (matches-append a b t) ∙ s.stops) }

pub stops_second : (e : Bool) (a b : List Mark) (rest : List Token) → e ≡ true → Stops (or_if e a b) rest → Stops b rest
stops_second false a b rest h s = absurd cc
stops_second true a b [] h s = record { stops = refl }
stops_second true a b (t ∷ ts) h s = record { stops = or_second (matches a t) (matches b t) (sym (matches-append a b t) ∙ s.stops) }

pub or_if_first : (e : Bool) (a b : List Mark) (t : Token) → matches a t ≡ true → matches (or_if e a b) t ≡ true
or_if_first false a b t h = h
or_if_first true a b t h = matches-append a b t ∙ rw h refl

pub or_if_second : (e : Bool) (a b : List Mark) (t : Token) → e ≡ true → matches b t ≡ true → matches (or_if e a b) t ≡ true
or_if_second false a b t k h = absurd cc
or_if_second true a b t k h = matches-append a b t ∙ last (matches a t)
  where
    last : (x : Bool) → (x || matches b t) ≡ true
    last true = refl
    last false = h

pub both_true : (a b : Bool) → a ≡ true → b ≡ true → both a b ≡ true
both_true false b h k = absurd cc
both_true true b h k = k

-- ---- what a reader that takes a token leaves

longer : (used last : List Token) → (used ≡ [] → ⊥) → length last < length (used ++ last)
longer [] last h = absurd (h refl)
longer (t ∷ used) last h = omega (arith, length-append used last)

-- what is left is shorter
pub shrinks : {A : Type 0} {P : A → List Token → Type 0} {f : List Token → Result (A × List Token) ℕ} {first more : List Mark} → Reads P f first more false → (tokens : List Token) (x : A) (rest : List Token) → f tokens ≡ Ok (x, rest) → length rest < length tokens
shrinks {P = P} r tokens x rest e =
    let m = r.found tokens x rest e in
    rw m.parts (longer m.used rest (λ k. absurd (let z = r.full x (subst (P x) k m.spelled) in cc)))

-- what a function that gives what the reader does leaves is shorter
pub leaves_less : {A B : Type 0} {P : A → List Token → Type 0} {f : List Token → Result (A × List Token) ℕ} {first more : List Mark} → Reads P f first more false → (view : B → A × List Token) (tokens : List Token) (r : Result B Stop) → Gives view r (f tokens) → IfOk r (λ x. length (view x).1 < length tokens)
leaves_less rp view tokens (Ok x) given = shrinks rp tokens (view x).0 (view x).1 given
leaves_less rp view tokens (Err e) given = tt
