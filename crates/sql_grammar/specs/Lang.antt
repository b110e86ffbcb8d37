-- Languages: which lists of tokens spell which value. Nothing here reads.
use Rattle.std.specs.Prelude.{◌≡◌, ℕ, List, [], ◌∷◌, ◌++◌, ◌⊎◌, Option, Some, None}
use Rattle.sql_tokens.specs.declared.token.Token.{Token}
use Rattle.sql_tokens.specs.declared.token.Sign.{Sign}
use Rattle.sql_tokens.specs.declared.token.Sign.TheVariants as sign
use Rattle.sql_grammar.specs.Marks.{a_word, a_sign}

-- a language over values of A
abbrev pub Lang : Type 0 → Type 1
Lang A = A → List Token → Type 0

-- one token of a class, which gives its value
abbrev pub Tok : {A : Type 0} → (Token → Option A) → Lang A
Tok class x tokens = (t : Token) × (tokens ≡ t ∷ []) × (class t ≡ Some x)

-- no token, and this value
abbrev pub Is : {A : Type 0} → A → Lang A
Is made x tokens = (tokens ≡ []) × (made ≡ x)

-- first p, and then q of what it gave
pub record Then {A B : Type 0} (P : A → List Token → Type 0) (Q : A → B → List Token → Type 0) (y : B) (tokens : List Token) : Type 0 where
  pub value : A
  pub front : List Token
  pub back : List Token
  pub parts : tokens ≡ front ++ back
  pub first : P value front
  pub second : Q value y back

abbrev pub Or : {A : Type 0} → Lang A → Lang A → Lang A
Or P Q x tokens = P x tokens ⊎ Q x tokens

-- p, or nothing
abbrev pub Maybe : {A : Type 0} → Lang A → Lang (Option A)
Maybe P None tokens = tokens ≡ []
Maybe P (Some x) tokens = P x tokens

-- p any number of times
abbrev pub Many : {A : Type 0} → Lang A → Lang (List A)
Many P [] tokens = tokens ≡ []
Many P (x ∷ xs) tokens = (front : List Token) × (back : List Token) × (tokens ≡ front ++ back) × P x front × Many P xs back

infixl 10 ◌>>=◌
abbrev pub ◌>>=◌ : {A B : Type 0} → Lang A → (A → Lang B) → Lang B
P >>= Q = Then P Q

infixl 10 ◌>>◌
abbrev pub ◌>>◌ : {A B : Type 0} → Lang A → Lang B → Lang B
P >> Q = Then P (λ _. Q)

-- p, and more of them after separators
abbrev pub ListOf : {A : Type 0} → (Token → Option (Unit {0})) → Lang A → Lang (List A)
ListOf separator P = do
  x ← P
  xs ← Many (Tok separator >> P)
  Is (x ∷ xs)

-- p, and more of them after commas
abbrev pub Commas : {A : Type 0} → Lang A → Lang (List A)
Commas P = ListOf (a_sign sign.Comma) P

-- a word of the grammar, in any case
abbrev pub Word : List ℕ → Lang (Unit {0})
Word w = Tok (a_word w)

abbrev pub Sign_ : Sign → Lang (Unit {0})
Sign_ s = Tok (a_sign s)

-- the word stands for the value
abbrev pub Means : {A : Type 0} → List ℕ → A → Lang A
Means w x = Word w >> Is x

-- the sign stands for the value
abbrev pub Stands : {A : Type 0} → Sign → A → Lang A
Stands s x = Sign_ s >> Is x

-- what was found, or else another value
abbrev pub or_else : {A : Type 0} → A → Option A → A
or_else x None = x
or_else x (Some y) = y

-- ---- faults

-- something that the language has begins so
pub record Begins {A : Type 0} (P : A → List Token → Type 0) (tokens : List Token) : Type 0 where
  pub value : A
  pub more : List Token
  pub spelled : P value (tokens ++ more)

-- the two begin with the same token, or both are empty
abbrev pub SameHead : List Token → List Token → Type 0
SameHead [] [] = Unit {0}
SameHead [] (u ∷ us) = ⊥
SameHead (t ∷ ts) [] = ⊥
SameHead (t ∷ ts) (u ∷ us) = t ≡ u

-- The tokens are front and then rest, and the head of rest is the first token that nothing has after those before
-- it: something begins with front, and nothing goes on with that token, or, where rest is empty, ends there.
pub record IsFaultAt {A : Type 0} (P : A → List Token → Type 0) (tokens front rest : List Token) : Type 0 where
  pub parts : tokens ≡ front ++ rest
  pub begins : Begins P front
  pub dead : (x : A) (more : List Token) → SameHead rest more → P x (front ++ more) → ⊥
