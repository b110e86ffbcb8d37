-- A text begins with a written sign.
use Rattle.std.proofs.Common.{ℕ, List, [], ◌∷◌, ◌++◌, refl, inl, inr}
use Rattle.sql_tokens.specs.Signs.{sign_of, long_sign_of}
use Rattle.sql_tokens.specs.Tokens.{lexeme}
use Rattle.sql_tokens.specs.declared.token.Sign.{Sign}
use Rattle.sql_tokens.specs.declared.token.Sign.TheVariants as sign
use Rattle.sql_tokens.specs.declared.token.TokenKind.TheVariants as kind
use Rattle.sql_print.specs.Printing.{sign_text}
use Rattle.sql_print.proofs.Runs.{IsStop}
use Rattle.sql_print.proofs.Begun.{Begins}

abbrev Starts : Sign → List ℕ → Type 0
Starts s rest = Begins (kind.Sign s) (sign_text s ++ rest) rest

pub open_begins : (rest : List ℕ) → Starts sign.Open rest
unfolding lexeme long_sign_of sign_of
open_begins [] = record { first = 40; more = []; parts = refl; dark = refl; lexes = refl }
open_begins (c ∷ cs) = record { first = 40; more = c ∷ cs; parts = refl; dark = refl; lexes = refl }

less_begins : (rest : List ℕ) → IsStop rest → Starts sign.Less rest
unfolding lexeme long_sign_of sign_of
less_begins [] h = record { first = 60; more = []; parts = refl; dark = refl; lexes = refl }
less_begins (c ∷ cs) (inl (inl e)) = record { first = 60; more = c ∷ cs; parts = refl; dark = refl; lexes = rw e refl }
less_begins (c ∷ cs) (inl (inr e)) = record { first = 60; more = c ∷ cs; parts = refl; dark = refl; lexes = rw e refl }
less_begins (c ∷ cs) (inr e) = record { first = 60; more = c ∷ cs; parts = refl; dark = refl; lexes = rw e refl }

greater_begins : (rest : List ℕ) → IsStop rest → Starts sign.Greater rest
unfolding lexeme long_sign_of sign_of
greater_begins [] h = record { first = 62; more = []; parts = refl; dark = refl; lexes = refl }
greater_begins (c ∷ cs) (inl (inl e)) = record { first = 62; more = c ∷ cs; parts = refl; dark = refl; lexes = rw e refl }
greater_begins (c ∷ cs) (inl (inr e)) = record { first = 62; more = c ∷ cs; parts = refl; dark = refl; lexes = rw e refl }
greater_begins (c ∷ cs) (inr e) = record { first = 62; more = c ∷ cs; parts = refl; dark = refl; lexes = rw e refl }

pub sign_begins : (s : Sign) (rest : List ℕ) → IsStop rest → Starts s rest
unfolding lexeme long_sign_of sign_of
sign_begins sign.Open rest h = open_begins rest
sign_begins sign.Less rest h = less_begins rest h
sign_begins sign.Greater rest h = greater_begins rest h
sign_begins sign.AtMost rest h = record { first = 60; more = 61 ∷ rest; parts = refl; dark = refl; lexes = refl }
sign_begins sign.AtLeast rest h = record { first = 62; more = 61 ∷ rest; parts = refl; dark = refl; lexes = refl }
sign_begins sign.Unequal rest h = record { first = 60; more = 62 ∷ rest; parts = refl; dark = refl; lexes = refl }
sign_begins sign.Close [] h = record { first = 41; more = []; parts = refl; dark = refl; lexes = refl }
sign_begins sign.Close (c ∷ cs) h = record { first = 41; more = c ∷ cs; parts = refl; dark = refl; lexes = refl }
sign_begins sign.OpenRange [] h = record { first = 91; more = []; parts = refl; dark = refl; lexes = refl }
sign_begins sign.OpenRange (c ∷ cs) h = record { first = 91; more = c ∷ cs; parts = refl; dark = refl; lexes = refl }
sign_begins sign.Comma [] h = record { first = 44; more = []; parts = refl; dark = refl; lexes = refl }
sign_begins sign.Comma (c ∷ cs) h = record { first = 44; more = c ∷ cs; parts = refl; dark = refl; lexes = refl }
sign_begins sign.End [] h = record { first = 59; more = []; parts = refl; dark = refl; lexes = refl }
sign_begins sign.End (c ∷ cs) h = record { first = 59; more = c ∷ cs; parts = refl; dark = refl; lexes = refl }
sign_begins sign.Equal [] h = record { first = 61; more = []; parts = refl; dark = refl; lexes = refl }
sign_begins sign.Equal (c ∷ cs) h = record { first = 61; more = c ∷ cs; parts = refl; dark = refl; lexes = refl }
sign_begins sign.Star [] h = record { first = 42; more = []; parts = refl; dark = refl; lexes = refl }
sign_begins sign.Star (c ∷ cs) h = record { first = 42; more = c ∷ cs; parts = refl; dark = refl; lexes = refl }
