-- A text has at most one first fault.
use Rattle.std.proofs.Common.{◌≡◌, ℕ, nat_eq, Bool, true, false, pos, negsuc, List, [], ◌∷◌, ◌++◌, Result, Ok, Err, refl, sym, ap, subst, ◌∙◌, ◌⊎◌, inl, inr}
use Rattle.sql_tokens.specs.declared.token.Token.{Token}
use Rattle.sql_tokens.specs.declared.token.TokenKind.{TokenKind}
use Rattle.sql_tokens.specs.declared.token.TokenKind.TheVariants as token
use Rattle.sql_text.specs.declared.sql_error.SqlKind.{SqlKind}
use Rattle.sql_tokens.specs.Tokens.{tokens_of}
use Rattle.sql_text.specs.declared.stmt.Stmt.{Stmt}
use Rattle.sql_text.specs.declared.sql_error.SqlKind.TheVariants as fault
use Rattle.sql_text.specs.Statements.{Spells}
use Rattle.sql_text.specs.ReadStatements.{whole_at}
use Rattle.sql_text.proofs.Parsing.{found, begins_read, tells, fault_at}
use Rattle.sql_grammar.proofs.Places.{one_place}
use Rattle.sql_text.specs.Faults.{zero_token, TakesZero, Tells, IsNegativeKind, IsKindOf, IsKind, place, IsFault}

one_negative : (front : List Token) (a b : SqlKind) → IsNegativeKind front a → IsNegativeKind front b → a ≡ b
one_negative front a b (inl h) (inl k) = h.1 ∙ sym k.1
one_negative front a b (inl h) (inr k) = absurd (k.0 h.0)
one_negative front a b (inr h) (inl k) = absurd (h.0 k.0)
one_negative front a b (inr h) (inr k) = h.1 ∙ sym k.1

one_kind_of : (front : List Token) (t : TokenKind) (a b : SqlKind) → IsKindOf front t a → IsKindOf front t b → a ≡ b
one_kind_of front token.Stray a b h k = h ∙ sym k
one_kind_of front token.Beyond a b h k = h ∙ sym k
one_kind_of front (token.Int (negsuc n)) a b h k = one_negative front a b h k
one_kind_of front (token.Int (pos n)) a b h k = h ∙ sym k
one_kind_of front (token.Word w) a b h k = h ∙ sym k
one_kind_of front (token.Quoted w) a b h k = h ∙ sym k
one_kind_of front (token.Text w) a b h k = h ∙ sym k
one_kind_of front (token.Sign s) a b h k = h ∙ sym k

one_kind : (front rest : List Token) (a b : SqlKind) → IsKind front rest a → IsKind front rest b → a ≡ b
one_kind front [] a b h k = h ∙ sym k
one_kind front (t ∷ rest) a b h k = one_kind_of front t.kind a b h k

pub one_fault : (at place : ℕ) (kind other : SqlKind) (text : List ℕ) → IsFault text at kind → IsFault text place other → (at ≡ place) × (kind ≡ other)
one_fault at other_at kind other text h k =
    let p = one_place h.first k.first in (
      h.stands ∙ ap (λ (l : List Token). place text l) p.1 ∙ sym k.stands,
      one_kind k.front k.rest kind other (subst (λ (l : List Token). IsKind l k.rest kind) p.0 (subst (λ (l : List Token). IsKind h.front l kind) p.1 h.is_so)) k.is_so,
    )

-- ---- a text spells a statement or has a fault

some_negative : (front : List Token) → (k : SqlKind) × IsNegativeKind front k
some_negative front = go (whole_at (front ++ zero_token ∷ [])) refl
  where
    told : (n : ℕ) → Tells (nat_eq n 0) (TakesZero front) → (k : SqlKind) × IsNegativeKind front k
    told n h = by (nat_eq n 0) h
      where
        by : (b : Bool) → Tells b (TakesZero front) → (k : SqlKind) × IsNegativeKind front k
        by true takes = (fault.Range, inl (takes, refl))
        by false not_so = (fault.Syntax, inr (not_so, refl))

    go : (r : Result Stmt ℕ) → whole_at (front ++ zero_token ∷ []) ≡ r → (k : SqlKind) × IsNegativeKind front k
    go (Ok s) e = (fault.Range, inl (begins_read (front ++ zero_token ∷ []) s e, refl))
    go (Err n) e = told n (tells (front ++ zero_token ∷ []) n e)

some_kind_of : (front : List Token) (t : TokenKind) → (k : SqlKind) × IsKindOf front t k
some_kind_of front token.Stray = (fault.Lex, refl)
some_kind_of front token.Beyond = (fault.Range, refl)
some_kind_of front (token.Int (negsuc n)) = some_negative front
some_kind_of front (token.Int (pos n)) = (fault.Syntax, refl)
some_kind_of front (token.Word w) = (fault.Syntax, refl)
some_kind_of front (token.Quoted w) = (fault.Syntax, refl)
some_kind_of front (token.Text w) = (fault.Syntax, refl)
some_kind_of front (token.Sign s) = (fault.Syntax, refl)

some_kind : (front rest : List Token) → (k : SqlKind) × IsKind front rest k
some_kind front [] = (fault.Syntax, refl)
some_kind front (t ∷ rest) = some_kind_of front t.kind

pub told : (text : List ℕ) → ((s : Stmt) × Spells s text) ⊎ ((at : ℕ) × (kind : SqlKind) × IsFault text at kind)
told text = go (whole_at (tokens_of text)) refl
  where
    go : (r : Result Stmt ℕ) → whole_at (tokens_of text) ≡ r → ((s : Stmt) × Spells s text) ⊎ ((at : ℕ) × (kind : SqlKind) × IsFault text at kind)
    go (Ok s) e = inl (s, found (tokens_of text) s e)
    go (Err n) e =
        let f = fault_at (tokens_of text) n e in
        let k = some_kind f.front f.rest in
        inr (place text f.rest, k.0, record { front = f.front; rest = f.rest; first = f.is; stands = refl; is_so = k.1 })
