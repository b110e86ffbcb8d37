-- What reading all of the tokens of a text tells of the text.
use Rattle.std.proofs.Common.{◌≡◌, ◌+◌, ◌-◌, ◌≤◌, ℕ, zero, suc, nat_eq, false, rules, List, [], ◌++◌, length, take, drop, Ok, Err, sym, ap, subst, ◌∙◌, arith, length-append}
use Rattle.std.proofs.lemmas.List.{append-nil}
use Rattle.std.proofs.Math.Seq.{drop-append_seam, take-append_seam}
use Rattle.sql_tokens.specs.declared.token.Token.{Token}
use Rattle.sql_tokens.specs.Tokens.{tokens_of}
use Rattle.sql_text.specs.declared.stmt.Stmt.{Stmt}
use Rattle.sql_text.specs.declared.sql_error.SqlKind.{SqlKind}
use Rattle.sql_grammar.specs.declared.stop.Stop.{Stop}
use Rattle.sql_grammar.specs.declared.stop.Stop.TheVariants as stop
use Rattle.sql_grammar.specs.Reading.{Fails}
use Rattle.sql_grammar.specs.Lang.{Begins, IsFaultAt}
use Rattle.sql_grammar.proofs.Whole.{Fault, whole_found, whole_only, one_value, whole_fault, begins_all, begins_not_all}
use Rattle.sql_text.specs.Statements.{Statement}
use Rattle.sql_text.specs.Faults.{Tells, IsKind, place, IsFault}
use Rattle.sql_text.specs.ReadStatements.{whole_at}
use Rattle.sql_text.proofs.StatementReads.{statement_reads}

pub found : (tokens : List Token) (s : Stmt) → whole_at tokens ≡ Ok s → Statement s tokens
unfolding whole_at
found tokens s e = whole_found statement_reads tokens s e

pub at_most_one : (tokens : List Token) (s t : Stmt) → Statement s tokens → Statement t tokens → s ≡ t
at_most_one tokens s t h k = one_value statement_reads tokens s t h k

pub no_fault : (tokens : List Token) (s : Stmt) (n : ℕ) → Statement s tokens → whole_at tokens ≡ Err n → ⊥
unfolding whole_at
no_fault tokens s n h e = let k = whole_only statement_reads tokens s h in absurd cc

pub failed : (e : Stop) (n : ℕ) (tokens : List Token) → e ≡ stop.Left n → Fails e (whole_at tokens) → whole_at tokens ≡ Err n
failed e n tokens h k = let z = subst (λ (x : Stop). Fails x (whole_at tokens)) h k in z

-- ---- an integer from 0 on may stand there

pub begins_read : (tokens : List Token) (s : Stmt) → whole_at tokens ≡ Ok s → Begins Statement tokens
begins_read tokens s e = record { value = s; more = []; spelled = subst (Statement s) (sym (append-nil tokens)) (found tokens s e) }

pub tells : (tokens : List Token) (n : ℕ) → whole_at tokens ≡ Err n → Tells (nat_eq n 0) (Begins Statement tokens)
unfolding whole_at
tells tokens zero e = begins_all statement_reads tokens e
tells tokens (suc n) e = let h : nat_eq (suc n) 0 ≡ false = search rules in rw h (begins_not_all statement_reads tokens n e)

-- ---- the fault

pub fault_at : (tokens : List Token) (n : ℕ) → whole_at tokens ≡ Err n → Fault Statement tokens n
unfolding whole_at
fault_at tokens n e = whole_fault statement_reads tokens n e

pub within : (tokens : List Token) (n : ℕ) → whole_at tokens ≡ Err n → n ≤ length tokens
within tokens n e =
    let f = fault_at tokens n e in
    let k : length tokens ≡ length f.front + length f.rest = ap (λ (l : List Token). length l) f.is.parts ∙ length-append f.front f.rest in
    let m : n ≡ length f.rest = f.left in
    omega arith

pub is_fault : (text : List ℕ) (tokens : List Token) (n at : ℕ) (kind : SqlKind) → tokens ≡ tokens_of text → whole_at tokens ≡ Err n → at ≡ place text (drop (length tokens - n) tokens) → IsKind (take (length tokens - n) tokens) (drop (length tokens - n) tokens) kind → IsFault text at kind
is_fault text tokens n at kind t e stands is_so =
    let f = fault_at tokens n e in
    let count : length tokens - n ≡ length f.front = counted tokens f.front f.rest n f.is.parts f.left in
    let front : take (length tokens - n) tokens ≡ f.front = ap (λ (i : ℕ). take i tokens) count ∙ ap (λ (l : List Token). take (length f.front) l) f.is.parts ∙ take-append_seam f.front f.rest in
    let rest : drop (length tokens - n) tokens ≡ f.rest = ap (λ (i : ℕ). drop i tokens) count ∙ ap (λ (l : List Token). drop (length f.front) l) f.is.parts ∙ drop-append_seam f.front f.rest in
    record {
      front = f.front;
      rest = f.rest;
      first = subst (λ (l : List Token). IsFaultAt Statement l f.front f.rest) t f.is;
      stands = stands ∙ ap (λ (l : List Token). place text l) rest;
      is_so = subst (λ (l : List Token). IsKind f.front l kind) rest (subst (λ (l : List Token). IsKind l (drop (length tokens - n) tokens) kind) front is_so);
    }
  where
    counted : (all a b : List Token) (n : ℕ) → all ≡ a ++ b → n ≡ length b → length all - n ≡ length a
    counted all a b n p q =
        let k : length all ≡ length a + length b = ap (λ (l : List Token). length l) p ∙ length-append a b in
        omega arith
