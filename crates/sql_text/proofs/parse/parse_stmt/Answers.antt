use Rattle.std.proofs.Common.{◌≡◌, ◌∙◌, sym, ap, subst, inl, Result, Ok, Err}
use Rattle.sql_text.specs.declared.stmt.Stmt.{Stmt}
use Rattle.sql_text.specs.declared.sql_error.SqlError.{SqlError}
use Rattle.sql_text.specs.declared.sql_error.SqlError.TheVariants as error
use Rattle.sql_text.specs.Statements.{Statement}
use Rattle.sql_text.proofs.Parsing.{found, at_most_one, no_fault, failed, within, is_fault}
use Rattle.sql_text.proofs.parse.parse_stmt.Goals as goal

abbrev read : Stmt → Result Stmt SqlError
read s = Ok s

abbrev failing : SqlError → Result Stmt SqlError
failing e = Err e

same_error : (e f : SqlError) → failing e ≡ failing f → e ≡ f
same_error e f h = cc

pub fault-requires : goal.fault-requires
fault-requires c = rw (c.into_vec.ensures, sym c.as_slice.ensures) (within _ _ (failed _ _ _ c.in-Err-Left.field-0-is c.in-Err-Left.ensures))

pub returns-in-Ok-whole-clause-found : goal.returns-in-Ok-whole-clause-found
returns-in-Ok-whole-clause-found c = subst (Statement c.in-Ok-whole.stmt) (c.as_slice.ensures ∙ c.in-Ok.ensures) (found _ _ c.in-Ok-whole.ensures)

pub returns-in-Ok-whole-clause-only : goal.returns-in-Ok-whole-clause-only
returns-in-Ok-whole-clause-only c = λ s h. inl (ap read (at_most_one _ c.in-Ok-whole.stmt s (subst (Statement c.in-Ok-whole.stmt) (c.as_slice.ensures ∙ c.in-Ok.ensures) (found _ _ c.in-Ok-whole.ensures)) h))

pub returns-in-Err-Left-clause-only : goal.returns-in-Err-Left-clause-only
returns-in-Err-Left-clause-only c = λ s h. absurd (no_fault _ s _ (subst (Statement s) (sym (c.as_slice.ensures ∙ c.in-Ok.ensures)) h) (failed _ _ _ c.in-Err-Left.field-0-is c.in-Err-Left.ensures))

pub returns-in-Err-Left-clause-fault : goal.returns-in-Err-Left-clause-fault
returns-in-Err-Left-clause-fault c = λ at kind e.
    let p = same_error c.fault.result (error.SqlFault at kind) e in
    is_fault c.args.text.now c.into_vec.result.items _ at kind (c.into_vec.ensures ∙ c.in-Ok.ensures) (rw (c.into_vec.ensures, sym c.as_slice.ensures) (failed _ _ _ c.in-Err-Left.field-0-is c.in-Err-Left.ensures))
    (c.fault.ensures.at at kind p) (c.fault.ensures.kind at kind p)
