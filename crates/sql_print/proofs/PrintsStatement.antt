-- A statement is written so that it is read again.
use Rattle.std.specs.Prelude.{IfOk}
use Rattle.sql_print.specs.TextOf.{IsTextOf}
use Rattle.std.proofs.Common.{ℕ, Result, Ok, Err, None, List, refl, sym, subst, ◌∙◌}
use Rattle.std.proofs.lemmas.List.{append-nil}
use Rattle.sql_tokens.specs.Tokens.{tokens_of}
use Rattle.sql_text.specs.declared.stmt.Stmt.{Stmt}
use Rattle.sql_text.specs.declared.stmt.Stmt.TheVariants as stmt
use Rattle.sql_text.specs.Statements.{Body, Statement, Spells}
use Rattle.sql_print.specs.Writable.{AreWritable}
use Rattle.sql_print.specs.Printing.{printed}
use Rattle.sql_print.specs.Fit.{AreFit}
use Rattle.sql_print.specs.Shown.{shown}
use Rattle.sql_print.proofs.Again.{read_again}
use Rattle.sql_print.proofs.Prints.{Prints, Printed, By, is, part, last, or, skip}
use Rattle.sql_print.proofs.PrintsCreate.{create_prints, drop_prints}
use Rattle.sql_print.proofs.PrintsAlter.{alter_prints, cancel_prints}
use Rattle.sql_print.proofs.PrintsShow.{show_prints, describe_prints, admin_prints}
use Rattle.sql_print.proofs.PrintsSelect.{select_prints}

body_prints : Prints Body (By shown)
unfolding Body shown
body_prints =
    or create_prints
    (or drop_prints
    (or alter_prints
    (or cancel_prints
    (or show_prints
    (or describe_prints
    (or (last stmt.Select select_prints (λ q. refl)) admin_prints))))))

pub statement_prints : Prints Statement (By shown)
unfolding Statement
statement_prints = part body_prints (λ s. skip None refl (is _ s (append-nil (shown s))))

-- ---- of what a text has

shown_of : (s : Stmt) (text : List ℕ) → Spells s text → AreFit (tokens_of text) → Printed Statement (By shown) s
shown_of s text h fit = statement_prints.law s (tokens_of text) h fit

pub can_be_written : (s : Stmt) (text : List ℕ) → Spells s text → AreFit (tokens_of text) → AreWritable (shown s)
can_be_written s text h fit = let r = shown_of s text h fit in subst AreWritable r.right r.writable

pub read_as_written : (s : Stmt) (text : List ℕ) → Spells s text → AreFit (tokens_of text) → Spells s (printed (shown s))
read_as_written s text h fit =
    let r = shown_of s text h fit in
    r.spelled (tokens_of (printed (shown s))) (read_again (shown s) (can_be_written s text h fit) ∙ sym r.right)

pub printed_again : {S E : Type 0} (f : S → List ℕ) (r : Result S E) (s : Stmt) (text : List ℕ) → Spells s text → AreFit (tokens_of text) → IfOk r (λ x. IsTextOf (shown s) (f x)) → IfOk r (λ x. Spells s (f x))
printed_again f (Ok x) s text h fit t = subst (Spells s) (sym (t.plain (can_be_written s text h fit))) (read_as_written s text h fit)
printed_again f (Err e) s text h fit t = tt
