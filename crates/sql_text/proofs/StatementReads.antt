-- Statements are read by their reader, and so is the statement of a text.
use Rattle.std.proofs.Common.{false, List, ◌∷◌, ◌++◌, codes, refl}
use Rattle.sql_tokens.specs.declared.token.Sign.TheVariants as sign
use Rattle.sql_text.specs.declared.stmt.Stmt.TheVariants as stmt
use Rattle.sql_grammar.specs.Marks.{Mark, marked_word, marked_sign}
use Rattle.sql_grammar.specs.Lang.{Is, Then}
use Rattle.sql_grammar.proofs.Laws.{Reads, is_reads, next_reads, either_reads, maybe_reads}
use Rattle.sql_grammar.proofs.Singles.{sign_reads}
use Rattle.sql_text.specs.Select.{Select}
use Rattle.sql_text.specs.Statements.{Body, Statement}
use Rattle.sql_text.specs.ReadStatements.{query_at, body_at, statement_at}
use Rattle.sql_text.proofs.NamesReads.{word}
use Rattle.sql_text.proofs.SelectReads.{select_more, select_reads}
use Rattle.sql_text.proofs.CreateReads.{definition_more, create_reads, drop_reads}
use Rattle.sql_text.proofs.AlterReads.{alter_more, alter_reads, cancel_reads}
use Rattle.sql_text.proofs.ShowReads.{show_reads, describe_reads, admin_reads}

query_reads : Reads (Then Select (λ q. Is (stmt.Select q))) query_at (word (codes "SELECT")) select_more false
unfolding query_at
query_reads = next_reads select_reads (λ q. is_reads (stmt.Select q)) refl

abbrev body_first : List Mark
body_first = marked_word (codes "CREATE") ∷ marked_word (codes "DROP") ∷ marked_word (codes "ALTER") ∷ marked_word (codes "CANCEL") ∷ marked_word (codes "SHOW") ∷ marked_word (codes "DESC") ∷ marked_word (codes "SELECT") ∷ word (codes "ADMIN")

abbrev body_more : List Mark
body_more = (select_more ++ alter_more) ++ definition_more

body_reads : Reads Body body_at body_first body_more false
unfolding body_at Body
body_reads = either_reads create_reads (either_reads drop_reads (either_reads alter_reads (either_reads cancel_reads (either_reads show_reads (either_reads describe_reads (either_reads query_reads admin_reads refl) refl) refl) refl) refl) refl) refl

pub statement_reads : Reads Statement statement_at body_first (marked_sign sign.End ∷ body_more) false
unfolding statement_at Statement
statement_reads = next_reads body_reads (λ s. next_reads (maybe_reads (sign_reads sign.End refl)) (λ _. is_reads s) refl) refl
