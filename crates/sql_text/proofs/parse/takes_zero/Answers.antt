use Rattle.std.proofs.Common.{◌∙◌, ◌++◌, ◌∷◌, [], ap, is_ok, nat_eq, List, subst}
use Rattle.std.proofs.ResultArms.{chosen}
use Rattle.sql_tokens.specs.declared.token.Token.{Token}
use Rattle.sql_grammar.specs.Lang.{Begins}
use Rattle.sql_text.specs.Statements.{Statement}
use Rattle.sql_text.specs.Faults.{Tells, zero_token}
use Rattle.sql_text.proofs.Parsing.{begins_read, failed, tells}
use Rattle.sql_text.proofs.parse.takes_zero.Goals as goal

pub returns-in-Ok : goal.returns-in-Ok
returns-in-Ok c =
    let pushed = chosen _ _ _ _ c.push.ensures.items (ap is_ok c.in_ok-push.was) in
    let p = c.as_slice.ensures.value ∙ pushed ∙ ap (λ (l : List Token). l ++ zero_token ∷ []) c.truncate.ensures.items in
    subst (Begins Statement) p (begins_read _ _ c.in-Ok.ensures)

pub returns-in-Err-Left : goal.returns-in-Err-Left
returns-in-Err-Left c =
    let pushed = chosen _ _ _ _ c.push.ensures.items (ap is_ok c.in_ok-push.was) in
    let p = c.as_slice.ensures.value ∙ pushed ∙ ap (λ (l : List Token). l ++ zero_token ∷ []) c.truncate.ensures.items in
    subst (λ (l : List Token). Tells (nat_eq c.in-Err-Left.left 0) (Begins Statement l)) p (tells _ _ (failed _ _ _ c.in-Err-Left.field-0-is c.in-Err-Left.ensures))
