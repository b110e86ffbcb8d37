use Rattle.std.proofs.Common.{◌∙◌, sym, arith}
use Rattle.sql_tokens.proofs.Firsts.{front_word, front_number, front_negative}
use Rattle.sql_tokens.proofs.lexeme.front.Goals as goal

pub returns-then-begins_word : goal.returns-then-begins_word
returns-then-begins_word c = front_word c.args.text.now c.in_ok-word.field-0.1.now c.in_ok-word.field-0.0 c.run_length.result (omega arith) (sym c.begins_word.ensures ∙ c.if-begins_word.true) c.run_length.ensures.count c.in_ok-word.ensures.token c.in_ok-word.ensures.rest

pub returns-then-is_digit : goal.returns-then-is_digit
returns-then-is_digit c = front_number c.args.text.now c.in_ok-number.field-0.1.now c.in_ok-number.field-0.0 c.run_length-then-is_digit.result (omega arith) (sym c.begins_word.ensures ∙ c.if-begins_word.false) (sym c.is_digit.ensures ∙ c.if-is_digit.true) c.run_length-then-is_digit.ensures.count c.in_ok-number.ensures.token c.in_ok-number.ensures.rest

pub returns-then-first-eq45 : goal.returns-then-first-eq45
returns-then-first-eq45 c = front_negative c.args.text.now c.in_ok-number-2.field-0.1.now c.in_ok-number-2.field-0.0 c.run_length-length.result (omega arith) c.if-first-eq45.true (omega arith) c.run_length-length.ensures.count c.in_ok-number-2.ensures.token c.in_ok-number-2.ensures.rest
