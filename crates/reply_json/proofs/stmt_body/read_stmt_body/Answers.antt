use Rattle.std.proofs.Common.{rules, ◌≡◌, refl, Bool, true, false, ℕ, List, Option, None, IsUtf8, if◌then◌else◌}
use Rattle.std.specs.Str.{is_utf8}
use Rattle.std.proofs.lemmas.Str.{IsUtf8-from_is_utf8, is_utf8-from_IsUtf8}
use Rattle.reply_json.specs.Statements.{stmt_of}
use Rattle.reply_json.proofs.stmt_body.read_stmt_body.Goals as goal

no_text : (bs : List ℕ) → ¬ (IsUtf8 bs) → stmt_of bs ≡ None
no_text bs n = go (is_utf8 bs) _ (λ t. n (IsUtf8-from_is_utf8 bs t))
  where
    go : (b : Bool) (x : Option (List ℕ)) → (b ≡ true → ⊥) → (if b then x else None) ≡ None
    go true x h = absurd (h refl)
    go false x h = refl

pub returns-in_default-clause-bad_json : goal.returns-in_default-clause-bad_json
returns-in_default-clause-bad_json c e = no_text c.args.body.now c.in_default.ensures.cases.0

pub returns-in-Ok-from_str-2-clause-stmt : goal.returns-in-Ok-from_str-2-clause-stmt
returns-in-Ok-from_str-2-clause-stmt c =
    let text : is_utf8 c.args.body.now ≡ true = is_utf8-from_IsUtf8 _ c.in-Ok.ensures.cases.1 in
    rw text (search rules)
