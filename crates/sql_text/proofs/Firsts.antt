-- Words that begin a part which may be left out.
use Rattle.std.proofs.Common.{◌≡◌, ℕ, Bool, true, false, ◌||◌, List, [], ◌∷◌, codes, refl}
use Rattle.sql_tokens.specs.declared.token.Token.{Token}
use Rattle.sql_grammar.specs.Marks.{marked_word, marked_sign, mark_is, matches}
use Rattle.sql_grammar.specs.Reading.{heads, one}
use Rattle.sql_text.specs.ReadNames.{agg_first}
use Rattle.sql_text.specs.ReadSelect.{operator_first}
use Rattle.sql_tokens.specs.declared.token.Sign.{Sign}
use Rattle.sql_tokens.specs.declared.token.Sign.TheVariants as sign

or_later : (a b : Bool) → b ≡ true → (a || b) ≡ true
or_later true b h = refl
or_later false b h = h

or_first : (a b : Bool) → a ≡ true → (a || b) ≡ true
or_first true b h = refl
or_first false b h = absurd cc

abbrev word : List ℕ → Token → Bool
word w t = mark_is (marked_word w) t

pub replace_is_first : (tokens : List Token) → heads (one (marked_word (codes "REPLACE"))) tokens ≡ true → heads (matches agg_first) tokens ≡ true
replace_is_first [] h = absurd cc
replace_is_first (t ∷ ts) h = or_later (word (codes "SUM") t) _ (or_later (word (codes "MIN") t) _ (or_later (word (codes "MAX") t) _ (or_first (word (codes "REPLACE") t) (word (codes "REPLACE_IF_NOT_NULL") t) h)))

pub replace_if_is_first : (tokens : List Token) → heads (one (marked_word (codes "REPLACE_IF_NOT_NULL"))) tokens ≡ true → heads (matches agg_first) tokens ≡ true
replace_if_is_first [] h = absurd cc
replace_if_is_first (t ∷ ts) h = or_later (word (codes "SUM") t) _ (or_later (word (codes "MIN") t) _ (or_later (word (codes "MAX") t) _ (or_later (word (codes "REPLACE") t) (word (codes "REPLACE_IF_NOT_NULL") t) h)))

abbrev sign_is : Sign → Token → Bool
sign_is s t = mark_is (marked_sign s) t

pub at_most_is_first : (tokens : List Token) → heads (one (marked_sign sign.AtMost)) tokens ≡ true → heads (matches operator_first) tokens ≡ true
at_most_is_first [] h = absurd cc
at_most_is_first (t ∷ ts) h = or_later (sign_is sign.Equal t) _ (or_later (sign_is sign.Unequal t) _ (or_later (sign_is sign.Less t) _ (or_first (sign_is sign.AtMost t) (sign_is sign.Greater t || sign_is sign.AtLeast t) h)))

pub greater_is_first : (tokens : List Token) → heads (one (marked_sign sign.Greater)) tokens ≡ true → heads (matches operator_first) tokens ≡ true
greater_is_first [] h = absurd cc
greater_is_first (t ∷ ts) h = or_later (sign_is sign.Equal t) _ (or_later (sign_is sign.Unequal t) _ (or_later (sign_is sign.Less t) _ (or_later (sign_is sign.AtMost t) _ (or_first (sign_is sign.Greater t) (sign_is sign.AtLeast t) h))))

pub at_least_is_first : (tokens : List Token) → heads (one (marked_sign sign.AtLeast)) tokens ≡ true → heads (matches operator_first) tokens ≡ true
at_least_is_first [] h = absurd cc
at_least_is_first (t ∷ ts) h = or_later (sign_is sign.Equal t) _ (or_later (sign_is sign.Unequal t) _ (or_later (sign_is sign.Less t) _ (or_later (sign_is sign.AtMost t) _ (or_later (sign_is sign.Greater t) (sign_is sign.AtLeast t) h))))
