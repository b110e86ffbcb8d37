-- What is written from nothing is the text of its tokens.
use Rattle.std.proofs.Common.{◌≡◌, ℕ, ◌≤◌, Bool, true, List, [], drop, length, ap, ◌∙◌, sym}
use Rattle.std.specs.Str.Lossy.{utf8_lossy}
use Rattle.std.proofs.lemmas.List.{drop_all}
use Rattle.sql_tokens.specs.declared.token.TokenKind.{TokenKind}
use Rattle.sql_tokens.specs.Tokens.{tokens_of}
use Rattle.sql_print.specs.Printing.{printed}
use Rattle.sql_print.specs.Steps.{put}
use Rattle.sql_print.specs.TextOf.{IsTextOf}
use Rattle.sql_print.proofs.Puts.{all_put, put_nil}
use Rattle.sql_print.proofs.Utf8.{lossless}
use Rattle.sql_print.proofs.Again.{kinds, read_again}

is_text : (ts : List TokenKind) (text : List ℕ) → text ≡ utf8_lossy (printed ts) → IsTextOf ts text
is_text ts text e = record {
  lossy = e;
  plain = λ w. e ∙ lossless ts w;
  again = λ w. ap (λ x. kinds (tokens_of x)) (e ∙ lossless ts w) ∙ read_again ts w;
}

pub finished : (ts : List TokenKind) (text bytes : List ℕ) (w : List ℕ × Bool) → text ≡ utf8_lossy bytes → bytes ≡ w.0 → w ≡ put ([], true) ts → IsTextOf ts text
finished ts text bytes w t b e = is_text ts text (t ∙ ap utf8_lossy (b ∙ all_put w ts e))

-- the last token is written
pub at_end : (w v : List ℕ × Bool) (ts : List TokenKind) (i : ℕ) → length ts ≤ i → put w (drop i ts) ≡ v → w ≡ v
at_end w v ts i l h = sym (put_nil w) ∙ ap (put w) (sym (drop_all i ts l)) ∙ h
