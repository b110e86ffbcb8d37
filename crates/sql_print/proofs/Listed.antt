-- Lists are written part by part.
use Rattle.std.proofs.Common.{◌≡◌, ◌+◌, ◌-◌, ◌<◌, ◌≤◌, ◌++◌, arith, ℕ, Bool, length, take, drop, slice_index_or, List, [], ◌∷◌, sym, ap, ◌∙◌}
use Rattle.std.proofs.Math.Seq.{take-length}
use Rattle.std.proofs.lemmas.List.{at_drop_more, drop_all}
use Rattle.sql_tokens.specs.declared.token.TokenKind.{TokenKind}
use Rattle.sql_print.specs.Parts.{behind_each, separated}
use Rattle.sql_print.specs.Steps.{put}
use Rattle.sql_print.proofs.Puts.{put_put, put_nil}

pub more_next : {A : Type 0} (k : TokenKind) (show : A → List TokenKind) (w v z : List ℕ × Bool) (xs : List A) (i : ℕ) (x : A) → i < length xs → x ≡ slice_index_or xs i x → v ≡ put w (k ∷ show x)
    → put w (behind_each k show (drop i xs)) ≡ z → put v (behind_each k show (drop (i + 1) xs)) ≡ z
unfolding behind_each
more_next k show w v z xs i x l e p h =
    ap (λ y. put y (behind_each k show (drop (i + 1) xs))) p
    ∙ put_put w (k ∷ show x) (behind_each k show (drop (i + 1) xs))
    ∙ ap (λ y. put w (behind_each k show (y ∷ drop (i + 1) xs))) e
    ∙ sym (at_drop_more (λ ys. put w (behind_each k show ys)) xs i x l)
    ∙ h

pub more_end : {A : Type 0} (k : TokenKind) (show : A → List TokenKind) (w z : List ℕ × Bool) (xs : List A) (i : ℕ) → length xs ≤ i → put w (behind_each k show (drop i xs)) ≡ z → w ≡ z
unfolding behind_each
more_end k show w z xs i l h = sym (put_nil w) ∙ ap (λ ys. put w (behind_each k show ys)) (sym (drop_all i xs l)) ∙ h

pub list_shown : {A : Type 0} (k : TokenKind) (show : A → List TokenKind) (w v z : List ℕ × Bool) (xs : List A) (x : A) → 1 ≤ length xs → x ≡ slice_index_or xs 0 x → v ≡ put w (show x)
    → z ≡ put v (behind_each k show (take (length xs - 1) (drop 1 xs))) → z ≡ put w (separated k show xs)
unfolding separated
list_shown k show w v z [] x l e p q = absurd (omega arith)
list_shown k show w v z (y ∷ ys) x l e p q =
    let n : length (y ∷ ys) - 1 ≡ length ys = omega arith in
    q
    ∙ ap (λ m. put v (behind_each k show (take m ys))) n
    ∙ ap (λ m. put v (behind_each k show m)) (take-length ys)
    ∙ ap (λ m. put m (behind_each k show ys)) p
    ∙ put_put w (show x) (behind_each k show ys)
    ∙ ap (λ m. put w (show m ++ behind_each k show ys)) e
