-- The first byte of a text says which token it begins.
use Rattle.std.proofs.Common.{◌≡◌, pos, ◌+◌, ◌-◌, ◌<◌, ◌≤◌, arith, ℕ, true, false, Some, List, [], ◌∷◌, take, drop, length, sym, ap, refl, ◌∙◌, nat_lt, get_or, add-one}
use Rattle.std.proofs.Math.Seq.{take-length}
use Rattle.std.specs.List.{prefix_len}
use Rattle.std.proofs.lemmas.Bool.{lt-ltb}
use Rattle.sql_tokens.specs.Bytes.{begins_word, is_digit, in_word}
use Rattle.sql_tokens.specs.declared.token.TokenKind.{TokenKind}
use Rattle.sql_tokens.specs.declared.token.TokenKind.TheVariants as kind
use Rattle.std.specs.Str.Parse.{digits_value}
use Rattle.dl_values.specs.Read.{minus}
use Rattle.sql_tokens.specs.Steps.{integer_of}
use Rattle.sql_tokens.proofs.Numbers.{plain_integer, negative_integer, digits_in_front, some_digits}
use Rattle.sql_tokens.specs.Tokens.{Lexeme, integer, lexeme, front}

take_first : (n b : ℕ) (bs : List ℕ) → take (n + 1) (b ∷ bs) ≡ b ∷ take n bs
take_first n b bs = rw add-one refl

drop_first : (n b : ℕ) (bs : List ℕ) → drop (n + 1) (b ∷ bs) ≡ drop n bs
drop_first n b bs = rw add-one refl

-- what stands behind the first byte, as a slice
rest_of_slice : (b : ℕ) (bs : List ℕ) → take (length (b ∷ bs) - 1) bs ≡ bs
rest_of_slice b bs = let e : length (b ∷ bs) - 1 ≡ length bs = omega arith in rw e (take-length bs)

-- a token of a byte and so many more
run : (n b : ℕ) (bs rest : List ℕ) (k : TokenKind) (x : Lexeme) → x ≡ (k, drop n bs) → rest ≡ drop (n + 1) (b ∷ bs) → Some (k, rest) ≡ Some x
run n b bs rest k x e r =
    let r2 : rest ≡ drop n bs = r ∙ drop_first n b bs in
    rw (r2, e) refl

pub front_word : (text rest : List ℕ) (k : TokenKind) (n : ℕ) → 1 ≤ length text → begins_word (get_or text 0 0) ≡ true → n ≡ prefix_len in_word (take (length text - 1) (drop 1 text)) → k ≡ kind.Word (take (n + 1) text) → rest ≡ drop (n + 1) text
    → Some (k, rest) ≡ front text
unfolding lexeme
front_word [] rest k n l h e t r = absurd (omega arith)
front_word (b ∷ bs) rest k n l h e t r =
    let m : n ≡ prefix_len in_word bs = e ∙ ap (prefix_len in_word) (rest_of_slice b bs) in
    run n b bs rest k (lexeme b bs) (rw (h, ← m) (ap (λ w. (w, drop n bs)) (sym (t ∙ ap kind.Word (take_first n b bs))))) r

pub front_number : (text rest : List ℕ) (k : TokenKind) (n : ℕ) → 1 ≤ length text → begins_word (get_or text 0 0) ≡ false → is_digit (get_or text 0 0) ≡ true → n ≡ prefix_len is_digit (take (length text - 1) (drop 1 text)) → k ≡ integer_of (take (n + 1) text)
    → rest ≡ drop (n + 1) text → Some (k, rest) ≡ front text
unfolding lexeme
front_number [] rest k n l w h e t r = absurd (omega arith)
front_number (b ∷ bs) rest k n l w h e t r =
    let m : n ≡ prefix_len is_digit bs = e ∙ ap (prefix_len is_digit) (rest_of_slice b bs) in
    let d : k ≡ integer (pos (digits_value 10 (b ∷ take n bs))) = t ∙ ap integer_of (take_first n b bs) ∙ plain_integer b (take n bs) h (rw m (digits_in_front bs)) in
    run n b bs rest k (lexeme b bs) (rw (w, h, ← m) (ap (λ i. (i, drop n bs)) (sym d))) r

pub front_negative : (text rest : List ℕ) (k : TokenKind) (n : ℕ) → 1 ≤ length text → get_or text 0 0 ≡ 45 → 0 < n → n ≡ prefix_len is_digit (take (length text - 1) (drop 1 text)) → k ≡ integer_of (take (n + 1) text) → rest ≡ drop (n + 1) text
    → Some (k, rest) ≡ front text
unfolding lexeme
front_negative [] rest k n l m p e t r = absurd (omega arith)
front_negative (b ∷ bs) rest k n l m p e t r =
    let q : nat_lt 0 n ≡ true = lt-ltb 0 n p in
    let l : n ≡ prefix_len is_digit bs = e ∙ ap (prefix_len is_digit) (rest_of_slice b bs) in
    let d : k ≡ integer (minus (digits_value 10 (take n bs))) =
    t ∙ ap integer_of (take_first n b bs) ∙ ap (λ c. integer_of (c ∷ take n bs)) m ∙ negative_integer (take n bs) (some_digits n bs p l) (rw l (digits_in_front bs)) in
    run n b bs rest k (lexeme b bs) (rw (m, ← l, q) (ap (λ i. (i, drop n bs)) (sym d))) r
