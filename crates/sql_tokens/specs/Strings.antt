-- Strings (this project's own, after the string literals of the Apache Doris documentation).
use Rattle.std.specs.Prelude.{◌≡◌, ◌≤◌, ℕ, ◌==◌, List, [], ◌∷◌, ◌++◌, length, Option, Some, None, option_map, if◌then◌else◌}

-- what `\` and a byte stand for: `\n`, `\t` and `\r` are LF, tab and CR, and each other byte stands for itself
abbrev pub escaped : ℕ → ℕ
escaped c = if c == 110 then 10 else if c == 116 then 9 else if c == 114 then 13 else c

-- a byte before what was read
abbrev pub with_first : ℕ → List ℕ × List ℕ → List ℕ × List ℕ
with_first b x = (b ∷ x.0, x.1)

-- a doubled quote stands for itself where a closing quote comes later; else its first closes the string
abbrev pub or_closed : ℕ → List ℕ → Option (List ℕ × List ℕ) → Option (List ℕ × List ℕ)
or_closed q rest (Some x) = Some (with_first q x)
or_closed q rest None = Some ([], rest)

-- the string behind its opening quote, and what stands behind its closing one
unfoldable pub string_at : ℕ → List ℕ → Option (List ℕ × List ℕ)
string_at q [] = None
string_at q (b ∷ []) = if b == q then Some ([], []) else None
string_at q (b ∷ c ∷ cs) =
    if b == q then (if c == q then or_closed q (c ∷ cs) (string_at q cs) else Some ([], c ∷ cs))
    else if b == 92 then option_map (with_first (escaped c)) (string_at q cs)
    else option_map (with_first b) (string_at q (c ∷ cs))

-- ---- the same, with no word about reading

-- what the bytes between the quotes stand for, where they may stand there: the quote doubled, `\` and a
-- byte, and each other byte
unfoldable pub unescaped : ℕ → List ℕ → Option (List ℕ)
unescaped q [] = Some []
unescaped q (b ∷ []) = if b == q then None else if b == 92 then None else Some (b ∷ [])
unescaped q (b ∷ c ∷ cs) =
    if b == q then (if c == q then option_map (λ v. q ∷ v) (unescaped q cs) else None)
    else if b == 92 then option_map (λ v. escaped c ∷ v) (unescaped q cs)
    else option_map (λ v. b ∷ v) (unescaped q (c ∷ cs))

-- bytes behind an opening quote begin with a string, its closing quote, and the rest
pub record IsString (q : ℕ) (bytes : List ℕ) (text rest : List ℕ) : Type 0 where
  pub body : List ℕ
  pub parts : bytes ≡ body ++ q ∷ rest
  pub stands : unescaped q body ≡ Some text

-- the longest
pub record IsLongestString (q : ℕ) (bytes : List ℕ) (text rest : List ℕ) : Type 0 where
  pub is : IsString q bytes text rest
  pub longest : (other after : List ℕ) → IsString q bytes other after → length rest ≤ length after
