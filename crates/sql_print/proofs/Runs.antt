-- Runs of bytes of a class, and what may stand behind a token.
use Rattle.std.proofs.Common.{◌≡◌, ◌+◌, arith, ℕ, Bool, true, false, cond, List, [], ◌∷◌, ◌++◌, length, refl, ap, ◌∙◌, ◌&&◌, ◌⊎◌, inl, inr}
use Rattle.std.specs.List.{prefix_len, list_all}

-- the end of the text, or a blank, a comma or a closing parenthesis
abbrev pub IsStop : List ℕ → Type 0
IsStop [] = Unit {0}
IsStop (c ∷ cs) = ((c ≡ 32) ⊎ (c ≡ 44)) ⊎ (c ≡ 41)

pub left_true : (a b : Bool) → (a && b) ≡ true → a ≡ true
left_true true b h = refl
left_true false b h = cc

pub right_true : (a b : Bool) → (a && b) ≡ true → b ≡ true
right_true true b h = h
right_true false b h = cc

ends_run : (p : ℕ → Bool) (c d : ℕ) (cs : List ℕ) → c ≡ d → p d ≡ false → prefix_len p (c ∷ cs) ≡ 0
ends_run p c d cs e h = ap (λ x. cond (p x) (1 + prefix_len p cs) 0) e ∙ ap (λ r. cond r (1 + prefix_len p cs) 0) h

-- no run goes on at a stop
pub at_stop : (p : ℕ → Bool) → p 32 ≡ false → p 44 ≡ false → p 41 ≡ false → (rest : List ℕ) → IsStop rest → prefix_len p rest ≡ 0
at_stop p a b d [] h = refl
at_stop p a b d (c ∷ cs) (inl (inl e)) = ends_run p c 32 cs e a
at_stop p a b d (c ∷ cs) (inl (inr e)) = ends_run p c 44 cs e b
at_stop p a b d (c ∷ cs) (inr e) = ends_run p c 41 cs e d

pub run : (p : ℕ → Bool) (bs rest : List ℕ) → list_all p bs ≡ true → prefix_len p rest ≡ 0 → prefix_len p (bs ++ rest) ≡ length bs
run p [] rest all stop = stop
run p (b ∷ bs) rest all stop =
    let one : p b ≡ true = left_true (p b) (list_all p bs) all in
    let more : prefix_len p (bs ++ rest) ≡ length bs = run p bs rest (right_true (p b) (list_all p bs) all) stop in
    ap (λ r. cond r (1 + prefix_len p (bs ++ rest)) 0) one ∙ omega arith
