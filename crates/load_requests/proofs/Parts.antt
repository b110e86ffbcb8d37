-- The parts of a path.
use Rattle.std.proofs.Common.{◌≡◌, ◌+◌, ◌-◌, ◌<◌, ◌≤◌, length, ◌∙◌, ℕ, suc, arith, Bool, true, false, cond, not, None, List, [], ◌∷◌, take, drop, sym, ap, refl}
use Rattle.std.specs.List.{prefix_len, onto_first}
use Rattle.std.proofs.lemmas.List.{take_all}
use Rattle.load_requests.specs.Bytes.{is_slash}
use Rattle.load_requests.specs.Targets.{parts_of, only_four, only_five}

abbrev pub in_part : ℕ → Bool
in_part b = not (is_slash b)

-- what stands behind the slash
abbrev pub behind : List ℕ → List (List ℕ)
behind [] = []
behind (slash ∷ rest) = parts_of rest

step : (b : ℕ) (bs : List ℕ) (slash : Bool) (n : ℕ) → parts_of bs ≡ take n bs ∷ behind (drop n bs)
    → cond slash ([] ∷ parts_of bs) (onto_first b (parts_of bs)) ≡ take (cond (not slash) (1 + n) 0) (b ∷ bs) ∷ behind (drop (cond (not slash) (1 + n) 0) (b ∷ bs))
step b bs true n so = refl
step b bs false n so = let e : 1 + n ≡ suc n = omega arith in rw e (ap (onto_first b) so)

pub cut_parts : (path : List ℕ) → parts_of path ≡ take (prefix_len in_part path) path ∷ behind (drop (prefix_len in_part path) path)
cut_parts [] = refl
cut_parts (b ∷ bs) = step b bs (is_slash b) (prefix_len in_part bs) (cut_parts bs)

-- a path that is cut behind its first part
pub record IsCut (path front rest : List ℕ) (n : ℕ) : Type 0 where
  pub count : n ≡ prefix_len in_part path
  pub first : front ≡ take n path
  pub left : rest ≡ drop n path

cut_is : (path front rest : List ℕ) (n : ℕ) → IsCut path front rest n → parts_of path ≡ front ∷ behind rest
cut_is path front rest n cut = rw (cut.first, cut.left, cut.count) (cut_parts path)

-- it ends with that part
pub parts_end : (path front rest : List ℕ) (n : ℕ) → IsCut path front rest n → length rest < 1 → parts_of path ≡ front ∷ []
parts_end path front [] n cut h = cut_is path front [] n cut
parts_end path front (slash ∷ rest) n cut h = absurd (omega arith)

-- or goes on behind a slash
pub parts_more : (path front rest : List ℕ) (n : ℕ) → IsCut path front rest n → 1 ≤ length rest → parts_of path ≡ front ∷ parts_of (take (length rest - 1) (drop 1 rest))
parts_more path front [] n cut h = absurd (omega arith)
parts_more path front (slash ∷ rest) n cut h =
    let all : take (length (slash ∷ rest) - 1) rest ≡ rest = take_all (length (slash ∷ rest) - 1) rest (omega arith) in
    cut_is path front (slash ∷ rest) n cut ∙ sym (ap (λ left. front ∷ parts_of left) all)

-- a path that goes on behind its fourth part
pub more_than_four : (a b c d rest : List ℕ) → only_four (a ∷ b ∷ c ∷ d ∷ parts_of rest) ≡ None
more_than_four a b c d rest = ap (λ parts. only_four (a ∷ b ∷ c ∷ d ∷ parts)) (cut_parts rest)

-- a path that goes on behind its fifth part
pub too_many : (a b c d e rest : List ℕ) → only_five (a ∷ b ∷ c ∷ d ∷ e ∷ parts_of rest) ≡ None
too_many a b c d e rest = ap (λ parts. only_five (a ∷ b ∷ c ∷ d ∷ e ∷ parts)) (cut_parts rest)
