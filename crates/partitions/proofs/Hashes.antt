-- The hash of texts, one after the other, and the positions of columns.
use Rattle.std.proofs.Common.{◌≡◌, ℕ, zero, suc, ◌+◌, ◌*◌, ◌%◌, ◌<◌, ◌≤◌, append-nil, drop_of_length-le, Bool, true, false, cond, not, List, [], ◌∷◌, ◌++◌, Option, Some, None, length, drop, slice_get, slice_index_or, flat_map, position, nat_lt, refl, sym, ap, ◌∙◌, arith, add-one}
use Rattle.std.proofs.lemmas.Bool.Decides.{nat_tests}
use Rattle.std.specs.List.{position_or_len}
use Rattle.std.specs.Str.{bytes_eq}
use Rattle.dl_values.specs.declared.cell.Cell.{Cell}
use Rattle.schema_models.specs.CellsByName.{cell_under}
use Rattle.partitions.specs.Places.{hash_bytes, text_of}
use Rattle.partitions.specs.Search.{cell_at, column_position, position_of, positions_of, with_position}

hash_append : (h : ℕ) (xs ys : List ℕ) → hash_bytes h (xs ++ ys) ≡ hash_bytes (hash_bytes h xs) ys
hash_append h [] ys = refl
hash_append h (x ∷ xs) ys = hash_append ((31 * h + x) % 4294967296) xs ys

-- one text more
pub hash_step : (f : ℕ → List ℕ) (ps : List ℕ) (i h : ℕ) → i < length ps → hash_bytes (hash_bytes h (f (slice_index_or ps i 0))) (flat_map f (drop (i + 1) ps)) ≡ hash_bytes h (flat_map f (drop i ps))
hash_step f [] i h l = absurd (omega arith)
hash_step f (p ∷ ps) zero h l = sym (hash_append h (f p) (flat_map f ps))
hash_step f (p ∷ ps) (suc i) h l = let k = hash_step f ps i h (omega arith) in rw add-one (rw add-one at k)

-- ---- the cell under a name is that at the position of the name

abbrev later : Option ℕ → Option ℕ
later None = None
later (Some n) = Some (suc n)

position_cons : {X : Type 0} (test : X → Bool) (x : X) (xs : List X) → position test (x ∷ xs) ≡ cond (test x) (Some 0) (later (position test xs))
position_cons test x xs = go (test x)
  where
    inner : (n m : ℕ) (b : Bool) → nat_lt n m ≡ b → cond (nat_lt (1 + n) (suc m)) (Some (1 + n)) None ≡ later (cond b (Some n) None)
    inner n m true e = let k : nat_lt (1 + n) (suc m) ≡ true = grind (arith, nat_tests) in let s : 1 + n ≡ suc n = omega arith in rw (k, s) refl
    inner n m false e = let k : nat_lt (1 + n) (suc m) ≡ false = grind (arith, nat_tests) in rw k refl

    go : (b : Bool) → cond (nat_lt (cond (not b) (1 + position_or_len test xs) 0) (suc (length xs))) (Some (cond (not b) (1 + position_or_len test xs) 0)) None ≡ cond b (Some 0) (later (position test xs))
    go true = let k : nat_lt 0 (suc (length xs)) ≡ true = grind (arith, nat_tests) in rw k refl
    go false = inner (position_or_len test xs) (length xs) (nat_lt (position_or_len test xs) (length xs)) refl

pub cell_by_position : (names : List (List ℕ)) (name : List ℕ) (row : List Cell) → cell_under names name row ≡ cell_at (position_of names name) row
cell_by_position [] name row = refl
cell_by_position (n ∷ ns) name [] = sym (ap (λ (o : Option ℕ). cell_at o []) (position_cons (λ m. bytes_eq m name) n ns) ∙ none (bytes_eq n name) (position_of ns name))
  where
    none : (b : Bool) (o : Option ℕ) → cell_at (cond b (Some 0) (later o)) [] ≡ None
    none true o = refl
    none false None = refl
    none false (Some m) = refl
cell_by_position (n ∷ ns) name (x ∷ xs) =
    ap (λ (o : Option Cell). cond (bytes_eq n name) (Some x) o) (cell_by_position ns name xs)
    ∙ sym (ap (λ (o : Option ℕ). cell_at o (x ∷ xs)) (position_cons (λ m. bytes_eq m name) n ns) ∙ some (bytes_eq n name) (position_of ns name))
  where
    some : (b : Bool) (o : Option ℕ) → cell_at (cond b (Some 0) (later o)) (x ∷ xs) ≡ cond b (Some x) (cell_at o xs)
    some true o = refl
    some false None = refl
    some false (Some m) = refl

-- and the texts under names are those at the positions
pub texts_by_position : (names hash : List (List ℕ)) (row : List Cell) → flat_map (λ n. text_of (cell_under names n row)) hash ≡ flat_map (λ p. text_of (slice_get row p)) (positions_of names hash)
texts_by_position names [] row = refl
texts_by_position names (h ∷ hs) row =
    ap (λ (o : Option Cell). text_of o ++ flat_map (λ n. text_of (cell_under names n row)) hs) (cell_by_position names h row)
    ∙ ap (λ (l : List ℕ). text_of (cell_at (position_of names h) row) ++ l) (texts_by_position names hs row)
    ∙ join (position_of names h)
  where
    join : (o : Option ℕ) → text_of (cell_at o row) ++ flat_map (λ p. text_of (slice_get row p)) (positions_of names hs) ≡ flat_map (λ p. text_of (slice_get row p)) (with_position o (positions_of names hs))
    join None = refl
    join (Some p) = refl

-- one name more
pub positions_step : (names wanted : List (List ℕ)) (i : ℕ) (d : List ℕ) (so_far : List ℕ) → i < length wanted → (so_far ++ with_position (position_of names (slice_index_or wanted i d)) []) ++ positions_of names (drop (i + 1) wanted) ≡ so_far ++ positions_of names (drop i wanted)
positions_step names [] i d so_far l = absurd (omega arith)
positions_step names (w ∷ ws) zero d so_far l = join so_far (position_of names w)
  where
    join : (xs : List ℕ) (o : Option ℕ) → (xs ++ with_position o []) ++ positions_of names ws ≡ xs ++ with_position o (positions_of names ws)
    join [] None = refl
    join [] (Some p) = refl
    join (x ∷ xs) o = ap (λ (l : List ℕ). x ∷ l) (join xs o)
positions_step names (w ∷ ws) (suc i) d so_far l = let k = positions_step names ws i d so_far (omega arith) in rw add-one (rw add-one at k)

pub positions_end : (names wanted : List (List ℕ)) (n : ℕ) (so_far all : List ℕ) → length wanted ≤ n → so_far ++ positions_of names (drop n wanted) ≡ all → so_far ≡ all
positions_end names wanted n so_far all l e = sym (ap (λ (w : List (List ℕ)). so_far ++ positions_of names w) (drop_of_length-le wanted l) ∙ append-nil so_far) ∙ e
