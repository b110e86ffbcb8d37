-- What stands behind a token is an end of the text.
use Rattle.std.proofs.Common.{◌≡◌, ◌-◌, ◌≤◌, arith, ℕ, zero, suc, Bool, true, false, cond, Option, Some, None, List, [], ◌∷◌, drop, length, refl, length-drop, ◌==◌}
use Rattle.std.specs.Prelude.{option_map, IfSome}
use Rattle.sql_tokens.specs.Strings.{escaped, with_first, or_closed, string_at}

-- one list is the other without so many at the front
pub record IsEnd (rest bs : List ℕ) : Type 0 where
  pub count : ℕ
  pub is : rest ≡ drop count bs

pub shorter : (n : ℕ) (bs : List ℕ) → length (drop n bs) ≤ length bs
shorter n bs = omega (arith, length-drop n bs)

pub back : (n : ℕ) (bs : List ℕ) → drop (length bs - length (drop n bs)) bs ≡ drop n bs
back zero bs = let e : length bs - length bs ≡ 0 = omega arith in rw e refl
back (suc n) [] = refl
back (suc n) (b ∷ bs) =
    let s : length (drop n bs) ≤ length bs = shorter n bs in
    let e : length (b ∷ bs) - length (drop n bs) ≡ suc (length bs - length (drop n bs)) = omega arith in
    rw e (back n bs)

pub back_to : (rest bs : List ℕ) → IsEnd rest bs → drop (length bs - length rest) bs ≡ rest
back_to rest bs e = rw e.is (back e.count bs)

pub no_longer : (rest bs : List ℕ) → IsEnd rest bs → length rest ≤ length bs
no_longer rest bs e = rw e.is (shorter e.count bs)

-- ---- of strings

abbrev Found : List ℕ → Option (List ℕ × List ℕ) → Type 0
Found bs o = IfSome o (λ x. IsEnd x.1 bs)

behind_one : (b : ℕ) (rest bs : List ℕ) → IsEnd rest bs → IsEnd rest (b ∷ bs)
behind_one b rest bs e = record { count = suc e.count; is = e.is }

itself : (bs : List ℕ) → IsEnd bs bs
itself bs = record { count = 0; is = refl }

mapped : (b c d : ℕ) (bs : List ℕ) (o : Option (List ℕ × List ℕ)) → Found bs o → Found (b ∷ bs) (option_map (with_first d) o)
mapped b c d bs None h = tt
mapped b c d bs (Some x) h = behind_one b x.1 bs h

mapped_two : (b c d : ℕ) (bs : List ℕ) (o : Option (List ℕ × List ℕ)) → Found bs o → Found (b ∷ c ∷ bs) (option_map (with_first d) o)
mapped_two b c d bs None h = tt
mapped_two b c d bs (Some x) h = behind_one b x.1 (c ∷ bs) (behind_one c x.1 bs h)

closed : (q b c : ℕ) (bs : List ℕ) (o : Option (List ℕ × List ℕ)) → Found bs o → Found (b ∷ c ∷ bs) (or_closed q (c ∷ bs) o)
closed q b c bs None h = behind_one b (c ∷ bs) (c ∷ bs) (itself (c ∷ bs))
closed q b c bs (Some x) h = behind_one b x.1 (c ∷ bs) (behind_one c x.1 bs h)

pub string_end : (q : ℕ) (bs : List ℕ) → Found bs (string_at q bs)
unfolding string_at
string_end q [] = tt
string_end q (b ∷ []) = go (b == q)
  where
    go : (r : Bool) → Found (b ∷ []) (cond r (Some ([], [])) None)
    go true = behind_one b [] [] (itself [])
    go false = tt
string_end q (b ∷ c ∷ cs) = go (b == q) (c == q) (b == 92) (string_end q cs) (string_end q (c ∷ cs))
  where
    go : (r s t : Bool) → Found cs (string_at q cs) → Found (c ∷ cs) (string_at q (c ∷ cs)) → Found (b ∷ c ∷ cs) (cond r (cond s (or_closed q (c ∷ cs) (string_at q cs)) (Some ([], c ∷ cs))) (cond t (option_map (with_first (escaped c)) (string_at q cs)) (option_map (with_first b) (string_at q (c ∷ cs)))))
    go true true t two one = closed q b c cs (string_at q cs) two
    go true false t two one = behind_one b (c ∷ cs) (c ∷ cs) (itself (c ∷ cs))
    go false s true two one = mapped_two b c (escaped c) cs (string_at q cs) two
    go false s false two one = mapped b c b (c ∷ cs) (string_at q (c ∷ cs)) one
