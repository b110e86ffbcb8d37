-- The entries of a name.
use Rattle.std.proofs.Common.{◌≡◌, ℕ, Bool, true, false, true≢false, cond, ◌&&◌, List, [], ◌∷◌, ◌++◌, refl, sym, ap, ◌∙◌, subst, inl, inr, arith, append_assoc, Some, None, Option}
use Rattle.std.specs.Prelude.{◌==◌}
use Rattle.std.proofs.lemmas.Bool.Decides.{nat_tests}
use Rattle.desk.specs.History.{same_name, is_named, entries_by, GoesOn}
use Rattle.desk.specs.Names.{In}
use Rattle.desk.proofs.Lists.{none_back, nothing_more}

same_is : (x y : List ℕ) → same_name x y ≡ true → x ≡ y
same_is [] [] h = refl
same_is [] (y ∷ ys) h = absurd (true≢false (sym h))
same_is (x ∷ xs) [] h = absurd (true≢false (sym h))
same_is (x ∷ xs) (y ∷ ys) h =
    let p = parts (x == y) (same_name xs ys) h in
    let head : x ≡ y = grind (arith, nat_tests) in
    let tail = same_is xs ys p.1 in
    λ i. head i ∷ tail i
  where
    parts : (a b : Bool) → (a && b) ≡ true → (a ≡ true) × (b ≡ true)
    parts true b h = (refl, h)
    parts false b h = absurd (true≢false (sym h))

is_same : (x : List ℕ) → same_name x x ≡ true
is_same [] = refl
is_same (x ∷ xs) = let t = is_same xs in let h : (x == x) ≡ true = grind (arith, nat_tests) in rw h t

named_is : (name : List ℕ) (of : Option (List ℕ)) → is_named name of ≡ true → of ≡ Some name
named_is name None h = absurd (true≢false (sym h))
named_is name (Some other) h = ap Some (sym (same_is name other h))

module _ {N : Type 0} (seat_of : N → Option (List ℕ)) where
  cond_append : (b : Bool) (e : N) (l m : List N) → cond b (e ∷ l) l ++ m ≡ cond b (e ∷ (l ++ m)) (l ++ m)
  cond_append true e l m = refl
  cond_append false e l m = refl

  pub own_append : (name : List ℕ) (l m : List N) → entries_by seat_of name (l ++ m) ≡ entries_by seat_of name l ++ entries_by seat_of name m
  own_append name [] m = refl
  own_append name (e ∷ es) m = ap (λ t. cond (is_named name (seat_of e)) (e ∷ t) t) (own_append name es m) ∙ sym (cond_append (is_named name (seat_of e)) e (entries_by seat_of name es) (entries_by seat_of name m))

  -- one more entry of this name, or of another
  pub own_more : (name : List ℕ) (e : N) (l : List N) → seat_of e ≡ Some name → entries_by seat_of name (e ∷ l) ≡ e ∷ entries_by seat_of name l
  own_more name e l is =
      let h : is_named name (seat_of e) ≡ true = subst (λ n. is_named name n ≡ true) (sym is) (is_same name) in
      ap (λ b. cond b (e ∷ entries_by seat_of name l) (entries_by seat_of name l)) h

  pub own_else : (name : List ℕ) (e : N) (l : List N) → (seat_of e ≡ Some name → ⊥) → entries_by seat_of name (e ∷ l) ≡ entries_by seat_of name l
  own_else name e l other = by_case (is_named name (seat_of e)) refl
    where
      by_case : (b : Bool) → is_named name (seat_of e) ≡ b → entries_by seat_of name (e ∷ l) ≡ entries_by seat_of name l
      by_case true h = absurd (other (named_is name (seat_of e) h))
      by_case false h = ap (λ b. cond b (e ∷ entries_by seat_of name l) (entries_by seat_of name l)) h

  pub own_none : (name : List ℕ) (log : List N) → ((e : N) → In e log → seat_of e ≡ Some name → ⊥) → entries_by seat_of name log ≡ []
  own_none name [] none = refl
  own_none name (e ∷ es) none = own_else name e es (none e (inl refl)) ∙ own_none name es (λ x i. none x (inr i))

  pub own_none_back : (name : List ℕ) (log seen : List N) → GoesOn log seen → entries_by seat_of name log ≡ [] → entries_by seat_of name seen ≡ []
  own_none_back name log seen s h = none_back (entries_by seat_of name s.0) (entries_by seat_of name seen) (sym (own_append name s.0 seen) ∙ ap (entries_by seat_of name) (sym s.1) ∙ h)

  -- a list between two that have the same entries of a name has them too
  pub own_between : (name : List ℕ) (log mid seen own : List N) → GoesOn log mid → GoesOn mid seen → entries_by seat_of name log ≡ own → entries_by seat_of name seen ≡ own → entries_by seat_of name mid ≡ own
  own_between name log mid seen own s t all few =
      let r : List N = entries_by seat_of name t.0 in
      let q : List N = entries_by seat_of name s.0 in
      let middle : entries_by seat_of name mid ≡ r ++ own = ap (entries_by seat_of name) t.1 ∙ own_append name t.0 seen ∙ ap (λ l. r ++ l) few in
      let whole : own ≡ (q ++ r) ++ own = sym all ∙ ap (entries_by seat_of name) s.1 ∙ own_append name s.0 mid ∙ ap (λ l. q ++ l) middle ∙ sym (append_assoc q r own) in
      middle ∙ ap (λ l. l ++ own) (none_back q r (nothing_more (q ++ r) own (sym whole)))
