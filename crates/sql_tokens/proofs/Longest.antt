-- The text that is read is the longest, and what was written is read again.
use Rattle.std.proofs.Common.{◌≡◌, ℕ, ◌==◌, ◌≤◌, Bool, true, false, cond, List, [], ◌∷◌, ◌++◌, length, Option, Some, None, refl, sym, ap, subst, ◌∙◌, arith, inl, inr, ◌⊎◌, length-append, false-eqb}
use Rattle.std.specs.Prelude.{option_map}
use Rattle.std.proofs.lemmas.Bool.{eqb-true}
use Rattle.sql_tokens.specs.Strings.{escaped, unescaped, IsString, IsLongestString, with_first, or_closed, string_at}

abbrev got : {A : Type 0} → A → Option A
got x = Some x

some_is : {A : Type 0} (x y : A) → got x ≡ got y → x ≡ y
some_is x y e = cc

mapped : {A B : Type 0} (f : A → B) (o : Option A) (y : B) → option_map f o ≡ Some y → (x : A) × (o ≡ Some x) × (f x ≡ y)
mapped f None y e = absurd cc
mapped f (Some x) y e = (x, refl, some_is (f x) y e)

-- what is read is the longest text, and where nothing is read there is none
abbrev pub IsFound : ℕ → List ℕ → Option (List ℕ × List ℕ) → Type 0
IsFound q bytes None = (text rest : List ℕ) → IsString q bytes text rest → ⊥
IsFound q bytes (Some x) = IsLongestString q bytes x.0 x.1

-- a string ends at once, or has a first byte
ends_or_has : (q b : ℕ) (bs text after : List ℕ) → IsString q (b ∷ bs) text after → ((b ≡ q) × (after ≡ bs)) ⊎ ((body : List ℕ) × (bs ≡ body ++ q ∷ after) × (unescaped q (b ∷ body) ≡ Some text))
ends_or_has q b bs text after t = go t.body t.parts t.stands
  where
    go : (body : List ℕ) → b ∷ bs ≡ body ++ q ∷ after → unescaped q body ≡ Some text → ((b ≡ q) × (after ≡ bs)) ⊎ ((body : List ℕ) × (bs ≡ body ++ q ∷ after) × (unescaped q (b ∷ body) ≡ Some text))
    go [] p s = inl (cc, cc)
    go (x ∷ body) p s = let k : x ≡ b = cc in let m : bs ≡ body ++ q ∷ after = cc in inr (body, m, subst (λ y. unescaped q (y ∷ body) ≡ Some text) k s)

-- none is in nothing
nothing : (q : ℕ) (body after : List ℕ) → [] ≡ body ++ q ∷ after → ⊥
nothing q [] after p = absurd cc
nothing q (x ∷ body) after p = absurd cc

-- the first byte is plain
plain : (q b : ℕ) (body : List ℕ) → (b == q) ≡ false → (b == 92) ≡ false → unescaped q (b ∷ body) ≡ option_map (λ v. b ∷ v) (unescaped q body)
unfolding unescaped
plain q b [] h k = rw (h, k) refl
plain q b (c ∷ cs) h k = rw (h, k) refl

-- `\` and a byte
behind_slash : (q b c : ℕ) (body : List ℕ) → (b == q) ≡ false → (b == 92) ≡ true → unescaped q (b ∷ c ∷ body) ≡ option_map (λ v. escaped c ∷ v) (unescaped q body)
unfolding unescaped
behind_slash q b c body h k = rw (h, k) refl

doubled : (q b c : ℕ) (body : List ℕ) → (b == q) ≡ true → (c == q) ≡ true → unescaped q (b ∷ c ∷ body) ≡ option_map (λ v. q ∷ v) (unescaped q body)
unfolding unescaped
doubled q b c body h k = rw (h, k) refl

-- a quote alone, or `\` alone, or a quote and another byte are no part of a string
alone : (q b : ℕ) (text : List ℕ) → (b == q) ≡ true → unescaped q (b ∷ []) ≡ Some text → ⊥
unfolding unescaped
alone q b text h e = let k : got text ≡ None = sym e ∙ rw h refl in absurd cc

slash_alone : (q b : ℕ) (text : List ℕ) → (b == q) ≡ false → (b == 92) ≡ true → unescaped q (b ∷ []) ≡ Some text → ⊥
unfolding unescaped
slash_alone q b text h k e = let z : got text ≡ None = sym e ∙ rw (h, k) refl in absurd cc

not_doubled : (q b c : ℕ) (body text : List ℕ) → (b == q) ≡ true → (c == q) ≡ false → unescaped q (b ∷ c ∷ body) ≡ Some text → ⊥
unfolding unescaped
not_doubled q b c body text h k e = let z : got text ≡ None = sym e ∙ rw (h, k) refl in absurd cc

differs : (b q : ℕ) → (b == q) ≡ false → b ≡ q → ⊥
differs b q h e = false-eqb b q (sym h) e

shorter : (q : ℕ) (bs body rest : List ℕ) → bs ≡ body ++ q ∷ rest → length rest ≤ length bs
shorter q bs body rest e = omega (arith, ap length e, length-append body (q ∷ rest))

-- ---- one step each

-- a string of two bytes more
two_more : (q b c : ℕ) (cs : List ℕ) (d : ℕ) (o : Option (List ℕ × List ℕ)) → ((body : List ℕ) → unescaped q (b ∷ c ∷ body) ≡ option_map (λ v. d ∷ v) (unescaped q body))
    → (x : List ℕ × List ℕ) → IsString q cs x.0 x.1 → IsString q (b ∷ c ∷ cs) (d ∷ x.0) x.1
two_more q b c cs d o law x t = record { body = b ∷ c ∷ t.body; parts = ap (λ l. b ∷ c ∷ l) t.parts; stands = law t.body ∙ ap (option_map (λ v. d ∷ v)) t.stands }

-- what two bytes more leave
two_less : (q b c : ℕ) (cs : List ℕ) (d : ℕ) → ((body : List ℕ) → unescaped q (b ∷ c ∷ body) ≡ option_map (λ v. d ∷ v) (unescaped q body)) → ((text : List ℕ) → unescaped q (b ∷ []) ≡ Some text → ⊥)
    → (text after : List ℕ) → (body : List ℕ) → c ∷ cs ≡ body ++ q ∷ after → unescaped q (b ∷ body) ≡ Some text → (v : List ℕ) × IsString q cs v after
two_less q b c cs d law none text after [] p s = absurd (none text s)
two_less q b c cs d law none text after (y ∷ body) p s =
    let k : y ≡ c = cc in
    let m : cs ≡ body ++ q ∷ after = cc in
    let u : option_map (λ v. d ∷ v) (unescaped q body) ≡ Some text = sym (law body) ∙ subst (λ z. unescaped q (b ∷ z ∷ body) ≡ Some text) k s in
    let w = mapped (λ v. d ∷ v) (unescaped q body) text u in
    (w.0, record { body = body; parts = m; stands = w.1 })

here : (q b : ℕ) (bs : List ℕ) → (b == q) ≡ true → IsString q (b ∷ bs) [] bs
unfolding unescaped
here q b bs h = record { body = []; parts = ap (λ x. x ∷ bs) (eqb-true b q h); stands = refl }

-- the answer to what two bytes leave
after_two : (q b c : ℕ) (cs : List ℕ) (d : ℕ) → (b == q) ≡ false → ((body : List ℕ) → unescaped q (b ∷ c ∷ body) ≡ option_map (λ v. d ∷ v) (unescaped q body)) → ((text : List ℕ) → unescaped q (b ∷ []) ≡ Some text → ⊥)
    → (o : Option (List ℕ × List ℕ)) → IsFound q cs o → IsFound q (b ∷ c ∷ cs) (option_map (with_first d) o)
after_two q b c cs d h law none None f = λ text rest t. elim (ends_or_has q b (c ∷ cs) text rest t) [
  | inl e ↦ differs b q h e.0
  | inr s ↦ let v = two_less q b c cs d law none text rest s.0 s.1 s.2 in f v.0 rest v.1
]
after_two q b c cs d h law none (Some x) f = record {
  is = two_more q b c cs d None law x f.is;
  longest = λ other after t. elim (ends_or_has q b (c ∷ cs) other after t) [
    | inl e ↦ absurd (differs b q h e.0)
    | inr s ↦ let v = two_less q b c cs d law none other after s.0 s.1 s.2 in f.longest v.0 after v.1
  ];
}

after_one : (q b : ℕ) (bs : List ℕ) → (b == q) ≡ false → (b == 92) ≡ false → (o : Option (List ℕ × List ℕ)) → IsFound q bs o → IsFound q (b ∷ bs) (option_map (with_first b) o)
after_one q b bs h k o f = go o f
  where
    less : (text after : List ℕ) → (body : List ℕ) → bs ≡ body ++ q ∷ after → unescaped q (b ∷ body) ≡ Some text → (v : List ℕ) × IsString q bs v after
    less text after body p s =
        let w = mapped (λ v. b ∷ v) (unescaped q body) text (sym (plain q b body h k) ∙ s) in
        (w.0, record { body = body; parts = p; stands = w.1 })

    go : (o : Option (List ℕ × List ℕ)) → IsFound q bs o → IsFound q (b ∷ bs) (option_map (with_first b) o)
    go None f = λ text rest t. elim (ends_or_has q b bs text rest t) [
      | inl e ↦ differs b q h e.0
      | inr s ↦ let v = less text rest s.0 s.1 s.2 in f v.0 rest v.1
    ]
    go (Some x) f = record {
      is = record { body = b ∷ f.is.body; parts = ap (λ l. b ∷ l) f.is.parts; stands = plain q b f.is.body h k ∙ ap (option_map (λ v. b ∷ v)) f.is.stands };
      longest = λ other after t. elim (ends_or_has q b bs other after t) [
        | inl e ↦ absurd (differs b q h e.0)
        | inr s ↦ let v = less other after s.0 s.1 s.2 in f.longest v.0 after v.1
      ];
    }

after_quote : (q b c : ℕ) (cs : List ℕ) → (b == q) ≡ true → (c == q) ≡ true → (o : Option (List ℕ × List ℕ)) → IsFound q cs o → IsFound q (b ∷ c ∷ cs) (or_closed q (c ∷ cs) o)
after_quote q b c cs h k None f = record {
  is = here q b (c ∷ cs) h;
  longest = λ other after t. elim (ends_or_has q b (c ∷ cs) other after t) [
    | inl e ↦ omega (arith, ap length e.1)
    | inr s ↦ let v = two_less q b c cs q (λ body. doubled q b c body h k) (λ text e. alone q b text h e) other after s.0 s.1 s.2 in absurd (f v.0 after v.1)
  ];
}
after_quote q b c cs h k (Some x) f = record {
  is = two_more q b c cs q None (λ body. doubled q b c body h k) x f.is;
  longest = λ other after t. elim (ends_or_has q b (c ∷ cs) other after t) [
    | inl e ↦ omega (arith, ap length e.1, shorter q cs f.is.body x.1 f.is.parts)
    | inr s ↦ let v = two_less q b c cs q (λ body. doubled q b c body h k) (λ text e. alone q b text h e) other after s.0 s.1 s.2 in f.longest v.0 after v.1
  ];
}

ends_here : (q b c : ℕ) (cs : List ℕ) → (b == q) ≡ true → (c == q) ≡ false → IsLongestString q (b ∷ c ∷ cs) [] (c ∷ cs)
ends_here q b c cs h k = record {
  is = here q b (c ∷ cs) h;
  longest = λ other after t. elim (ends_or_has q b (c ∷ cs) other after t) [
    | inl e ↦ omega (arith, ap length e.1)
    | inr s ↦ absurd (go other after s.0 s.1 s.2)
  ];
}
  where
    go : (other after body : List ℕ) → c ∷ cs ≡ body ++ q ∷ after → unescaped q (b ∷ body) ≡ Some other → ⊥
    go other after [] p s = alone q b other h s
    go other after (y ∷ body) p s = let m : y ≡ c = cc in not_doubled q b c body other h k (subst (λ z. unescaped q (b ∷ z ∷ body) ≡ Some other) m s)

step : (q b c : ℕ) (cs : List ℕ) → IsFound q cs (string_at q cs) → IsFound q (c ∷ cs) (string_at q (c ∷ cs)) → IsFound q (b ∷ c ∷ cs) (string_at q (b ∷ c ∷ cs))
unfolding string_at
step q b c cs two one = by_quote (b == q) refl
  where
    by_slash : (b == q) ≡ false → (r : Bool) → (b == 92) ≡ r → IsFound q (b ∷ c ∷ cs) (cond r (option_map (with_first (escaped c)) (string_at q cs)) (option_map (with_first b) (string_at q (c ∷ cs))))
    by_slash h true k = after_two q b c cs (escaped c) h (λ body. behind_slash q b c body h k) (λ text e. slash_alone q b text h k e) (string_at q cs) two
    by_slash h false k = after_one q b (c ∷ cs) h k (string_at q (c ∷ cs)) one

    by_second : (b == q) ≡ true → (r : Bool) → (c == q) ≡ r → IsFound q (b ∷ c ∷ cs) (cond r (or_closed q (c ∷ cs) (string_at q cs)) (Some ([], c ∷ cs)))
    by_second h true k = after_quote q b c cs h k (string_at q cs) two
    by_second h false k = ends_here q b c cs h k

    by_quote : (r : Bool) → (b == q) ≡ r → IsFound q (b ∷ c ∷ cs) (cond r (cond (c == q) (or_closed q (c ∷ cs) (string_at q cs)) (Some ([], c ∷ cs))) (cond (b == 92) (option_map (with_first (escaped c)) (string_at q cs)) (option_map (with_first b) (string_at q (c ∷ cs)))))
    by_quote true h = by_second h (c == q) refl
    by_quote false h = by_slash h (b == 92) refl

pub string_exact : (q : ℕ) (bytes : List ℕ) → IsFound q bytes (string_at q bytes)
unfolding string_at
string_exact q [] = λ text rest t. nothing q t.body rest t.parts
string_exact q (b ∷ []) = go (b == q) refl
  where
    go : (r : Bool) → (b == q) ≡ r → IsFound q (b ∷ []) (cond r (Some ([], [])) None)
    go true h = record { is = here q b [] h; longest = λ other after t. omega arith }
    go false h = λ text rest t. elim (ends_or_has q b [] text rest t) [ inl e ↦ differs b q h e.0 | inr s ↦ nothing q s.0 rest s.1 ]
string_exact q (b ∷ c ∷ cs) = step q b c cs (string_exact q cs) (string_exact q (c ∷ cs))

pub is_longest : (q : ℕ) (bytes text rest : List ℕ) → string_at q bytes ≡ Some (text, rest) → IsLongestString q bytes text rest
is_longest q bytes text rest e = subst (IsFound q bytes) e (string_exact q bytes)

pub is_none : (q : ℕ) (bytes text rest : List ℕ) → string_at q bytes ≡ None → IsString q bytes text rest → ⊥
is_none q bytes text rest e s = subst (IsFound q bytes) e (string_exact q bytes) text rest s
