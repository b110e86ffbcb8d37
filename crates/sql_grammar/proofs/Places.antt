-- A list of tokens has one first fault, and none where it spells something.
use Rattle.std.proofs.Common.{◌≡◌, List, [], ◌∷◌, ◌++◌, refl, sym, ap, subst, ◌∙◌, ◌⊎◌, inl, inr, append_assoc}
use Rattle.sql_tokens.specs.declared.token.Token.{Token}
use Rattle.sql_grammar.specs.Lang.{SameHead, IsFaultAt}

same_self : (a : List Token) → SameHead a a
same_self [] = tt
same_self (t ∷ ts) = refl

pub spelled_without_fault : {A : Type 0} {P : A → List Token → Type 0} {tokens front rest : List Token} (x : A) → P x tokens → IsFaultAt P tokens front rest → ⊥
spelled_without_fault {P = P} {rest = rest} x h f = f.dead x rest (same_self rest) (subst (P x) f.parts h)

-- one front is longer than the other, by these tokens
pub record Longer (front rest other after : List Token) : Type 0 where
  pub next : Token
  pub more : List Token
  pub front_is : other ≡ front ++ next ∷ more
  pub rest_is : rest ≡ next ∷ (more ++ after)

abbrev Same : List Token → List Token → List Token → List Token → Type 0
Same front rest other after = (front ≡ other) × (rest ≡ after)

compared : (front rest other after : List Token) → front ++ rest ≡ other ++ after → Same front rest other after ⊎ (Longer front rest other after ⊎ Longer other after front rest)
compared [] rest [] after e = inl (refl, e)
compared [] rest (u ∷ other) after e = inr (inl (record { next = u; more = other; front_is = refl; rest_is = e }))
compared (t ∷ front) rest [] after e = inr (inr (record { next = t; more = front; front_is = refl; rest_is = sym e }))
compared (t ∷ front) rest (u ∷ other) after e =
    let h : t ≡ u = cc in
    let k : front ++ rest ≡ other ++ after = cc in
    elim (compared front rest other after k) [
      | inl s ↦ inl (ap (λ (x : Token). x ∷ front) h ∙ ap (λ (l : List Token). u ∷ l) s.0, s.1)
      | inr r ↦ elim r [
        | inl a ↦ inr (inl (record { next = a.next; more = a.more; front_is = ap (λ (x : Token). x ∷ other) (sym h) ∙ ap (λ (l : List Token). t ∷ l) a.front_is; rest_is = a.rest_is }))
        | inr b ↦ inr (inr (record { next = b.next; more = b.more; front_is = ap (λ (x : Token). x ∷ front) h ∙ ap (λ (l : List Token). u ∷ l) b.front_is; rest_is = b.rest_is }))
      ]
    ]

-- nothing begins with a fault's front and the head of its rest
not_longer : {A : Type 0} {P : A → List Token → Type 0} {tokens front rest other after : List Token} → IsFaultAt P tokens front rest → IsFaultAt P tokens other after → Longer front rest other after → ⊥
not_longer {P = P} {front = front} f g a =
    f.dead g.begins.value (a.next ∷ (a.more ++ g.begins.more)) (subst (λ (l : List Token). SameHead l (a.next ∷ (a.more ++ g.begins.more))) (sym a.rest_is) refl)
    (subst (P g.begins.value) (ap (λ (l : List Token). l ++ g.begins.more) a.front_is ∙ append_assoc front (a.next ∷ a.more) g.begins.more) g.begins.spelled)

pub one_place : {A : Type 0} {P : A → List Token → Type 0} {tokens front rest other after : List Token} → IsFaultAt P tokens front rest → IsFaultAt P tokens other after → (front ≡ other) × (rest ≡ after)
one_place {front = front} {rest = rest} {other = other} {after = after} f g =
    elim (compared front rest other after (sym f.parts ∙ g.parts)) [
      | inl s ↦ s
      | inr r ↦ elim r [ inl a ↦ absurd (not_longer f g a) | inr b ↦ absurd (not_longer g f b) ]
    ]
