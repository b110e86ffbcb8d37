-- Seats that are joined, and the one that has taken in all.
use Rattle.std.proofs.Common.{◌≡◌, ◌≢◌, ◌⊎◌, ℕ, zero, suc, ◌≤◌, false, true≢false, List, [], ◌∷◌, ◌++◌, length, set, refl, sym, ap, ◌∙◌, subst, inl, inr, ⊎_elim, arith, length-append, append-nil, append_assoc}
use mathlib.Core.Option.{some, some-injective}
use mathlib.Core.Logic.{dite}
use native.Mathlib.Decide.{ℕ_discrete}
use lib.ListN.{get_elem?}
use Rattle.atomic_table.proofs.Lists.{at_set, set_else}
use Rattle.desk.proofs.Lists.{in_append, in_left, in_right, set_here}
use Rattle.desk.specs.Names.{Mark, Tag, mark, In, Knows, At, AreNamed, joins, spends, KnowsAll}

-- each name that anyone knows, one seat knows that has taken in all
all_known : (called : List (List ℕ)) (views : List Tag) → AreNamed called views → (id : ℕ) (v : Tag) → At views id v → KnowsAll v
    → (size : ℕ) (n : List ℕ) → length n ≤ size → (k : ℕ) (w : Tag) → At views k w → (s : ℕ) → Knows w n s → (t : ℕ) × Knows v n t
all_known called views r id v at all zero n short k w here s knows = ⊎_elim
    (λ (e : n ≡ []). (all.root.0, subst (λ m. Knows v m all.root.0) (sym e) all.root.1))
    (λ (f : (j : ℕ) × (u : Tag) × At views j u × (m : List ℕ) × (t : ℕ) × (i : ℕ) × Knows u m t × (n ≡ m ++ i ∷ [])).
    let m = length-append f.3 (f.5 ∷ []) in let long : length n ≡ length (f.3 ++ f.5 ∷ []) = ap length f.7 in absurd (omega arith))
    (r.from k w here n s knows)
all_known called views r id v at all (suc size) n short k w here s knows = ⊎_elim
    (λ (e : n ≡ []). (all.root.0, subst (λ m. Knows v m all.root.0) (sym e) all.root.1))
    (λ (f : (j : ℕ) × (u : Tag) × At views j u × (m : List ℕ) × (t : ℕ) × (i : ℕ) × Knows u m t × (n ≡ m ++ i ∷ [])).
    let m = length-append f.3 (f.5 ∷ []) in let long : length n ≡ length (f.3 ++ f.5 ∷ []) = ap length f.7 in
    let below = all_known called views r id v at all size f.3 (omega arith) f.0 f.1 f.2 f.4 f.6 in
    let few = r.given id v at f.3 below.0 below.1 k w here n s knows f.5 [] (f.7 ∙ sym (append-nil (f.3 ++ f.5 ∷ []))) in
    let found = all.splits f.3 below.0 below.1 f.5 few in
    (found.0, subst (λ l. Knows v l found.0) (sym f.7) found.1))
    (r.from k w here n s knows)

-- so no other seat is left
pub no_other : (called : List (List ℕ)) (views : List Tag) → AreNamed called views → (id : ℕ) (v : Tag) → At views id v → KnowsAll v
    → (k : ℕ) (w : Tag) → At views k w → w.spent ≡ false → k ≡ id
no_other called views r id v at all k w here fresh =
    let mine : Knows w w.name w.splits = (fresh, inl (refl, refl)) in
    let found = all_known called views r id v at all (length w.name) w.name (omega arith) k w here w.splits mine in
    (r.apart k id w v here at w.name w.splits found.0 mine found.1).0

-- and each call has a name that it knows
named_knows : (called : List (List ℕ)) (views : List Tag) → AreNamed called views → (id : ℕ) (v : Tag) → At views id v → KnowsAll v → (i : ℕ) (m : List ℕ) → get_elem? called i ≡ some m
    → (rest n : List ℕ) (s : ℕ) → Knows v n s → m ≡ n ++ rest → (t : ℕ) × Knows v m t
named_knows called views r id v at all i m here [] n s knows is = (s, subst (λ l. Knows v l s) (sym (is ∙ append-nil n)) knows)
named_knows called views r id v at all i m here (k ∷ rest) n s knows is =
    let more : m ≡ (n ++ k ∷ []) ++ rest = is ∙ sym (append_assoc n (k ∷ []) rest) in
    let next = all.splits n s knows k (r.callers id v at n s knows i m here k rest more) in
    named_knows called views r id v at all i m here rest (n ++ k ∷ []) next.0 next.1 more

pub caller_known : (called : List (List ℕ)) (views : List Tag) → AreNamed called views → (id : ℕ) (v : Tag) → At views id v → KnowsAll v → (i : ℕ) (m : List ℕ) → get_elem? called i ≡ some m → (t : ℕ) × Knows v m t
caller_known called views r id v at all i m here = named_knows called views r id v at all i m here m [] all.root.0 all.root.1 refl

-- what a seat knows after a join, one knew before
module _ (called : List (List ℕ)) (views : List Tag) (r : AreNamed called views) (id other : ℕ) (a b : Tag) (at_a : At views id a) (at_b : At views other b) (two : other ≢ id) (fresh_a : a.spent ≡ false) (fresh_b : b.spent ≡ false) where
  abbrev pub after : List Tag
  after = set (set views id (joins a b)) other (spends b)

  abbrev Was : ℕ → List ℕ → ℕ → Type 0
  Was k n s = (j : ℕ) × (w : Tag) × At views j w × Knows w n s × ((j ≡ k) ⊎ ((j ≡ other) × (k ≡ id))) × (k ≢ other)

  was : (k : ℕ) (u : Tag) → At after k u → (n : List ℕ) (s : ℕ) → Knows u n s → Was k n s
  was k u at n s knows = ⊎_elim
      (λ (t : (k ≡ other) × (spends b ≡ u)). absurd (true≢false (ap (λ (x : Tag). x.spent) t.1 ∙ knows.0)))
      (λ (t : (k ≢ other) × (get_elem? (set views id (joins a b)) k ≡ some u)). ⊎_elim
      (λ (q : (k ≡ id) × (joins a b ≡ u)).
      let it : Knows (joins a b) n s = subst (λ (x : Tag). Knows x n s) (sym q.1) knows in
      ⊎_elim
      (λ (own : (a.name ≡ n) × (a.splits ≡ s)). (id, a, at_a, (fresh_a, inl own), inl (sym q.0), t.0))
      (λ (more : (mark n s ≡ mark b.name b.splits) ⊎ In (mark n s) (b.joined ++ a.joined)). ⊎_elim
      (λ (e : mark n s ≡ mark b.name b.splits). (other, b, at_b, (fresh_b, inl (ap (λ (x : Mark). x.name) (sym e), ap (λ (x : Mark). x.splits) (sym e))), inr (refl, q.0), t.0))
      (λ (i : In (mark n s) (b.joined ++ a.joined)). ⊎_elim
      (λ (x : In (mark n s) b.joined). (other, b, at_b, (fresh_b, inr x), inr (refl, q.0), t.0))
      (λ (x : In (mark n s) a.joined). (id, a, at_a, (fresh_a, inr x), inl (sym q.0), t.0))
      (in_append (mark n s) b.joined a.joined i))
      more)
      it.1)
      (λ (q : (k ≢ id) × (get_elem? views k ≡ some u)). (k, u, q.1, knows, inl refl, t.0))
      (at_set views id k (joins a b) u t.1))
      (at_set (set views id (joins a b)) other k (spends b) u at)

  -- what a seat knew before, one knows afterwards
  stays : (j : ℕ) (w : Tag) → At views j w → (n : List ℕ) (s : ℕ) → Knows w n s → (k : ℕ) × (u : Tag) × At after k u × Knows u n s
  stays j w at n s knows =
      let here : At after id (joins a b) = set_else (set views id (joins a b)) other id (spends b) (λ e. two (sym e)) ∙ set_here views id (joins a b) a at_a in
      dite (ℕ_discrete j other)
      (λ e.
      let same : w ≡ b = some-injective w b (sym at ∙ ap (get_elem? views) e ∙ at_b) in
      let it : Knows b n s = subst (λ (x : Tag). Knows x n s) same knows in (
        id,
        joins a b,
        here,
        (
          fresh_a,
          ⊎_elim
              (λ (own : (b.name ≡ n) × (b.splits ≡ s)). inr (inl (λ i. mark (sym own.0 i) (sym own.1 i))))
              (λ (x : In (mark n s) b.joined). inr (inr (in_left (mark n s) b.joined a.joined x))) it.1,
        ),
      ))
      (λ ne. dite (ℕ_discrete j id)
      (λ e.
      let same : w ≡ a = some-injective w a (sym at ∙ ap (get_elem? views) e ∙ at_a) in
      let it : Knows a n s = subst (λ (x : Tag). Knows x n s) same knows in
      (id, joins a b, here, (fresh_a, ⊎_elim (λ (own : (a.name ≡ n) × (a.splits ≡ s)). inl own) (λ (x : In (mark n s) a.joined). inr (inr (in_right (mark n s) b.joined a.joined x))) it.1)))
      (λ ne'. (j, w, set_else (set views id (joins a b)) other j (spends b) ne ∙ set_else views id j (joins a b) ne' ∙ at, knows)))

  pub joined : AreNamed called after
  joined = record {
    apart = λ j k v w e f n s t x y.
        let p = was j v e n s x in
        let q = was k w f n t y in
        let same = r.apart p.0 q.0 p.1 q.1 p.2 q.2 n s t p.3 q.3 in
        let m = same.0 in
        let j_not = p.5 in
        let k_not = q.5 in (
          ⊎_elim
              (λ (c : p.0 ≡ j). ⊎_elim (λ (d : q.0 ≡ k). sym c ∙ m ∙ d) (λ (d : (q.0 ≡ other) × (k ≡ id)). absurd (j_not (sym c ∙ m ∙ d.0))) q.4)
              (λ (c : (p.0 ≡ other) × (j ≡ id)). ⊎_elim (λ (d : q.0 ≡ k). absurd (k_not (sym d ∙ sym m ∙ c.0))) (λ (d : (q.0 ≡ other) × (k ≡ id)). c.1 ∙ sym d.1) q.4)
              p.4,
          same.1,
        );
    alone = λ k v e fresh s i. ⊎_elim
        (λ (t : (k ≡ other) × (spends b ≡ v)). absurd (true≢false (ap (λ (x : Tag). x.spent) t.1 ∙ fresh)))
        (λ (t : (k ≢ other) × (get_elem? (set views id (joins a b)) k ≡ some v)). ⊎_elim
        (λ (q : (k ≡ id) × (joins a b ≡ v)).
        let it : In (mark a.name s) (mark b.name b.splits ∷ (b.joined ++ a.joined)) = subst (λ (x : Tag). In (mark x.name s) x.joined) (sym q.1) i in
        let own : Knows a a.name a.splits = (fresh_a, inl (refl, refl)) in
        ⊎_elim
        (λ (h : mark a.name s ≡ mark b.name b.splits). two (r.apart other id b a at_b at_a a.name b.splits a.splits (fresh_b, inl (ap (λ (x : Mark). x.name) (sym h), refl)) own).0)
        (λ (h : In (mark a.name s) (b.joined ++ a.joined)). ⊎_elim
        (λ (x : In (mark a.name s) b.joined). two (r.apart other id b a at_b at_a a.name s a.splits (fresh_b, inr x) own).0)
        (λ (x : In (mark a.name s) a.joined). r.alone id a at_a fresh_a s x)
        (in_append (mark a.name s) b.joined a.joined h))
        it)
        (λ (q : (k ≢ id) × (get_elem? views k ≡ some v)). r.alone k v q.1 fresh s i)
        (at_set views id k (joins a b) v t.1))
        (at_set (set views id (joins a b)) other k (spends b) v e);
    given = λ k v e n s x j w f m t y. let p = was k v e n s x in let q = was j w f m t y in r.given p.0 p.1 p.2 n s p.3 q.0 q.1 q.2 m t q.3;
    callers = λ k v e n s x i m f. let p = was k v e n s x in r.callers p.0 p.1 p.2 n s p.3 i m f;
    from = λ k v e n s x. let p = was k v e n s x in ⊎_elim
        (λ (h : n ≡ []). inl h)
        (λ (h : (j : ℕ) × (w : Tag) × At views j w × (m : List ℕ) × (t : ℕ) × (i : ℕ) × Knows w m t × (n ≡ m ++ i ∷ [])). let z = stays h.0 h.1 h.2 h.3 h.4 h.6 in inr (z.0, z.1, z.2, h.3, h.4, h.5, z.3, h.7))
        (r.from p.0 p.1 p.2 n s p.3);
  }
