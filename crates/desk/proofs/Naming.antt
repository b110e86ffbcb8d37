-- The rule on names at the opening, after an entry and after a split.
use Rattle.std.proofs.Common.{◌≡◌, ◌≢◌, ◌⊎◌, ℕ, zero, suc, ◌≤◌, false, List, [], ◌∷◌, ◌++◌, length, set, refl, sym, ap, ◌∙◌, subst, inl, inr, ⊎_elim, arith, append_assoc, append-nil, length-set}
use mathlib.Core.Option.{some, some-injective, some-ne-none}
use mathlib.Core.Logic.{dite}
use native.Mathlib.Decide.{ℕ_discrete}
use lib.ListN.{get_elem?}
use Rattle.atomic_table.proofs.Lists.{at_set, set_else, at_longer}
use Rattle.desk.specs.Names.{Tag, mark, In, Knows, IsGiven, At, AreNamed}
use Rattle.desk.proofs.Lists.{the_one, at_end, set_here, last_of_two, last_of, too_long}

abbrev pub first_tag : Tag
first_tag = record { name = []; splits = 0; joined = []; spent = false }

knows_first : (v : Tag) → first_tag ≡ v → (n : List ℕ) (s : ℕ) → Knows v n s → (n ≡ []) × (s ≡ 0)
knows_first v e n s x = let it : Knows first_tag n s = subst (λ y. Knows y n s) (sym e) x in
    ⊎_elim (λ (o : ([] ≡ n) × (0 ≡ s)). (sym o.0, sym o.1)) (λ (i : ⊥). absurd i) it.1

pub starts : AreNamed [] (first_tag ∷ [])
starts = record {
  apart = λ j k v w e f n s t x y.
      let a = the_one first_tag j v e in
      let b = the_one first_tag k w f in
      (a.0 ∙ sym b.0, (knows_first v a.1 n s x).1 ∙ sym (knows_first w b.1 n t y).1);
  alone = λ k v e fresh s i. let a = the_one first_tag k v e in subst (λ (y : Tag). In (mark y.name s) y.joined) (sym a.1) i;
  given = λ k v e n s x j w f m t y i rest h.
      let a = the_one first_tag k v e in
      let b = the_one first_tag j w f in
      let none : [] ≡ ([] ++ i ∷ []) ++ rest = sym (knows_first w b.1 m t y).0 ∙ h ∙ ap (λ l. (l ++ i ∷ []) ++ rest) (knows_first v a.1 n s x).0 in
      absurd (cc);
  callers = λ k v e n s x i m f. absurd (some-ne-none m (sym f));
  from = λ k v e n s x. inl (knows_first v (the_one first_tag k v e).1 n s x).0;
}

module _ (called : List (List ℕ)) (views : List Tag) (r : AreNamed called views) (id : ℕ) (v : Tag) (at : At views id v) (fresh : v.spent ≡ false) where
  own : Knows v v.name v.splits
  own = (fresh, inl (refl, refl))

  -- one more entry of this seat
  pub called_more : AreNamed (v.name ∷ called) views
  called_more = record {
    apart = r.apart;
    alone = r.alone;
    given = r.given;
    callers = by_place;
    from = r.from;
  }
    where
      by_place : (k : ℕ) (w : Tag) → At views k w → (n : List ℕ) (s : ℕ) → Knows w n s → (i : ℕ) (m : List ℕ) → get_elem? (v.name ∷ called) i ≡ some m → IsGiven n s m
      by_place k w e n s x zero m f = subst (IsGiven n s) (some-injective v.name m f) (r.given k w e n s x id v at v.name v.splits own)
      by_place k w e n s x (suc i) m f = r.callers k w e n s x i m f

  abbrev left : Tag
  left = record v { splits = suc v.splits }

  abbrev right : Tag
  right = record { name = v.name ++ v.splits ∷ []; splits = 0; joined = []; spent = v.spent }

  abbrev pub after : List Tag
  after = set views id left ++ right ∷ []

  -- who knew this before, and the new name
  abbrev Was : ℕ → List ℕ → ℕ → Type 0
  Was k n s = (w : Tag) × (t : ℕ) × At views k w × Knows w n t × (((k ≡ id) × (n ≡ v.name) × (s ≡ suc t)) ⊎ ((n ≢ v.name) × (s ≡ t)))

  abbrev New : ℕ → List ℕ → ℕ → Type 0
  New k n s = (k ≡ length views) × (n ≡ right.name) × (s ≡ 0)

  was : (k : ℕ) (u : Tag) → At after k u → (n : List ℕ) (s : ℕ) → Knows u n s → Was k n s ⊎ New k n s
  was k u e n s x = ⊎_elim
      (λ (old : get_elem? (set views id left) k ≡ some u). inl (⊎_elim
      (λ (t : (k ≡ id) × (left ≡ u)).
      let it : Knows left n s = subst (λ (y : Tag). Knows y n s) (sym t.1) x in
      let here : At views k v = subst (λ i. At views i v) (sym t.0) at in
      ⊎_elim
      (λ (o : (v.name ≡ n) × (suc v.splits ≡ s)). (v, v.splits, here, (fresh, inl (o.0, refl)), inl (t.0, sym o.0, sym o.1)))
      (λ (i : In (mark n s) v.joined). (v, s, here, (fresh, inr i), inr ((λ same. r.alone id v at fresh s (subst (λ m. In (mark m s) v.joined) same i)), refl)))
      it.1)
      (λ (t : (k ≢ id) × (get_elem? views k ≡ some u)). let other = t.0 in
      (u, s, t.1, x, inr ((λ same. other (r.apart k id u v t.1 at v.name s v.splits (subst (λ m. Knows u m s) same x) own).0), refl)))
      (at_set views id k left u old)))
      (λ (new : (right ≡ u) × (k ≡ length (set views id left))).
      let it : Knows right n s = subst (λ (y : Tag). Knows y n s) (sym new.0) x in
      inr (⊎_elim (λ (o : (right.name ≡ n) × (0 ≡ s)). (new.1 ∙ length-set views id left, sym o.0, sym o.1)) (λ (i : ⊥). absurd i) it.1))
      (at_end (set views id left) right u k e)

  unknown : (k : ℕ) (w : Tag) → At views k w → (m : List ℕ) (t : ℕ) → Knows w m t → (rest : List ℕ) → m ≡ right.name ++ rest → ⊥
  unknown k w e m t x rest h = let few = r.given id v at v.name v.splits own k w e m t x v.splits rest h in omega arith

  grown : (k : ℕ) (n : List ℕ) (s : ℕ) (p : Was k n s) → p.1 ≤ s
  grown k n s p = ⊎_elim (λ (c : (k ≡ id) × (n ≡ v.name) × (s ≡ suc p.1)). let e = c.2 in omega arith) (λ (c : (n ≢ v.name) × (s ≡ p.1)). let e = c.1 in omega arith) p.4

  same_count : (j k : ℕ) (n : List ℕ) (s t : ℕ) (p : Was j n s) (q : Was k n t) → p.1 ≡ q.1 → s ≡ t
  same_count j k n s t p q same = ⊎_elim
      (λ (c : (j ≡ id) × (n ≡ v.name) × (s ≡ suc p.1)). ⊎_elim
      (λ (d : (k ≡ id) × (n ≡ v.name) × (t ≡ suc q.1)). c.2 ∙ ap suc same ∙ sym d.2)
      (λ (d : (n ≢ v.name) × (t ≡ q.1)). let other = d.0 in absurd (other c.1)) q.4)
      (λ (c : (n ≢ v.name) × (s ≡ p.1)). ⊎_elim
      (λ (d : (k ≡ id) × (n ≡ v.name) × (t ≡ suc q.1)). let other = c.0 in absurd (other d.1))
      (λ (d : (n ≢ v.name) × (t ≡ q.1)). c.1 ∙ same ∙ sym d.1) q.4)
      p.4

  -- the new name continues a known name by a number that was given
  of_child : (k : ℕ) (n : List ℕ) (s : ℕ) → Was k n s → IsGiven n s right.name
  of_child k n s p i rest h = ⊎_elim
      (λ (e : rest ≡ []).
      let two = last_of_two v.name n v.splits i (h ∙ ap (λ l. (n ++ i ∷ []) ++ l) e ∙ append-nil (n ++ i ∷ [])) in
      ⊎_elim
      (λ (c : (k ≡ id) × (n ≡ v.name) × (s ≡ suc p.1)).
      let count : p.1 ≡ v.splits = (r.apart k id p.0 v p.2 at v.name p.1 v.splits (subst (λ m. Knows p.0 m p.1) c.1 p.3) own).1 in
      let number = two.1 in let e = c.2 in omega arith)
      (λ (c : (n ≢ v.name) × (s ≡ p.1)). let other = c.0 in absurd (other (sym two.0)))
      p.4)
      (λ (t : (ys : List ℕ) × (y : ℕ) × (rest ≡ ys ++ y ∷ [])).
      let two = last_of_two v.name ((n ++ i ∷ []) ++ t.0) v.splits t.1 (h ∙ ap (λ l. (n ++ i ∷ []) ++ l) t.2 ∙ sym (append_assoc (n ++ i ∷ []) t.0 (t.1 ∷ []))) in
      let few = r.given k p.0 p.2 n p.1 p.3 id v at v.name v.splits own i t.0 two.0 in
      let more = grown k n s p in omega arith)
      (last_of rest)

  stays : (j : ℕ) (w : Tag) → At views j w → (m : List ℕ) (t : ℕ) → Knows w m t → (k : ℕ) × (u : Tag) × At after k u × (s : ℕ) × Knows u m s
  stays j w e m t x = dite (ℕ_discrete j id)
      (λ is.
      let same : w ≡ v = some-injective w v (sym e ∙ ap (get_elem? views) is ∙ at) in
      let it : Knows v m t = subst (λ (y : Tag). Knows y m t) same x in
      let here : At after id left = at_longer (set views id left) (right ∷ []) id left (set_here views id left v at) in
      ⊎_elim
      (λ (o : (v.name ≡ m) × (v.splits ≡ t)). (id, left, here, suc v.splits, (fresh, inl (o.0, refl))))
      (λ (i : In (mark m t) v.joined). (id, left, here, t, (fresh, inr i)))
      it.1)
      (λ other. (j, w, at_longer (set views id left) (right ∷ []) j w (set_else views id j left other ∙ e), t, x))

  pub split : AreNamed called after
  split = record {
    apart = λ j k u w e f n s t x y. ⊎_elim
        (λ (p : Was j n s). ⊎_elim
        (λ (q : Was k n t). let same = r.apart j k p.0 q.0 p.2 q.2 n p.1 q.1 p.3 q.3 in (same.0, same_count j k n s t p q same.1))
        (λ (q : New k n t). absurd (unknown j p.0 p.2 n p.1 p.3 [] (q.1 ∙ sym (append-nil right.name))))
        (was k w f n t y))
        (λ (p : New j n s). ⊎_elim
        (λ (q : Was k n t). absurd (unknown k q.0 q.2 n q.1 q.3 [] (p.1 ∙ sym (append-nil right.name))))
        (λ (q : New k n t). (p.0 ∙ sym q.0, p.2 ∙ sym q.2))
        (was k w f n t y))
        (was j u e n s x);
    alone = λ k u e live s i. ⊎_elim
        (λ (old : get_elem? (set views id left) k ≡ some u). ⊎_elim
        (λ (t : (k ≡ id) × (left ≡ u)). r.alone id v at fresh s (subst (λ (y : Tag). In (mark y.name s) y.joined) (sym t.1) i))
        (λ (t : (k ≢ id) × (get_elem? views k ≡ some u)). r.alone k u t.1 live s i)
        (at_set views id k left u old))
        (λ (new : (right ≡ u) × (k ≡ length (set views id left))). subst (λ (y : Tag). In (mark y.name s) y.joined) (sym new.0) i)
        (at_end (set views id left) right u k e);
    given = λ k u e n s x j w f m t y. ⊎_elim
        (λ (p : Was k n s). ⊎_elim
        (λ (q : Was j m t). λ i rest h. let few = r.given k p.0 p.2 n p.1 p.3 j q.0 q.2 m q.1 q.3 i rest h in let more = grown k n s p in omega arith)
        (λ (q : New j m t). subst (IsGiven n s) (sym q.1) (of_child k n s p))
        (was j w f m t y))
        (λ (p : New k n s). ⊎_elim
        (λ (q : Was j m t). λ i rest h. absurd (unknown j q.0 q.2 m q.1 q.3 (i ∷ rest) (h ∙ ap (λ l. (l ++ i ∷ []) ++ rest) p.1 ∙ append_assoc right.name (i ∷ []) rest)))
        (λ (q : New j m t). λ i rest h. absurd (too_long right.name rest i (sym q.1 ∙ h ∙ ap (λ l. (l ++ i ∷ []) ++ rest) p.1)))
        (was j w f m t y))
        (was k u e n s x);
    callers = λ k u e n s x i m f. ⊎_elim
        (λ (p : Was k n s). λ a rest h. let few = r.callers k p.0 p.2 n p.1 p.3 i m f a rest h in let more = grown k n s p in omega arith)
        (λ (p : New k n s). λ a rest h.
        let few = r.callers id v at v.name v.splits own i m f v.splits (a ∷ rest) (h ∙ ap (λ l. (l ++ a ∷ []) ++ rest) p.1 ∙ append_assoc right.name (a ∷ []) rest) in omega arith)
        (was k u e n s x);
    from = λ k u e n s x. ⊎_elim
        (λ (p : Was k n s). ⊎_elim
        (λ (h : n ≡ []). inl h)
        (λ (h : (j : ℕ) × (w : Tag) × At views j w × (m : List ℕ) × (t : ℕ) × (i : ℕ) × Knows w m t × (n ≡ m ++ i ∷ [])). let z = stays h.0 h.1 h.2 h.3 h.4 h.6 in inr (z.0, z.1, z.2, h.3, z.3, h.5, z.4, h.7))
        (r.from k p.0 p.2 n p.1 p.3))
        (λ (p : New k n s). inr (id, left, at_longer (set views id left) (right ∷ []) id left (set_here views id left v at), v.name, suc v.splits, v.splits, (fresh, inl (refl, refl)), p.1))
        (was k u e n s x);
  }
