-- Three seats that are all.
use Rattle.std.proofs.Common.{◌≡◌, ℕ, List, [], ◌∷◌, ◌++◌, map, refl, sym, ◌∙◌, subst, inl, inr, ⊎_elim, arith}
use Rattle.desk.specs.declared.view.Known.{Known}
use Rattle.desk.specs.declared.view.View.{View}
use Rattle.desk.specs.Closing.{AreAll}
use Rattle.desk.specs.Names.{mark, In, Knows}
use Rattle.desk.specs.Rule.{IsLive, mark_of, tag}
use Rattle.desk.proofs.Views.{knows_own}
use Rattle.desk_tests.specs.Seats.{AreThree}

module _ {E N : Type 0} where
  -- a seat into which none was joined knows its own name alone
  knows_itself : (v : View E N) → v.joined ≡ [] → (n : List ℕ) (s : ℕ) → Knows (tag v) n s → (v.name ≡ n) × (v.splits ≡ s)
  knows_itself v alone n s x = ⊎_elim (λ (o : (v.name ≡ n) × (v.splits ≡ s)). o) (λ (k : In (mark n s) (tag v).joined). absurd (subst (λ (l : List (Known N)). In (mark n s) (map mark_of l)) alone k)) x.1

  -- three seats are all, in any order of them that has them all
  pub three_all : (v a b : View E N) → IsLive v → IsLive a → IsLive b → AreThree v a b → AreAll (b ∷ v ∷ a ∷ [])
  three_all v a b live_v live_a live_b t = record {
    root = (v.splits, (v, inr (inl refl), subst (λ n. Knows (tag v) n v.splits) t.0 (knows_own v live_v)));
    splits = λ n s x i few. ⊎_elim
        (λ (e : x.0 ≡ b).
        let o = knows_itself b t.8 n s (subst (λ (y : View E N). Knows (tag y) n s) e x.2) in let none = t.7 in let count = o.1 in absurd (omega arith))
        (λ (r : In x.0 (v ∷ a ∷ [])). ⊎_elim
        (λ (e : x.0 ≡ v).
        let o = knows_itself v t.2 n s (subst (λ (y : View E N). Knows (tag y) n s) e x.2) in
        let one = t.1 in let count = o.1 in let first : i ≡ 0 = omega arith in
        let name : a.name ≡ n ++ i ∷ [] = t.3 ∙ (λ j. (sym t.0 ∙ o.0) j ++ sym first j ∷ []) in
        (a.splits, (a, inr (inr (inl refl)), subst (λ m. Knows (tag a) m a.splits) name (knows_own a live_a))))
        (λ (q : In x.0 (a ∷ [])). ⊎_elim
        (λ (e : x.0 ≡ a).
        let o = knows_itself a t.5 n s (subst (λ (y : View E N). Knows (tag y) n s) e x.2) in
        let one = t.4 in let count = o.1 in let first : i ≡ 0 = omega arith in
        let name : b.name ≡ n ++ i ∷ [] = t.6 ∙ (λ j. (sym t.3 ∙ o.0) j ++ sym first j ∷ []) in
        (b.splits, (b, inl refl, subst (λ m. Knows (tag b) m b.splits) name (knows_own b live_b))))
        (λ (z : ⊥). absurd z)
        q)
        r)
        x.1;
  }
