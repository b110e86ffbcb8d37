-- Seats that split seats off, and take them in again.
use Rattle.std.proofs.Common.{◌≡◌, ◌⊎◌, ℕ, suc, ◌≤◌, List, [], ◌∷◌, ◌++◌, map, refl, sym, ◌∙◌, subst, inl, inr, ⊎_elim, arith}
use mathlib.Core.Logic.{dite}
use native.Mathlib.Decide.{ℕ_discrete}
use Rattle.desk.specs.declared.view.Known.{Known}
use Rattle.desk.specs.declared.view.View.{View}
use Rattle.desk.specs.Closing.{AreAll}
use Rattle.desk.specs.Names.{mark, In, Knows}
use Rattle.desk.specs.Rule.{IsLive, newcomer, parent, child, both, mark_of, tag}
use Rattle.desk.proofs.Closes.{left_knows, right_knows, both_know}
use Rattle.desk.proofs.Views.{knows_own}
use Rattle.desk.specs.Lacking.{Lacks, CameBack}

module _ {E N : Type 0} where
  splits_on : (v : View E N) (m : List ℕ) (t : ℕ) → Knows (tag v) m t → (u : ℕ) × Knows (tag (parent v)) m u
  splits_on v m t x = ⊎_elim (λ (o : (v.name ≡ m) × (v.splits ≡ t)). (suc v.splits, (x.0, inl (o.0, refl)))) (λ (i : In (mark m t) (tag v).joined). (t, (x.0, inr i))) x.1

  lacks_split : (v : View E N) (out : List (List ℕ)) → Lacks out v → Lacks ((child v).name ∷ out) (parent v)
  lacks_split v out l n s x i few = ⊎_elim
      (λ (o : (v.name ≡ n) × (suc v.splits ≡ s)).
      let count = o.1 in
      dite (ℕ_discrete i v.splits)
      (λ last. inr (inl (λ j. sym o.0 j ++ last j ∷ [])))
      (λ other. below n v.splits (x.0, inl (o.0, refl)) (omega arith)))
      (λ (k : In (mark n s) (tag v).joined). below n s (x.0, inr k) few)
      x.1
    where
      below : (m : List ℕ) (t : ℕ) → Knows (tag v) m t → suc i ≤ t → ((u : ℕ) × Knows (tag (parent v)) (m ++ i ∷ []) u) ⊎ In (m ++ i ∷ []) ((child v).name ∷ out)
      below m t k h = ⊎_elim
          (λ (y : (u : ℕ) × Knows (tag v) (m ++ i ∷ []) u). inl (splits_on v (m ++ i ∷ []) y.0 y.1))
          (λ (y : In (m ++ i ∷ []) out). inr (inr y))
          (l m t k i h)

  lacks_fresh : (v : View E N) → v.splits ≡ 0 → v.joined ≡ [] → Lacks [] v
  lacks_fresh v none alone n s x i few = ⊎_elim
      (λ (o : (v.name ≡ n) × (v.splits ≡ s)). let count = o.1 in absurd (omega arith))
      (λ (k : In (mark n s) (tag v).joined). absurd (subst (λ (l : List (Known N)). In (mark n s) (map mark_of l)) alone k))
      x.1

  lacks_join : (v w : View E N) (out : List (List ℕ)) → IsLive v → IsLive w → Lacks (w.name ∷ out) v → Lacks [] w → Lacks out (both v w)
  lacks_join v w out live_v live_w l m n s x i few = ⊎_elim
      (λ (k : Knows (tag v) n s). ⊎_elim
      (λ (y : (t : ℕ) × Knows (tag v) (n ++ i ∷ []) t). inl (y.0, left_knows v w (n ++ i ∷ []) y.0 y.1))
      (λ (y : In (n ++ i ∷ []) (w.name ∷ out)). ⊎_elim
      (λ (e : n ++ i ∷ [] ≡ w.name). inl (w.splits, right_knows v w live_v (n ++ i ∷ []) w.splits (subst (λ a. Knows (tag w) a w.splits) (sym e) (knows_own w live_w))))
      (λ (z : In (n ++ i ∷ []) out). inr z)
      y)
      (l n s k i few))
      (λ (k : Knows (tag w) n s). ⊎_elim
      (λ (y : (t : ℕ) × Knows (tag w) (n ++ i ∷ []) t). inl (y.0, right_knows v w live_v (n ++ i ∷ []) y.0 y.1))
      (λ (y : In (n ++ i ∷ []) []). absurd y)
      (m n s k i few))
      (both_know v w live_w n s x)

  together : (v a b : View E N) → IsLive a → IsLive b → CameBack (parent v) a → CameBack (child v) b → CameBack v (both a b)
  together v a b live_a live_b back_a back_b = record {
    name = back_a.name;
    lacks = λ out l. lacks_join a b out live_a live_b
        (subst (λ n. Lacks (n ∷ out) a) (sym back_b.name) (back_a.lacks ((child v).name ∷ out) (lacks_split v out l)))
        (back_b.lacks [] (lacks_fresh (child v) refl refl));
  }

  pub took_in : (v p q a b w : View E N) → p ≡ parent v → q ≡ child v → w ≡ both a b → IsLive a → IsLive b → CameBack p a → CameBack q b → CameBack v w
  took_in v p q a b w is_p is_q is_w live_a live_b back_a back_b =
      subst (CameBack v) (sym is_w) (together v a b live_a live_b (subst (λ (x : View E N). CameBack x a) is_p back_a) (subst (λ (x : View E N). CameBack x b) is_q back_b))

  pub itself : (v : View E N) → CameBack v v
  itself v = record { name = refl; lacks = λ out l. l }

  pub stayed : (v w : View E N) → (w.start ≡ v.start) × (w.name ≡ v.name) × (w.splits ≡ v.splits) × (w.joined ≡ v.joined) → CameBack v w
  stayed v w same = record {
    name = same.1;
    lacks = λ out l. subst (λ (x : View E N). Lacks out x) (λ i. record v { start = sym same.0 i; name = sym same.1 i; splits = sym same.2 i; joined = sym same.3 i }) l;
  }

  pub back_again : (u v w : View E N) → CameBack u v → CameBack v w → CameBack u w
  back_again u v w a b = record { name = b.name ∙ a.name; lacks = λ out l. b.lacks out (a.lacks out l) }

  -- the first seat, when it came back, is all seats
  pub all_in_one : (engine : E) (v : View E N) → IsLive v → CameBack (newcomer engine) v → AreAll (v ∷ [])
  all_in_one engine v live back = record {
    root = (v.splits, (v, inl refl, subst (λ n. Knows (tag v) n v.splits) back.name (knows_own v live)));
    splits = λ n s x i few.
        let here : Knows (tag v) n s = known n s x in
        ⊎_elim
        (λ (y : (t : ℕ) × Knows (tag v) (n ++ i ∷ []) t). (y.0, (v, inl refl, y.1)))
        (λ (y : In (n ++ i ∷ []) []). absurd y)
        (back.lacks [] (lacks_fresh (newcomer engine) refl refl) n s here i few);
  }
    where
      known : (n : List ℕ) (s : ℕ) → (u : View E N) × In u (v ∷ []) × Knows (tag u) n s → Knows (tag v) n s
      known n s x = ⊎_elim (λ (e : x.0 ≡ v). subst (λ (y : View E N). Knows (tag y) n s) e x.2) (λ (z : ⊥). absurd z) x.1
