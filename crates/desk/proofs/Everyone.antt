-- A first seat and the seats that were split off from it are all.
use Rattle.std.proofs.Common.{◌≡◌, ℕ, zero, suc, ◌<◌, List, [], ◌∷◌, ◌++◌, map, length, refl, sym, ◌∙◌, subst, inl, inr, ⊎_elim, arith}
use mathlib.Core.Option.{some}
use lib.ListN.{get_elem?}
use Rattle.desk.specs.declared.view.Known.{Known}
use Rattle.desk.specs.declared.view.View.{View}
use Rattle.desk.specs.Closing.{AreAll, AreLive, AreSplitFrom}
use Rattle.desk.specs.Names.{mark, In, Knows}
use Rattle.desk.specs.Rule.{IsLive, mark_of, tag}
use Rattle.desk.proofs.Lists.{place_of}
use Rattle.desk.proofs.Views.{knows_own}

module _ {A : Type 0} where
  stands_at : (l : List A) (k : ℕ) → k < length l → (x : A) × (get_elem? l k ≡ some x) × In x l
  stands_at [] k h = absurd (omega arith)
  stands_at (x ∷ xs) zero h = (x, refl, inl refl)
  stands_at (x ∷ xs) (suc k) h = let t = stands_at xs k (omega arith) in (t.0, t.1, inr t.2)

module _ {E N : Type 0} where
  -- a seat into which none was joined knows its own name alone
  own_alone : (v : View E N) → v.joined ≡ [] → (n : List ℕ) (s : ℕ) → Knows (tag v) n s → (v.name ≡ n) × (v.splits ≡ s)
  own_alone v none n s x = ⊎_elim (λ (o : (v.name ≡ n) × (v.splits ≡ s)). o) (λ (i : In (mark n s) (tag v).joined). absurd (subst (λ (l : List (Known N)). In (mark n s) (map mark_of l)) none i)) x.1

  pub all_split : (v : View E N) (ws : List (View E N)) → IsLive v → AreLive ws → AreSplitFrom v ws → AreAll (v ∷ ws)
  all_split v ws live lives a = record {
    root = (v.splits, (v, inl refl, subst (λ n. Knows (tag v) n v.splits) a.0 (knows_own v live)));
    splits = λ n s u i few. ⊎_elim
        (λ (e : u.0 ≡ v).
        let o = own_alone v a.2 n s (subst (λ (x : View E N). Knows (tag x) n s) e u.2) in
        let count = a.1 in let mine = o.1 in
        let w = stands_at ws i (omega arith) in
        let name : w.0.name ≡ n ++ i ∷ [] = (a.3 i w.0 w.1).0 ∙ (λ j. (sym a.0 ∙ o.0) j ++ i ∷ []) in
        (w.0.splits, (w.0, inr w.2, subst (λ m. Knows (tag w.0) m w.0.splits) name (knows_own w.0 (lives w.0 w.2)))))
        (λ (r : In u.0 ws).
        let p = place_of u.0 ws r in
        let one = a.3 p.0 u.0 p.1 in
        let o = own_alone u.0 one.2 n s u.2 in
        let none = one.1 in let mine = o.1 in absurd (omega arith))
        u.1;
  }
