-- Where versions rise, a version above the last rowset's is above all.
use Rattle.std.proofs.Common.{◌≡◌, ℕ, suc, ◌-◌, ◌<◌, List, [], ◌∷◌, length, sym, subst, arith}
use Rattle.std.specs.Prelude.{Some, slice_get}
use Rattle.tablets.specs.TabletView.{IsPast, Rises, StoredList}

pub above_last : (v : ℕ) (ls : List StoredList) (l : StoredList) → Rises ls → slice_get ls (length ls - 1) ≡ Some l → l.last < v → IsPast v ls
above_last v [] l r h b = tt
above_last v (x ∷ []) l r h b = let s : x ≡ l = cc in (subst (λ (z : StoredList). z.last < v) (sym s) b, tt)
above_last v (x ∷ y ∷ ys) l r h b =
    let e : length (x ∷ y ∷ ys) - 1 ≡ suc (length (y ∷ ys) - 1) = omega arith in
    let k : slice_get (y ∷ ys) (length (y ∷ ys) - 1) ≡ Some l = subst (λ (n : ℕ). slice_get (x ∷ y ∷ ys) n ≡ Some l) e h in
    let rest = above_last v (y ∷ ys) l r.1 k b in
    (omega (arith, r.0.0, rest.0), rest)
