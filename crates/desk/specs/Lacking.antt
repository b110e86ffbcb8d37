-- Which seats below a seat are still out.
use Rattle.std.specs.Prelude.{◌≡◌, ◌⊎◌, ℕ, suc, ◌≤◌, List, [], ◌∷◌, ◌++◌}
use Rattle.desk.specs.declared.view.View.{View}
use Rattle.desk.specs.Names.{In, Knows}
use Rattle.desk.specs.Rule.{tag}

-- the seat knows each split of each name that it knows, but these
abbrev pub Lacks : {E N : Type 0} → List (List ℕ) → View E N → Type 0
Lacks out v = (n : List ℕ) (s : ℕ) → Knows (tag v) n s → (i : ℕ) → suc i ≤ s → ((t : ℕ) × Knows (tag v) (n ++ i ∷ []) t) ⊎ In (n ++ i ∷ []) out

-- a seat that made calls, split seats off and took them in again: it lacks what it lacked
pub record CameBack {E N : Type 0} (v w : View E N) : Type 0 where
  pub name : w.name ≡ v.name
  pub lacks : (out : List (List ℕ)) → Lacks out v → Lacks out w
