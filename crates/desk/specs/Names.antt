-- Which seats there are, by their names. A name is a list of numbers: the first seat has the empty one, and the seat that is split off as the k-th from a seat has that seat's name with k added.
use Rattle.std.specs.Prelude.{◌≡◌, ◌⊎◌, ℕ, suc, ◌≤◌, Bool, true, false, List, [], ◌∷◌, ◌++◌}
use mathlib.Core.Option as maybe
use lib.ListN.{get_elem?}

-- a name, and how many seats were split off from the seat that has it
pub record Mark : Type 0 where
  pub name : List ℕ
  pub splits : ℕ

-- what the rule on names reads of a view
pub record Tag : Type 0 where
  pub name : List ℕ
  pub splits : ℕ
  pub joined : List Mark
  pub spent : Bool

abbrev pub mark : List ℕ → ℕ → Mark
mark n s = record { name = n; splits = s }

abbrev pub In : {A : Type 0} → A → List A → Type 0
In x [] = ⊥
In x (y ∷ ys) = (x ≡ y) ⊎ In x ys

-- the seat is not spent, and has this name or took in the seat that had it
abbrev pub Knows : Tag → List ℕ → ℕ → Type 0
Knows v n s = (v.spent ≡ false) × (((v.name ≡ n) × (v.splits ≡ s)) ⊎ In (mark n s) v.joined)

-- where the other name continues this one, it does so by a number that was given
abbrev pub IsGiven : List ℕ → ℕ → List ℕ → Type 0
IsGiven name splits other = (k : ℕ) (rest : List ℕ) → other ≡ (name ++ k ∷ []) ++ rest → suc k ≤ splits

abbrev pub At : List Tag → ℕ → Tag → Type 0
At views k v = get_elem? views k ≡ maybe.some v

-- The rule on names: (1) a known name is known by one seat, (2) which has it once; (3) no known name and (4) no name of a seat that called continues a known name by a number that was not given; (5) each known name but the first continues a known name.
pub record AreNamed (called : List (List ℕ)) (views : List Tag) : Type 0 where
  pub apart : (j k : ℕ) (v w : Tag) → At views j v → At views k w → (n : List ℕ) (s t : ℕ) → Knows v n s → Knows w n t → (j ≡ k) × (s ≡ t)
  pub alone : (k : ℕ) (v : Tag) → At views k v → v.spent ≡ false → (s : ℕ) → In (mark v.name s) v.joined → ⊥
  pub given : (k : ℕ) (v : Tag) → At views k v → (n : List ℕ) (s : ℕ) → Knows v n s → (j : ℕ) (w : Tag) → At views j w → (m : List ℕ) (t : ℕ) → Knows w m t → IsGiven n s m
  pub callers : (k : ℕ) (v : Tag) → At views k v → (n : List ℕ) (s : ℕ) → Knows v n s → (i : ℕ) (m : List ℕ) → get_elem? called i ≡ maybe.some m → IsGiven n s m
  pub from : (k : ℕ) (v : Tag) → At views k v → (n : List ℕ) (s : ℕ) → Knows v n s → (n ≡ []) ⊎ ((j : ℕ) × (w : Tag) × At views j w × (m : List ℕ) × (t : ℕ) × (i : ℕ) × Knows w m t × (n ≡ m ++ i ∷ []))

abbrev pub joins : Tag → Tag → Tag
joins a b = record { name = a.name; splits = a.splits; joined = mark b.name b.splits ∷ (b.joined ++ a.joined); spent = a.spent }

abbrev pub spends : Tag → Tag
spends v = record { name = []; splits = 0; joined = []; spent = true }

-- this seat has taken in all: it knows the first name, and each split of each name that it knows
pub record KnowsAll (v : Tag) : Type 0 where
  pub root : (s : ℕ) × Knows v [] s
  pub splits : (n : List ℕ) (s : ℕ) → Knows v n s → (i : ℕ) → suc i ≤ s → (t : ℕ) × Knows v (n ++ i ∷ []) t
