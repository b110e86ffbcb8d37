-- When some seats are all seats of a desk, and what its engine then stands for.
use Rattle.std.specs.Prelude.{◌≡◌, ℕ, suc, ◌≤◌, Option, Some, List, [], ◌∷◌, ◌++◌, length}
use mathlib.Core.Option as maybe
use lib.ListN.{get_elem?}
use Rattle.desk.specs.declared.view.Known.{Known}
use Rattle.desk.specs.declared.view.View.{View}
use Rattle.desk.specs.History.{entries_by, GoesOn}
use Rattle.desk.specs.Names.{Knows, In}
use Rattle.desk.specs.Rule.{IsLegalFrom, StandsFrom, Fits, IsLive, both, tag}

module _ {E N : Type 0} where
  -- one of the seats has this name, or took in the seat that had it
  abbrev pub SomeKnows : List (View E N) → List ℕ → ℕ → Type 0
  SomeKnows views name splits = (v : View E N) × In v views × Knows (tag v) name splits

  -- these are all seats: they know the first name, and each split of each name that they know
  pub record AreAll (views : List (View E N)) : Type 0 where
    pub root : (s : ℕ) × SomeKnows views [] s
    pub splits : (n : List ℕ) (s : ℕ) → SomeKnows views n s → (i : ℕ) → suc i ≤ s → (t : ℕ) × SomeKnows views (n ++ i ∷ []) t

  -- the view of a seat into which all these were joined, the last one first
  abbrev pub gathered : View E N → List (View E N) → View E N
  gathered v [] = v
  gathered v (w ∷ ws) = both (gathered v ws) w

  abbrev pub AreLive : List (View E N) → Type 0
  AreLive views = (v : View E N) → In v views → IsLive v

  -- a first seat and all that were split off from it, in order, none of which was split or took in another
  abbrev pub AreSplitFrom : View E N → List (View E N) → Type 0
  AreSplitFrom v ws =
      (v.name ≡ []) × (v.splits ≡ length ws) × (v.joined ≡ [])
      × ((k : ℕ) (w : View E N) → get_elem? ws k ≡ maybe.some w → (w.name ≡ k ∷ []) × (w.splits ≡ 0) × (w.joined ≡ []))

-- the engine at the end, and what the last seat knows
pub record Ended {E N : Type 0} (seat_of : N → Option (List ℕ)) (stands : E → List N → Type 0) (legal : List N → Type 0) (start engine : E) (v : View E N) : Type 0 where
  pub log : List N
  pub is_legal : IsLegalFrom stands legal (Some start) log
  pub stands_now : StandsFrom stands legal (Some start) engine log
  pub fits : Fits seat_of start log v
  pub callers : (e : N) → In e log → (name : List ℕ) × (t : ℕ) × (seat_of e ≡ Some name) × Knows (tag v) name t

-- One history since the opening: legal, and the engine stands for it, where the desk is vouched for. It goes on from what each of these seats has seen, and the entries of each one's name are its own ones; the same of each seat that was joined into one of them; and each entry is of one of them, or of a seat that was joined into one.
pub record IsWhole {E N : Type 0} (seat_of : N → Option (List ℕ)) (stands : E → List N → Type 0) (legal : List N → Type 0) (start engine : E) (views : List (View E N)) : Type 0 where
  pub log : List N
  pub is_legal : IsLegalFrom stands legal (Some start) log
  pub stands_now : StandsFrom stands legal (Some start) engine log
  pub seen : (v : View E N) → In v views → GoesOn log v.seen
  pub own : (v : View E N) → In v views → entries_by seat_of v.name log ≡ v.own
  pub joined : (v : View E N) → In v views → (k : Known N) → In k v.joined → GoesOn log k.seen × (entries_by seat_of k.name log ≡ k.own)
  pub callers : (e : N) → In e log → (name : List ℕ) × (t : ℕ) × (seat_of e ≡ Some name) × SomeKnows views name t
