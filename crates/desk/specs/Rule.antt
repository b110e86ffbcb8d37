-- What a desk keeps between any two steps, and what each step tells its seat.
use Rattle.std.specs.Prelude.{◌≡◌, ◌≢◌, ◌⊎◌, ℕ, suc, ◌%◌, ◌^◌, List, [], ◌∷◌, ◌++◌, map, length, Option, Some, None, is_some, is_none, true}
use mathlib.Core.Option as maybe
use lib.ListN.{get_elem?}
use Rattle.atomic_table.specs.Table.{State, Me, Step}
use Rattle.desk.specs.declared.book.Home.{Home}
use Rattle.desk.specs.declared.view.Known.{Known}
use Rattle.desk.specs.declared.view.View.{View}
use Rattle.desk.specs.History.{entries_by, longer, GoesOn}
use Rattle.desk.specs.Names.{Mark, Tag, mark, In, AreNamed}

module _ {E N : Type 0} where
  -- the first seat
  abbrev pub newcomer : E → View E N
  newcomer start = record { start = Some start; name = []; splits = 0; joined = []; seen = []; own = []; held = None }

  -- a seat from which one more was split off, and the new seat: it has seen what the old one has
  abbrev pub parent : View E N → View E N
  parent v = record v { splits = suc v.splits }

  abbrev pub child : View E N → View E N
  child v = record { start = v.start; name = v.name ++ v.splits ∷ []; splits = 0; joined = []; seen = v.seen; own = []; held = None }

  -- a seat into which another was joined, and the other afterwards
  abbrev pub known_of : View E N → Known N
  known_of v = record { name = v.name; splits = v.splits; seen = v.seen; own = v.own }

  abbrev pub both : View E N → View E N → View E N
  both v w = record v { joined = known_of w ∷ (w.joined ++ v.joined); seen = longer v.seen w.seen }

  abbrev pub spent : View E N
  spent = record { start = None; name = []; splits = 0; joined = []; seen = []; own = []; held = None }

  -- the event: the history has one entry more, and the seat has seen it all
  abbrev pub added : View E N → List N → N → View E N
  added v log e = record v { held = Some (e ∷ log); seen = e ∷ log; own = e ∷ v.own }

  -- the engine is back at home
  abbrev pub idle : View E N → View E N
  idle v = record v { held = None }

  abbrev pub IsLive : View E N → Type 0
  IsLive v = is_some v.start ≡ true

  -- a seat between two turns: it holds nothing
  abbrev pub IsIdle : Me (Option (Home E N)) (View E N) → Type 0
  IsIdle m = (m.1 ≡ []) × (m.0.held ≡ None) × IsLive m.0

-- what the rule on names reads of a view
abbrev pub mark_of : {N : Type 0} → Known N → Mark
mark_of k = mark k.name k.splits

abbrev pub tag : {E N : Type 0} → View E N → Tag
tag v = record { name = v.name; splits = v.splits; joined = map mark_of v.joined; spent = is_none v.start }

module _ {E N : Type 0} (stands : E → List N → Type 0) (legal : List N → Type 0) where
  -- The engine stood for this legal list when the desk was opened. Where it stood for none, nothing is promised of what is legal.
  abbrev pub IsFirst : Option E → List N → Type 0
  IsFirst start first = (engine : E) × (start ≡ Some engine) × stands engine first × legal first

  -- these entries since the opening make each such list a legal one
  abbrev pub IsLegalFrom : Option E → List N → Type 0
  IsLegalFrom start log = (first : List N) → IsFirst start first → legal (log ++ first)

  abbrev pub StandsFrom : Option E → E → List N → Type 0
  StandsFrom start now log = (first : List N) → IsFirst start first → stands now (log ++ first)

-- What the rule says of one view: it is of this desk; it has seen an older end of the history; its own entries are all that have its name, and it has seen them; and it has seen what each seat had that was joined into it, whose entries are all that have its name.
pub record Fits {E N : Type 0} (seat_of : N → Option (List ℕ)) (start : E) (log : List N) (v : View E N) : Type 0 where
  pub start_is : v.start ≡ Some start
  pub seen : GoesOn log v.seen
  pub own_all : entries_by seat_of v.name log ≡ v.own
  pub own_seen : entries_by seat_of v.name v.seen ≡ v.own
  pub told : (k : Known N) → In k v.joined → GoesOn v.seen k.seen × (entries_by seat_of k.name log ≡ k.own)

module _ {E N : Type 0} (seat_of : N → Option (List ℕ)) (stands : E → List N → Type 0) (legal : List N → Type 0) where
  -- no seat holds: the engine is at home, and stands for the list of the book beside it
  abbrev pub IsHome : E → List ℕ → List (maybe.Option (Option (Home E N))) → List (View E N) → List N → Type 0
  IsHome start words homes views log =
      (now : Home E N) × (words ≡ length log % 2 ^ 64 ∷ 0 ∷ []) × (homes ≡ maybe.some (Some now) ∷ []) × StandsFrom stands legal (Some start) now.engine log × (now.book.pen.me.0.since ≡ log)
      × ((k : ℕ) (v : View E N) → get_elem? views k ≡ maybe.some v → v.held ≡ None)

  -- one seat holds, and the slot is out
  abbrev pub IsOut : List ℕ → List (maybe.Option (Option (Home E N))) → List (View E N) → List N → Type 0
  IsOut words homes views log =
      (holder : ℕ) × (words ≡ length log % 2 ^ 64 ∷ 1 ∷ []) × (homes ≡ maybe.none ∷ [])
      × ((h : View E N) × (get_elem? views holder ≡ maybe.some h) × (h.held ≡ Some log))
      × ((k : ℕ) (v : View E N) → get_elem? views k ≡ maybe.some v → (v.held ≡ None) ⊎ ((v.held ≡ Some log) × (k ≡ holder)))

  -- the rule, over the entries since the opening
  pub record Kept (start : E) (s : State (Option (Home E N)) (View E N)) : Type 0 where
    pub log : List N
    pub called : List (List ℕ)
    pub called_is : map seat_of log ≡ map Some called
    pub is_legal : IsLegalFrom stands legal (Some start) log
    pub place : IsHome start s.words s.homes s.views log ⊎ IsOut s.words s.homes s.views log
    pub fits : (k : ℕ) (v : View E N) → get_elem? s.views k ≡ maybe.some v → (v ≡ spent) ⊎ Fits seat_of start log v
    pub names : AreNamed called (map tag s.views)

  -- where the word was 0 the engine is taken, and the seat knows the list that it stands for; else nothing changes
  abbrev pub Took : Step (Option (Home E N)) → Me (Option (Home E N)) (View E N) → ℕ → Me (Option (Home E N)) (View E N) → Type 0
  Took st m found m' =
      (found ≡ 0 → (now : Home E N) × (log : List N) × (m' ≡ (record m.0 { held = Some log }, (0, Some now) ∷ m.1)) × StandsFrom stands legal m.0.start now.engine log × (now.book.pen.me.0.since ≡ log)
      × IsLegalFrom stands legal m.0.start log × GoesOn log m.0.seen × (entries_by seat_of m.0.name log ≡ m.0.own) × (entries_by seat_of m.0.name m.0.seen ≡ m.0.own))
      × (found ≢ 0 → m' ≡ m)

  -- a seat has taken the engine, and the slot is empty
  pub record HasTaken (v : View E N) (now : Home E N) (m : Me (Option (Home E N)) (View E N)) : Type 0 where
    pub log : List N
    pub me_is : m ≡ (record v { held = Some log }, (0, None) ∷ [])
    pub stands_now : StandsFrom stands legal v.start now.engine log
    pub book_is : now.book.pen.me.0.since ≡ log
    pub is_legal : IsLegalFrom stands legal v.start log
    pub seen : GoesOn log v.seen
    pub own_all : entries_by seat_of v.name log ≡ v.own
    pub own_seen : entries_by seat_of v.name v.seen ≡ v.own

module _ {E N : Type 0} where
  -- the history has one entry more, of which this holds
  abbrev pub Adds : (N → Type 0) → Step (Option (Home E N)) → Me (Option (Home E N)) (View E N) → ℕ → Me (Option (Home E N)) (View E N) → Type 0
  Adds fits st m found m' = (log : List N) → m.0.held ≡ Some log → (e : N) × fits e × (m' ≡ (added m.0 log e, m.1))

  abbrev pub GaveBack : Step (Option (Home E N)) → Me (Option (Home E N)) (View E N) → ℕ → Me (Option (Home E N)) (View E N) → Type 0
  GaveBack st m found m' = m' ≡ (idle m.0, [])

  -- the seat has seen what each seat had that was joined into it
  abbrev pub Looked : Step (Option (Home E N)) → Me (Option (Home E N)) (View E N) → ℕ → Me (Option (Home E N)) (View E N) → Type 0
  Looked st m found m' = (m' ≡ m) × ((k : Known N) → In k m.0.joined → GoesOn m.0.seen k.seen)
