-- What one step of an engine and one turn of a seat add to a history.
use Rattle.std.specs.Prelude.{◌≡◌, ℕ, List, ◌∷◌, ◌++◌, Option, Some}
use Rattle.desk.specs.declared.view.View.{View}
use Rattle.desk.specs.History.{entries_by, HasNone}
use Rattle.desk.specs.Rule.{IsFirst, IsLegalFrom, StandsFrom}

-- The entry of a call, whatever the engine stood for. Where it stood for a legal list after which the seat may give the command, it then stands for that list with the entry, legal again, and a quiet command ticked nothing.
pub record Stepped {N C R : Type 0} (is_call : N → List ℕ → C → R → Type 0) (stood stands legal : List N → Type 0) (may : List N → List ℕ → C → Type 0) (quiet : List N → C → Type 0)
    (seat : List ℕ) (command : C) (reply : R) (steps steps_now : ℕ) : Type 0 where
  pub entry : N
  pub call : is_call entry seat command reply
  pub now : (log : List N) → stood log → legal log → may log seat command → stands (entry ∷ log) × legal (entry ∷ log)
  pub cost : (log : List N) → stood log → legal log → may log seat command → quiet log command → steps_now ≡ steps

-- What the seat had seen, then entries of others, then this call, legal where the desk is vouched for; the seat's own entries have it once more; and a command that is quiet after all that came before ticked nothing.
pub record Turned {E N C R : Type 0} (seat_of : N → Option (List ℕ)) (is_call : N → List ℕ → C → R → Type 0) (stands : E → List N → Type 0) (legal : List N → Type 0) (quiet : List N → C → Type 0)
    (v : View E N) (command : C) (reply : R) (steps steps_now : ℕ) (w : View E N) : Type 0 where
  pub entry : N
  pub call : is_call entry v.name command reply
  pub others : List N
  pub none_own : HasNone seat_of v.name others
  pub seen_is : w.seen ≡ entry ∷ (others ++ v.seen)
  pub own_is : w.own ≡ entry ∷ v.own
  pub own_seen : entries_by seat_of v.name w.seen ≡ w.own
  pub is_legal : IsLegalFrom stands legal v.start w.seen
  pub cost : (first : List N) → IsFirst stands legal v.start first → quiet ((others ++ v.seen) ++ first) command → steps_now ≡ steps
  pub same : (w.start ≡ v.start) × (w.name ≡ v.name) × (w.splits ≡ v.splits) × (w.joined ≡ v.joined)

-- What an event needs of its entry: it is the call of the seat that holds, and with it the engine stands for what the seat then holds, which is legal.
pub record IsEvent {E N C R : Type 0} (is_call : N → List ℕ → C → R → Type 0) (stands : E → List N → Type 0) (legal : List N → Type 0) (v : View E N) (command : C) (reply : R) (engine : E) (e : N) : Type 0 where
  pub call : is_call e v.name command reply
  pub stands_now : (log : List N) → v.held ≡ Some log → StandsFrom stands legal v.start engine (e ∷ log)
  pub is_legal : (log : List N) → v.held ≡ Some log → IsLegalFrom stands legal v.start (e ∷ log)
