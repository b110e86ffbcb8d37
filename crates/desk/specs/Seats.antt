-- What clauses read of a desk and of a seat.
use Rattle.std.specs.Prelude.{◌≡◌, Option}
use Rattle.atomic_table.specs.declared.shared.Seat.{Seat as Place}
use Rattle.desk.specs.declared.book.Home.{Home}
use Rattle.desk.specs.declared.desk.Desk.{Desk}
use Rattle.desk.specs.declared.engine.Engine.{Ghosts}
use Rattle.desk.specs.declared.seat.Seat.{Seat}
use Rattle.desk.specs.declared.view.View.{View}

module _ {E C R N : Type 0} where
  -- the engine at the opening
  abbrev pub opening_of : Desk E C R N → E
  opening_of desk = desk.table.shared.key.value

  abbrev pub IsPlaceOf : Desk E C R N → Place (Option (Home E N)) (View E N) → Type 0
  IsPlaceOf desk place = place.table_id ≡ desk.table.shared.table_id

module _ {E C R N : Type 0} {g : Ghosts E C R N} where
  -- what the seat knows
  abbrev pub view_of : Seat E C R N g → View E N
  view_of seat = seat.place.me.0

  -- it is a seat of this desk
  abbrev pub IsOf : Desk E C R N → Seat E C R N g → Type 0
  IsOf desk seat = seat.place.table_id ≡ desk.table.shared.table_id
